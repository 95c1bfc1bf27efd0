use Rattle.reply.proofs.WriterLaws.{none-fits, next-fits, all-fit}
use Rattle.reply.proofs.fields.fit.Goals as goal

pub returns-then-part-left : goal.returns-then-part-left
returns-then-part-left c = none-fits _ _ _ _ c.loop-part.invariant _ c.loop-part-test.true c.if-part-left.true

pub loop-part-preserved : goal.loop-part-preserved
loop-part-preserved c = next-fits _ _ _ _ c.loop-part.invariant _ c.loop-part-test.true c.if-part-left.false

pub returns : goal.returns
returns c = all-fit _ _ _ _ c.loop-part.invariant c.loop-part-test.false
