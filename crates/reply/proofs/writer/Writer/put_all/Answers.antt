use Rattle.reply.proofs.WriterLaws.{stored_next}
use Rattle.reply.proofs.writer.Writer.put_all.Goals as goal

pub loop-part-preserved : goal.loop-part-preserved
loop-part-preserved c = stored_next _ _ _ _ _ _ c.loop-part-test.true c.loop-part.invariant c.put.ensures
