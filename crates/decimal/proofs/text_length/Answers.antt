use native.Mathlib.Omega.{arith}
use Rattle.decimal.specs.Write.{text_of}
use Rattle.decimal.proofs.Digits.{length-fixed}
use Rattle.decimal.proofs.text_length.Goals as goal

pub returns-then-n : goal.returns-then-n
unfolding text_of
returns-then-n c = rw (c.width-w.ensures.0, c.if-n.true, length-fixed) (omega arith)

pub returns-else-n : goal.returns-else-n
unfolding text_of
returns-else-n c = rw (c.width-w.ensures.0, c.if-n.false, length-fixed)
