use mathlib.Core.Path.{◌∙◌}
use native.Mathlib.Omega.{arith}
use native.Mathlib.Numerals.{add-one}
use lib.ListN.{length-set}
use Rattle.decimal.specs.Write.{text_of}
use Rattle.decimal.proofs.Digits.{length-fixed}
use Rattle.decimal.proofs.writer.fill.Goals as goal

pub bounds-out-at : goal.bounds-out-at
unfolding text_of
bounds-out-at c = omega (arith, rw c.if-n.true at c.requires)

pub digits-requires : goal.digits-requires
unfolding text_of
digits-requires c =
    simp length-set (omega (arith, rw (c.if-n.true, length-fixed) at c.requires, c.width-w.ensures.0))

pub digits-requires-else-n : goal.digits-requires-else-n
unfolding text_of
digits-requires-else-n c =
    omega (arith, rw (c.if-n.false, length-fixed) at c.requires, c.width-w.ensures.0)

pub returns-then-n : goal.returns-then-n
unfolding text_of
returns-then-n c =
    rw c.if-n.true (c.digits.ensures ∙ rw (c.width-w.ensures.0, add-one))

pub returns-else-n : goal.returns-else-n
unfolding text_of
returns-else-n c =
    rw c.if-n.false (c.digits-else-n.ensures ∙ rw c.width-w.ensures.0)
