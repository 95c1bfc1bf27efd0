use Prim.Native.Nat.{◌+◌, ◌≤◌}
use mathlib.Core.Path.{sym, ◌∙◌, ap}
use borrow.Author.Tests.{leb-true, leb-false, lt-leb}
use native.Mathlib.Omega.{arith}
use lib.ListN.{length}
use Rattle.octets.specs.Outcome.{outcome}
use Rattle.octets.specs.Slices.{copy_at}
use Rattle.std.specs.Prelude.{Some}
use Rattle.octets.proofs.Stores.{sets-part}
use Rattle.octets.proofs.copy_at.Goals as goal

pub returns-then-not-fits : goal.returns-then-not-fits
unfolding copy_at
returns-then-not-fits c =
    let a = c.args in
    let f = leb-false _ _ (sym c.fits.ensures ∙ c.if-not-fits.true) in
    rw (lt-leb (a.at + length a.src.now) (length a.dst.now) (omega arith))

pub returns : goal.returns
unfolding copy_at
returns c =
    let a = c.args in
    let room : a.at + length a.src.now ≤ length a.dst.now = leb-true _ _ (sym c.fits.ensures ∙ c.if-not-fits.false) in
    rw (← c.fits.ensures, c.if-not-fits.false, c.copy_from_slice.ensures.after)
    (ap (outcome (Some _)) (sets-part a.src.now a.dst.now a.at room))
