use Prim.Native.Nat.{◌+◌, ◌-◌}
use mathlib.Core.Path.{◌≡◌}
use native.Mathlib.Omega.{arith}
use Rattle.octets.specs.Slices.{part_of}
use Rattle.octets.proofs.part.Goals as goal

pub returns-then-fits : goal.returns-then-fits
unfolding part_of
returns-then-fits c =
    let a = c.args in
    let e : a.start + a.n - a.start ≡ a.n = omega arith in
    rw (← c.fits.ensures, c.if-fits.true, e)

pub returns-else-fits : goal.returns-else-fits
unfolding part_of
returns-else-fits c = rw (← c.fits.ensures, c.if-fits.false)
