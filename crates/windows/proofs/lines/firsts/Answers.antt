use Prim.Native.Nat.{◌+◌, ◌*◌, ◌≤◌}
use mathlib.Core.Path.{◌≡◌, refl}
use native.Mathlib.Omega.{arith}
use lib.ListN.{length}
use Rattle.windows.specs.Steps.{heard}
use Rattle.windows.proofs.WalkLaws.{first-starts, first_past, first_ends}
use Rattle.windows.proofs.lines.firsts.Goals as goal

pub loop-row-init : goal.loop-row-init
loop-row-init c = (refl, refl, first-starts (heard c.args.first) (heard c.args.second) c.args.list.now)

pub loop-row-preserved : goal.loop-row-preserved
loop-row-preserved c =
    let l = c.loop-row in
    let a = c.args in
    let h : l.row * 7 + 7 ≤ length a.first.events.now = omega arith in
    let next : l.row * 7 + 7 ≡ (l.row + 1) * 7 = omega arith in (
      omega arith,
      omega arith,
      rw next at
          (first_past (heard a.first) (heard a.second) a.list.now (l.row * 7) l.line l.list l.invariant.2 h c.first_row-line.ensures),
    )

pub returns : goal.returns
returns c =
    let l = c.loop-row in
    let a = c.args in
    let w = l.invariant.2 in (
      omega (arith, w.few, w.passed.within, c.requires.0.few),
      first_ends (heard a.first) (heard a.second) a.list.now (l.row * 7) l.line l.list w (omega arith),
    )
