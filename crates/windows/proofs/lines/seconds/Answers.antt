use Prim.Native.Nat.{◌+◌, ◌*◌, ◌≤◌}
use mathlib.Core.Path.{◌≡◌}
use native.Mathlib.Omega.{arith}
use lib.ListN.{length}
use Rattle.windows.specs.Steps.{heard}
use Rattle.windows.proofs.WalkLaws.{second-starts, second_past, second-ends}
use Rattle.windows.proofs.lines.seconds.Goals as goal

pub loop-row-init : goal.loop-row-init
loop-row-init c = second-starts (heard c.args.first) (heard c.args.second) c.args.from c.args.list.now

pub loop-row-preserved : goal.loop-row-preserved
loop-row-preserved c =
    let l = c.loop-row in
    let a = c.args in
    let h : l.row * 7 + 7 ≤ length a.second.events.now = omega arith in
    let next : l.row * 7 + 7 ≡ (l.row + 1) * 7 = omega arith in
    rw next at
    (second_past (heard a.first) (heard a.second) a.from a.list.now (l.row * 7) l.line l.list l.invariant h c.second_row-line.ensures)

pub returns : goal.returns
returns c =
    let l = c.loop-row in
    let a = c.args in
    let w = l.invariant in (
      omega (arith, w.few, w.passed.within, c.requires.0, c.requires.1),
      second-ends (heard a.first) (heard a.second) a.from a.list.now (l.row * 7) l.line l.list w (omega arith),
    )
