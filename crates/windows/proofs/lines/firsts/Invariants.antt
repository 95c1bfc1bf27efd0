use Prim.Native.Nat.{◌*◌}
use mathlib.Core.Path.{◌≡◌}
use lib.ListN.{length}
use Rattle.windows.specs.Steps.{heard}
use Rattle.windows.proofs.WalkLaws.{First}
use Rattle.windows.proofs.lines.firsts.Given as goal

abbrev pub invariant-loop-row : goal.invariant-loop-row
invariant-loop-row l =
    (length l.a ≡ length l.initial.a) × (length l.b ≡ length l.initial.b)
    × First (heard l.first) (heard l.second) l.initial.list (l.row * 7) l.line l.list
