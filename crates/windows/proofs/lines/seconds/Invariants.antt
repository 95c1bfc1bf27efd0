use Prim.Native.Nat.{◌*◌}
use Rattle.windows.specs.Steps.{heard}
use Rattle.windows.proofs.WalkLaws.{Second}
use Rattle.windows.proofs.lines.seconds.Given as goal

abbrev pub invariant-loop-row : goal.invariant-loop-row
invariant-loop-row l = Second (heard l.first) (heard l.second) l.from l.initial.list (l.row * 7) l.line l.list
