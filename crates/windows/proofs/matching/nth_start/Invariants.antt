use Prim.Native.Nat.{◌*◌}
use mathlib.Core.Path.{◌≡◌}
use Rattle.windows.specs.Ranks.{nth}
use Rattle.windows.specs.Steps.{heard, key_of, starts_from, starts_in}
use Rattle.windows.proofs.matching.nth_start.Given as goal

abbrev pub invariant-loop-row : goal.invariant-loop-row
invariant-loop-row l =
    nth (key_of l.pair) l.left (starts_from (heard l.side) (l.row * 7)) ≡ nth (key_of l.pair) l.rank (starts_in (heard l.side))
