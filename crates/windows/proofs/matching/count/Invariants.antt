use Prim.Native.Nat.{◌+◌, ◌*◌, ◌≤◌}
use mathlib.Core.Path.{◌≡◌}
use Rattle.windows.specs.Ranks.{count_of}
use Rattle.windows.specs.Steps.{heard, key_of, starts_from, starts_in}
use Rattle.windows.proofs.matching.count.Given as goal

abbrev pub invariant-loop-row : goal.invariant-loop-row
invariant-loop-row l =
    (l.n ≤ l.row)
    × (l.n + count_of (key_of l.pair) (starts_from (heard l.side) (l.row * 7)) ≡ count_of (key_of l.pair) (starts_in (heard l.side)))
