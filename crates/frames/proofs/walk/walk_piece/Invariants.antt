use Prim.Native.Nat.{◌+◌, ◌-◌, ◌≤◌}
use mathlib.Core.Path.{◌≡◌}
use lib.ListN.{length, drop}
use Rattle.frames.specs.Stream.{text_limit}
use Rattle.frames.specs.Framings.{count}
use Rattle.frames.specs.Steps.{walk_from}
use Rattle.frames.proofs.walk.walk_piece.Given as goal

abbrev pub invariant-loop-i : goal.invariant-loop-i
invariant-loop-i l =
    (l.i ≤ length l.piece) × (count l.f ≤ (text_limit + 1) + l.i) × (walk_from l.initial.f 0 l.piece ≡ walk_from l.f l.i (drop l.i l.piece))

abbrev pub decreases-loop-i : goal.decreases-loop-i
decreases-loop-i l = length l.piece - l.i
