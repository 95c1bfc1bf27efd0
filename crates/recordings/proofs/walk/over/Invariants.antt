use Prim.Native.Nat.{◌-◌}
use mathlib.Core.Path.{◌≡◌}
use lib.ListN.{length}
use Rattle.command.specs.Read.{scratch_room}
use Rattle.recordings.specs.Walk.{walk}
use Rattle.recordings.proofs.TurnLaws.{Walking}
use Rattle.recordings.proofs.walk.over.Given as goal

abbrev pub invariant-loop-tally : goal.invariant-loop-tally
invariant-loop-tally l =
    Walking l.recording l.initial.output l.initial.list (walk l.tally l.output l.list) × (scratch_room ≡ length l.scratch)

abbrev pub decreases-loop-tally : goal.decreases-loop-tally
decreases-loop-tally l = length l.recording - l.tally.at
