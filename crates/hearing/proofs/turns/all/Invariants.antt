use Prim.Native.Nat.{◌-◌, ◌≤◌}
use mathlib.Core.Path.{◌≡◌}
use lib.ListN.{length}
use Rattle.command.specs.Read.{scratch_room}
use Rattle.recordings.specs.Mend.{recording_limit}
use Rattle.hearing.specs.Steps.{course}
use Rattle.hearing.proofs.HearLaws.{Hearing}
use Rattle.hearing.proofs.turns.all.Given as goal

-- it is on its way, and the recording is short
abbrev pub invariant-loop-reached : goal.invariant-loop-reached
invariant-loop-reached l =
    ((h : length l.recording ≤ recording_limit) → Hearing l.recording h (course l.reached l.events l.bytes))
    × (scratch_room ≡ length l.scratch) × (length l.initial.events ≡ length l.events) × (length l.initial.bytes ≡ length l.bytes)

abbrev pub decreases-loop-reached : goal.decreases-loop-reached
decreases-loop-reached l = length l.recording - l.reached.at
