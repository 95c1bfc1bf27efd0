use Prim.Native.Nat.{◌+◌, ◌-◌, ◌*◌, ◌≤◌}
use mathlib.Core.Path.{◌≡◌}
use lib.ListN.{length, drop}
use Rattle.octets.specs.Split.{split}
use Rattle.command.specs.Fields.{fields_read}
use Rattle.command.specs.Read.{begun, kept}
use Rattle.command_reader.specs.States.{left}
use Rattle.command_reader.proofs.fields.read_fields.Given as goal

abbrev pub invariant-loop-at : goal.invariant-loop-at
invariant-loop-at l =
    (l.at ≤ length l.text + 1) × (length l.scratch ≡ length l.initial.scratch) × (4 * l.used ≤ 3 * l.at)
    × (left l.at l.text (record { slots = l.slots; scratch = l.scratch; used = l.used })
    ≡ fields_read kept 5 (split 59 (drop 5 l.text)) (begun l.initial.scratch))

abbrev pub decreases-loop-at : goal.decreases-loop-at
decreases-loop-at l = length l.text + 1 - l.at
