-- What holds of the definitions besides.
use Rattle.std.specs.Prelude.{ℕ, ◌≤◌, ◌<◌, ◌≡◌, true, List, length}
use Rattle.octets.specs.Members.{every}
use Rattle.octets.specs.Outcome.{outcome}
use Rattle.command.specs.Letters.{safe_byte, is_byte}
use Rattle.command.specs.Write.{Answer}
use Rattle.command.specs.Framed.{frame_room, framed_of}
use Rattle.protocol.specs.Table.{id_room}
use Rattle.protocol.specs.Supplies.{home_room, home_values}

-- of a home path that is refused by its length alone, the writer says the same, where the session's id is one that it takes
abbrev pub LongHomeAsWritten : Type 0
LongHomeAsWritten =
    (id path out : List ℕ) → every safe_byte id ≡ true → 1 ≤ length id → length id ≤ id_room
    → every is_byte path ≡ true → home_room < length path → frame_room ≤ length out
    → framed_of (home_values id path) out ≡ outcome (Answer.refused 9) out
