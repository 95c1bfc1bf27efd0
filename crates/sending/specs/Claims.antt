-- What holds of the definitions besides.
use Rattle.std.specs.Prelude.{ℕ, ◌≤◌, ◌<◌, ◌≡◌, true, List, length}
use Rattle.octets.specs.Members.{every}
use Rattle.octets.specs.Outcome.{outcome}
use Rattle.command.specs.Letters.{safe_byte}
use Rattle.command.specs.Write.{Answer}
use Rattle.command.specs.Framed.{frame_room, framed_of}
use Rattle.protocol.specs.Table.{id_room}
use Rattle.sending.specs.Commands.{file_values}
use Rattle.sending.specs.Calls.{long_refusal}

-- of a file id over 32 bytes `file_of` says what the writer says of the same command, where the session's id is one that it takes
abbrev pub LongIdAsWritten : Type 0
LongIdAsWritten =
    (id file name : List ℕ) (size : ℕ) (out : List ℕ) → every safe_byte id ≡ true → length id ≤ id_room → id_room < length file
    → frame_room ≤ length out → framed_of (file_values id file name size) out ≡ outcome (Answer.refused (long_refusal file)) out
