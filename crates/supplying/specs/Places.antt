-- The commands that are written, by places, and the slices in which their strings stand.
use Rattle.std.specs.Prelude.{ℕ, List, replicate}
use Rattle.octets.specs.Slices.{copy_at}
use Rattle.command.specs.Values.{count}
use Rattle.command.specs.Slots.{nowhere}
use Rattle.command.specs.declared.Action.{Action}
use Rattle.command.specs.declared.FileType.TheVariants as FileType
use Rattle.command.specs.declared.Transmission.TheVariants as Transmission
use Rattle.command.specs.declared.Place.{Place}
use Rattle.command.specs.declared.Command.{Command}
use Rattle.protocol.specs.Table.{id_room}

-- the n bytes from a place on, and the first n bytes
abbrev pub from : (at n : ℕ) → Place
from at n = record { start = at; len = n }

abbrev pub up_to : ℕ → Place
up_to n = from 0 n

-- a command with nothing but these
abbrev pub command_with : Action → (id file name status contents : Place) → Command
command_with a id file name status contents =
    record {
      action = a;
      file_type = FileType.Regular;
      transmission = Transmission.Simple;
      id = id;
      file_id = file;
      bypass = nowhere;
      quiet = 0;
      modified = count 0;
      permissions = count 0;
      size = count 0;
      name = name;
      status = status;
      parent = nowhere;
      payload = contents;
    }

-- two strings in a slice of n zeros: one at its start, the other from a place on
unfoldable pub both_in : (n at : ℕ) (first second : List ℕ) → List ℕ
both_in n at first second = (copy_at second (copy_at first (replicate n 0) 0).buffer at).buffer

-- the session's id and then the file's
abbrev pub ids_of : (own file : List ℕ) → List ℕ
ids_of own file = both_in 64 id_room own file
