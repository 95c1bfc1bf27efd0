-- The commands that the calls write, by places, and the slice in which their ids stand.
use Rattle.std.specs.Prelude.{ℕ, List, replicate}
use Rattle.octets.specs.Slices.{copy_at}
use Rattle.command.specs.Values.{count}
use Rattle.command.specs.Slots.{nowhere}
use Rattle.command.specs.declared.Action.{Action}
use Rattle.command.specs.declared.FileType.TheVariants as FileType
use Rattle.command.specs.declared.Transmission.TheVariants as Transmission
use Rattle.command.specs.declared.Place.{Place}
use Rattle.command.specs.declared.Command.{Command}
use Rattle.protocol.specs.Table.{id_room}

-- the first n bytes
abbrev pub up_to : ℕ → Place
up_to n = record { start = 0; len = n }

-- the n bytes after the room of an id
abbrev pub after : ℕ → Place
after n = record { start = id_room; len = n }

-- a command with nothing but these
abbrev pub command_with : Action → (id file : Place) (size : ℕ) (name contents : Place) → Command
command_with a id file size name contents =
    record {
      action = a;
      file_type = FileType.Regular;
      transmission = Transmission.Simple;
      id = id;
      file_id = file;
      bypass = nowhere;
      quiet = 0;
      modified = count 0;
      permissions = count 0;
      size = count size;
      name = name;
      status = nowhere;
      parent = nowhere;
      payload = contents;
    }

-- the session's id and then the file's
unfoldable pub ids_of : (own file : List ℕ) → List ℕ
ids_of own file = (copy_at file (copy_at own (replicate 64 0) 0).buffer id_room).buffer
