-- A command as it is kept: a slot for each key, in writing order, and the places of strings in the text and in the scratch.
use Rattle.std.specs.Prelude.{Option, Some, None, ℕ, ◌+◌, cond, List, [], ◌∷◌, length, take, drop, get_or, leb, eqb}
use Rattle.decimal.specs.declared.Number.{Number}
use Rattle.command.specs.Keys.{Kind, Key, keys}
use Rattle.command.specs.Values.{Value, count}
use Rattle.command.specs.declared.Action.{Action}
use Rattle.command.specs.declared.FileType.{FileType}
use Rattle.command.specs.declared.Transmission.{Transmission}
use Rattle.command.specs.declared.Place.{Place}
use Rattle.command.specs.declared.Slot.{Slot}
use Rattle.command.specs.declared.Command.{Command}

-- ---- the codes of the words, as `keys` counts them
abbrev pub action_code : Action → ℕ
action_code Action.None = 0
action_code Action.Send = 1
action_code Action.Receive = 2
action_code Action.File = 3
action_code Action.Data = 4
action_code Action.EndData = 5
action_code Action.Finish = 6
action_code Action.Cancel = 7
action_code Action.Status = 8

unfoldable pub action_of : ℕ → Action
action_of n =
    cond (eqb n 1) Action.Send (cond (eqb n 2) Action.Receive (cond (eqb n 3) Action.File (cond (eqb n 4) Action.Data
    (cond (eqb n 5) Action.EndData (cond (eqb n 6) Action.Finish (cond (eqb n 7) Action.Cancel
    (cond (eqb n 8) Action.Status Action.None)))))))

abbrev pub file_type_code : FileType → ℕ
file_type_code FileType.Regular = 0
file_type_code FileType.Directory = 1
file_type_code FileType.Symlink = 2
file_type_code FileType.Link = 3

unfoldable pub file_type_of : ℕ → FileType
file_type_of n = cond (eqb n 1) FileType.Directory (cond (eqb n 2) FileType.Symlink (cond (eqb n 3) FileType.Link FileType.Regular))

abbrev pub transmission_code : Transmission → ℕ
transmission_code Transmission.Simple = 0
transmission_code Transmission.Rsync = 1

unfoldable pub transmission_of : ℕ → Transmission
transmission_of n = cond (eqb n 1) Transmission.Rsync Transmission.Simple

-- ---- slots
abbrev pub nowhere : Place
nowhere = record { start = 0; len = 0 }

-- the command without a field: each at what absent means
abbrev pub no_command : Command
no_command =
    record {
      action = Action.None;
      file_type = FileType.Regular;
      transmission = Transmission.Simple;
      id = nowhere;
      file_id = nowhere;
      bypass = nowhere;
      quiet = 0;
      modified = count 0;
      permissions = count 0;
      size = count 0;
      name = nowhere;
      status = nowhere;
      parent = nowhere;
      payload = nowhere;
    }

-- the slot of a key that has not stood
abbrev pub free : Option Slot
free = None

-- what a slot holds; one of a key that has not stood, what absent means
abbrev pub held : Option Slot → Slot
held None = record { number = count 0; place = nowhere }
held (Some s) = s

abbrev pub numbered : Number → Slot
numbered n = record { number = n; place = nowhere }

abbrev pub coded : ℕ → Slot
coded n = numbered (count n)

abbrev pub placed : Place → Slot
placed p = record { number = count 0; place = p }

-- a command's slots in writing order
unfoldable pub slots_of : Command → List Slot
slots_of c =
    coded (action_code c.action)
    ∷ coded 0
    ∷ coded (file_type_code c.file_type)
    ∷ coded (transmission_code c.transmission)
    ∷ placed c.id
    ∷ placed c.file_id
    ∷ placed c.bypass
    ∷ coded c.quiet
    ∷ numbered c.modified
    ∷ numbered c.permissions
    ∷ numbered c.size
    ∷ placed c.name
    ∷ placed c.status
    ∷ placed c.parent
    ∷ placed c.payload
    ∷ []

-- the command of the slots in writing order
unfoldable pub command_of : List (Option Slot) → Command
command_of s =
    record {
      action = action_of (held (get_or s 0 free)).number.magnitude;
      file_type = file_type_of (held (get_or s 2 free)).number.magnitude;
      transmission = transmission_of (held (get_or s 3 free)).number.magnitude;
      id = (held (get_or s 4 free)).place;
      file_id = (held (get_or s 5 free)).place;
      bypass = (held (get_or s 6 free)).place;
      quiet = (held (get_or s 7 free)).number.magnitude;
      modified = (held (get_or s 8 free)).number;
      permissions = (held (get_or s 9 free)).number;
      size = (held (get_or s 10 free)).number;
      name = (held (get_or s 11 free)).place;
      status = (held (get_or s 12 free)).place;
      parent = (held (get_or s 13 free)).place;
      payload = (held (get_or s 14 free)).place;
    }

-- ---- what the slots mean
-- the bytes of a place; a place that passes the buffer's end is of no kind
unfoldable pub bytes_at : List ℕ → Place → Value
bytes_at l p = cond (leb (p.start + p.len) (length l)) (Value.bytes (take p.len (drop p.start l))) Value.outside

-- the value of a slot: strings stand in the text, Base64's bytes in the scratch
abbrev pub value_at : Kind → Slot → List ℕ → List ℕ → Value
value_at (Kind.word unknown first ws aliases) s text scratch = Value.number s.number
value_at (Kind.safe short) s text scratch = bytes_at text s.place
value_at Kind.integer s text scratch = Value.number s.number
value_at Kind.base64 s text scratch = bytes_at scratch s.place

abbrev pub values_at : List Key → List Slot → List ℕ → List ℕ → List Value
values_at [] s text scratch = []
values_at (k ∷ ks) [] text scratch = []
values_at (k ∷ ks) (x ∷ s) text scratch = value_at k.kind x text scratch ∷ values_at ks s text scratch

-- the abstract command: its values, places apart
unfoldable pub values_of : Command → List ℕ → List ℕ → List Value
values_of c text scratch = values_at keys (slots_of c) text scratch
