-- The sender's session: room, ids, finding a file, and what becomes of the session and of a file of it.
use Rattle.std.specs.Prelude.{ℕ, ◌+◌, ◌-◌, min, Bool, true, false, ◌&&◌, List, get_or, set, replicate, Option}
use Rattle.octets.specs.Slices.{equals}
use Rattle.frames.specs.declared.Framing.TheVariants as Framing
use Rattle.protocol.specs.Table.{file_room, first, no_id, kept_id, id_bytes}
use Rattle.sending.specs.declared.Stage.{Stage}
use Rattle.sending.specs.declared.FileStage.{FileStage}
use Rattle.sending.specs.declared.SentFile.{SentFile}
use Rattle.sending.specs.declared.Transfer.{Transfer}
use Rattle.sending.specs.declared.Sender.{Sender}

-- ---- room: at most 32 files
abbrev pub free_file : SentFile
free_file = record { stage = FileStage.Free; id = no_id; sent = 0 }

abbrev pub no_transfer : Transfer
no_transfer = record { stage = Stage.Fresh; id = no_id; files = replicate file_room free_file; count = 0 }

abbrev pub fresh_sender : Sender
fresh_sender = record { framing = Framing.Plain; transfer = no_transfer }

-- a place outside the array is free room
abbrev pub file_at : Transfer → ℕ → SentFile
file_at t j = get_or t.files j free_file

-- "one file at a time": the file that was begun last
abbrev pub current_place : Transfer → ℕ
current_place t = t.count - 1

abbrev pub current_file : Transfer → SentFile
current_file t = file_at t (current_place t)

-- ---- ids
abbrev pub id_of : Transfer → List ℕ
id_of t = id_bytes t.id

abbrev pub file_id_of : SentFile → List ℕ
file_id_of f = id_bytes f.id

abbrev pub is_known : FileStage → Bool
is_known FileStage.Free = false
is_known FileStage.Sending = true
is_known FileStage.Sent = true
is_known FileStage.Closed = true
is_known FileStage.Stopped = true

-- "Ids match only if length and all bytes agree"
abbrev pub has_file_id : List ℕ → SentFile → Bool
has_file_id k f = is_known f.stage && equals (file_id_of f) k

abbrev pub find_file : Transfer → List ℕ → Option ℕ
find_file t k = first (has_file_id k) t.files

-- ---- stages
abbrev pub is_fresh : Stage → Bool
is_fresh Stage.Fresh = true
is_fresh Stage.Waiting = false
is_fresh Stage.Open = false
is_fresh Stage.Finished = false
is_fresh Stage.Stopped = false

abbrev pub is_waiting : Stage → Bool
is_waiting Stage.Fresh = false
is_waiting Stage.Waiting = true
is_waiting Stage.Open = false
is_waiting Stage.Finished = false
is_waiting Stage.Stopped = false

abbrev pub is_open : Stage → Bool
is_open Stage.Fresh = false
is_open Stage.Waiting = false
is_open Stage.Open = true
is_open Stage.Finished = false
is_open Stage.Stopped = false

abbrev pub is_sending : FileStage → Bool
is_sending FileStage.Free = false
is_sending FileStage.Sending = true
is_sending FileStage.Sent = false
is_sending FileStage.Closed = false
is_sending FileStage.Stopped = false

-- "an OK that agrees after the last piece": the file is closed
abbrev pub closed_stage : FileStage → FileStage
closed_stage FileStage.Free = FileStage.Free
closed_stage FileStage.Sending = FileStage.Sending
closed_stage FileStage.Sent = FileStage.Closed
closed_stage FileStage.Closed = FileStage.Closed
closed_stage FileStage.Stopped = FileStage.Stopped

-- ---- changes
abbrev pub with_stage : Transfer → Stage → Transfer
with_stage t g = record { stage = g; id = t.id; files = t.files; count = t.count }

abbrev pub put_file : Transfer → ℕ → SentFile → Transfer
put_file t j f = record { stage = t.stage; id = t.id; files = set t.files j f; count = t.count }

-- a file in another stage, with another count
abbrev pub moved : SentFile → FileStage → ℕ → SentFile
moved f g n = record { stage = g; id = f.id; sent = n }

-- after send: the sender has its id, and waits for OK
abbrev pub asked : Transfer → List ℕ → Transfer
asked t id = record { stage = Stage.Waiting; id = kept_id id; files = t.files; count = t.count }

-- after a file command: one file more, of which nothing is sent
abbrev pub begun : Transfer → List ℕ → Transfer
begun t id =
    let f : SentFile = record { stage = FileStage.Sending; id = kept_id id; sent = 0 } in
    record { stage = t.stage; id = t.id; files = set t.files t.count f; count = t.count + 1 }

-- a count with n bytes more. It stays at 2^64 - 1, which no `sz` that can be read is.
abbrev pub sent_limit : ℕ
sent_limit = 18446744073709551615

unfoldable pub grown : ℕ → ℕ → ℕ
grown sent n = min (sent + n) sent_limit

-- after a piece of n bytes, the last one or not
abbrev pub piece_stage : Bool → FileStage
piece_stage true = FileStage.Sent
piece_stage false = FileStage.Sending

abbrev pub added : Transfer → ℕ → Bool → Transfer
added t n last = let f = current_file t in put_file t (current_place t) (moved f (piece_stage last) (grown f.sent n))
