-- The table of sessions: room, ids, finding, and what is put back.
use Rattle.std.specs.Prelude.{ℕ, zero, suc, ◌+◌, ◌-◌, min, Bool, true, false, not, cond, ◌&&◌, Option, Some, None}
use Rattle.std.specs.Prelude.{List, [], ◌∷◌, ◌++◌, take, get_or, length, set, replicate}
use Rattle.octets.specs.Slices.{equals}
use Rattle.frames.specs.declared.Framing.TheVariants as Framing
use Rattle.protocol.specs.declared.FileState.{FileState}
use Rattle.protocol.specs.declared.FileRecord.{FileRecord}
use Rattle.protocol.specs.declared.SessionState.{SessionState}
use Rattle.protocol.specs.declared.Session.{Session}
use Rattle.protocol.specs.declared.Table.{Table}
use Rattle.protocol.specs.declared.Receiver.{Receiver}
use Rattle.protocol.specs.declared.id.Id.{Id}

-- ---- room: "four sessions, each with thirty-two file records"; "at most 32 bytes" of an id
abbrev pub session_room : ℕ
session_room = 4

abbrev pub file_room : ℕ
file_room = 32

abbrev pub id_room : ℕ
id_room = 32

abbrev pub zeros : List ℕ
zeros = replicate id_room 0

-- "at most 32 bytes" of an id: no id, one in an array of 32 bytes, and the bytes of one
abbrev pub no_id : Id
no_id = record { bytes = zeros; len = 0 }

abbrev pub padded : List ℕ → List ℕ
padded k = take id_room (k ++ zeros)

abbrev pub kept_id : List ℕ → Id
kept_id k = record { bytes = padded k; len = length k }

abbrev pub id_bytes : Id → List ℕ
id_bytes i = take i.len i.bytes

abbrev pub free_file : FileRecord
free_file = record { state = FileState.Free; id = no_id; count = 0; declared = 0 }

abbrev pub no_files : List FileRecord
no_files = replicate file_room free_file

abbrev pub absent_session : Session
absent_session =
    record {
      state = SessionState.Absent;
      quiet = 0;
      id = no_id;
      wanted = 0;
      started = 0;
      done_bytes = 0;
      files = no_files;
    }

-- "A fresh receiver has no session, no file and nothing owed"
abbrev pub empty_table : Table
empty_table = record { sessions = replicate session_room absent_session; owed = None }

abbrev pub fresh_receiver : Receiver
fresh_receiver = record { framing = Framing.Plain; table = empty_table }

-- what stands at a place outside the table: free room
abbrev pub no_file : FileRecord
no_file = free_file

abbrev pub no_session : Session
no_session = absent_session

abbrev pub session_at : Table → ℕ → Session
session_at t i = get_or t.sessions i no_session

abbrev pub file_at : Session → ℕ → FileRecord
file_at s j = get_or s.files j no_file

-- ---- ids
abbrev pub id_of : Session → List ℕ
id_of s = id_bytes s.id

abbrev pub file_id_of : FileRecord → List ℕ
file_id_of f = id_bytes f.id

-- ---- finding
abbrev pub later : Option ℕ → Option ℕ
later None = None
later (Some i) = Some (suc i)

abbrev pub here_or : Bool → Option ℕ → Option ℕ
here_or true f = Some zero
here_or false f = later f

-- the first member of which a test holds
unfoldable pub first : {A : Type 0} → (A → Bool) → List A → Option ℕ
first p [] = None
first p (x ∷ xs) = here_or (p x) (first p xs)

abbrev pub is_present : SessionState → Bool
is_present SessionState.Absent = false
is_present SessionState.Asked = true
is_present SessionState.Open = true
is_present SessionState.Naming = true
is_present SessionState.Waiting = true
is_present SessionState.Listing = true
is_present SessionState.Serving = true

abbrev pub session_used : Session → Bool
session_used s = is_present s.state

abbrev pub is_absent : Session → Bool
is_absent s = not (session_used s)

abbrev pub is_used : FileState → Bool
is_used FileState.Free = false
is_used FileState.Opening = true
is_used FileState.Started = true
is_used FileState.Done = true
is_used FileState.Failed = true
is_used FileState.Named = true

abbrev pub file_used : FileRecord → Bool
file_used f = is_used f.state

abbrev pub is_free : FileRecord → Bool
is_free f = not (file_used f)

abbrev pub is_started_state : FileState → Bool
is_started_state FileState.Free = false
is_started_state FileState.Opening = false
is_started_state FileState.Started = true
is_started_state FileState.Done = false
is_started_state FileState.Failed = false
is_started_state FileState.Named = false

abbrev pub is_started : FileRecord → Bool
is_started f = is_started_state f.state

abbrev pub is_done : FileState → Bool
is_done FileState.Free = false
is_done FileState.Opening = false
is_done FileState.Started = false
is_done FileState.Done = true
is_done FileState.Failed = false
is_done FileState.Named = false

-- ---- counting
abbrev pub total : {A : Type 0} → (A → ℕ) → List A → ℕ
total g [] = 0
total g (x ∷ xs) = g x + total g xs

-- what a record adds to "the number of started files" and to "the sum of counts of its done ones"
abbrev pub started_share : FileRecord → ℕ
started_share f = cond (is_started f) 1 0

abbrev pub done_share : FileRecord → ℕ
done_share f = cond (is_done f.state) f.count 0

-- ---- ids that match
-- "Ids match only if length and all bytes agree"
abbrev pub has_id : List ℕ → Session → Bool
has_id k s = session_used s && equals (id_of s) k

abbrev pub has_file_id : List ℕ → FileRecord → Bool
has_file_id k f = file_used f && equals (file_id_of f) k

-- the place of a session by its id, and of a file of it by its id
abbrev pub find_session : Table → List ℕ → Option ℕ
find_session t k = first (has_id k) t.sessions

abbrev pub find_file : Session → List ℕ → Option ℕ
find_file s k = first (has_file_id k) s.files

-- ---- put back
abbrev pub put_session : Table → ℕ → Session → Table
put_session t i s = record { sessions = set t.sessions i s; owed = t.owed }

abbrev pub with_state : Session → SessionState → Session
with_state s g =
    record {
      state = g;
      quiet = s.quiet;
      id = s.id;
      wanted = s.wanted;
      started = s.started;
      done_bytes = s.done_bytes;
      files = s.files;
    }

-- "Only after the last is the user asked": it waits, and its paths have been told, so that none is kept
abbrev pub waiting : Session → Session
waiting s =
    record {
      state = SessionState.Waiting;
      quiet = s.quiet;
      id = s.id;
      wanted = s.wanted;
      started = 0;
      done_bytes = 0;
      files = no_files;
    }

-- a kept number with one record's share for another's; as far as a u64 holds it, which no list of calls from a fresh receiver passes
unfoldable pub adjusted : (kept old new : ℕ) → ℕ
adjusted kept old new = min ((kept - old) + new) 18446744073709551615

-- the one place that changes a session's files, and the numbers kept of them
abbrev pub put_file : Session → ℕ → FileRecord → Session
put_file s j f =
    let files = set s.files j f in
    let old = file_at s j in
    let new = get_or files j no_file in
    record {
      state = s.state;
      quiet = s.quiet;
      id = s.id;
      wanted = s.wanted;
      started = adjusted s.started (started_share old) (started_share new);
      done_bytes = adjusted s.done_bytes (done_share old) (done_share new);
      files = files;
    }

-- a file's record in another state, with a count
abbrev pub moved : FileRecord → FileState → ℕ → FileRecord
moved f g n = record { state = g; id = f.id; count = n; declared = f.declared }
