-- THE INVARIANT between the table and the history: what every list of calls from a fresh receiver keeps, beside what holds of the table
-- alone (`Sound`).
use Prim.Native.Nat.{ℕ}
use mathlib.Core.Path.{◌≡◌}
use mathlib.Core.Bool.{Bool, true, false}
use mathlib.Core.List.{List, [], ◌++◌}
use lib.ListN.{length, get_or}
use Rattle.std.specs.Prelude.{Option, Some, None}
use Rattle.octets.specs.Slices.{equals}
use Rattle.command.specs.Meaning.{action_code, file_type_code}
use Rattle.command.specs.Meaning as Meaning
use Rattle.protocol.specs.Table.{no_session, session_at, file_at, id_of, file_id_of}
use Rattle.protocol.specs.Calls.{is_owed}
use Rattle.protocol.specs.History.{Command, Heard, Mark, Question, last_ask}
use Rattle.protocol.specs.Stretches.{Key, part_for, declared_in, Stretch, since, parts, contents, start_stands, stands, AllStand}
use Rattle.protocol.specs.Supplied.{written_parts, supplied_parts}
use Rattle.protocol.specs.declared.FileState.TheVariants as FileState
use Rattle.protocol.specs.declared.FileRecord.{FileRecord}
use Rattle.protocol.specs.declared.SessionState.{SessionState}
use Rattle.protocol.specs.declared.Session.{Session}
use Rattle.protocol.specs.declared.Due.{Due}
use Rattle.protocol.specs.declared.Table.{Table}
use Rattle.protocol.proofs.Laws.{is_past}

-- ---- a started file
abbrev pub key_of : Session → FileRecord → Key
key_of s f = record { id = id_of s; file = file_id_of f }

-- the part handed over for the file and not yet answered, where an answer is owed
abbrev pub pending : Bool → Key → List Mark → List ℕ
pending true k m = part_for k (last_ask m)
pending false k m = []

-- since its start its contents are its parts and what is pending, its count n is the parts' length, and d was declared
pub record FileOK (owed : Bool) (m : List Mark) (k : Key) (n d : ℕ) : Type 0 where
  pub stretch : Stretch
  pub started : since k m ≡ Some stretch
  pub joined : contents k stretch.marks ≡ parts k stretch.marks ++ pending owed k m
  pub counted : n ≡ length (parts k stretch.marks)
  pub declares : d ≡ declared_in stretch.command

-- of a record of the session s
abbrev pub RecordOK : Bool → List Mark → Session → FileRecord → Type 0
RecordOK owed m s f = FileOK owed m (key_of s f) f.count f.declared

-- ---- an open session
abbrev pub commits_for : List ℕ → Question → Bool
commits_for i Question.none = false
commits_for i (Question.asks d Heard.opens) = false
commits_for i (Question.asks d (Heard.writes p)) = false
commits_for i (Question.asks d (Heard.writes_last p)) = false
commits_for i (Question.asks d Heard.commits) = equals i (Meaning.id_of d)
commits_for i (Question.asks d Heard.requests) = false

-- it stands in the history, or its commit is owed
pub data Holds (owed : Bool) (i : List ℕ) (m : List Mark) : Type 0 where
  standing : stands i m ≡ true → Holds owed i m
  committing : owed ≡ true → commits_for i (last_ask m) ≡ true → Holds owed i m

abbrev pub file_key : Session → List ℕ → Key
file_key s f = record { id = id_of s; file = f }

-- no start of the file stands
abbrev pub NoneStands : List Mark → Key → Type 0
NoneStands m k = start_stands k (since k m) ≡ false

-- a file id that no record past its opening has was not started since the session was allowed
abbrev pub Unstarted : List Mark → Session → Type 0
Unstarted m s =
    (f : List ℕ) → ((j : ℕ) → is_past (file_at s j).state ≡ true → file_id_of (file_at s j) ≡ f → ⊥) → NoneStands m (file_key s f)

-- each file that is started is as the history says
pub record OpenOK (owed : Bool) (m : List Mark) (s : Session) : Type 0 where
  pub stand : Holds owed (id_of s) m
  pub each : (j : ℕ) → (file_at s j).state ≡ FileState.Started → RecordOK owed m s (file_at s j)
  pub unstarted : Unstarted m s

-- an open receive session
abbrev pub is_supplied : SessionState → Bool
is_supplied SessionState.Absent = false
is_supplied SessionState.Asked = false
is_supplied SessionState.Open = false
is_supplied SessionState.Naming = false
is_supplied SessionState.Waiting = false
is_supplied SessionState.Listing = true
is_supplied SessionState.Serving = true

-- an open send session is as above, and an open receive session stands
pub record SessionOK (owed : Bool) (m : List Mark) (s : Session) : Type 0 where
  pub sends : s.state ≡ SessionState.Open → OpenOK owed m s
  pub serves : is_supplied s.state ≡ true → stands (id_of s) m ≡ true

-- ---- what is due for a session
-- the file j of the session is that of the command
abbrev pub IsFile : Session → ℕ → Command → Type 0
IsFile s j d = file_id_of (file_at s j) ≡ Meaning.file_id_of d

pub record OpenAsked (type : ℕ) (s : Session) (d : Command) (a : Heard) (j : ℕ) : Type 0 where
  pub heard : a ≡ Heard.opens
  pub action : action_code d ≡ 3
  pub kind : file_type_code d ≡ type
  pub file : IsFile s j d
  pub declares : type ≡ 0 → (file_at s j).declared ≡ declared_in d

-- the ask of a part, as it is heard
abbrev pub write_heard : Bool → List ℕ → Heard
write_heard true p = Heard.writes_last p
write_heard false p = Heard.writes p

pub record PartAsked (last : Bool) (s : Session) (d : Command) (a : Heard) (j n : ℕ) : Type 0 where
  pub part : List ℕ
  pub heard : a ≡ write_heard last part
  pub long : n ≡ length part
  pub file : IsFile s j d

abbrev pub About : Session → Command → Heard → Due → Type 0
About s d a (Due.OpenFile j) = OpenAsked 0 s d a j
About s d a (Due.OpenDirectory j) = OpenAsked 1 s d a j
About s d a (Due.Write j n) = PartAsked false s d a j n
About s d a (Due.WriteLast j n) = PartAsked true s d a j n
About s d a Due.Commit = a ≡ Heard.commits
About s d a Due.Request = (a ≡ Heard.requests) × IsFile s 0 d

-- it is what the ask told last is about
pub record Asking (s : Session) (q : Question) (due : Due) : Type 0 where
  pub command : Command
  pub heard : Heard
  pub asked : q ≡ Question.asks command heard
  pub id : id_of s ≡ Meaning.id_of command
  pub about : About s command heard due

abbrev pub AskedLast : List Session → Question → Option (ℕ × Due) → Type 0
AskedLast ss q None = Unit {0}
AskedLast ss q (Some (i, d)) = Asking (get_or ss i no_session) q d

-- ---- the table: parts were handed over in standing sessions only, and what was written is what was supplied
abbrev pub Served : List Mark → Type 0
Served m = (k : Key) → written_parts k m ≡ supplied_parts k m

pub record TableOK (t : Table) (m : List Mark) : Type 0 where
  pub each : (i : ℕ) → SessionOK (is_owed t.owed) m (session_at t i)
  pub owed : AskedLast t.sessions (last_ask m) t.owed
  pub told : AllStand m
  pub served : Served m
