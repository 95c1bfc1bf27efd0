-- What holds of the table alone, whatever the history: of every table that calls on a fresh receiver make, with any bytes lent.
use Rattle.std.specs.Prelude.{ℕ, ◌+◌, ◌≤◌, ◌<◌, ◌≡◌, Bool, true, false, cond, ◌⊎◌, List, [], ◌∷◌, length, get_or, eqb, Option, Some, None}
use Rattle.octets.specs.Members.{every}
use Rattle.command.specs.Letters.{safe_byte}
use Rattle.protocol.specs.Table.{session_room, file_room, id_room, free_file, absent_session, no_file, no_session, session_at, file_at}
use Rattle.protocol.specs.Table.{id_of, file_id_of, padded, first, session_used, file_used, is_started, total, started_share, done_share}
use Rattle.protocol.specs.Files.{part_limit, count_limit}
use Rattle.protocol.specs.Machine.{Machine, Call, World, step, start}
use Rattle.protocol.specs.declared.FileState.{FileState}
use Rattle.protocol.specs.declared.FileRecord.{FileRecord}
use Rattle.protocol.specs.declared.SessionState.{SessionState}
use Rattle.protocol.specs.declared.Session.{Session}
use Rattle.protocol.specs.declared.Due.{Due}
use Rattle.protocol.specs.declared.Table.{Table}

-- ---- ids
-- an id that was read: "safe string, at most 32 bytes", and not empty
pub record IsId (k : List ℕ) : Type 0 where
  pub safe : every safe_byte k ≡ true
  pub some : 1 ≤ length k
  pub short : length k ≤ id_room

-- of a file that is asked for it may be empty
pub record IsFileId (g : FileState) (k : List ℕ) : Type 0 where
  pub safe : every safe_byte k ≡ true
  pub some : (g ≡ FileState.Named → ⊥) → 1 ≤ length k
  pub short : length k ≤ id_room

-- the used members differ in their ids
abbrev pub Unique : {A : Type 0} → (A → Bool) → (A → List ℕ) → A → List A → Type 0
Unique used key d l =
    (j j' : ℕ) → used (get_or l j d) ≡ true → used (get_or l j' d) ≡ true → key (get_or l j d) ≡ key (get_or l j' d) → j ≡ j'

-- ---- a file record
-- its count n against the length d that was declared for it, 0 for none: zero while it opens, at most d, and d once it is done
abbrev pub Held : FileState → (n d : ℕ) → Type 0
Held FileState.Free n d = Unit {0}
Held FileState.Opening n d = n ≡ 0
Held FileState.Started n d = 1 ≤ d → n ≤ d
Held FileState.Done n d = 1 ≤ d → n ≡ d
Held FileState.Failed n d = 1 ≤ d → n ≤ d
Held FileState.Named n d = n ≡ 0

-- its id padded with zeros, its count at most 2^40; a free one is blank
pub record SoundFile (f : FileRecord) : Type 0 where
  pub blank : file_used f ≡ false → f ≡ free_file
  pub named : file_used f ≡ true → IsFileId f.state (file_id_of f)
  pub filled : f.id.bytes ≡ padded (file_id_of f)
  pub counted : f.count ≤ count_limit
  pub held : Held f.state f.count f.declared

-- ---- what is due for a session
-- its file j is in a state
pub record FileIs (s : Session) (j : ℕ) (g : FileState) : Type 0 where
  pub within : j < length s.files
  pub state : (file_at s j).state ≡ g

-- no length is declared for a directory
pub record DirectoryFits (s : Session) (j : ℕ) : Type 0 where
  pub file : FileIs s j FileState.Opening
  pub undeclared : (file_at s j).declared ≡ 0

-- not "Over 4,096 decoded bytes", and the count with them at most 2^40 and right for the state g that they bring the file to
pub record PartFits (s : Session) (g : FileState) (j n : ℕ) : Type 0 where
  pub file : FileIs s j FileState.Started
  pub short : n ≤ part_limit
  pub fits : (file_at s j).count + n ≤ count_limit
  pub held : Held g ((file_at s j).count + n) (file_at s j).declared

abbrev pub Fits : Session → Due → Type 0
Fits s (Due.OpenFile j) = FileIs s j FileState.Opening
Fits s (Due.OpenDirectory j) = DirectoryFits s j
Fits s (Due.Write j n) = PartFits s FileState.Started j n
Fits s (Due.WriteLast j n) = PartFits s FileState.Done j n
Fits s Due.Commit = first is_started s.files ≡ None
Fits s Due.Request = FileIs s 0 FileState.Named

-- the state of a session for which that is due: an open one's, which for a request is serving
abbrev pub due_in : Due → SessionState
due_in (Due.OpenFile j) = SessionState.Open
due_in (Due.OpenDirectory j) = SessionState.Open
due_in (Due.Write j n) = SessionState.Open
due_in (Due.WriteLast j n) = SessionState.Open
due_in Due.Commit = SessionState.Open
due_in Due.Request = SessionState.Serving

abbrev pub DueFits : Session → Option Due → Type 0
DueFits s None = Unit {0}
DueFits s (Some d) = (s.state ≡ due_in d) × Fits s d

-- the file whose open is due
abbrev pub opens_at : Option Due → Option ℕ
opens_at None = None
opens_at (Some (Due.OpenFile j)) = Some j
opens_at (Some (Due.OpenDirectory j)) = Some j
opens_at (Some (Due.Write j n)) = None
opens_at (Some (Due.WriteLast j n)) = None
opens_at (Some Due.Commit) = None
opens_at (Some Due.Request) = None

-- the file record at place j, by the session's state: an open send session has any, one that names paths has these, one that serves has
-- the file asked for at its first place, and any other session has none
abbrev pub FileFor : SessionState → ℕ → FileRecord → Type 0
FileFor SessionState.Absent j f = f ≡ free_file
FileFor SessionState.Asked j f = f ≡ free_file
FileFor SessionState.Open j f = f.state ≡ FileState.Named → ⊥
FileFor SessionState.Naming j f = (f ≡ free_file) ⊎ (f.state ≡ FileState.Named)
FileFor SessionState.Waiting j f = f ≡ free_file
FileFor SessionState.Listing j f = f ≡ free_file
FileFor SessionState.Serving j f = (f ≡ free_file) ⊎ ((j ≡ 0) × (f.state ≡ FileState.Named))

-- ---- the numbers kept in a session: those counted from its records
pub record Counted (s : Session) : Type 0 where
  pub started : s.started ≡ total started_share s.files
  pub done_bytes : s.done_bytes ≡ total done_share s.files

-- ---- a session, with what is due for it
pub record SoundSession (s : Session) (due : Option Due) : Type 0 where
  pub room : length s.files ≡ file_room
  -- an absent one is blank
  pub blank : session_used s ≡ false → s ≡ absent_session
  pub file_for : (j : ℕ) → FileFor s.state j (file_at s j)
  pub named : session_used s ≡ true → IsId (id_of s)
  pub filled : s.id.bytes ≡ padded (id_of s)
  pub quiet : s.quiet ≤ 2
  -- its files have different ids
  pub alone : Unique file_used file_id_of no_file s.files
  pub each : (j : ℕ) → SoundFile (file_at s j)
  pub counted : Counted s
  -- a file is opening only where its open is due
  pub opening : (j : ℕ) → (file_at s j).state ≡ FileState.Opening → opens_at due ≡ Some j
  pub fits : DueFits s due

-- what is due for the session at a place
abbrev pub due_of : Option (ℕ × Due) → ℕ → Option Due
due_of None i = None
due_of (Some (k, d)) i = cond (eqb k i) (Some d) None

-- ---- the table: present sessions have different ids. What is owed is due for an open session, so its place is one of the four.
pub record Sound (t : Table) : Type 0 where
  pub room : length t.sessions ≡ session_room
  pub alone : Unique session_used id_of no_session t.sessions
  pub each : (i : ℕ) → SoundSession (session_at t i) (due_of t.owed i)

-- ---- the claim: at each of any list of calls, refused ones too, whatever they are lent
abbrev pub AllSound : Machine → World → List Call → Type 0
AllSound m w [] = Sound w.receiver.table
AllSound m w (c ∷ cs) = Sound w.receiver.table × AllSound m (step m w c) cs

abbrev pub EverySound : Machine → Type 0
EverySound m = (carry : List ℕ) (calls : List Call) → AllSound m (start carry) calls
