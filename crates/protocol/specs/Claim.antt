-- Demand 3, of a machine: every list of calls from a fresh receiver, and what holds at each of them.
use Rattle.std.specs.Prelude.{ℕ, ◌≤◌, ◌<◌, ◌≡◌, Bool, true, false, cond, ◌&&◌, ◌⊎◌, List, [], ◌∷◌, length, take, eqb, Some}
use Rattle.octets.specs.Ascii.{ascii}
use Rattle.octets.specs.Slices.{equals}
use Rattle.octets.specs.Outcome.{Outcome}
use Rattle.frames.specs.Stream.{framed}
use Rattle.command.specs.Meaning.{Meaning, meaning_of, action_code, id_of, file_id_of, size_of, status_of}
use Rattle.command.specs.Values.{count}
use Rattle.protocol.specs.Table as Table
use Rattle.protocol.specs.History.{Command, Heard, Mark, marks_of, Question, last_ask}
use Rattle.protocol.specs.Stretches.{Key, is_for, is_file, is_directory, declared_in, Stretch, since, parts, contents, start_stands}
use Rattle.protocol.specs.Stretches.{AllStand}
use Rattle.protocol.specs.Supplied.{written_parts, supplied_parts}
use Rattle.protocol.specs.Machine.{Machine, Call, World, is_refused, step, Lent, start}
use Rattle.protocol.specs.declared.FileRecord.{FileRecord}
use Rattle.protocol.specs.declared.Session.{Session}
use Rattle.protocol.specs.declared.Table.{Table}
use Rattle.protocol.specs.declared.Answered.{Answered}

-- ---- the done records of a table, by ids and not by places
-- the record f of the session s has these ids, and is done with count n; the session has that quiet
abbrev pub is_done_as : Key → ℕ → ℕ → Session → FileRecord → Bool
is_done_as k n quiet s f =
    Table.is_done f.state && (equals (Table.id_of s) k.id &&
    (equals (Table.file_id_of f) k.file && (eqb f.count n && eqb s.quiet quiet)))

-- how many there are: a sum over the sessions, of sums over their files
abbrev pub done_in : Key → ℕ → ℕ → Session → ℕ
done_in k n quiet s = Table.total (λ (f : FileRecord). cond (is_done_as k n quiet s f) 1 0) s.files

abbrev pub done_as : Key → ℕ → ℕ → Table → ℕ
done_as k n quiet t = Table.total (done_in k n quiet) t.sessions

-- "It closes as done, its record turning done": more records with these ids are done with that count than before, in whichever places. So a
-- done record whose count changes counts as closing anew.
abbrev pub Closes : Table → Table → Key → ℕ → ℕ → Type 0
Closes t t' k n quiet = done_as k n quiet t < done_as k n quiet t'

-- ---- at a closing
-- the ask told last was the last part for the file
pub record LastPartAsked (k : Key) (q : Question) : Type 0 where
  pub command : Command
  pub part : List ℕ
  pub asked : q ≡ Question.asks command (Heard.writes_last part)
  pub for_it : is_for k command ≡ true

-- the ask told last was the open for a file command with ft=directory, for these ids; and no regular file with these ids was started since
-- its session was last allowed
pub record DirectoryAsked (k : Key) (marks : List Mark) : Type 0 where
  pub command : Command
  pub asked : last_ask marks ≡ Question.asks command Heard.opens
  pub action : is_file command ≡ true
  pub directory : is_directory command ≡ true
  pub for_it : is_for k command ≡ true
  pub unstarted : start_stands k (since k marks) ≡ false

-- the reply to a closing with count s: "s is the count then in the record and, unless held back, the reply's `sz` (absent: zero)"
pub record ClosingReply (k : Key) (s quiet : ℕ) (a : Outcome Answered) : Type 0 where
  pub text : List ℕ
  pub command : Command
  pub sent : quiet ≡ 0 → take a.answer.reply_len a.buffer ≡ framed text
  pub held_back : 1 ≤ quiet → a.answer.reply_len ≡ 0
  pub reads : meaning_of text ≡ Meaning.command command
  pub is_status : action_code command ≡ 8
  pub is_ok : status_of command ≡ ascii "OK"
  pub for_it : is_for k command ≡ true
  pub size : size_of command ≡ count s

-- a regular file that closes as done with count s: "since its latest start the parts handed over for it and answered done, joined, equal
-- the contents of the data and end_data commands read for it, joined, and s is that length"
pub record ClosedWhole (m : Machine) (w : World) (reply : List ℕ) (k : Key) (s quiet : ℕ) : Type 0 where
  pub last_part : LastPartAsked k (last_ask (marks_of w.history))
  pub stretch : Stretch
  pub started : since k (marks_of (step m w (Call.done reply)).history) ≡ Some stretch
  pub joined : parts k stretch.marks ≡ contents k stretch.marks
  pub counted : s ≡ length (contents k stretch.marks)
  -- "a declared file closes as done only with s equal to it", as the command of that start declared it
  pub declared : 1 ≤ declared_in stretch.command → s ≡ declared_in stretch.command
  pub replied : ClosingReply k s quiet (m.dones w.receiver reply)

-- a record turns done only at a done: a directory's at its open, or a regular file's that closes whole
pub record TurnedDone (m : Machine) (w : World) (c : Call) (k : Key) (s quiet : ℕ) : Type 0 where
  pub reply : List ℕ
  pub by_done : c ≡ Call.done reply
  pub right : DirectoryAsked k (marks_of w.history) ⊎ ClosedWhole m w reply k s quiet

-- the file of a command closes
abbrev pub key_in : Command → Key
key_in d = record { id = id_of d; file = file_id_of d }

pub record Closed (t t' : Table) (d : Command) : Type 0 where
  pub count : ℕ
  pub quiet : ℕ
  pub closes : Closes t t' (key_in d) count quiet

-- ---- what holds at a call
pub record Right (m : Machine) (w : World) (c : Call) : Type 0 where
  -- wherever a file closes
  pub closes : (k : Key) (s quiet : ℕ) → Closes w.receiver.table (step m w c).receiver.table k s quiet
      → TurnedDone m w c k s quiet
  -- "exactly when its last part is answered done"
  pub closed : (d : Command) (p reply : List ℕ) → last_ask (marks_of w.history) ≡ Question.asks d (Heard.writes_last p)
      → c ≡ Call.done reply → is_refused (m.dones w.receiver reply).answer.told ≡ false
      → Closed w.receiver.table (step m w c).receiver.table d
  -- "No part is handed over outside a session that the user allowed and that still stands"
  pub parts_stand : AllStand (marks_of (step m w c).history)
  -- "the joined parts written for a file since its request are exactly those the console supplied for it, in order, without those refused":
  -- part by part, and the last one as end_data
  pub supplies : (k : Key) → written_parts k (marks_of (step m w c).history) ≡ supplied_parts k (marks_of (step m w c).history)

-- at every place of a list of calls
abbrev pub Everywhere : Machine → World → List Call → Type 0
Everywhere m w [] = Unit {0}
Everywhere m w (c ∷ cs) = Lent m w c → Right m w c × Everywhere m (step m w c) cs

-- the claim
abbrev pub EveryHistory : Machine → Type 0
EveryHistory m = (carry : List ℕ) (calls : List Call) → Everywhere m (start carry) calls
