-- "Fed to a fresh receiver of ours over a line that loses nothing", what is sent arrives whole, and nothing else arrives.
use Rattle.std.specs.Prelude.{ℕ, ◌≤◌, ◌≡◌, Bool, true, false, ◌||◌, List, [], ◌∷◌, ◌++◌, length, get_or, eqb, Some}
use Rattle.octets.specs.Members.{every}
use Rattle.frames.specs.Stream.{text_limit}
use Rattle.command.specs.Values.{Value, count}
use Rattle.command.specs.Meaning.{bytes_in, id_of, size_of}
use Rattle.protocol.specs.Table.{fresh_receiver}
use Rattle.protocol.specs.History.{Heard, Mark, Question, marks_of}
use Rattle.protocol.specs.Stretches.{Key, is_for, Stretch, since, parts}
use Rattle.sending.specs.Transfers.{file_at, find_file}
use Rattle.sending.specs.Machine.{Machine}
use Rattle.sending.specs.Plans.{File, Plan, Fit, contents_of, commands_of}
use Rattle.sending.specs.Exchange.{Exchange, Turn, after, begin, AtRest}
use Rattle.sending.specs.declared.Transfer.{Transfer}
use Rattle.sending.specs.declared.FileStage.TheVariants as FileStage
use Rattle.sending.specs.declared.News.{News}

-- ---- what the console's history has
-- the commands that were read, oldest first
abbrev pub read_in : List Mark → List (List Value)
read_in [] = []
read_in (Mark.read c ∷ m) = read_in m ++ c ∷ []
read_in (Mark.asked a ∷ m) = read_in m
read_in (Mark.allow i ∷ m) = read_in m
read_in (Mark.drop i ∷ m) = read_in m
read_in (Mark.answer b q ∷ m) = read_in m
read_in (Mark.wrote p bs ∷ m) = read_in m

-- the last part for the file was answered done
abbrev pub closes_by : Key → Mark → Bool
closes_by k (Mark.read c) = false
closes_by k (Mark.asked a) = false
closes_by k (Mark.allow i) = false
closes_by k (Mark.drop i) = false
closes_by k (Mark.answer false q) = false
closes_by k (Mark.answer true Question.none) = false
closes_by k (Mark.answer true (Question.asks c Heard.opens)) = false
closes_by k (Mark.answer true (Question.asks c (Heard.writes p))) = false
closes_by k (Mark.answer true (Question.asks c (Heard.writes_last p))) = is_for k c
closes_by k (Mark.answer true (Question.asks c Heard.commits)) = false
closes_by k (Mark.answer true (Question.asks c Heard.requests)) = false
closes_by k (Mark.wrote p bs) = false

abbrev pub closed_in : Key → List Mark → Bool
closed_in k [] = false
closed_in k (x ∷ m) = closes_by k x || closed_in k m

abbrev pub name_in : List Value → List ℕ
name_in c = bytes_in (get_or c 11 Value.outside)

-- ---- a file that arrived: its start was by a file command with its name and size, since then its parts that were answered done are its
-- contents, the last one with them; and the sender has it closed, with their length
pub record Arrived (id : List ℕ) (f : File) (m : List Mark) (t : Transfer) : Type 0 where
  pub stretch : Stretch
  pub started : since (record { id = id; file = f.id }) m ≡ Some stretch
  pub name : name_in stretch.command ≡ f.name
  pub size : size_of stretch.command ≡ count f.size
  pub whole : parts (record { id = id; file = f.id }) stretch.marks ≡ contents_of f
  pub closed : closed_in (record { id = id; file = f.id }) stretch.marks ≡ true
  pub place : ℕ
  pub found : find_file t f.id ≡ Some place
  pub stage : (file_at t place).stage ≡ FileStage.Closed
  pub sent : (file_at t place).sent ≡ length (contents_of f)

abbrev pub AllArrived : (id : List ℕ) → List File → List Mark → Transfer → Type 0
AllArrived id [] m t = Unit {0}
AllArrived id (f ∷ fs) m t = Arrived id f m t × AllArrived id fs m t

-- the newest mark: a commit for the session was answered done
pub record Committed (id : List ℕ) (m : List Mark) : Type 0 where
  pub command : List Value
  pub before : List Mark
  pub newest : m ≡ Mark.answer true (Question.asks command Heard.commits) ∷ before
  pub session : id_of command ≡ id

pub record Whole (p : Plan) (e : Exchange) : Type 0 where
  pub files : AllArrived p.id p.files (marks_of e.world.history) e.sender.transfer
  -- nothing else arrives: the commands read are those of the plan, in its order
  pub nothing_else : read_in (marks_of e.world.history) ≡ commands_of p
  pub committed : Committed p.id (marks_of e.world.history)
  pub freed : e.world.receiver ≡ fresh_receiver

-- ---- what holds of every exchange
-- a write that cannot be made: a short buffer, or not yet
abbrev pub is_wait : ℕ → Bool
is_wait n = eqb n 9 || eqb n 18

-- nothing is stopped, refused or found to differ; 9 is a short buffer's
abbrev pub is_fine : News → Bool
is_fine News.Nothing = true
is_fine (News.Refused n) = eqb n 9
is_fine News.Ignored = false
is_fine News.Noted = true
is_fine News.Allowed = true
is_fine (News.Differs i z) = false
is_fine (News.FileStopped i p) = false
is_fine (News.SessionStopped p) = false

-- at every exchange that turns reach, in whatever order they come; and from each of them, with carries that have room, some turns bring it
-- to rest: no order of turns blocks it
pub record Right (m : Machine) (p : Plan) (heard carry : List ℕ) (e : Exchange) : Type 0 where
  pub refusals : every is_wait e.refusals ≡ true
  pub news : every is_fine e.news ≡ true
  pub whole : AtRest e → Whole p e
  pub goes_on : text_limit ≤ length heard → text_limit ≤ length carry → (ts : List Turn) × AtRest (after m e ts)

abbrev pub Arrives : Machine → Type 0
Arrives m = (p : Plan) → Fit p → (heard carry : List ℕ) (ts : List Turn) → Right m p heard carry (after m (begin p heard carry) ts)
