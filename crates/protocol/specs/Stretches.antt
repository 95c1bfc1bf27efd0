-- A file in the history: what was read, handed over and answered for it since its latest start, and whether its session stands.
use Rattle.std.specs.Prelude.{ℕ, ◌≡◌, Bool, true, false, not, cond, ◌&&◌, ◌||◌, List, [], ◌∷◌, ◌++◌, eqb, Option, Some, None}
use Rattle.octets.specs.Slices.{equals}
use Rattle.command.specs.Meaning.{action_code, file_type_code, id_of, file_id_of, size_of, data_of}
use Rattle.protocol.specs.Lengths.{length_by}
use Rattle.protocol.specs.History.{Command, Heard, Mark, Question, last_read, commands_in}

-- ---- a file: a session's id and its own
pub record Key : Type 0 where
  pub id : List ℕ
  pub file : List ℕ

abbrev pub is_for : Key → Command → Bool
is_for k c = equals k.id (id_of c) && equals k.file (file_id_of c)

-- codes of the words, as `command`'s table counts them: "file", "data", "end_data", "finish", "cancel"; "regular", "directory"
abbrev pub is_data : Command → Bool
is_data c = eqb (action_code c) 4 || eqb (action_code c) 5

abbrev pub is_file : Command → Bool
is_file c = eqb (action_code c) 3

abbrev pub is_end : Command → Bool
is_end c = eqb (action_code c) 6 || eqb (action_code c) 7

abbrev pub is_regular : Command → Bool
is_regular c = eqb (file_type_code c) 0

abbrev pub is_directory : Command → Bool
is_directory c = eqb (file_type_code c) 1

-- "A regular file starts when the open for its file command is answered done"
abbrev pub starts_for : Key → Question → Bool
starts_for k Question.none = false
starts_for k (Question.asks c Heard.opens) = is_file c && (is_regular c && is_for k c)
starts_for k (Question.asks c (Heard.writes p)) = false
starts_for k (Question.asks c (Heard.writes_last p)) = false
starts_for k (Question.asks c Heard.commits) = false
starts_for k (Question.asks c Heard.requests) = false

-- the part that an ask hands over for the file
abbrev pub part_for : Key → Question → List ℕ
part_for k Question.none = []
part_for k (Question.asks c Heard.opens) = []
part_for k (Question.asks c (Heard.writes p)) = cond (is_for k c) p []
part_for k (Question.asks c (Heard.writes_last p)) = cond (is_for k c) p []
part_for k (Question.asks c Heard.commits) = []
part_for k (Question.asks c Heard.requests) = []

-- "Content is the decoded d" of a data or end_data command read for the file
abbrev pub content_for : Key → Command → List ℕ
content_for k c = cond (is_data c && is_for k c) (data_of c) []

-- the length that a file command declares
abbrev pub declared_in : Command → ℕ
declared_in c = length_by (size_of c)

-- ---- "since its latest start"
-- the command that started a file, and the marks since, newest first
pub record Stretch : Type 0 where
  pub command : Command
  pub marks : List Mark

-- the command of the file's start, if the mark is one
abbrev pub start_at : Key → Mark → Option Command
start_at k (Mark.read c) = None
start_at k (Mark.asked a) = None
start_at k (Mark.allow i) = None
start_at k (Mark.drop i) = None
start_at k (Mark.answer false q) = None
start_at k (Mark.answer true Question.none) = None
start_at k (Mark.answer true (Question.asks c a)) = cond (starts_for k (Question.asks c a)) (Some c) None
start_at k (Mark.wrote p bs) = None

-- one mark more
abbrev pub longer : Mark → Stretch → Stretch
longer x s = record { command = s.command; marks = x ∷ s.marks }

abbrev pub onward : Mark → Option Stretch → Option Stretch
onward x None = None
onward x (Some s) = Some (longer x s)

-- a start begins anew
abbrev pub start_or : Option Command → Option Stretch → Option Stretch
start_or None s = s
start_or (Some c) s = Some (record { command = c; marks = [] })

abbrev pub since : Key → List Mark → Option Stretch
since k [] = None
since k (x ∷ m) = start_or (start_at k x) (onward x (since k m))

-- "the parts handed over for it and answered done, joined"
abbrev pub parts : Key → List Mark → List ℕ
parts k [] = []
parts k (Mark.read c ∷ l) = parts k l
parts k (Mark.asked a ∷ l) = parts k l
parts k (Mark.allow i ∷ l) = parts k l
parts k (Mark.drop i ∷ l) = parts k l
parts k (Mark.answer false q ∷ l) = parts k l
parts k (Mark.answer true q ∷ l) = parts k l ++ part_for k q
parts k (Mark.wrote p bs ∷ l) = parts k l

-- "the contents of the data and end_data commands read for it, joined", ignored ones too
abbrev pub contents : Key → List Mark → List ℕ
contents k [] = []
contents k (Mark.read c ∷ l) = contents k l ++ content_for k c
contents k (Mark.asked a ∷ l) = contents k l
contents k (Mark.allow i ∷ l) = contents k l
contents k (Mark.drop i ∷ l) = contents k l
contents k (Mark.answer b q ∷ l) = contents k l
contents k (Mark.wrote p bs ∷ l) = contents k l

-- "A session is allowed by a noted allow"
abbrev pub allows : List ℕ → Mark → Bool
allows i (Mark.read c) = false
allows i (Mark.asked a) = false
allows i (Mark.allow j) = equals i j
allows i (Mark.drop j) = false
allows i (Mark.answer b q) = false
allows i (Mark.wrote p bs) = false

abbrev pub allowed_in : List ℕ → List Mark → Bool
allowed_in i [] = false
allowed_in i (x ∷ l) = allows i x || allowed_in i l

-- a regular start of the file stands: its session was not allowed anew since
abbrev pub start_stands : Key → Option Stretch → Bool
start_stands k None = false
start_stands k (Some s) = not (allowed_in k.id s.marks)

-- "A session is allowed by a noted allow and stands until a noted drop, or until a cancel or finish is read for it"
abbrev pub stands : List ℕ → List Mark → Bool
stands i [] = false
stands i (Mark.read c ∷ m) = cond (is_end c && equals i (id_of c)) false (stands i m)
stands i (Mark.asked a ∷ m) = stands i m
stands i (Mark.allow j ∷ m) = cond (equals i j) true (stands i m)
stands i (Mark.drop j ∷ m) = cond (equals i j) false (stands i m)
stands i (Mark.answer b q ∷ m) = stands i m
stands i (Mark.wrote p bs ∷ m) = stands i m

-- "No part is handed over outside a session that the user allowed and that still stands": at an ask, and at every one so far. Nor is a
-- file asked for, or anything written to the office, outside one.
abbrev pub StandsFor : Option Command → Heard → List Mark → Type 0
StandsFor None a m = ⊥
StandsFor (Some c) Heard.opens m = Unit {0}
StandsFor (Some c) (Heard.writes p) m = stands (id_of c) m ≡ true
StandsFor (Some c) (Heard.writes_last p) m = stands (id_of c) m ≡ true
StandsFor (Some c) Heard.commits m = Unit {0}
StandsFor (Some c) Heard.requests m = stands (id_of c) m ≡ true

-- of each command that was written
abbrev pub EachStands : List Command → List Mark → Type 0
EachStands [] m = Unit {0}
EachStands (c ∷ cs) m = (stands (id_of c) m ≡ true) × EachStands cs m

abbrev pub AllStand : List Mark → Type 0
AllStand [] = Unit {0}
AllStand (Mark.read c ∷ m) = AllStand m
AllStand (Mark.asked a ∷ m) = StandsFor (last_read m) a m × AllStand m
AllStand (Mark.allow i ∷ m) = AllStand m
AllStand (Mark.drop i ∷ m) = AllStand m
AllStand (Mark.answer b q ∷ m) = AllStand m
AllStand (Mark.wrote p bs ∷ m) = EachStands (commands_in bs) m × AllStand m
