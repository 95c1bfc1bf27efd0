-- The history of calls, "made from the calls' arguments and answers, never from records". Newest first.
use Rattle.std.specs.Prelude.{ℕ, Bool, List, [], ◌∷◌, ◌++◌, Option, Some, None}
use Rattle.octets.specs.Slices.{part_of}
use Rattle.frames.specs.Stream.{Mode, stream}
use Rattle.frames.specs.Stream as Stream
use Rattle.command.specs.Values.{Value}
use Rattle.command.specs.Meaning.{Meaning}
use Rattle.protocol.specs.Readings as Readings
use Rattle.protocol.specs.declared.Ask.{Ask}
use Rattle.protocol.specs.declared.Told.{Told}

-- a command as read: its values, places apart
abbrev pub Command : Type 0
Command = List Value

-- ---- what a call adds
-- an ask as the console hears it: "A write asked hands over its part: the scratch bytes it names, as the feed returns."
pub data Heard : Type 0 where
  opens : Heard
  writes : List ℕ → Heard
  writes_last : List ℕ → Heard
  commits : Heard
  requests : Heard

abbrev pub heard_ask : Ask → List ℕ → Heard
heard_ask Ask.Open scratch = Heard.opens
heard_ask (Ask.Write p) scratch = Heard.writes (part_of scratch p.start p.len)
heard_ask (Ask.WriteLast p) scratch = Heard.writes_last (part_of scratch p.start p.len)
heard_ask Ask.Commit scratch = Heard.commits
heard_ask Ask.Request scratch = Heard.requests

-- the ask that is told, if one is
abbrev pub hearing : Told → List ℕ → Option Heard
hearing Told.Nothing scratch = None
hearing (Told.Refused n) scratch = None
hearing Told.Ignored scratch = None
hearing Told.DragDrop scratch = None
hearing Told.Asked scratch = None
hearing Told.Naming scratch = None
hearing Told.Path scratch = None
hearing Told.LastPath scratch = None
hearing (Told.Ask a) scratch = Some (heard_ask a scratch)
hearing (Told.Status w) scratch = None
hearing Told.Withdrawn scratch = None
hearing Told.Discarded scratch = None
hearing Told.Committed scratch = None

-- a part that the console supplies, the last one or not
pub record Part : Type 0 where
  pub last : Bool
  pub bytes : List ℕ

-- "A feed adds the bytes it consumed"; "Allow and drop are noted with the id; done and failed answer the ask told last", as unlisted does.
-- A call that supplies something adds the bytes that it wrote, and the part that was supplied, "without those refused".
pub data Event : Type 0 where
  fed : List ℕ → Option Heard → Event
  allowed : List ℕ → Event
  dropped : List ℕ → Event
  answered : Bool → Event
  wrote : Option Part → List ℕ → Event

-- all bytes so far, oldest first
abbrev pub bytes_of : List Event → List ℕ
bytes_of [] = []
bytes_of (Event.fed bs t ∷ h) = bytes_of h ++ bs
bytes_of (Event.allowed k ∷ h) = bytes_of h
bytes_of (Event.dropped k ∷ h) = bytes_of h
bytes_of (Event.answered b ∷ h) = bytes_of h
bytes_of (Event.wrote p bs ∷ h) = bytes_of h

-- ---- the history with the commands that were read
-- an ask with the command that it was told for
pub data Question : Type 0 where
  none : Question
  asks : Command → Heard → Question

pub data Mark : Type 0 where
  read : Command → Mark
  asked : Heard → Mark
  allow : List ℕ → Mark
  drop : List ℕ → Mark
  -- with the ask told last, which it answers
  answer : Bool → Question → Mark
  wrote : Option Part → List ℕ → Mark

abbrev pub read_mark : Meaning → List Mark → List Mark
read_mark = Readings.read_mark Mark.read

abbrev pub told_marks : List Stream.Told → List Mark → List Mark
told_marks = Readings.told_marks Mark.read

-- the commands that read without refusal in bytes by themselves, oldest first
abbrev pub read_in : List Stream.Told → List Command
read_in [] = []
read_in (d ∷ ds) = Readings.told_mark (λ (c : Command). c) d (read_in ds)

abbrev pub commands_in : List ℕ → List Command
commands_in bs = read_in (stream Mode.outside bs).0

-- "An ask then told is for its id and fid"
abbrev pub hearing_mark : Option Heard → List Mark → List Mark
hearing_mark None m = m
hearing_mark (Some a) m = Mark.asked a ∷ m

-- ---- the ask told last, with the command that it was told for
abbrev pub last_read : List Mark → Option Command
last_read [] = None
last_read (Mark.read c ∷ m) = Some c
last_read (Mark.asked a ∷ m) = last_read m
last_read (Mark.allow k ∷ m) = last_read m
last_read (Mark.drop k ∷ m) = last_read m
last_read (Mark.answer b q ∷ m) = last_read m
last_read (Mark.wrote p bs ∷ m) = last_read m

abbrev pub ask_for : Option Command → Heard → Question
ask_for None a = Question.none
ask_for (Some c) a = Question.asks c a

abbrev pub last_ask : List Mark → Question
last_ask [] = Question.none
last_ask (Mark.read c ∷ m) = last_ask m
last_ask (Mark.asked a ∷ m) = ask_for (last_read m) a
last_ask (Mark.allow k ∷ m) = last_ask m
last_ask (Mark.drop k ∷ m) = last_ask m
last_ask (Mark.answer b q ∷ m) = last_ask m
last_ask (Mark.wrote p bs ∷ m) = last_ask m

-- "A command is read when its closer is added and its text, as the rules above find it in all bytes so far, reads without refusal"
abbrev pub mode_after : List Event → Mode
mode_after h = (stream Mode.outside (bytes_of h)).1

unfoldable pub marks_of : List Event → List Mark
marks_of [] = []
marks_of (Event.fed bs t ∷ h) = hearing_mark t (told_marks (stream (mode_after h) bs).0 (marks_of h))
marks_of (Event.allowed k ∷ h) = Mark.allow k ∷ marks_of h
marks_of (Event.dropped k ∷ h) = Mark.drop k ∷ marks_of h
marks_of (Event.answered b ∷ h) = Mark.answer b (last_ask (marks_of h)) ∷ marks_of h
marks_of (Event.wrote p bs ∷ h) = Mark.wrote p bs ∷ marks_of h
