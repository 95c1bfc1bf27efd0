-- The story of a sender: its calls one after another, made from the calls' arguments and answers, never from records. Newest first.
use Rattle.std.specs.Prelude.{ℕ, ◌≡◌, Bool, false, cond, List, [], ◌∷◌, ◌++◌, take, eqb, Result, Ok, Err}
use Rattle.frames.specs.Stream.{Mode, stream}
use Rattle.command.specs.Values.{Value}
use Rattle.protocol.specs.Readings.{told_marks}
use Rattle.sending.specs.Transfers.{fresh_sender}
use Rattle.sending.specs.Calls.{Listening}
use Rattle.sending.specs.Machine.{Machine}
use Rattle.sending.specs.declared.Sender.{Sender}
use Rattle.sending.specs.declared.Wrote.{Wrote}
use Rattle.sending.specs.declared.News.{News}

-- a call, with what it is lent
pub data Call : Type 0 where
  send : (id out : List ℕ) → Call
  file : (id name : List ℕ) (size : ℕ) (out : List ℕ) → Call
  piece : (contents : List ℕ) (last : Bool) (out : List ℕ) → Call
  finish : (out : List ℕ) → Call
  hear : (bytes carry scratch : List ℕ) → Call

-- what a call adds: a command that it wrote, or the bytes that it consumed
pub data Event : Type 0 where
  sent : List ℕ → Event
  filed : List ℕ → Event
  pieced : List ℕ → (last : Bool) → Event
  finished : Event
  heard : List ℕ → Event

-- the sender, the carry as the last hear not refused with 9 left it, and the story so far
pub record World : Type 0 where
  pub sender : Sender
  pub carry : List ℕ
  pub story : List Event

-- ---- one call after another
-- a refused call adds nothing
abbrev pub noted : Result ℕ ℕ → Event → List Event → List Event
noted (Err n) e h = h
noted (Ok n) e h = e ∷ h

abbrev pub after_writing : World → Event → Wrote → World
after_writing w e a = record { sender = a.sender; carry = w.carry; story = noted a.writing e w.story }

-- a hear refused with 9: "nothing consumed, all memory as before"
abbrev pub is_unheard : News → Bool
is_unheard News.Nothing = false
is_unheard (News.Refused n) = eqb n 9
is_unheard News.Ignored = false
is_unheard News.Noted = false
is_unheard News.Allowed = false
is_unheard (News.Differs i z) = false
is_unheard (News.FileStopped i p) = false
is_unheard (News.SessionStopped p) = false

abbrev pub after_hearing : World → List ℕ → Listening → World
after_hearing w bytes l =
    record {
      sender = l.listened.sender;
      carry = cond (is_unheard l.listened.news) w.carry l.carry;
      story = Event.heard (take l.listened.consumed bytes) ∷ w.story;
    }

abbrev pub step : Machine → World → Call → World
step m w (Call.send id out) = after_writing w (Event.sent id) (m.sends w.sender id out).answer
step m w (Call.file id name size out) = after_writing w (Event.filed id) (m.files w.sender id name size out).answer
step m w (Call.piece contents last out) = after_writing w (Event.pieced contents last) (m.pieces w.sender contents last out).answer
step m w (Call.finish out) = after_writing w Event.finished (m.finishes w.sender out).answer
step m w (Call.hear bytes carry scratch) = after_hearing w bytes (m.hears w.sender bytes carry scratch)

-- "each hear not refused with 9 lent the carry that the last such one left"
abbrev pub Lent : Machine → World → Call → Type 0
Lent m w (Call.send id out) = Unit {0}
Lent m w (Call.file id name size out) = Unit {0}
Lent m w (Call.piece contents last out) = Unit {0}
Lent m w (Call.finish out) = Unit {0}
Lent m w (Call.hear bytes carry scratch) =
    is_unheard (m.hears w.sender bytes carry scratch).listened.news ≡ false → carry ≡ w.carry

-- "on a fresh sender", the first carry any
abbrev pub start : List ℕ → World
start carry = record { sender = fresh_sender; carry = carry; story = [] }

-- ---- the story with the commands that were read
abbrev pub bytes_of : List Event → List ℕ
bytes_of [] = []
bytes_of (Event.sent id ∷ h) = bytes_of h
bytes_of (Event.filed id ∷ h) = bytes_of h
bytes_of (Event.pieced b last ∷ h) = bytes_of h
bytes_of (Event.finished ∷ h) = bytes_of h
bytes_of (Event.heard bs ∷ h) = bytes_of h ++ bs

abbrev pub mode_after : List Event → Mode
mode_after h = (stream Mode.outside (bytes_of h)).1

pub data Mark : Type 0 where
  sent : List ℕ → Mark
  filed : List ℕ → Mark
  pieced : List ℕ → (last : Bool) → Mark
  finished : Mark
  read : List Value → Mark

unfoldable pub marks_of : List Event → List Mark
marks_of [] = []
marks_of (Event.sent id ∷ h) = Mark.sent id ∷ marks_of h
marks_of (Event.filed id ∷ h) = Mark.filed id ∷ marks_of h
marks_of (Event.pieced b last ∷ h) = Mark.pieced b last ∷ marks_of h
marks_of (Event.finished ∷ h) = Mark.finished ∷ marks_of h
marks_of (Event.heard bs ∷ h) = told_marks Mark.read (stream (mode_after h) bs).0 (marks_of h)
