-- "Reports are the same however the bytes are cut": places apart, given the same calls that write after as many reports.
use Rattle.std.specs.Prelude.{ℕ, ◌≡◌, Bool, true, false, cond, List, [], ◌∷◌, ◌++◌, map, length, take, ltb, Result, Ok, Err}
use Rattle.octets.specs.Outcome.{Outcome}
use Rattle.frames.specs.Calls.{text_of}
use Rattle.command.specs.Framed.{frame_room}
use Rattle.protocol.specs.Cuts.{is_report, calls_among}
use Rattle.sending.specs.Calls.{Listening}
use Rattle.sending.specs.Machine.{Machine}
use Rattle.sending.specs.Sayings.{Saying, saying}
use Rattle.sending.specs.Story.{Call, World, step, start, bytes_of}
use Rattle.sending.specs.Every.{AllLent}
use Rattle.sending.specs.declared.Wrote.{Wrote}

-- ---- what a call gives, places apart
-- a report of a hear, or a call that writes
pub data Move : Type 0 where
  report : Move
  send : (id : List ℕ) → Move
  file : (id name : List ℕ) (size : ℕ) → Move
  piece : (contents : List ℕ) (last : Bool) → Move
  finish : Move

abbrev pub is_report_move : Move → Bool
is_report_move Move.report = true
is_report_move (Move.send id) = false
is_report_move (Move.file id name size) = false
is_report_move (Move.piece contents last) = false
is_report_move Move.finish = false

-- what it gives: what is told, and the reported text or the frame that was written
pub record Output : Type 0 where
  pub move : Move
  pub said : Saying
  pub text : List ℕ

abbrev pub output : Move → Saying → List ℕ → Output
output m said text = record { move = m; said = said; text = text }

-- the answer of a call that writes: a refusal by its number, or the frame at the buffer's start
abbrev pub answered : Result ℕ ℕ → Saying
answered (Err n) = Saying.refused n
answered (Ok n) = Saying.written

abbrev pub frame_in : Result ℕ ℕ → List ℕ → List ℕ
frame_in (Err n) out = []
frame_in (Ok n) out = take n out

abbrev pub answering : Move → Wrote → List ℕ → Output
answering m a out = output m (answered a.writing) (frame_in a.writing out)

-- ---- call by call
-- of a hear of these bytes: its report; none where there is nothing to report, as of a hear refused with 9
abbrev pub report_of : List ℕ → Listening → List Output
report_of bytes l =
    let report = l.listened.report in
    cond (is_report report) (output Move.report (saying l.listened.news l.scratch) (text_of bytes l.carry report) ∷ []) []

-- of a call that writes and was lent that buffer: its answer; none where the buffer has under 8,196 bytes
abbrev pub answer_of : Move → List ℕ → Outcome Wrote → List Output
answer_of m lent o = cond (ltb (length lent) frame_room) [] (answering m o.answer o.buffer ∷ [])

abbrev pub given : Machine → World → Call → List Output
given m w (Call.send id out) = answer_of (Move.send id) out (m.sends w.sender id out)
given m w (Call.file id name size out) = answer_of (Move.file id name size) out (m.files w.sender id name size out)
given m w (Call.piece contents last out) = answer_of (Move.piece contents last) out (m.pieces w.sender contents last out)
given m w (Call.finish out) = answer_of Move.finish out (m.finishes w.sender out)
given m w (Call.hear bytes carry scratch) = report_of bytes (m.hears w.sender bytes carry scratch)

-- ---- a list of calls
abbrev pub all_given : Machine → World → List Call → List Output
all_given m w [] = []
all_given m w (c ∷ cs) = given m w c ++ all_given m (step m w c) cs

abbrev pub after : Machine → World → List Call → World
after m w [] = w
after m w (c ∷ cs) = after m (step m w c) cs

-- the calls that write, each with the number of reports before it
abbrev pub writing_calls : List Output → List (ℕ × Move)
writing_calls os = calls_among is_report_move 0 (map (λ (o : Output). o.move) os)

-- two lists of calls, from a fresh sender and any first carry each, that consume the same bytes, and in which the same calls write after as
-- many reports: they give the same, reports, frames and refusals, and leave the same sender
abbrev pub SenderCutsAlike : Machine → Type 0
SenderCutsAlike m = (carry₁ carry₂ : List ℕ) (cs₁ cs₂ : List Call) → AllLent m (start carry₁) cs₁ → AllLent m (start carry₂) cs₂
    → bytes_of (after m (start carry₁) cs₁).story ≡ bytes_of (after m (start carry₂) cs₂).story
    → writing_calls (all_given m (start carry₁) cs₁) ≡ writing_calls (all_given m (start carry₂) cs₂)
    → (all_given m (start carry₁) cs₁ ≡ all_given m (start carry₂) cs₂)
    × ((after m (start carry₁) cs₁).sender ≡ (after m (start carry₂) cs₂).sender)
