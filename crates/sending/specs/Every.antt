-- What holds of a machine at each call of every list of calls on a fresh sender.
use Rattle.std.specs.Prelude.{ℕ, ◌≤◌, ◌<◌, min, ◌≡◌, Bool, true, false, cond, ◌||◌, List, [], ◌∷◌, length, take, ltb, Result, Ok, Err}
use Rattle.octets.specs.Outcome.{Outcome, outcome}
use Rattle.frames.specs.Stream.{Told, text_limit, stream, framed}
use Rattle.frames.specs.Calls.{text_of}
use Rattle.frames.specs.Follows.{told_of}
use Rattle.frames.specs.declared.Report.TheVariants as Report
use Rattle.command.specs.Values.{Value}
use Rattle.command.specs.Meaning.{Meaning, meaning_of}
use Rattle.command.specs.Read.{scratch_room}
use Rattle.command.specs.Write.{Answer}
use Rattle.command.specs.Framed.{frame_room, framed_of}
use Rattle.protocol.specs.Written.{piece_values}
use Rattle.protocol.specs.Files.{part_limit}
use Rattle.sending.specs.Transfers.{file_at, sent_limit}
use Rattle.sending.specs.Commands.{send_values, file_values, finish_values}
use Rattle.sending.specs.Calls.{Listening, listening, unheard}
use Rattle.sending.specs.Machine.{Machine}
use Rattle.sending.specs.Sayings.{Saying, saying}
use Rattle.sending.specs.Story.{Call, World, Mark, is_unheard, marks_of, mode_after, step, Lent, start}
use Rattle.sending.specs.Telling.{session_in, pending_in, or_empty, is_unsent, idle_in, busy_in, taken_in, told_saying}
use Rattle.sending.specs.Telling.{files_in, equals_some, is_among, place_among, sum_in, file_stopped_in, agreed_in}
use Rattle.sending.specs.declared.FileStage.{FileStage}
use Rattle.sending.specs.declared.SentFile.{SentFile}
use Rattle.sending.specs.declared.Sender.{Sender}
use Rattle.sending.specs.declared.Wrote.{Wrote}

-- ---- a call that writes
-- "A buffer under 8,196 bytes gives 9, then .. 17, then an unready call .. 18, then the writer's refusals, nothing changed"
abbrev pub answer_in : (over ready : Bool) → List Value → (out : List ℕ) → Outcome Answer
answer_in over ready c out =
    cond (ltb (length out) frame_room) (outcome (Answer.refused 9) out)
    (cond over (outcome (Answer.refused 17) out)
    (cond ready (framed_of c out) (outcome (Answer.refused 18) out)))

-- what a call answered, in the writer's words
abbrev pub answer_by : Result ℕ ℕ → Answer
answer_by (Err n) = Answer.refused n
answer_by (Ok n) = Answer.written n

-- one frame, whose text reads as the command with these values
pub record Frame (c : List Value) (bs : List ℕ) : Type 0 where
  pub text : List ℕ
  pub framing : bs ≡ framed text
  pub means : meaning_of text ≡ Meaning.command c

-- the answer to a call on the sender s that is to write the command c into a buffer
pub record Answers (s : Sender) (over ready : Bool) (c : List Value) (out : List ℕ) (o : Outcome Wrote) : Type 0 where
  pub answer : outcome (answer_by o.answer.writing) o.buffer ≡ answer_in over ready c out
  pub kept : (n : ℕ) → o.answer.writing ≡ Err n → o.answer.sender ≡ s
  pub reads : (n : ℕ) → o.answer.writing ≡ Ok n → Frame c (take n o.buffer)

-- ---- a hear
-- what the bytes tell, after all that was heard before
abbrev pub told_after : World → List ℕ → List Told
told_after w bs = (stream (mode_after w.story) bs).0

-- what is to be told: of the first thing that they tell, if they tell one
abbrev pub saying_of : List Mark → List Told → Saying
saying_of m [] = Saying.nothing
saying_of m (d ∷ ds) = told_saying m d

-- "9: carry under 8,192, scratch under 6,144, nothing consumed"; else some of a piece that has bytes is consumed, "through the first
-- command text that ends": what is reported, with its text, is all that the bytes consumed tell, and no fewer of them tell anything;
-- where nothing is reported, all are consumed
pub record Heard (w : World) (bytes carry scratch : List ℕ) (l : Listening) : Type 0 where
  pub short : is_unheard l.listened.news ≡ (ltb (length carry) text_limit || ltb (length scratch) scratch_room)
  pub refused : is_unheard l.listened.news ≡ true → l ≡ listening (unheard w.sender 9) carry scratch
  pub progress : is_unheard l.listened.news ≡ false → 1 ≤ length bytes → 1 ≤ l.listened.consumed
  pub through : is_unheard l.listened.news ≡ false → l.listened.report ≡ Report.Nothing → l.listened.consumed ≡ length bytes
  pub ends : (k : ℕ) → k < l.listened.consumed → told_after w (take k bytes) ≡ []
  pub reports : is_unheard l.listened.news ≡ false
      → told_of l.listened.report (text_of bytes l.carry l.listened.report) ≡ told_after w (take l.listened.consumed bytes)
  pub tells : is_unheard l.listened.news ≡ false
      → saying l.listened.news l.scratch ≡ saying_of (marks_of w.story) (told_after w (take l.listened.consumed bytes))

-- ---- a call: what is over, what is ready, which ids are written and what is told, all told from the story
abbrev pub Right : Machine → World → Call → Type 0
Right m w (Call.send id out) =
    let k = marks_of w.story in
    Answers w.sender false (is_unsent (session_in k)) (send_values id) out (m.sends w.sender id out)
Right m w (Call.file id name size out) =
    let k = marks_of w.story in
    Answers w.sender (taken_in id k) (idle_in k) (file_values (or_empty (session_in k)) id name size) out
    (m.files w.sender id name size out)
Right m w (Call.piece contents last out) =
    let k = marks_of w.story in
    Answers w.sender (ltb part_limit (length contents)) (busy_in k)
    (piece_values (or_empty (session_in k)) (or_empty (pending_in k)) contents last) out (m.pieces w.sender contents last out)
Right m w (Call.finish out) =
    let k = marks_of w.story in
    Answers w.sender false (idle_in k) (finish_values (or_empty (session_in k))) out (m.finishes w.sender out)
Right m w (Call.hear bytes carry scratch) = Heard w bytes carry scratch (m.hears w.sender bytes carry scratch)

-- ---- what a caller reads of a file whose file command is written
-- a status stops it for good, also a closed one; else "an OK that agrees after the last piece" closes it, and nothing else does
abbrev pub stage_by : (stopped agreed pending : Bool) → FileStage
stage_by stopped agreed pending =
    cond stopped FileStage.Stopped (cond agreed FileStage.Closed (cond pending FileStage.Sending FileStage.Sent))

abbrev pub stage_in : List ℕ → List Mark → FileStage
stage_in k m = stage_by (file_stopped_in k m) (agreed_in k m) (equals_some k (pending_in m))

-- the stage of the file with the id k, and how many bytes of it were sent: the count stays at 2^64 - 1
pub record Shown (m : List Mark) (k : List ℕ) (f : SentFile) : Type 0 where
  pub stage : f.stage ≡ stage_in k m
  pub sent : f.sent ≡ min (sum_in k m) sent_limit

-- each at its place
abbrev pub AllShown : World → Type 0
AllShown w =
    let m = marks_of w.story in
    (k : List ℕ) → is_among k (files_in m) ≡ true → Shown m k (file_at w.sender.transfer (place_among k (files_in m)))

-- ---- every list of calls, refused ones included
abbrev pub AllLent : Machine → World → List Call → Type 0
AllLent m w [] = Unit {0}
AllLent m w (c ∷ cs) = Lent m w c × AllLent m (step m w c) cs

-- each call is right, and before and after each the records show what the story says
abbrev pub AllRight : Machine → World → List Call → Type 0
AllRight m w [] = AllShown w
AllRight m w (c ∷ cs) = AllShown w × Right m w c × AllRight m (step m w c) cs

-- the claim
abbrev pub EverySender : Machine → Type 0
EverySender m = (carry : List ℕ) (calls : List Call) → AllLent m (start carry) calls → AllRight m (start carry) calls
