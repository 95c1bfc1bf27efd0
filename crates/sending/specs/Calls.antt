-- The calls: for any sender and any lent buffers, the answer and every buffer afterwards.
use Rattle.std.specs.Prelude.{ℕ, Bool, true, false, not, cond, ◌&&◌, ◌||◌, List, length, ltb, leb, Option, Some, None, Ok, Err}
use Rattle.octets.specs.Members.{every}
use Rattle.octets.specs.Outcome.{Outcome, outcome}
use Rattle.frames.specs.Stream.{is_drag_drop, text_limit}
use Rattle.frames.specs.Calls.{refusal_number, scan_of, text_of}
use Rattle.frames.specs.declared.Report.{Report}
use Rattle.frames.specs.declared.Scanned.{Scanned}
use Rattle.command.specs.Letters.{safe_byte}
use Rattle.command.specs.Refusals as Refusals
use Rattle.command.specs.Values.{Value}
use Rattle.command.specs.Read as Read
use Rattle.command.specs.Read.{scratch_room, read_of}
use Rattle.command.specs.Write.{Answer}
use Rattle.command.specs.Framed.{frame_room, framed_of}
use Rattle.command.specs.declared.Refusal.TheVariants as Refusal
use Rattle.protocol.specs.Table.{file_room, id_room}
use Rattle.protocol.specs.Written.{piece_values}
use Rattle.protocol.specs.Files.{part_limit}
use Rattle.sending.specs.Transfers.{current_file, id_of, file_id_of, find_file, is_fresh}
use Rattle.sending.specs.Transfers.{is_open, is_sending, with_stage, asked, begun, added}
use Rattle.sending.specs.Commands.{send_values, file_values, finish_values}
use Rattle.sending.specs.Heeding.{heeded, heed_of}
use Rattle.sending.specs.declared.Stage.TheVariants as Stage
use Rattle.sending.specs.declared.Transfer.{Transfer}
use Rattle.sending.specs.declared.Sender.{Sender}
use Rattle.sending.specs.declared.Wrote.{Wrote}
use Rattle.sending.specs.declared.News.{News}
use Rattle.sending.specs.declared.Listened.{Listened}
use Rattle.sending.specs.declared.Heeded.{Heeded}

-- ---- the calls that write
abbrev pub with_transfer : Sender → Transfer → Sender
with_transfer s t = record { framing = s.framing; transfer = t }

-- a refusal: "nothing changed"
abbrev pub unwritten : Sender → ℕ → Wrote
unwritten s n = record { sender = s; writing = Err n }

-- what the writer answers: a frame was written and the session goes on, or nothing is changed
abbrev pub wrote_by : Sender → Transfer → Answer → Wrote
wrote_by s t (Answer.written n) = record { sender = with_transfer s t; writing = Ok n }
wrote_by s t (Answer.refused n) = unwritten s n

-- a command in its frame, and the session after it
unfoldable pub writes : Sender → Transfer → List Value → List ℕ → Outcome Wrote
writes s t c out = let o = framed_of c out in outcome (wrote_by s t o.answer) o.buffer

-- "A buffer under 8,196 bytes gives 9, then .. 17, then an unready call .. 18, then the writer's refusals, nothing changed"
unfoldable pub guarded : Sender → (over ready : Bool) (out : List ℕ) → Outcome Wrote → Outcome Wrote
guarded s over ready out o =
    cond (ltb (length out) frame_room) (outcome (unwritten s 9) out)
    (cond over (outcome (unwritten s 17) out)
    (cond ready o (outcome (unwritten s 18) out)))

-- send is the first that is written
unfoldable pub send_of : Sender → (id out : List ℕ) → Outcome Wrote
send_of s id out =
    let t = s.transfer in
    guarded s false (is_fresh t.stage) out (writes s (asked t id) (send_values id) out)

-- "before OK, out of that order, or for what is stopped": a file and finish are ready in an open session where no file is being sent,
-- a piece where one is
abbrev pub is_idle : Transfer → Bool
is_idle t = is_open t.stage && not (is_sending (current_file t).stage)

abbrev pub is_busy : Transfer → Bool
is_busy t = is_open t.stage && is_sending (current_file t).stage

abbrev pub is_found : Option ℕ → Bool
is_found None = false
is_found (Some i) = true

-- "a 33rd file or a repeated id"
abbrev pub is_taken : Transfer → List ℕ → Bool
is_taken t id = leb file_room t.count || is_found (find_file t id)

-- the refusal of a file id over 32 bytes: its own field's, which is the writer's where the session's id is safe and has at most 32 bytes
unfoldable pub long_refusal : List ℕ → ℕ
long_refusal id = cond (every safe_byte id) (Refusals.refusal_number Refusal.TooLong) (Refusals.refusal_number Refusal.UnsafeCharacter)

unfoldable pub file_writes : Sender → (id name : List ℕ) → ℕ → (out : List ℕ) → Outcome Wrote
file_writes s id name size out =
    let t = s.transfer in
    cond (ltb id_room (length id)) (outcome (unwritten s (long_refusal id)) out)
    (writes s (begun t id) (file_values (id_of t) id name size) out)

unfoldable pub file_of : Sender → (id name : List ℕ) (size : ℕ) (out : List ℕ) → Outcome Wrote
file_of s id name size out =
    let t = s.transfer in
    guarded s (is_taken t id) (is_idle t) out (file_writes s id name size out)

-- "a piece over 4,096 bytes"
unfoldable pub piece_of : Sender → (contents : List ℕ) → Bool → (out : List ℕ) → Outcome Wrote
piece_of s contents last out =
    let t = s.transfer in
    guarded s (ltb part_limit (length contents)) (is_busy t) out
    (writes s (added t (length contents) last) (piece_values (id_of t) (file_id_of (current_file t)) contents last) out)

unfoldable pub finish_of : Sender → (out : List ℕ) → Outcome Wrote
finish_of s out =
    let t = s.transfer in
    guarded s false (is_idle t) out (writes s (with_stage t Stage.Finished) (finish_values (id_of t)) out)

-- ---- hear
-- what a hear gives: its answer, and the carry and the scratch afterwards
pub record Listening : Type 0 where
  pub listened : Listened
  pub carry : List ℕ
  pub scratch : List ℕ

abbrev pub listening : Listened → List ℕ → List ℕ → Listening
listening l carry scratch = record { listened = l; carry = carry; scratch = scratch }

-- a text that was read is heeded; a refusal is told, and changes no session
abbrev pub read_heed : Transfer → List ℕ → Outcome Read.Answer → Outcome Heeded
read_heed t text o = go o.answer
  where
    go : Read.Answer → Outcome Heeded
    go (Read.Answer.read c) = outcome (heed_of t c text o.buffer) o.buffer
    go (Read.Answer.refused n) = outcome (heeded t (News.Refused n)) o.buffer

-- a text that is reported: one of drag and drop is ignored, a command text is read
abbrev pub text_heed : Transfer → (text scratch : List ℕ) → Outcome Heeded
text_heed t text scratch =
    cond (is_drag_drop text) (outcome (heeded t News.Ignored) scratch) (read_heed t text (read_of text scratch))

-- a report, given its text, with the scratch afterwards
unfoldable pub report_heed : Transfer → Report → (text scratch : List ℕ) → Outcome Heeded
report_heed t Report.Nothing text scratch = outcome (heeded t News.Nothing) scratch
report_heed t (Report.InPiece start n) text scratch = text_heed t text scratch
report_heed t (Report.InCarry n) text scratch = text_heed t text scratch
report_heed t Report.TooLong text scratch = outcome (heeded t (News.Refused (refusal_number Report.TooLong))) scratch
report_heed t Report.Abandoned text scratch = outcome (heeded t (News.Refused (refusal_number Report.Abandoned))) scratch
report_heed t Report.ShortCarry text scratch = outcome (heeded t (News.Refused (refusal_number Report.ShortCarry))) scratch

abbrev pub listened_by : Scanned → Heeded → Listened
listened_by k h =
    record {
      sender = record { framing = k.framing; transfer = h.transfer };
      consumed = k.consumed;
      report = k.report;
      news = h.news;
    }

-- after the scan k, which left the carry
unfoldable pub scanned_hear : Transfer → List ℕ → Outcome Scanned → List ℕ → Listening
scanned_hear t piece k scratch =
    let h = report_heed t k.answer.report (text_of piece k.buffer k.answer.report) scratch in
    listening (listened_by k.answer h.answer) k.buffer h.buffer

-- "nothing consumed, all memory as before"
abbrev pub unheard : Sender → ℕ → Listened
unheard s n = record { sender = s; consumed = 0; report = Report.Nothing; news = News.Refused n }

-- 9 first: "carry under 8,192, scratch under 6,144"
unfoldable pub hear_of : Sender → (piece carry scratch : List ℕ) → Listening
hear_of s piece carry scratch =
    cond (ltb (length carry) text_limit || ltb (length scratch) scratch_room) (listening (unheard s 9) carry scratch)
    (scanned_hear s.transfer piece (scan_of s.framing piece carry) scratch)
