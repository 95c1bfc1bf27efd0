-- The calls: for any receiver and any lent buffers, the answer and every buffer afterwards.
use Rattle.std.specs.Prelude.{ℕ, Bool, cond, ◌||◌, List, length, ltb, Option, is_some}
use Rattle.octets.specs.Outcome.{Outcome, outcome}
use Rattle.frames.specs.Stream.{is_drag_drop, text_limit}
use Rattle.frames.specs.Calls.{refusal_number, scan_of, text_of}
use Rattle.frames.specs.declared.Framing.{Framing}
use Rattle.frames.specs.declared.Report.{Report}
use Rattle.frames.specs.declared.Scanned.{Scanned}
use Rattle.command.specs.Slots.{no_command}
use Rattle.command.specs.Read.{Answer, scratch_room, read_of}
use Rattle.command.specs.declared.Command.{Command}
use Rattle.protocol.specs.Replies.{reply_room, replied_of}
use Rattle.protocol.specs.Change.{telling}
use Rattle.protocol.specs.Sessions.{obey_of, settle_done, settle_failed, settle_unlisted, decided_of}
use Rattle.protocol.specs.declared.Due.{Due}
use Rattle.protocol.specs.declared.Table.{Table}
use Rattle.protocol.specs.declared.Receiver.{Receiver}
use Rattle.protocol.specs.declared.Failure.{Failure}
use Rattle.protocol.specs.declared.Decision.TheVariants as Decision
use Rattle.protocol.specs.declared.Told.{Told}
use Rattle.protocol.specs.declared.Stepped.{Stepped}
use Rattle.protocol.specs.declared.Fed.{Fed}
use Rattle.protocol.specs.declared.Answered.{Answered}

abbrev pub is_owed : Option (ℕ × Due) → Bool
is_owed o = is_some o

-- ---- feed
-- what a feed gives: its answer, and the carry, the scratch and the reply buffer afterwards
pub record Feeding : Type 0 where
  pub fed : Fed
  pub carry : List ℕ
  pub scratch : List ℕ
  pub reply : List ℕ

abbrev pub feeding : Fed → List ℕ → List ℕ → List ℕ → Feeding
feeding f c s b = record { fed = f; carry = c; scratch = s; reply = b }

-- a step, the command that was read for it, if one was, and the scratch that reading left
pub record Acted : Type 0 where
  pub step : Stepped
  pub command : Command
  pub scratch : List ℕ

abbrev pub acted : Stepped → Command → List ℕ → Acted
acted s c scratch = record { step = s; command = c; scratch = scratch }

-- nothing but something told, where no command was read
abbrev pub unread : Table → Told → List ℕ → Acted
unread t w scratch = acted (telling t w) no_command scratch

-- a text that was read is obeyed. "Refusals 1 to 8 send no reply" and leave "no session changed"; so do 61 to 67.
abbrev pub read_act : Table → List ℕ → Outcome Answer → Acted
read_act t text o = go o.answer
  where
    go : Answer → Acted
    go (Answer.read c) = acted (obey_of t c text o.buffer) c o.buffer
    go (Answer.refused n) = unread t (Told.Refused n) o.buffer

-- a text that is reported: one of drag and drop is told and not read, a command text is read
abbrev pub text_act : Table → List ℕ → List ℕ → Acted
text_act t text scratch = cond (is_drag_drop text) (unread t Told.DragDrop scratch) (read_act t text (read_of text scratch))

-- what a report does, given its text; a refusal of the frame is told
abbrev pub report_act : Table → Report → List ℕ → List ℕ → Acted
report_act t Report.Nothing text scratch = unread t Told.Nothing scratch
report_act t (Report.InPiece start n) text scratch = text_act t text scratch
report_act t (Report.InCarry n) text scratch = text_act t text scratch
report_act t Report.TooLong text scratch = unread t (Told.Refused (refusal_number Report.TooLong)) scratch
report_act t Report.Abandoned text scratch = unread t (Told.Refused (refusal_number Report.Abandoned)) scratch
report_act t Report.ShortCarry text scratch = unread t (Told.Refused (refusal_number Report.ShortCarry)) scratch

abbrev pub fed_by : Scanned → Stepped → Command → ℕ → Fed
fed_by k s c n =
    record {
      receiver = record { framing = k.framing; table = s.table };
      consumed = k.consumed;
      report = k.report;
      told = s.told;
      command = c;
      reply_len = n;
    }

-- "nothing consumed, all memory as before"
abbrev pub feed_refused : Receiver → ℕ → Fed
feed_refused r n =
    record { receiver = r; consumed = 0; report = Report.Nothing; told = Told.Refused n; command = no_command; reply_len = 0 }

-- after the scan k, which left the carry
unfoldable pub scanned_feed : Table → List ℕ → Outcome Scanned → List ℕ → List ℕ → Feeding
scanned_feed t piece k scratch reply =
    let a = report_act t k.answer.report (text_of piece k.buffer k.answer.report) scratch in
    let b = replied_of a.step.reply reply in
    feeding (fed_by k.answer a.step a.command b.answer) k.buffer a.scratch b.buffer

-- "carry under 8,192, scratch under 6,144 or reply buffer under 124 bytes"
abbrev pub is_short : List ℕ → List ℕ → List ℕ → Bool
is_short carry scratch reply =
    ltb (length carry) text_limit || (ltb (length scratch) scratch_room || ltb (length reply) reply_room)

-- 9 first, then 10: "feed while an answer is owed"
unfoldable pub feed_of : Receiver → List ℕ → List ℕ → List ℕ → List ℕ → Feeding
feed_of r piece carry scratch reply =
    cond (is_short carry scratch reply) (feeding (feed_refused r 9) carry scratch reply)
    (cond (is_owed r.table.owed) (feeding (feed_refused r 10) carry scratch reply)
    (scanned_feed r.table piece (scan_of r.framing piece carry) scratch reply))

-- ---- the console's calls
abbrev pub answered_by : Framing → Stepped → ℕ → Answered
answered_by f s n = record { receiver = record { framing = f; table = s.table }; told = s.told; reply_len = n }

-- a step taken, its reply stored
abbrev pub replied : Framing → Stepped → List ℕ → Outcome Answered
replied f s reply = let b = replied_of s.reply reply in outcome (answered_by f s b.answer) b.buffer

-- 9 first: "reply buffer under 124 bytes"
unfoldable pub guarded : Receiver → Stepped → List ℕ → Outcome Answered
guarded r s reply =
    cond (ltb (length reply) reply_room)
    (outcome (answered_by r.framing (telling r.table (Told.Refused 9)) 0) reply)
    (replied r.framing s reply)

unfoldable pub allow_of : Receiver → List ℕ → List ℕ → Outcome Answered
allow_of r id reply = guarded r (decided_of r.table Decision.Allow id) reply

unfoldable pub deny_of : Receiver → List ℕ → List ℕ → Outcome Answered
deny_of r id reply = guarded r (decided_of r.table Decision.Deny id) reply

-- drop is lent no buffer
unfoldable pub drop_of : Receiver → List ℕ → Answered
drop_of r id = answered_by r.framing (decided_of r.table Decision.Drop id) 0

unfoldable pub done_of : Receiver → List ℕ → Outcome Answered
done_of r reply = guarded r (settle_done r.table) reply

unfoldable pub failed_of : Receiver → Failure → List ℕ → Outcome Answered
failed_of r e reply = guarded r (settle_failed r.table e) reply

unfoldable pub unlisted_of : Receiver → List ℕ → Outcome Answered
unlisted_of r reply = guarded r (settle_unlisted r.table) reply
