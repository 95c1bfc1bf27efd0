-- "The reports, places apart, are the same however the bytes are cut, given the same console calls after the same reports."
use Rattle.std.specs.Prelude.{ℕ, suc, ◌≡◌, Bool, true, false, cond, List, [], ◌∷◌, ◌++◌, map, length, take, ltb}
use Rattle.octets.specs.Outcome.{Outcome}
use Rattle.frames.specs.Calls.{text_of}
use Rattle.frames.specs.declared.Report.{Report}
use Rattle.command.specs.Slots.{values_of}
use Rattle.command.specs.Framed.{frame_room}
use Rattle.protocol.specs.Replies.{reply_room}
use Rattle.protocol.specs.Calls.{Feeding}
use Rattle.protocol.specs.Supplies.{Supply}
use Rattle.protocol.specs.History.{Command, Heard, heard_ask, bytes_of}
use Rattle.protocol.specs.Machine.{Machine, Call, World, Lent, step, start}
use Rattle.protocol.specs.declared.Status.{Status}
use Rattle.protocol.specs.declared.Failure.{Failure}
use Rattle.protocol.specs.declared.Told.{Told}
use Rattle.protocol.specs.declared.Answered.{Answered}

-- ---- what a call gives, places apart
-- what is told: a write by its part
pub data Saying : Type 0 where
  nothing : Saying
  refused : ℕ → Saying
  ignored : Saying
  drag_drop : Saying
  asked : Saying
  naming : Saying
  path : Saying
  last_path : Saying
  asks : Heard → Saying
  status : Status → Saying
  withdrawn : Saying
  discarded : Saying
  committed : Saying

-- given the scratch that the places are in
abbrev pub saying : Told → List ℕ → Saying
saying Told.Nothing scratch = Saying.nothing
saying (Told.Refused n) scratch = Saying.refused n
saying Told.Ignored scratch = Saying.ignored
saying Told.DragDrop scratch = Saying.drag_drop
saying Told.Asked scratch = Saying.asked
saying Told.Naming scratch = Saying.naming
saying Told.Path scratch = Saying.path
saying Told.LastPath scratch = Saying.last_path
saying (Told.Ask a) scratch = Saying.asks (heard_ask a scratch)
saying (Told.Status w) scratch = Saying.status w
saying Told.Withdrawn scratch = Saying.withdrawn
saying Told.Discarded scratch = Saying.discarded
saying Told.Committed scratch = Saying.committed

-- a report of a feed, or a console call
pub data Move : Type 0 where
  report : Move
  allow : (id : List ℕ) → Move
  deny : (id : List ℕ) → Move
  drop : (id : List ℕ) → Move
  done : Move
  failed : (code : Failure) → Move
  unlisted : Move
  supply : Supply → Move

abbrev pub is_report_move : Move → Bool
is_report_move Move.report = true
is_report_move (Move.allow id) = false
is_report_move (Move.deny id) = false
is_report_move (Move.drop id) = false
is_report_move Move.done = false
is_report_move (Move.failed code) = false
is_report_move Move.unlisted = false
is_report_move (Move.supply u) = false

-- what it gives: the reported text and the values of the command read, what is told, and the reply
pub record Output : Type 0 where
  pub move : Move
  pub text : List ℕ
  pub command : Command
  pub said : Saying
  pub reply : List ℕ

abbrev pub reporting : List ℕ → Command → Saying → List ℕ → Output
reporting text c said reply = record { move = Move.report; text = text; command = c; said = said; reply = reply }

abbrev pub answering : Move → Told → List ℕ → Output
answering m told reply = record { move = m; text = []; command = []; said = saying told []; reply = reply }

-- ---- call by call
abbrev pub is_report : Report → Bool
is_report Report.Nothing = false
is_report (Report.InPiece start n) = true
is_report (Report.InCarry n) = true
is_report Report.TooLong = true
is_report Report.Abandoned = true
is_report Report.ShortCarry = false

-- of a feed of that piece: its report; none where there is nothing to report, as of a feed refused with 9 or 10
abbrev pub report_of : List ℕ → Feeding → List Output
report_of piece f =
    let text = text_of piece f.carry f.fed.report in
    let command = values_of f.fed.command text f.scratch in
    let reply = take f.fed.reply_len f.reply in
    cond (is_report f.fed.report) (reporting text command (saying f.fed.told f.scratch) reply ∷ []) []

-- of a console call that was lent that buffer: its answer, and what it wrote; none where the buffer has not the room
abbrev pub answer_of : ℕ → Move → List ℕ → Outcome Answered → List Output
answer_of room m lent a =
    cond (ltb (length lent) room) [] (answering m a.answer.told (take a.answer.reply_len a.buffer) ∷ [])

abbrev pub given : Machine → World → Call → List Output
given m w (Call.feed piece carry scratch reply) = report_of piece (m.feeds w.receiver piece carry scratch reply)
given m w (Call.allow id reply) = answer_of reply_room (Move.allow id) reply (m.allows w.receiver id reply)
given m w (Call.deny id reply) = answer_of reply_room (Move.deny id) reply (m.denies w.receiver id reply)
given m w (Call.drop id) = answering (Move.drop id) (m.drops w.receiver id).told [] ∷ []
given m w (Call.done reply) = answer_of reply_room Move.done reply (m.dones w.receiver reply)
given m w (Call.failed code reply) = answer_of reply_room (Move.failed code) reply (m.fails w.receiver code reply)
given m w (Call.unlisted reply) = answer_of reply_room Move.unlisted reply (m.unlists w.receiver reply)
given m w (Call.supply u out) = answer_of frame_room (Move.supply u) out (m.supplies w.receiver u out)

-- ---- a list of calls
abbrev pub all_given : Machine → World → List Call → List Output
all_given m w [] = []
all_given m w (c ∷ cs) = given m w c ++ all_given m (step m w c) cs

abbrev pub after : Machine → World → List Call → World
after m w [] = w
after m w (c ∷ cs) = after m (step m w c) cs

-- each feed not refused is lent the carry as the last one left it
abbrev pub AllLent : Machine → World → List Call → Type 0
AllLent m w [] = Unit {0}
AllLent m w (c ∷ cs) = Lent m w c × AllLent m (step m w c) cs

-- the moves that are no report by p, each with the number of reports before it, counted on from n
abbrev pub calls_among : {M : Type 0} → (M → Bool) → ℕ → List M → List (ℕ × M)
calls_among p n [] = []
calls_among p n (m ∷ ms) = cond (p m) (calls_among p (suc n) ms) ((n, m) ∷ calls_among p n ms)

-- "the same console calls after the same reports": the console's calls alone
abbrev pub console_calls : ℕ → List Output → List (ℕ × Move)
console_calls n os = calls_among is_report_move n (map (λ (o : Output). o.move) os)

-- two lists of calls, from a fresh receiver and any first carry each, that consume the same bytes, and in which the console makes the same
-- calls after as many reports: they give the same, reports and answers, and leave the same receiver
abbrev pub CutsAlike : Machine → Type 0
CutsAlike m = (carry₁ carry₂ : List ℕ) (cs₁ cs₂ : List Call) → AllLent m (start carry₁) cs₁ → AllLent m (start carry₂) cs₂
    → bytes_of (after m (start carry₁) cs₁).history ≡ bytes_of (after m (start carry₂) cs₂).history
    → console_calls 0 (all_given m (start carry₁) cs₁) ≡ console_calls 0 (all_given m (start carry₂) cs₂)
    → (all_given m (start carry₁) cs₁ ≡ all_given m (start carry₂) cs₂)
    × ((after m (start carry₁) cs₁).receiver ≡ (after m (start carry₂) cs₂).receiver)
