-- A feed: the turn of the command that its bytes bring where that has the id, and nothing otherwise.
use Prim.Native.Nat.{ℕ, ◌≤◌}
use mathlib.Core.Path.{◌≡◌, refl}
use mathlib.Core.Bool.{Bool, true, false, cond, ◌&&◌}
use mathlib.Core.List.{List, [], ◌∷◌}
use lib.ListN.{length, take}
use Rattle.std.specs.Prelude.{None}
use Rattle.command.specs.Meaning.{Meaning}
use Rattle.protocol.specs.Table.{find_session}
use Rattle.protocol.specs.Replies.{reply_room, replied_of}
use Rattle.protocol.specs.History.{Command, hearing, Question, Mark, read_mark, told_marks, read_in, commands_in, hearing_mark, last_ask}
use Rattle.protocol.specs.History.{mode_after, marks_of}
use Rattle.protocol.specs.Cuts.{saying}
use Rattle.protocol.specs.Sound.{Sound}
use Rattle.protocol.specs.Isolation.{Act, command_acts, Seen, any_begins, has_room, is_asker, asked_last, is_asking}
use Rattle.protocol.specs.declared.Table.{Table}
use Rattle.protocol.specs.declared.Told.{Told}
use Rattle.protocol.proofs.Laws.{no_way}
use Rattle.protocol.proofs.Means.{Read, command, refused, text-read}
use Rattle.protocol.proofs.isolation.Calls.{Single, other, own, none-silent}
use Rattle.octets.specs.Slices.{equals}
use Rattle.octets.specs.Outcome.{outcome}
use Rattle.octets.proofs.Compare.{equals_refl, equals-sound}
use Rattle.frames.specs.Stream.{is_drag_drop, stream}
use Rattle.frames.specs.Stream as Stream
use Rattle.frames.specs.Calls.{scan_of, text_of}
use Rattle.frames.specs.Follows.{Follows, told_of}
use Rattle.frames.specs.declared.Report.{Report}
use Rattle.frames.proofs.CallLaws.{call-report}
use Rattle.frames.proofs.Follows.{call-follows}
use Rattle.command.specs.Meaning as Meanings
use Rattle.command.specs.Read.{Answer, scratch_room, read_of}
use Rattle.protocol.specs.Calls.{is_owed, Feeding, feeding, Acted, unread, read_act, report_act, feed_refused, scanned_feed, is_short}
use Rattle.protocol.specs.Calls.{feed_of}
use Rattle.protocol.specs.Readings as Readings
use Rattle.protocol.specs.Machine.{Call, World, is_unfed, after_feed, start}
use Rattle.protocol.specs.Promises.{Sized}
use Rattle.protocol.proofs.Ours.{Lent}
use Rattle.protocol.proofs.Backs.{not-owed}
use Rattle.protocol.proofs.ReplyBytes.{SizedReply, reply-sent}
use Rattle.protocol.proofs.ReplyLengths.{read-sized, Roomy, roomy}
use Rattle.protocol.proofs.Sizes.{none-sized}
use Rattle.protocol.proofs.Worlds.{WorldOK}
use Rattle.protocol.proofs.CutsCalls.{Kept, report-taken}
use Rattle.protocol.proofs.isolation.Obeys.{obey-own, obey-silent, obey-other}

-- ---- a feed
module _ (A : List ℕ) {t : Table} (ok : Sound t) (sized : Sized t) (free : t.owed ≡ None) (scratch reply : List ℕ)
    (enough : scratch_room ≤ length scratch) (long : reply_room ≤ length reply) (marks : List Mark) where
  -- what leaves with the act for a report
  abbrev leaving_by : Acted → Seen
  leaving_by a =
      let b = replied_of a.step.reply reply in
      record { said = saying a.step.told a.scratch; reply = take b.answer b.buffer }

  -- the ask told last after it, given the commands that the bytes bring
  abbrev asked_after : List Stream.Told → Acted → Question
  asked_after told a = last_ask (hearing_mark (hearing a.step.told a.scratch) (told_marks told marks))

  -- no command was read
  unread-silent : (w : Told) (left : List ℕ) → command_acts A (commands_in (leaving_by (unread t w left)).reply) ≡ []
  unread-silent w left = rw ((reply-sent None reply none-sized long).bytes, none-silent A)

  -- an ask is for the command that was read
  asked_another : (d : Command) → equals (Meanings.id_of d) A ≡ false → (w : Told) (left : List ℕ)
      → (is_asking (saying w left) && is_asker A (last_ask (hearing_mark (hearing w left) (Mark.read d ∷ marks)))) ≡ false
  asked_another d e Told.Nothing left = refl
  asked_another d e (Told.Refused n) left = refl
  asked_another d e Told.Ignored left = refl
  asked_another d e Told.DragDrop left = refl
  asked_another d e Told.Asked left = refl
  asked_another d e Told.Naming left = refl
  asked_another d e Told.Path left = refl
  asked_another d e Told.LastPath left = refl
  asked_another d e (Told.Ask a) left = e
  asked_another d e (Told.Status w) left = refl
  asked_another d e Told.Withdrawn left = refl
  asked_another d e Told.Discarded left = refl
  asked_another d e Told.Committed left = refl

  abbrev Room : List Act → Type 0
  Room as' = any_begins as' ≡ true → find_session t A ≡ None → has_room t ≡ true

  abbrev SingleAct : List Stream.Told → Acted → Type 0
  SingleAct told a = let bs = command_acts A (read_in told) in Room bs → Single A t a.step.table bs (asked_after told a) (leaving_by a)

  text-single : (text : List ℕ) → SingleAct (Stream.Told.command text ∷ []) (read_act t text (read_of text scratch))
  text-single text =
      go (read_of text scratch).answer (text-read text scratch enough) (read-sized t sized text (read_of text scratch)).reply
    where
      left : List ℕ
      left = (read_of text scratch).buffer

      marked : Meaning → Acted → Question
      marked m a = last_ask (hearing_mark (hearing a.step.told a.scratch) (read_mark m marks))

      go : (x : Answer) {m : Meaning} → Read text left x m → let a = read_act t text (outcome x left) in
          let bs = command_acts A (Readings.read_mark (λ c. c) m []) in
          SizedReply a.step.reply → Room bs → Single A t a.step.table bs (marked m a) (leaving_by a)
      go (Answer.refused n) (refused l) z met = other refl (unread-silent (Told.Refused n) left) refl refl
      go (Answer.read c) (command {d = d} means) z met = by (equals (Meanings.id_of d) A) refl met
        where
          by : (b : Bool) → equals (Meanings.id_of d) A ≡ b → let a = read_act t text (outcome (Answer.read c) left) in
              let bs = cond b (Act.command d ∷ []) [] in
              Room bs → Single A t a.step.table bs (marked (Meaning.command d) a) (leaving_by a)
          by true e met =
              let o = obey-own A ok free means (equals-sound _ _ e) (λ b n. met (rw b) n) in
              own (Act.command d) refl (rw (reply-sent _ reply z long).bytes o.seen) o.view
          by false e met =
              let is : Meanings.id_of d ≡ A → ⊥ = λ q. no_way (rw (q, equals_refl A) at e) in
              let told = (read_act t text (outcome (Answer.read c) left)).step.told in
              other refl (rw ((reply-sent _ reply z long).bytes, obey-silent A ok free means is)) (asked_another d e told left)
              (obey-other A ok free means is)

  -- a text of drag and drop is told and read by nobody here
  any-single : (text : List ℕ) (d : Bool) → SingleAct (cond d (Stream.Told.drag_drop text) (Stream.Told.command text) ∷ [])
      (cond d (unread t Told.DragDrop scratch) (read_act t text (read_of text scratch)))
  any-single text true met = other refl (unread-silent Told.DragDrop scratch) refl refl
  any-single text false met = text-single text met

  report-single : (k : Report) (piece carry : List ℕ) → (k ≡ Report.ShortCarry → ⊥) → let text = text_of piece carry k in
      SingleAct (told_of k text) (report_act t k text scratch)
  report-single Report.Nothing piece carry n met = other refl (unread-silent Told.Nothing scratch) refl refl
  report-single (Report.InPiece start len) piece carry n met = any-single _ (is_drag_drop _) met
  report-single (Report.InCarry len) piece carry n met = any-single _ (is_drag_drop _) met
  report-single Report.TooLong piece carry n met = other refl (unread-silent (Told.Refused 1) scratch) refl refl
  report-single Report.Abandoned piece carry n met = other refl (unread-silent (Told.Refused 2) scratch) refl refl
  report-single Report.ShortCarry piece carry n met = absurd (n refl)

module _ (A : List ℕ) (w : World) (kept : Kept w) (ok : WorldOK w) (piece carry scratch reply : List ℕ) where
  abbrev t : Table
  t = w.receiver.table

  abbrev acts_of : Feeding → List Act
  acts_of f = command_acts A (read_in (stream (mode_after w.history) (take f.fed.consumed piece)).0)

  abbrev leaving_of : Feeding → Seen
  leaving_of f = record { said = saying f.fed.told f.scratch; reply = take f.fed.reply_len f.reply }

  abbrev SingleFeed : Feeding → Type 0
  SingleFeed f = (any_begins (acts_of f) ≡ true → find_session t A ≡ None → has_room t ≡ true)
      → Single A t f.fed.receiver.table (acts_of f) (asked_last (after_feed w piece f)) (leaving_of f)

  abbrev taken : Feeding
  taken = scanned_feed t piece (scan_of w.receiver.framing piece carry) scratch reply

  taken-single : t.owed ≡ None → Roomy carry scratch reply → (is_unfed taken.fed.told ≡ false → carry ≡ w.carry)
      → SingleFeed taken
  unfolding scanned_feed marks_of
  taken-single free room lent met =
      let k = scan_of w.receiver.framing piece carry in
      let report = k.answer.report in
      let not_IsShort = call-report w.receiver.framing piece carry room.carry in
      let fed = report-taken t kept.sized scratch reply room.scratch room.reply report piece k.buffer not_IsShort in
      let f : Follows w.receiver.framing carry (mode_after w.history) = rw (lent fed) kept.follows in
      let told = (call-follows piece f).0 in
      rw told
      (report-single A ok.sound kept.sized free scratch reply room.scratch room.reply (marks_of w.history) report piece
      k.buffer not_IsShort (rw told at met))

  pub feed-single : Lent w (Call.feed piece carry scratch reply) → SingleFeed (feed_of w.receiver piece carry scratch reply)
  unfolding feed_of stream
  feed-single = go (is_short carry scratch reply) refl (is_owed t.owed) refl
    where
      no : ℕ → Feeding
      no n = feeding (feed_refused w.receiver n) carry scratch reply

      go : (s : Bool) → is_short carry scratch reply ≡ s → (b : Bool) → is_owed t.owed ≡ b
          → let f = cond s (no 9) (cond b (no 10) taken) in (is_unfed f.fed.told ≡ false → carry ≡ w.carry) → SingleFeed f
      go true e b q lent = λ met. other refl refl refl refl
      go false e true q lent = λ met. other refl refl refl refl
      go false e false q lent = taken-single (not-owed t.owed q) (roomy carry scratch reply e) lent
