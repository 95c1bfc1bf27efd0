-- A feed keeps the invariant, and turns no record done.
use Rattle.std.specs.Prelude.{Option, None}
use Rattle.protocol.specs.Calls.{unread}
use Rattle.frames.specs.Stream.{is_drag_drop}
use Rattle.frames.specs.Stream as Stream
use Prim.Native.Nat.{ℕ, ◌≤◌}
use mathlib.Core.Path.{◌≡◌, refl}
use mathlib.Core.Bool.{Bool, true, false, cond}
use mathlib.Core.List.{List, append-nil, [], ◌∷◌}
use lib.ListN.{length, take}
use Rattle.frames.specs.Stream.{text_limit, Mode, stream}
use Rattle.frames.specs.Calls.{scan_of, text_of}
use Rattle.frames.specs.Follows.{Follows, told_of}
use Rattle.frames.specs.declared.Framing.{Framing}
use Rattle.frames.specs.declared.Report.{Report}
use Rattle.frames.proofs.CallLaws.{call-report}
use Rattle.frames.proofs.Follows.{stream-append, call-follows}
use Rattle.command.specs.Meaning.{Meaning, meaning_of}
use Rattle.command.specs.Read.{Answer, scratch_room, read_of}
use Rattle.protocol.specs.Calls.{is_owed, Feeding, Acted, read_act, report_act, feed_refused, scanned_feed, is_short, feed_of}
use Rattle.protocol.specs.History.{hearing, Event, bytes_of, Mark, read_mark, told_marks, hearing_mark, mode_after, marks_of}
use Rattle.protocol.specs.Machine.{Call, World, is_unfed, after_feed}
use Rattle.protocol.specs.declared.Due.{Due}
use Rattle.protocol.specs.declared.Session.{Session}
use Rattle.protocol.specs.declared.Told.TheVariants as Told
use Rattle.protocol.proofs.Ours.{Lent, step}
use Rattle.protocol.proofs.Laws.{text-taken}
use Rattle.protocol.proofs.Means.{Read, command, refused, text-read}
use Rattle.protocol.specs.Sound.{Sound}
use Rattle.protocol.proofs.Invariant.{TableOK}
use Rattle.protocol.proofs.Done.{NoneDone}
use Rattle.protocol.proofs.Backs.{table, not-owed}
use Rattle.protocol.proofs.Puts.{none-same}
use Rattle.protocol.proofs.SoundCalls.{scanned-sound}
use Rattle.protocol.proofs.Obeyed.{idle}
use Rattle.protocol.proofs.ObeyedRule.{obey-kept}
use Rattle.protocol.proofs.Worlds.{WorldOK}
use Rattle.protocol.proofs.ReplyLengths.{roomy}

-- ---- what a report does
record ActOK (ss : List Session) (m : List Mark) (a : Acted) : Type 0 where
  ok : TableOK a.step.table (hearing_mark (hearing a.step.told a.scratch) m)
  none : NoneDone (idle ss) a.step.table
  taken : is_unfed a.step.told ≡ false

module _ {ss : List Session} {m : List Mark} (sound : Sound (idle ss)) (same : TableOK (idle ss) m) (scratch : List ℕ)
    (enough : scratch_room ≤ length scratch) (text : List ℕ) where
  -- a text that is read
  read-act : ActOK ss (read_mark (meaning_of text) m) (read_act (idle ss) text (read_of text scratch))
  read-act = go (read_of text scratch).answer (text-read text scratch enough)
    where
      go : (a : Answer) {d : Meaning} → Read text (read_of text scratch).buffer a d
          → ActOK ss (read_mark d m) (read_act (idle ss) text (record { answer = a; buffer = (read_of text scratch).buffer }))
      go (Answer.read c) (command means) = let k = obey-kept means sound same in record { ok = k.ok; none = k.none; taken = k.taken }
      go (Answer.refused n) (refused l) =
          record { ok = same; none = none-same (idle ss) None; taken = text-taken n l }

  -- a text that is reported
  text-act : (d : Bool)
      → ActOK ss (told_marks (cond d (Stream.Told.drag_drop text) (Stream.Told.command text) ∷ []) m)
      (cond d (unread (idle ss) Told.DragDrop scratch) (read_act (idle ss) text (read_of text scratch)))
  text-act true = record { ok = same; none = none-same (idle ss) None; taken = refl }
  text-act false = read-act

  report-act : (r : Report) → (r ≡ Report.ShortCarry → ⊥) → ActOK ss (told_marks (told_of r text) m) (report_act (idle ss) r text scratch)
  report-act Report.Nothing n = record { ok = same; none = none-same (idle ss) None; taken = refl }
  report-act (Report.InPiece start len) n = text-act (is_drag_drop text)
  report-act (Report.InCarry len) n = text-act (is_drag_drop text)
  report-act Report.TooLong n = record { ok = same; none = none-same (idle ss) None; taken = refl }
  report-act Report.Abandoned n = record { ok = same; none = none-same (idle ss) None; taken = refl }
  report-act Report.ShortCarry n = absurd (n refl)

-- ---- a feed
pub record FeedOK (w w' : World) : Type 0 where
  pub ok : WorldOK w'
  pub none : NoneDone w.receiver.table w'.receiver.table

abbrev pub world : Framing → List Session → Option (ℕ × Due) → List ℕ → List Event → World
world g ss o carry h = record { receiver = record { framing = g; table = table ss o }; carry = carry; history = h }

-- one that is not refused with 9 or 10: its carry is the world's
feed-taken : (g : Framing) (ss : List Session) (kept : List ℕ) (h : List Event) → let w = world g ss None kept h in
    WorldOK w → (piece carry scratch reply : List ℕ) → text_limit ≤ length carry → scratch_room ≤ length scratch
    → let f = scanned_feed (idle ss) piece (scan_of g piece carry) scratch reply in
    (is_unfed f.fed.told ≡ false → carry ≡ kept) → FeedOK w (after_feed w piece f)
unfolding scanned_feed marks_of
feed-taken g ss kept h w piece carry scratch reply long enough lent =
    let k = scan_of g piece carry in
    let r = k.answer.report in
    let a = report-act w.sound w.table scratch enough (text_of piece k.buffer r) r (call-report g piece carry long) in
    let e : carry ≡ kept = lent a.taken in
    let f : Follows g carry (mode_after h) = rw e w.follows in
    let c = call-follows piece f in
    record {
      ok =
          record {
            follows = rw (a.taken, mode_after, stream-append Mode.outside (bytes_of h) (take k.answer.consumed piece)) c.1;
            sound = scanned-sound w.sound refl piece k scratch reply;
            table = rw c.0 a.ok;
          };
      none = a.none;
    }

feed-idle : (g : Framing) (ss : List Session) (o : Option (ℕ × Due)) (kept : List ℕ) (h : List Event) → o ≡ None
    → let w = world g ss o kept h in
    WorldOK w → (piece carry scratch reply : List ℕ) → text_limit ≤ length carry → scratch_room ≤ length scratch
    → let f = scanned_feed (table ss o) piece (scan_of g piece carry) scratch reply in
    (is_unfed f.fed.told ≡ false → carry ≡ kept) → FeedOK w (after_feed w piece f)
feed-idle g ss o kept h n w piece carry scratch reply long enough lent =
    rw n (feed-taken g ss kept h (rw n at w) piece carry scratch reply long enough (rw n at lent))

-- one refused with 9 or 10
feed-refused : (w : World) → WorldOK w → (n : ℕ) → is_unfed (Told.Refused n) ≡ true → (piece carry scratch reply : List ℕ)
    → FeedOK w (after_feed w piece (record { fed = feed_refused w.receiver n; carry = carry; scratch = scratch; reply = reply }))
unfolding marks_of stream
feed-refused w ok n l piece carry scratch reply =
    record {
      ok =
          record {
            follows = rw (l, mode_after, append-nil (bytes_of w.history)) ok.follows;
            sound = ok.sound;
            table = ok.table;
          };
      none = none-same w.receiver.table w.receiver.table.owed;
    }

pub feed-ok : (w : World) → WorldOK w → (piece carry scratch reply : List ℕ) → Lent w (Call.feed piece carry scratch reply)
    → FeedOK w (step w (Call.feed piece carry scratch reply))
unfolding feed_of
feed-ok w ok piece carry scratch reply = go (is_short carry scratch reply) refl (is_owed w.receiver.table.owed) refl
  where
    taken : Feeding
    taken = scanned_feed w.receiver.table piece (scan_of w.receiver.framing piece carry) scratch reply

    no : ℕ → Feeding
    no n = record { fed = feed_refused w.receiver n; carry = carry; scratch = scratch; reply = reply }

    go : (s : Bool) → is_short carry scratch reply ≡ s → (b : Bool) → is_owed w.receiver.table.owed ≡ b
        → (is_unfed (cond s (no 9) (cond b (no 10) taken)).fed.told ≡ false → carry ≡ w.carry)
        → FeedOK w (after_feed w piece (cond s (no 9) (cond b (no 10) taken)))
    go true e b q lent = feed-refused w ok 9 refl piece carry scratch reply
    go false e true q lent = feed-refused w ok 10 refl piece carry scratch reply
    go false e false q lent =
        let t = w.receiver.table in
        let long = roomy carry scratch reply e in
        feed-idle w.receiver.framing t.sessions t.owed w.carry w.history (not-owed t.owed q) ok
        piece carry scratch reply long.carry long.scratch lent
