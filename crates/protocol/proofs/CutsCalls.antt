-- Each call, lent the kept carry, does to the table what its move does: a feed with a report that of the next thing told by the bytes
-- that it consumes, a feed without one nothing.
use Rattle.std.specs.Prelude.{Option, Some, None}
use Rattle.protocol.specs.Calls.{unread}
use Rattle.frames.specs.Stream.{is_drag_drop}
use Prim.Native.Nat.{ℕ, ◌≤◌}
use mathlib.Core.Path.{◌≡◌, refl, sym, ◌∙◌}
use mathlib.Core.Bool.{Bool, true, false, cond}
use mathlib.Core.List.{List, [], ◌∷◌, ◌++◌, append-nil}
use lib.ListN.{length, take}
use lib.Dec.{ltb, lit≤}
use borrow.Author.Tests.{ltb-false}
use Rattle.octets.specs.Outcome.{Outcome, outcome}
use Rattle.frames.specs.Stream as Stream
use Rattle.frames.specs.Stream.{Mode, stream}
use Rattle.frames.specs.Calls.{scan_of, text_of}
use Rattle.frames.specs.Follows.{Follows, told_of}
use Rattle.frames.specs.declared.Framing.TheVariants as Framing
use Rattle.frames.specs.declared.Report.{Report}
use Rattle.frames.proofs.CallLaws.{call-report}
use Rattle.frames.proofs.Follows.{stream-append, fresh-follows, call-follows}
use Rattle.command.specs.Slots.{values_of}
use Rattle.command.specs.Read.{scratch_room, read_of}
use Rattle.command.specs.Framed.{frame_room}
use Rattle.protocol.specs.Table.{find_session}
use Rattle.protocol.specs.Replies.{reply_room, reply_bytes, replied_of}
use Rattle.protocol.specs.Change.{telling}
use Rattle.protocol.specs.Rule.{decided_by}
use Rattle.protocol.specs.Sessions.{settle_done, settle_failed, settle_unlisted, decided_at, decided_of}
use Rattle.protocol.specs.Calls.{is_owed, Feeding, feeding, Acted, read_act, report_act, feed_refused, scanned_feed, is_short, feed_of}
use Rattle.protocol.specs.Calls.{answered_by, replied, guarded, allow_of, deny_of, drop_of, done_of, failed_of, unlisted_of}
use Rattle.protocol.specs.Supplies.{Supply, supply_of}
use Rattle.protocol.specs.History.{Event, bytes_of, mode_after}
use Rattle.protocol.specs.Machine.{Call, World, is_unfed, is_refused, after_feed, after_call, start}
use Rattle.protocol.specs.Cuts.{saying, Move, Output, reporting, answering, is_report, is_report_move, report_of, answer_of}
use Rattle.protocol.specs.Promises.{Sized}
use Rattle.protocol.specs.declared.Decision.TheVariants as Decision
use Rattle.protocol.specs.declared.Table.{Table}
use Rattle.protocol.specs.declared.Receiver.{Receiver}
use Rattle.protocol.specs.declared.Told.{Told}
use Rattle.protocol.specs.declared.Stepped.{Stepped}
use Rattle.protocol.specs.declared.Answered.{Answered}
use Rattle.protocol.proofs.Ours.{Lent, step, given}
use Rattle.protocol.proofs.ReplyBytes.{SizedReply, reply-sent}
use Rattle.protocol.proofs.Sizes.{SizedStep, none-sized, empty-sized}
use Rattle.protocol.proofs.Sizes.{done-sized, failed-sized, unlisted-sized, supply-sized, decided-sized}
use Rattle.protocol.proofs.ReplyLengths.{read-sized, report-sized, Roomy, roomy}
use Rattle.protocol.proofs.CutsReading.{same-reading}
use Rattle.protocol.proofs.CutsSteps.{SameAct, unread-same, act-same}
use Rattle.protocol.proofs.CutsRun.{zeros, text_in, act_on, reported, move_by, frame_zeros, supplied_on, move, Moves, none, one}
use Rattle.protocol.proofs.SupplyWays.{Alike, alike, supply-alike}

-- ---- what every call keeps
pub record Kept (w : World) : Type 0 where
  pub follows : Follows w.receiver.framing w.carry (mode_after w.history)
  pub sized : Sized w.receiver.table

pub start-kept : (carry : List ℕ) → Kept (start carry)
unfolding stream
start-kept carry = record { follows = fresh-follows carry; sized = empty-sized }

-- what bytes tell after all that came before
abbrev pub told_after : World → List ℕ → List Stream.Told
told_after w bs = (stream (mode_after w.history) bs).0

-- ---- a report
abbrev reported_by : List ℕ → Acted → List ℕ → Output
reported_by text a reply =
    let b = replied_of a.step.reply reply in
    reporting text (values_of a.command text a.scratch) (saying a.step.told a.scratch) (take b.answer b.buffer)

-- an act on the table that is no refusal with 9 or 10, what it gives, and what was told for it
record Acts (t : Table) (a : Acted) (os : List Output) (ds : List Stream.Told) : Type 0 where
  taken : is_unfed a.step.told ≡ false
  moves : Moves t a.step.table os ds

module _ (t : Table) (h : Sized t) (scratch reply : List ℕ) (enough : scratch_room ≤ length scratch)
    (long : reply_room ≤ length reply) where
  -- the act for a thing told, with any scratch
  act-moves : (d : Stream.Told) (a : Acted) → SizedReply a.step.reply → SameAct (text_in d) a (act_on t d)
      → Acts t a (reported_by (text_in d) a reply ∷ []) (d ∷ [])
  act-moves d a z s =
      let sent = (reply-sent a.step.reply reply z long).bytes in
      let e : reported_by (text_in d) a reply ≡ reported t d = rw (sent, s.values, s.said, s.step) in
      let q : a.step.table ≡ (act_on t d).step.table = rw s.step in
      record { taken = s.taken; moves = rw (e, q) (one {t' = (act_on t d).step.table} (reported t d) (d ∷ []) refl (λ rest. refl)) }

  text-moves : (text : List ℕ) → let a = read_act t text (read_of text scratch) in
      Acts t a (reported_by text a reply ∷ []) (Stream.Told.command text ∷ [])
  text-moves text =
      act-moves (Stream.Told.command text) _ (read-sized t h text (read_of text scratch)).reply
      (act-same t h text (same-reading text scratch zeros enough (lit≤ tt)))

  any-text : (text : List ℕ) (d : Bool) → let a = cond d (unread t Told.DragDrop scratch) (read_act t text (read_of text scratch)) in
      Acts t a (reported_by text a reply ∷ []) (cond d (Stream.Told.drag_drop text) (Stream.Told.command text) ∷ [])
  any-text text true = act-moves (Stream.Told.drag_drop text) _ none-sized (unread-same t _ _ scratch zeros refl refl)
  any-text text false = text-moves text

  report-moves : (k : Report) (piece carry : List ℕ) → (k ≡ Report.ShortCarry → ⊥)
      → let text = text_of piece carry k in
      let a = report_act t k text scratch in
      Acts t a (cond (is_report k) (reported_by text a reply ∷ []) []) (told_of k text)
  unfolding text_of
  report-moves Report.Nothing piece carry n = record { taken = refl; moves = none refl }
  report-moves (Report.InPiece start len) piece carry n = any-text _ (is_drag_drop _)
  report-moves (Report.InCarry len) piece carry n = any-text _ (is_drag_drop _)
  report-moves Report.TooLong piece carry n = act-moves Stream.Told.too_long _ none-sized (unread-same t _ _ scratch zeros refl refl)
  report-moves Report.Abandoned piece carry n = act-moves Stream.Told.abandoned _ none-sized (unread-same t _ _ scratch zeros refl refl)
  report-moves Report.ShortCarry piece carry n = absurd (n refl)

-- a feed that is not refused with 9 or 10 tells neither
pub report-taken : (t : Table) → Sized t → (scratch reply : List ℕ) → scratch_room ≤ length scratch → reply_room ≤ length reply
    → (k : Report) (piece carry : List ℕ) → (k ≡ Report.ShortCarry → ⊥)
    → is_unfed (report_act t k (text_of piece carry k) scratch).step.told ≡ false
report-taken t h scratch reply enough long k piece carry n = (report-moves t h scratch reply enough long k piece carry n).taken

-- ---- a feed
-- what a feed of a piece does to the world
record Feeds (w : World) (piece : List ℕ) (f : Feeding) : Type 0 where
  moves : Moves w.receiver.table f.fed.receiver.table (report_of piece f) (told_after w (take f.fed.consumed piece))
  kept : Kept (after_feed w piece f)

module _ (w : World) (ok : Kept w) (piece carry scratch reply : List ℕ) where
  -- refused with 9 or 10
  refused-feeds : (n : ℕ) → is_unfed (Told.Refused n) ≡ true → Feeds w piece (feeding (feed_refused w.receiver n) carry scratch reply)
  unfolding stream
  refused-feeds n l =
      record {
        moves = none refl;
        kept = record { follows = rw (l, mode_after, append-nil (bytes_of w.history)) ok.follows; sized = ok.sized };
      }

  abbrev taken : Feeding
  taken = scanned_feed w.receiver.table piece (scan_of w.receiver.framing piece carry) scratch reply

  taken-feeds : Roomy carry scratch reply → (is_unfed taken.fed.told ≡ false → carry ≡ w.carry) → Feeds w piece taken
  unfolding scanned_feed
  taken-feeds long lent =
      let r = w.receiver in
      let k = scan_of r.framing piece carry in
      let report = k.answer.report in
      let a = report-moves r.table ok.sized scratch reply long.scratch long.reply report piece k.buffer
      (call-report r.framing piece carry long.carry) in
      let f : Follows r.framing carry (mode_after w.history) = rw (lent a.taken) ok.follows in
      let c = call-follows piece f in
      let bs = take k.answer.consumed piece in
      record {
        moves = rw c.0 a.moves;
        kept =
            record {
              follows = rw (a.taken, mode_after, stream-append Mode.outside (bytes_of w.history) bs) c.1;
              sized = (report-sized r.table ok.sized report (text_of piece k.buffer report) scratch).table;
            };
      }

  feeds : Lent w (Call.feed piece carry scratch reply) → Feeds w piece (feed_of w.receiver piece carry scratch reply)
  unfolding feed_of
  feeds = go (is_short carry scratch reply) refl (is_owed w.receiver.table.owed)
    where
      no : ℕ → Feeding
      no n = feeding (feed_refused w.receiver n) carry scratch reply

      fed : Bool → Bool → Feeding
      fed s b = cond s (no 9) (cond b (no 10) taken)

      go : (s : Bool) → is_short carry scratch reply ≡ s → (b : Bool)
          → (is_unfed (fed s b).fed.told ≡ false → carry ≡ w.carry) → Feeds w piece (fed s b)
      go true e b lent = refused-feeds 9 refl
      go false e true lent = refused-feeds 10 refl
      go false e false lent = taken-feeds (roomy carry scratch reply e) lent

-- ---- a console call
-- what one that is lent a reply buffer does to the receiver
record Answers (r : Receiver) (a : Outcome Answered) (os : List Output) : Type 0 where
  framing : a.answer.receiver.framing ≡ r.framing
  moves : Moves r.table a.answer.receiver.table os []
  sized : Sized a.answer.receiver.table

answers : (r : Receiver) → Sized r.table → (m : Move) → is_report_move m ≡ false → (s : Stepped) (reply : List ℕ) → SizedStep s
    → ((ds : List Stream.Told) → move r.table m ds ≡ move_by m s ds)
    → Answers r (guarded r s reply) (answer_of reply_room m reply (guarded r s reply))
unfolding guarded
answers r h m c s reply z e = go (ltb (length reply) reply_room) refl
  where
    out : Outcome Answered → Output
    out a = answering m a.answer.told (take a.answer.reply_len a.buffer)

    short : Outcome Answered
    short = outcome (answered_by r.framing (telling r.table (Told.Refused 9)) 0) reply

    go : (b : Bool) → ltb (length reply) reply_room ≡ b → let a = cond b short (replied r.framing s reply) in
        Answers r a (cond b [] (out a ∷ []))
    go true q = record { framing = refl; moves = none refl; sized = h }
    go false q =
        let sent = (reply-sent s.reply reply z.reply (ltb-false _ _ q)).bytes in
        let o : out (replied r.framing s reply) ≡ (move_by m s []).output = rw sent in
        record { framing = refl; moves = rw o (one (move_by m s []).output [] (rw c) e); sized = z.table }

-- one that is lent a buffer for what it writes
supply-answers : (r : Receiver) → Sized r.table → (u : Supply) (out : List ℕ)
    → Answers r (supply_of r u out) (answer_of frame_room (Move.supply u) out (supply_of r u out))
unfolding supply_of
supply-answers r h u out = go (ltb (length out) frame_room) refl
  where
    go : (b : Bool) → ltb (length out) frame_room ≡ b
        → Answers r (supply_of r u out) (cond b [] (answering (Move.supply u) (supply_of r u out).answer.told
        (take (supply_of r u out).answer.reply_len (supply_of r u out).buffer) ∷ []))
    go true q = rw q (record { framing = refl; moves = none refl; sized = h })
    go false q =
        by (supply-alike r.framing Framing.Plain r.table u out frame_zeros (ltb-false _ _ q) (lit≤ tt)) refl (supply-sized r u out h)
      where
        by : {o o' : Outcome Answered} → Alike r.framing Framing.Plain o o' → supplied_on r.table u ≡ o'
            → Sized o.answer.receiver.table
            → Answers r o (answering (Move.supply u) o.answer.told (take o.answer.reply_len o.buffer) ∷ [])
        by (alike s n b b' e) q z = record { framing = refl; moves = one _ [] refl (λ rest. rw (q, e)); sized = z }

-- drop replies nothing
pub drop-silent : (t : Table) (id : List ℕ) → reply_bytes (decided_of t Decision.Drop id).reply ≡ []
unfolding decided_of decided_by reply_bytes
drop-silent t id = go (find_session t id)
  where
    go : (f : Option ℕ) → reply_bytes (decided_at t Decision.Drop f).reply ≡ []
    go None = refl
    go (Some i) = refl

-- ---- every call
-- the bytes that it consumes, and what they tell
abbrev pub consumed : World → Call → List ℕ
consumed w (Call.feed piece carry scratch reply) = take (feed_of w.receiver piece carry scratch reply).fed.consumed piece
consumed w (Call.allow id reply) = []
consumed w (Call.deny id reply) = []
consumed w (Call.drop id) = []
consumed w (Call.done reply) = []
consumed w (Call.failed code reply) = []
consumed w (Call.unlisted reply) = []
consumed w (Call.supply u out) = []

abbrev pub told_by : World → Call → List Stream.Told
told_by w c = told_after w (consumed w c)

pub record Steps (w : World) (c : Call) : Type 0 where
  pub bytes : bytes_of (step w c).history ≡ bytes_of w.history ++ consumed w c
  pub moves : Moves w.receiver.table (step w c).receiver.table (given w c) (told_by w c)
  pub kept : Kept (step w c)

-- an event that adds no bytes, noted or not
noted-bytes : (b : Bool) (e : Event) (h : List Event) → bytes_of (e ∷ h) ≡ bytes_of h → bytes_of (cond b h (e ∷ h)) ≡ bytes_of h ++ []
noted-bytes true e h q = sym (append-nil (bytes_of h))
noted-bytes false e h q = q ∙ sym (append-nil (bytes_of h))

module _ (w : World) (ok : Kept w) where
  abbrev r : Receiver
  r = w.receiver

  abbrev t : Table
  t = w.receiver.table

  abbrev h : List Event
  h = w.history

  console-kept : (a : Answered) (h' : List Event) → bytes_of h' ≡ bytes_of h ++ [] → a.receiver.framing ≡ r.framing
      → Sized a.receiver.table → Kept (after_call w a h')
  console-kept a h' q f z = record { follows = rw (f, mode_after, q, append-nil (bytes_of h)) ok.follows; sized = z }

  pub steps : (c : Call) → Lent w c → Steps w c
  unfolding stream allow_of deny_of drop_of done_of failed_of unlisted_of
  steps (Call.feed piece carry scratch reply) lent =
      let f = feeds w ok piece carry scratch reply lent in
      record { bytes = refl; moves = f.moves; kept = f.kept }
  steps (Call.allow id reply) lent =
      let z = decided-sized t ok.sized Decision.Allow id in
      let a = answers r ok.sized (Move.allow id) refl (decided_of t Decision.Allow id) reply z (λ ds. refl) in
      let q = noted-bytes (is_refused (allow_of r id reply).answer.told) (Event.allowed id) h refl in
      record { bytes = q; moves = a.moves; kept = console-kept (allow_of r id reply).answer _ q a.framing a.sized }
  steps (Call.deny id reply) lent =
      let z = decided-sized t ok.sized Decision.Deny id in
      let a = answers r ok.sized (Move.deny id) refl (decided_of t Decision.Deny id) reply z (λ ds. refl) in
      let q = sym (append-nil (bytes_of h)) in
      record { bytes = q; moves = a.moves; kept = console-kept (deny_of r id reply).answer h q a.framing a.sized }
  steps (Call.drop id) lent =
      let q = noted-bytes (is_refused (drop_of r id).told) (Event.dropped id) h refl in
      record {
        bytes = q;
        moves = one (answering (Move.drop id) (decided_of t Decision.Drop id).told []) [] refl (λ ds. rw (drop-silent t id));
        kept = console-kept (drop_of r id) _ q refl (decided-sized t ok.sized Decision.Drop id).table;
      }
  steps (Call.done reply) lent =
      let z = done-sized t ok.sized in
      let a = answers r ok.sized Move.done refl (settle_done t) reply z (λ ds. refl) in
      let q = noted-bytes (is_refused (done_of r reply).answer.told) (Event.answered true) h refl in
      record { bytes = q; moves = a.moves; kept = console-kept (done_of r reply).answer _ q a.framing a.sized }
  steps (Call.failed code reply) lent =
      let z = failed-sized t ok.sized code in
      let a = answers r ok.sized (Move.failed code) refl (settle_failed t code) reply z (λ ds. refl) in
      let q = noted-bytes (is_refused (failed_of r code reply).answer.told) (Event.answered false) h refl in
      record { bytes = q; moves = a.moves; kept = console-kept (failed_of r code reply).answer _ q a.framing a.sized }
  steps (Call.unlisted reply) lent =
      let z = unlisted-sized t ok.sized in
      let a = answers r ok.sized Move.unlisted refl (settle_unlisted t) reply z (λ ds. refl) in
      let q = noted-bytes (is_refused (unlisted_of r reply).answer.told) (Event.answered false) h refl in
      record { bytes = q; moves = a.moves; kept = console-kept (unlisted_of r reply).answer _ q a.framing a.sized }
  steps (Call.supply u out) lent =
      let a = supply-answers r ok.sized u out in
      let q = sym (append-nil (bytes_of h)) in
      record { bytes = q; moves = a.moves; kept = console-kept (supply_of r u out).answer _ q a.framing a.sized }
