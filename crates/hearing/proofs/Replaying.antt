-- WHAT IS COMPARED IS WHAT THE HISTORY HAS. Whatever pieces and buffers a replay has: what happens by the marks of its history is what is
-- heard in all bytes that it consumed, places apart.
use Prim.Native.Nat.{ℕ, ◌≤◌}
use mathlib.Core.Path.{◌≡◌, refl, sym, ap, ◌∙◌}
use mathlib.Core.Bool.{Bool, true, false, cond}
use mathlib.Core.List.{List, [], ◌∷◌, ◌++◌, append-nil}
use lib.ListN.{length, take}
use borrow.Author.Tests.{le-ltb}
use Rattle.frames.specs.Stream.{Mode, Told, stream}
use Rattle.frames.specs.Calls.{scan_of, text_of}
use Rattle.frames.proofs.CallLaws.{call-report}
use Rattle.frames.proofs.Follows.{stream-append, call-follows}
use Rattle.protocol.specs.Table.{empty_table}
use Rattle.protocol.specs.Replies.{reply_room}
use Rattle.protocol.specs.Sessions.{settle_done, decided_of}
use Rattle.protocol.specs.Calls.{is_owed, Feeding, feeding, feed_refused, scanned_feed, is_short, feed_of, replied}
use Rattle.protocol.specs.Calls.{guarded, allow_of, done_of}
use Rattle.protocol.specs.History.{Event, bytes_of, last_ask, marks_of}
use Rattle.protocol.specs.Machine.{ours, Call, World, is_refused, start}
use Rattle.protocol.specs.Cuts.{after}
use Rattle.protocol.specs.declared.Decision.TheVariants as Decision
use Rattle.protocol.specs.declared.Told.{Told as Telling}
use Rattle.protocol.specs.declared.Stepped.{Stepped}
use Rattle.protocol.proofs.Laws.{no_way}
use Rattle.protocol.proofs.Ours.{AllLent, step}
use Rattle.protocol.proofs.ReplyLengths.{roomy}
use Rattle.protocol.proofs.CutsCalls.{Kept, start-kept, told_after, steps}
use Rattle.protocol.specs.Replay.{answers_to, Turn, fed_id, turned, replayed, Answerable}
use Rattle.hearing.specs.Hearing.{answered_by, heard_in}
use Rattle.hearing.specs.Laws.{happened_in, ReplayHears}
use Rattle.hearing.proofs.Texts.{hears, hears-append, leaves, leaves-append, heard-stream}
use Rattle.hearing.proofs.Asking.{Rests, empty-rests}
use Rattle.hearing.proofs.Reporting.{happened_told, Takes, Reported, report-reported}

-- ---- the console's answer
-- it leaves the table that hearing has, adds no bytes, and notes what happens
record Answers (w : World) (told : Telling) (id : List ℕ) (w' : World) : Type 0 where
  table : w'.receiver.table ≡ answered_by w.receiver.table id told
  carry : w'.carry ≡ w.carry
  bytes : bytes_of w'.history ≡ bytes_of w.history
  happens : happened_in (marks_of w'.history) ≡ happened_in (marks_of w.history) ++ happened_told told (last_ask (marks_of w.history))

module _ (w : World) (id reply : List ℕ) (long : reply_room ≤ length reply) where
  roomy-answer : (s : Stepped) → guarded w.receiver s reply ≡ replied w.receiver.framing s reply
  unfolding guarded
  roomy-answer s = rw (le-ltb _ _ long)

  silent : (told : Telling) → w.receiver.table ≡ answered_by w.receiver.table id told
      → happened_told told (last_ask (marks_of w.history)) ≡ [] → Answers w told id w
  silent told e f = record { table = e; carry = refl; bytes = refl; happens = rw (f, append-nil) }

  allows : (told : Telling) → answered_by w.receiver.table id told ≡ (decided_of w.receiver.table Decision.Allow id).table
      → happened_told told (last_ask (marks_of w.history)) ≡ [] → Answers w told id (step w (Call.allow id reply))
  unfolding allow_of marks_of
  allows told e f =
      let s = decided_of w.receiver.table Decision.Allow id in
      let b = is_refused s.told in
      rw (roomy-answer s) (record { table = sym e; carry = refl; bytes = noted b; happens = rw (f, append-nil) (marks b) })
    where
      h : List Event
      h = w.history

      noted : (b : Bool) → bytes_of (cond b h (Event.allowed id ∷ h)) ≡ bytes_of h
      noted true = refl
      noted false = refl

      marks : (b : Bool) → happened_in (marks_of (cond b h (Event.allowed id ∷ h))) ≡ happened_in (marks_of h)
      marks true = refl
      marks false = refl

  answers : (told : Telling) → Takes w.receiver.table told → Answers w told id (after ours w (answers_to told id reply))
  unfolding done_of marks_of
  answers Telling.Nothing k = silent Telling.Nothing refl refl
  answers (Telling.Refused n) k = silent (Telling.Refused n) refl refl
  answers Telling.Ignored k = silent Telling.Ignored refl refl
  answers Telling.DragDrop k = silent Telling.DragDrop refl refl
  answers Telling.Asked k = allows Telling.Asked refl refl
  answers Telling.Naming k = silent Telling.Naming refl refl
  answers Telling.Path k = silent Telling.Path refl refl
  answers Telling.LastPath k = allows Telling.LastPath refl refl
  answers (Telling.Ask a) k =
      rw (roomy-answer (settle_done w.receiver.table), k) (record { table = refl; carry = refl; bytes = refl; happens = refl })
  answers (Telling.Status x) k = silent (Telling.Status x) refl refl
  answers Telling.Withdrawn k = silent Telling.Withdrawn refl refl
  answers Telling.Discarded k = silent Telling.Discarded refl refl
  answers Telling.Committed k = silent Telling.Committed refl refl

-- ---- a feed
abbrev Feeds : World → List ℕ → Feeding → Type 0
Feeds w piece f =
    Reported w.receiver.table (marks_of w.history) (told_after w (take f.fed.consumed piece)) f.fed.receiver.table
    f.fed.told (fed_id piece f) f.scratch

module _ (w : World) (ok : Kept w) (rests : Rests w.receiver.table) (piece scratch reply : List ℕ) where
  abbrev carry : List ℕ
  carry = w.carry

  -- refused with 9: nothing is consumed
  short-feeds : Feeds w piece (feeding (feed_refused w.receiver 9) carry scratch reply)
  unfolding stream hears leaves
  short-feeds = record { table = refl; rests = rests; takes = tt; happens = refl }

  abbrev taken : Feeding
  taken = scanned_feed w.receiver.table piece (scan_of w.receiver.framing piece carry) scratch reply

  taken-feeds : is_short carry scratch reply ≡ false → Feeds w piece taken
  unfolding scanned_feed
  taken-feeds e =
      let long = roomy carry scratch reply e in
      let g = w.receiver.framing in
      let k = scan_of g piece carry in
      let report = k.answer.report in
      rw (call-follows piece ok.follows).0
      (report-reported rests ok.sized (marks_of w.history) (text_of piece k.buffer report) scratch long.scratch report
      (call-report g piece carry long.carry))

  feeds : Feeds w piece (feed_of w.receiver piece carry scratch reply)
  unfolding feed_of
  feeds = go (is_short carry scratch reply) refl (is_owed w.receiver.table.owed) (ap is_owed rests.owed)
    where
      no : ℕ → Feeding
      no n = feeding (feed_refused w.receiver n) carry scratch reply

      go : (s : Bool) → is_short carry scratch reply ≡ s → (b : Bool) → b ≡ false → Feeds w piece (cond s (no 9) (cond b (no 10) taken))
      go true e b q = short-feeds
      go false e true q = no_way q
      go false e false q = taken-feeds e

-- ---- a turn
kept-after : (w : World) → Kept w → (cs : List Call) → AllLent w cs → Kept (after ours w cs)
kept-after w ok [] l = ok
kept-after w ok (c ∷ cs) l = kept-after (step w c) (steps w ok c l.0).kept cs l.1

-- an answer is lent no carry
answers-lent : (w : World) (told : Telling) (id reply : List ℕ) → AllLent w (answers_to told id reply)
answers-lent w Telling.Nothing id reply = tt
answers-lent w (Telling.Refused n) id reply = tt
answers-lent w Telling.Ignored id reply = tt
answers-lent w Telling.DragDrop id reply = tt
answers-lent w Telling.Asked id reply = (tt, tt)
answers-lent w Telling.Naming id reply = tt
answers-lent w Telling.Path id reply = tt
answers-lent w Telling.LastPath id reply = (tt, tt)
answers-lent w (Telling.Ask a) id reply = (tt, tt)
answers-lent w (Telling.Status x) id reply = tt
answers-lent w Telling.Withdrawn id reply = tt
answers-lent w Telling.Discarded id reply = tt
answers-lent w Telling.Committed id reply = tt

-- what all bytes so far tell
abbrev told_in : World → List Told
told_in w = (stream Mode.outside (bytes_of w.history)).0

-- between turns the table and the marks are those of all bytes so far
pub record Good (w : World) : Type 0 where
  pub kept : Kept w
  pub rests : Rests w.receiver.table
  pub table : w.receiver.table ≡ leaves empty_table (told_in w)
  pub happens : happened_in (marks_of w.history) ≡ hears empty_table (told_in w)

pub start-good : (carry : List ℕ) → Good (start carry)
unfolding stream hears leaves marks_of
start-good carry = record { kept = start-kept carry; rests = empty-rests; table = refl; happens = refl }

module _ (w : World) (ok : Good w) (x : Turn) (long : reply_room ≤ length x.answer_reply) where
  abbrev f : Feeding
  f = feed_of w.receiver x.piece w.carry x.scratch x.reply

  abbrev fed : World
  fed = step w (Call.feed x.piece w.carry x.scratch x.reply)

  abbrev ds : List Told
  ds = told_after w (take f.fed.consumed x.piece)

  reported : Feeds w x.piece f
  reported = feeds w ok.kept ok.rests x.piece x.scratch x.reply

  answered : Answers fed f.fed.told (fed_id x.piece f) (turned w x)
  answered = answers fed (fed_id x.piece f) x.answer_reply long f.fed.told reported.takes

  -- the carry is as the feed left it, and the bytes are one piece more
  pub turn-carry : (turned w x).carry ≡ fed.carry
  turn-carry = answered.carry

  pub turn-bytes : bytes_of (turned w x).history ≡ bytes_of w.history ++ take f.fed.consumed x.piece
  turn-bytes = answered.bytes

  told_more : told_in (turned w x) ≡ told_in w ++ ds
  told_more =
      ap (λ (bs : List ℕ). (stream Mode.outside bs).0) turn-bytes
      ∙ ap (λ (r : List Told × Mode). r.0) (stream-append Mode.outside (bytes_of w.history) (take f.fed.consumed x.piece))

  pub turn-good : Good (turned w x)
  unfolding marks_of
  turn-good =
      record {
        kept =
            kept-after fed (steps w ok.kept (Call.feed x.piece w.carry x.scratch x.reply) (λ _. refl)).kept
            (answers_to f.fed.told (fed_id x.piece f) x.answer_reply) (answers-lent fed f.fed.told _ _);
        rests = rw answered.table reported.rests;
        table =
            answered.table
            ∙ reported.table
            ∙ rw (told_more, leaves-append empty_table (told_in w) ds, ← ok.table);
        happens =
            answered.happens
            ∙ reported.happens
            ∙ rw (told_more, hears-append empty_table (told_in w) ds, ← ok.table, ok.happens);
      }

replayed-good : (w : World) → Good w → (xs : List Turn) → Answerable xs → Good (replayed w xs)
replayed-good w ok [] a = ok
replayed-good w ok (x ∷ xs) a = replayed-good (turned w x) (turn-good w ok x a.0) xs a.1

pub replay-hears : ReplayHears heard_in
replay-hears carry turns a =
    let w = replayed (start carry) turns in
    (replayed-good (start carry) (start-good carry) turns a).happens ∙ sym (heard-stream (bytes_of w.history))
