-- No order of turns blocks an exchange: from each that is not at rest some turn makes what is left to do smaller.
use Prim.Native.Nat.{ℕ, ◌+◌, ◌*◌, ◌≤◌, ◌<◌}
use mathlib.Core.Path.{◌≡◌, refl, ap, ◌∙◌}
use mathlib.Core.Bool.{Bool, true, false, cond, ◌||◌}
use mathlib.Core.List.{List, []}
use native.Mathlib.Omega.{arith}
use lib.ListN.{length, take, replicate, length-append, length-drop, length-take}
use lib.Seq.{take-length}
use borrow.Author.Tests.{le-ltb}
use Rattle.octets.specs.Outcome.{Outcome}
use Rattle.frames.specs.Stream.{text_limit}
use Rattle.frames.proofs.CallLaws.{consumes}
use Rattle.command.specs.Read.{scratch_room}
use Rattle.command.specs.Framed.{frame_room}
use Rattle.protocol.specs.Table.{session_at}
use Rattle.protocol.specs.Replies.{reply_room}
use Rattle.protocol.specs.Rule.{is_asked}
use Rattle.protocol.specs.Calls.{is_owed, is_short, scanned_feed, feed_of, guarded}
use Rattle.protocol.specs.Promises.{Sized}
use Rattle.protocol.specs.Machine.{Call, World}
use Rattle.protocol.specs.declared.Table.{Table}
use Rattle.protocol.specs.declared.Receiver.{Receiver}
use Rattle.protocol.specs.declared.Stepped.{Stepped}
use Rattle.protocol.specs.declared.Answered.{Answered}
use Rattle.protocol.proofs.Ours.{step}
use Rattle.sending.specs.Calls.{scanned_hear, hear_of}
use Rattle.sending.specs.Machine.{ours}
use Rattle.sending.specs.Plans.{Order}
use Rattle.sending.specs.Exchange.{Exchange, Turn, turn, after_console}
use Rattle.sending.proofs.arrival.path.Points.{Point, next}
use Rattle.sending.proofs.arrival.path.States.{table_of, owing_of}
use Rattle.sending.proofs.arrival.receiver.Promised.{promised}
use Rattle.sending.proofs.arrival.exchange.Rooms.{Roomy}

-- ---- what is left to do
-- a session is asked for, or something is owed
abbrev pending : Table → ℕ
pending t = cond (is_owed t.owed || is_asked (session_at t 0).state) 1 0

-- an order is worth more than the bytes of its frame, a byte there more than the reply that it may lead to
abbrev pub left : Exchange → ℕ
left e = 100000000 * length e.todo + (1000 * length e.there + (300 * pending e.world.receiver.table + length e.back))

pending_le : (t : Table) → pending t ≤ 1
pending_le t = go (is_owed t.owed || is_asked (session_at t 0).state)
  where
    go : (b : Bool) → cond b 1 0 ≤ 1
    go true = omega arith
    go false = omega arith

-- buffers that have room
abbrev pub scratch : List ℕ
scratch = replicate scratch_room 0

abbrev pub reply : List ℕ
reply = replicate reply_room 0

abbrev pub out : List ℕ
out = replicate frame_room 0

-- ---- replies on their way are heard
module _ (e : Exchange) (r : Roomy e) where
  heard-some : 1 ≤ length e.back → 1 ≤ (hear_of e.sender (take (length e.back) e.back) e.heard scratch).listened.consumed
  unfolding hear_of scanned_hear
  heard-some some =
      rw (le-ltb (length e.heard) text_limit r.office, take-length e.back)
      ((consumes e.sender.framing e.back e.heard r.office).2 some)

  pub hear-less : 1 ≤ length e.back → left (turn ours e (Turn.hear (length e.back) scratch)) < left e
  hear-less some =
      let c = (hear_of e.sender (take (length e.back) e.back) e.heard scratch).listened.consumed in
      omega (arith, heard-some some, length-drop c e.back)

-- ---- bytes on their way are fed, while nothing is owed
module _ (e : Exchange) (r : Roomy e) (free : is_owed e.world.receiver.table.owed ≡ false) where
  abbrev piece : List ℕ
  piece = take (length e.there) e.there

  roomy : is_short e.world.carry scratch reply ≡ false
  roomy = rw (le-ltb (length e.world.carry) text_limit r.console)

  fed-some : 1 ≤ length e.there → 1 ≤ (feed_of e.world.receiver piece e.world.carry scratch reply).fed.consumed
  unfolding feed_of scanned_feed
  fed-some some =
      rw (roomy, free, take-length e.there)
      ((consumes e.world.receiver.framing e.there e.world.carry r.console).2 some)

  pub feed-less : Sized e.world.receiver.table → 1 ≤ length e.there
      → left (turn ours e (Turn.feed (length e.there) scratch reply)) < left e
  feed-less sized some =
      let w = e.world in
      let f = feed_of w.receiver piece w.carry scratch reply in
      let short = (promised w.receiver sized piece w.carry scratch reply []).feeds.short in
      omega (
        arith,
        fed-some some,
        length-drop f.fed.consumed e.there,
        pending_le (step w (Call.feed piece w.carry scratch reply)).receiver.table,
        length-append e.back (take f.fed.reply_len f.reply),
        length-take f.fed.reply_len f.reply,
        short,
      )

-- ---- an order that is read is answered
owing-pending : (id : List ℕ) (p : Point) (o : Order) → pending (owing_of id p o) ≡ 1
owing-pending id p (Order.send k) = refl
owing-pending id p (Order.file k name size) = refl
owing-pending id p (Order.piece c last) = refl
owing-pending id p Order.finish = refl

table-pending : (id : List ℕ) (p : Point) → pending (table_of id p) ≡ 0
table-pending id Point.fresh = refl
table-pending id (Point.idle past) = refl
table-pending id (Point.busy past f) = refl
table-pending id (Point.over past) = refl

-- with room for a reply a call does its step
pub guarded-table : (r : Receiver) (s : Stepped) → (guarded r s reply).answer.receiver.table ≡ s.table
unfolding guarded
guarded-table r s = refl

module _ (e : Exchange) (id : List ℕ) (p : Point) (o : Order) (t : e.world.receiver.table ≡ owing_of id p o)
    (sized : Sized e.world.receiver.table) where
  -- nothing is pending then, and a reply is shorter than that counts
  pub answer-less : (w : World) (a : Outcome Answered) → w.receiver.table ≡ table_of id (next p o) → a.answer.reply_len ≤ reply_room
      → left (after_console e w e.there (take a.answer.reply_len a.buffer)) < left e
  answer-less w a q short =
      let before : pending e.world.receiver.table ≡ 1 = ap pending t ∙ owing-pending id p o in
      let now : pending w.receiver.table ≡ 0 = ap pending q ∙ table-pending id (next p o) in
      omega (
        arith,
        before,
        now,
        length-append e.back (take a.answer.reply_len a.buffer),
        length-take a.answer.reply_len a.buffer,
      )
