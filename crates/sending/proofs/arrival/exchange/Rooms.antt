-- A carry that has room keeps it.
use Rattle.std.specs.Prelude.{Result, Ok, Err}
use Prim.Native.Nat.{ℕ, ◌≤◌}
use mathlib.Core.Bool.{Bool, true, false, cond, ◌||◌}
use mathlib.Core.List.{List, [], ◌∷◌}
use lib.ListN.{length, take}
use lib.Dec.{ltb}
use Rattle.octets.specs.Outcome.{Outcome, outcome}
use Rattle.frames.specs.Stream.{text_limit}
use Rattle.frames.specs.Calls.{scan_of}
use Rattle.frames.proofs.CallLaws.{scan-room}
use Rattle.command.specs.Read.{scratch_room}
use Rattle.protocol.specs.Calls.{is_owed, Feeding, feed_refused, feeding, scanned_feed, is_short, feed_of}
use Rattle.protocol.specs.Machine.{Call, World, is_unfed}
use Rattle.protocol.proofs.Ours.{step}
use Rattle.sending.specs.Calls.{unheard, listening, scanned_hear, hear_of}
use Rattle.sending.specs.Machine.{ours}
use Rattle.sending.specs.Plans.{Order}
use Rattle.sending.specs.Exchange.{Exchange, Turn, turn, after, write_turn, after_write, order_of}
use Rattle.sending.specs.declared.Sender.{Sender}
use Rattle.sending.specs.declared.Wrote.{Wrote}

hear-room : (s : Sender) (piece carry scratch : List ℕ) → text_limit ≤ length carry
    → text_limit ≤ length (hear_of s piece carry scratch).carry
unfolding hear_of scanned_hear
hear-room s piece carry scratch h = go (ltb (length carry) text_limit || ltb (length scratch) scratch_room)
  where
    go : (b : Bool) → text_limit ≤ length (cond b (listening (unheard s 9) carry scratch)
        (scanned_hear s.transfer piece (scan_of s.framing piece carry) scratch)).carry
    go true = h
    go false = scan-room s.framing piece carry h

feed-room : (w : World) (piece scratch reply : List ℕ) → text_limit ≤ length w.carry
    → text_limit ≤ length (step w (Call.feed piece w.carry scratch reply)).carry
unfolding feed_of scanned_feed
feed-room w piece scratch reply h = by (is_unfed f.fed.told) (go (is_short w.carry scratch reply) (is_owed w.receiver.table.owed))
  where
    f : Feeding
    f = feed_of w.receiver piece w.carry scratch reply

    go : (s o : Bool) → text_limit ≤ length (cond s (feeding (feed_refused w.receiver 9) w.carry scratch reply)
        (cond o (feeding (feed_refused w.receiver 10) w.carry scratch reply)
        (scanned_feed w.receiver.table piece (scan_of w.receiver.framing piece w.carry) scratch reply))).carry
    go true o = h
    go false true = h
    go false false = scan-room w.receiver.framing piece w.carry h

    by : (b : Bool) → text_limit ≤ length f.carry → text_limit ≤ length (cond b w.carry f.carry)
    by true l = h
    by false l = l

-- ---- in every exchange
pub record Roomy (e : Exchange) : Type 0 where
  pub office : text_limit ≤ length e.heard
  pub console : text_limit ≤ length e.world.carry

write-room : (e : Exchange) (os : List Order) (o : Outcome Wrote) → Roomy e → Roomy (after_write e os o)
write-room e os o r = go o.answer.writing
  where
    go : (x : Result ℕ ℕ) → Roomy (after_write e os (outcome (record { sender = o.answer.sender; writing = x }) o.buffer))
    go (Err n) = record { office = r.office; console = r.console }
    go (Ok n) = record { office = r.office; console = r.console }

-- every turn leaves both carries their room
pub room-kept : (e : Exchange) (t : Turn) → Roomy e → Roomy (turn ours e t)
room-kept e (Turn.write out) r = go e.todo
  where
    go : (todo : List Order) → Roomy (write_turn ours e todo out)
    go [] = r
    go (o ∷ os) = write-room e os (order_of ours e.sender o out) r
room-kept e (Turn.hear n scratch) r =
    record { office = hear-room e.sender (take n e.back) e.heard scratch r.office; console = r.console }
room-kept e (Turn.feed n scratch reply) r =
    record { office = r.office; console = feed-room e.world (take n e.there) scratch reply r.console }
room-kept e (Turn.allow k reply) r = record { office = r.office; console = r.console }
room-kept e (Turn.done reply) r = record { office = r.office; console = r.console }

pub after-room : (e : Exchange) (ts : List Turn) → Roomy e → Roomy (after ours e ts)
after-room e [] r = r
after-room e (t ∷ ts) r = after-room (turn ours e t) ts (room-kept e t r)
