-- An office and a console on a line that loses nothing: it may delay and cut the bytes, in both directions, in any way.
use Rattle.std.specs.Prelude.{ℕ, ◌≡◌, List, [], ◌∷◌, ◌++◌, take, drop, None, Result, Ok, Err}
use Rattle.octets.specs.Outcome.{Outcome}
use Rattle.protocol.specs.Calls.{feed_of, allow_of, done_of}
use Rattle.protocol.specs.Machine.{Call, World}
use Rattle.protocol.specs.Machine as Console
use Rattle.protocol.specs.declared.Answered.{Answered}
use Rattle.sending.specs.Transfers.{fresh_sender}
use Rattle.sending.specs.Calls.{Listening}
use Rattle.sending.specs.Machine.{Machine}
use Rattle.sending.specs.Plans.{Plan, Order, orders_of}
use Rattle.sending.specs.declared.Sender.{Sender}
use Rattle.sending.specs.declared.Wrote.{Wrote}
use Rattle.sending.specs.declared.News.{News}

pub record Exchange : Type 0 where
  pub sender : Sender
  -- the carry that the sender's hears are lent
  pub heard : List ℕ
  -- the orders left
  pub todo : List Order
  -- the bytes on their way to the console
  pub there : List ℕ
  -- the console's receiver, its carry, and the history of its calls
  pub world : World
  -- the replies on their way back
  pub back : List ℕ
  -- what every hear told, and what every write was refused with, newest first
  pub news : List News
  pub refusals : List ℕ

-- what either side may do next, with what it lends: the office makes its next call or hears some of the replies; the console feeds some of
-- the bytes, or its user allows a session, or it answers what is owed with done
pub data Turn : Type 0 where
  write : (out : List ℕ) → Turn
  hear : (n : ℕ) (scratch : List ℕ) → Turn
  feed : (n : ℕ) (scratch reply : List ℕ) → Turn
  allow : (id reply : List ℕ) → Turn
  done : (reply : List ℕ) → Turn

-- ---- the office's turns
abbrev pub order_of : Machine → Sender → Order → (out : List ℕ) → Outcome Wrote
order_of m s (Order.send id) out = m.sends s id out
order_of m s (Order.file id name size) out = m.files s id name size out
order_of m s (Order.piece contents last) out = m.pieces s contents last out
order_of m s Order.finish out = m.finishes s out

-- an order that is written leaves the list, and its bytes join the line; a refused one stays
abbrev pub after_write : Exchange → List Order → Outcome Wrote → Exchange
after_write e os o = go o.answer.writing
  where
    go : Result ℕ ℕ → Exchange
    go (Err n) =
        record {
          sender = o.answer.sender;
          heard = e.heard;
          todo = e.todo;
          there = e.there;
          world = e.world;
          back = e.back;
          news = e.news;
          refusals = n ∷ e.refusals;
        }
    go (Ok n) =
        record {
          sender = o.answer.sender;
          heard = e.heard;
          todo = os;
          there = e.there ++ take n o.buffer;
          world = e.world;
          back = e.back;
          news = e.news;
          refusals = e.refusals;
        }

abbrev pub write_turn : Machine → Exchange → List Order → (out : List ℕ) → Exchange
write_turn m e [] out = e
write_turn m e (o ∷ os) out = after_write e os (order_of m e.sender o out)

-- what is consumed leaves the line
abbrev pub after_hear : Exchange → Listening → Exchange
after_hear e l =
    record {
      sender = l.listened.sender;
      heard = l.carry;
      todo = e.todo;
      there = e.there;
      world = e.world;
      back = drop l.listened.consumed e.back;
      news = l.listened.news ∷ e.news;
      refusals = e.refusals;
    }

-- ---- the console's turns: the calls of the claim for the receiver, from which the history is made
-- a call's world, the bytes that are left of those on their way, and its reply on its way back
abbrev pub after_console : Exchange → World → (there reply : List ℕ) → Exchange
after_console e w there reply =
    record {
      sender = e.sender;
      heard = e.heard;
      todo = e.todo;
      there = there;
      world = w;
      back = e.back ++ reply;
      news = e.news;
      refusals = e.refusals;
    }

abbrev pub answer_turn : Exchange → Call → Outcome Answered → Exchange
answer_turn e c a = after_console e (Console.step Console.ours e.world c) e.there (take a.answer.reply_len a.buffer)

abbrev pub turn : Machine → Exchange → Turn → Exchange
turn m e (Turn.write out) = write_turn m e e.todo out
turn m e (Turn.hear n scratch) = after_hear e (m.hears e.sender (take n e.back) e.heard scratch)
turn m e (Turn.feed n scratch reply) =
    let w = e.world in
    let piece = take n e.there in
    let f = feed_of w.receiver piece w.carry scratch reply in
    after_console e (Console.step Console.ours w (Call.feed piece w.carry scratch reply)) (drop f.fed.consumed e.there)
    (take f.fed.reply_len f.reply)
turn m e (Turn.allow id reply) = answer_turn e (Call.allow id reply) (allow_of e.world.receiver id reply)
turn m e (Turn.done reply) = answer_turn e (Call.done reply) (done_of e.world.receiver reply)

abbrev pub after : Machine → Exchange → List Turn → Exchange
after m e [] = e
after m e (t ∷ ts) = after m (turn m e t) ts

-- "Fed to a fresh receiver of ours": nothing is sent yet; each side's first carry is any
abbrev pub begin : Plan → (heard carry : List ℕ) → Exchange
begin p heard carry =
    record {
      sender = fresh_sender;
      heard = heard;
      todo = orders_of p;
      there = [];
      world = Console.start carry;
      back = [];
      news = [];
      refusals = [];
    }

-- all is written, fed, answered and heard
pub record AtRest (e : Exchange) : Type 0 where
  pub todo : e.todo ≡ []
  pub there : e.there ≡ []
  pub back : e.back ≡ []
  pub owed : e.world.receiver.table.owed ≡ None
