-- Our calls on other orders than those given: the exchange is ours with those other orders, so both plans would arrive whole by it.
use Rattle.std.specs.Prelude.{Result, Ok, Err}
use Prim.Native.Nat.{ℕ, ◌≤◌}
use mathlib.Core.Path.{◌≡◌, refl}
use mathlib.Core.List.{List, [], ◌∷◌, map}
use native.Mathlib.Nat.{le_refl}
use lib.ListN.{length, length-replicate}
use Rattle.octets.specs.Outcome.{Outcome, outcome}
use Rattle.frames.specs.Stream.{text_limit}
use Rattle.protocol.proofs.Refuting.{carry₀}
use Rattle.sending.specs.Machine.{ours}
use Rattle.sending.specs.Plans.{Plan, Order, orders_of, Fit}
use Rattle.sending.specs.Exchange.{Exchange, Turn, order_of, after_write, write_turn, turn, after, begin, AtRest}
use Rattle.sending.specs.Arrives.{Arrives, Whole}
use Rattle.sending.specs.WrongArrivals.{mistaking}
use Rattle.sending.specs.declared.Sender.{Sender}
use Rattle.sending.specs.declared.Wrote.{Wrote}
use Rattle.sending.proofs.arrival.lists.Empty.{empty_under}

-- a carry with room
pub has_room : text_limit ≤ length carry₀
unfolding carry₀
has_room = rw (length-replicate {A = ℕ} text_limit 0) (le_refl text_limit)

module _ (f : Order → Order) where
  -- the exchange with the other orders
  abbrev pub mistaken : Exchange → Exchange
  mistaken e =
      record {
        sender = e.sender;
        heard = e.heard;
        todo = map f e.todo;
        there = e.there;
        world = e.world;
        back = e.back;
        news = e.news;
        refusals = e.refusals;
      }

  order-mistaken : (s : Sender) (o : Order) (out : List ℕ) → order_of (mistaking f) s o out ≡ order_of ours s (f o) out
  order-mistaken s (Order.send id) out = refl
  order-mistaken s (Order.file id name size) out = refl
  order-mistaken s (Order.piece contents last) out = refl
  order-mistaken s Order.finish out = refl

  wrote-mistaken : (e : Exchange) (os : List Order) (s : Sender) (w : Result ℕ ℕ) (out : List ℕ)
      → let a : Outcome Wrote = outcome (record { sender = s; writing = w }) out in
      after_write (mistaken e) (map f os) a ≡ mistaken (after_write e os a)
  wrote-mistaken e os s (Err n) out = refl
  wrote-mistaken e os s (Ok n) out = refl

  write-mistaken : (e : Exchange) (os : List Order) (out : List ℕ)
      → write_turn ours (mistaken e) (map f os) out ≡ mistaken (write_turn (mistaking f) e os out)
  write-mistaken e [] out = refl
  write-mistaken e (o ∷ os) out =
      let a = order_of ours e.sender (f o) out in
      rw (order-mistaken e.sender o out) (wrote-mistaken e os a.answer.sender a.answer.writing a.buffer)

  turn-mistaken : (e : Exchange) (t : Turn) → turn ours (mistaken e) t ≡ mistaken (turn (mistaking f) e t)
  turn-mistaken e (Turn.write out) = write-mistaken e e.todo out
  turn-mistaken e (Turn.hear n scratch) = refl
  turn-mistaken e (Turn.feed n scratch reply) = refl
  turn-mistaken e (Turn.allow id reply) = refl
  turn-mistaken e (Turn.done reply) = refl

  after-mistaken : (e : Exchange) (ts : List Turn) → after ours (mistaken e) ts ≡ mistaken (after (mistaking f) e ts)
  after-mistaken e [] = refl
  after-mistaken e (t ∷ ts) = rw (turn-mistaken e t) (after-mistaken (turn (mistaking f) e t) ts)

  -- ---- if it arrives: two plans, whole in one exchange
  pub record Both (p p' : Plan) : Type 0 where
    pub exchange : Exchange
    pub given : Whole p exchange
    pub other : Whole p' (mistaken exchange)

  -- the plan that was given, and the one that was sent
  pub both-whole : Arrives ours → Arrives (mistaking f) → (p p' : Plan) → Fit p → Fit p' → map f (orders_of p) ≡ orders_of p' → Both p p'
  both-whole right wrong p p' fit fit' same =
      record {
        exchange = e;
        given = (wrong p fit carry₀ carry₀ ts).whole rest;
        other = (rw seen at (right p' fit' carry₀ carry₀ ts).whole) rest';
      }
    where
      goes : (ts : List Turn) × AtRest (after ours (begin p' carry₀ carry₀) ts)
      goes = (right p' fit' carry₀ carry₀ []).goes_on has_room has_room

      ts : List Turn
      ts = goes.0

      e : Exchange
      e = after (mistaking f) (begin p carry₀ carry₀) ts

      begins : mistaken (begin p carry₀ carry₀) ≡ begin p' carry₀ carry₀
      begins = rw same

      seen : after ours (begin p' carry₀ carry₀) ts ≡ mistaken e
      seen = rw (← begins) (after-mistaken (begin p carry₀ carry₀) ts)

      rest' : AtRest (mistaken e)
      rest' = rw seen at goes.1

      rest : AtRest e
      rest = record { todo = empty_under f e.todo rest'.todo; there = rest'.there; back = rest'.back; owed = rest'.owed }
