-- Every turn keeps what an exchange keeps.
use Prim.Native.Nat.{ℕ, ◌≤◌}
use mathlib.Core.Path.{◌≡◌, refl, sym, ap, ◌∙◌}
use mathlib.Core.Bool.{true}
use mathlib.Core.List.{List, [], ◌∷◌, ◌++◌, append-nil, append_assoc}
use native.Mathlib.Omega.{arith}
use lib.ListN.{length, take, drop, length-append}
use Rattle.octets.specs.Members.{every}
use Rattle.frames.specs.Stream.{framed}
use Rattle.protocol.specs.Machine.{World, Call}
use Rattle.protocol.specs.Calls.{Feeding, feed_of, allow_of, done_of}
use Rattle.protocol.proofs.Ours.{step}
use Rattle.protocol.proofs.Laws.{no_way}
use Rattle.sending.specs.Calls.{Listening, hear_of}
use Rattle.sending.specs.Machine.{ours}
use Rattle.sending.specs.Plans.{Plan, Order, Fit}
use Rattle.sending.specs.Exchange.{Exchange, Turn, turn, write_turn, after_write, after_console, order_of}
use Rattle.sending.specs.Arrives.{is_fine}
use Rattle.sending.proofs.arrival.lists.Empty.{empty_left, empty-short}
use Rattle.sending.proofs.arrival.path.Points.{Point, reach, Goes, Path, text_at, frames, reached}
use Rattle.sending.proofs.arrival.path.Ends.{at_fresh, goes-sent, fresh-none, send-fresh}
use Rattle.sending.proofs.arrival.path.Paths.{path-append, path_join, reach-append}
use Rattle.sending.proofs.arrival.path.PlanPaths.{plan-path}
use Rattle.sending.proofs.arrival.line.Fed.{reply_of}
use Rattle.sending.proofs.arrival.exchange.Feeds.{Receives, Feeds, feed-turn}
use Rattle.sending.proofs.arrival.exchange.Feeds as FeedTurn
use Rattle.sending.proofs.arrival.exchange.Answers.{sent_by, Answers, done-turn, allow-turn}
use Rattle.sending.proofs.arrival.exchange.Answers as AnswerTurn
use Rattle.sending.proofs.arrival.exchange.Hears.{Hears, hear-turn}
use Rattle.sending.proofs.arrival.exchange.Hears as HearTurn
use Rattle.sending.proofs.arrival.exchange.Writes.{Writes, write-turn}
use Rattle.sending.proofs.arrival.exchange.Writes as WriteTurn
use Rattle.sending.proofs.arrival.exchange.Invariant.{Invariant, more-there, more-back}

module _ (p : Plan) (fit : Fit p) (e : Exchange) (i : Invariant p e) where
  -- the path through all of its orders
  pub path : Path p.id Point.fresh (i.heard ++ (i.replied ++ (i.owed ++ (i.unread ++ e.todo))))
  path = rw i.all (plan-path p fit)

  -- as the office divides them, and as the console does
  pub written-path : Path p.id Point.fresh ((i.heard ++ (i.replied ++ (i.owed ++ i.unread))) ++ e.todo)
  written-path =
      rw (
        append_assoc i.heard (i.replied ++ (i.owed ++ i.unread)) e.todo,
        append_assoc i.replied (i.owed ++ i.unread) e.todo,
        append_assoc i.owed i.unread e.todo,
      ) path

  abbrev done : List Order
  done = i.heard ++ i.replied

  pub read-path : Path p.id Point.fresh ((i.heard ++ i.replied) ++ (i.owed ++ i.unread))
  read-path =
      rw (append_assoc i.heard i.replied (i.owed ++ i.unread))
      (path-append p.id Point.fresh (i.heard ++ (i.replied ++ (i.owed ++ i.unread))) e.todo written-path).0

  -- while send is read and not answered, nothing is on its way
  alone-send : (k : List ℕ) → i.owed ≡ Order.send k ∷ [] → i.unread ≡ []
  alone-send k q =
      let parts = path-append p.id Point.fresh done (i.owed ++ i.unread) read-path in
      let g : Goes p.id (reached done) (Order.send k) = (rw q at parts.1).0 in
      let none = fresh-none p.id Point.fresh done parts.0 (send-fresh (Order.send k) g refl) in
      let first : at_fresh (reached i.heard) ≡ true =
      ap (λ (l : List Order). at_fresh (reached l)) (empty_left i.heard i.replied none) in
      let short : length (i.replied ++ (Order.send k ∷ i.unread)) ≤ 1 = rw q at (i.alone first) in
      empty-short i.unread (omega (arith, length-append i.replied (Order.send k ∷ i.unread)))

  -- ---- the console's turns
  -- one that reads and answers nothing
  unmoved : (w : World) (there bytes : List ℕ) → bytes ≡ [] → Receives p.id done i.owed i.unread w there
      → Invariant p (after_console e w there bytes)
  unmoved w there bytes none c =
      record {
        heard = i.heard;
        replied = i.replied;
        owed = i.owed;
        unread = i.unread;
        all = i.all;
        few = i.few;
        alone = i.alone;
        console = c;
        office = rw (none, append-nil e.back) i.office;
        refusals = i.refusals;
        news = i.news;
      }

  fed : (n : ℕ) (scratch reply : List ℕ) → Invariant p (turn ours e (Turn.feed n scratch reply))
  fed n scratch reply =
      go (feed-turn p.id done e.world e.there n scratch reply i.owed i.unread read-path i.few alone-send i.console)
    where
      f : Feeding
      f = feed_of e.world.receiver (take n e.there) e.world.carry scratch reply

      go : Feeds p.id done i.owed i.unread (step e.world (Call.feed (take n e.there) e.world.carry scratch reply))
          (drop f.fed.consumed e.there) (reply_of f)
          → Invariant p (turn ours e (Turn.feed n scratch reply))
      go (FeedTurn.same r c) = unmoved _ _ (reply_of f) r c
      go (FeedTurn.read o rest q u r c) =
          record {
            heard = i.heard;
            replied = i.replied;
            owed = o ∷ [];
            unread = rest;
            all = rw (q, u) at i.all;
            few = omega arith;
            alone = rw (q, u) at i.alone;
            console = c;
            office = rw (r, append-nil e.back) (rw (q, u) at i.office);
            refusals = i.refusals;
            news = i.news;
          }

  -- an answer, whichever call it is
  answered : (w : World) (bytes : List ℕ) → Answers p.id done i.owed i.unread w e.there bytes
      → Invariant p (after_console e w e.there bytes)
  answered w bytes (AnswerTurn.same r c) = unmoved w e.there bytes r c
  answered w bytes (AnswerTurn.answers o q r c) =
      let x : Path p.id Point.fresh (i.heard ++ (i.replied ++ (o ∷ (i.unread ++ e.todo)))) = rw q at path in
      let a : (i.heard ++ (i.replied ++ o ∷ [])) ++ (i.unread ++ e.todo) ≡ i.heard ++ (i.replied ++ (o ∷ (i.unread ++ e.todo))) =
      append_assoc i.heard (i.replied ++ o ∷ []) (i.unread ++ e.todo)
      ∙ ap (λ (l : List Order). i.heard ++ l) (append_assoc i.replied (o ∷ []) (i.unread ++ e.todo)) in
      let y = (path-append p.id Point.fresh (i.heard ++ (i.replied ++ o ∷ [])) (i.unread ++ e.todo) (rw a x)).0 in
      record {
        heard = i.heard;
        replied = i.replied ++ o ∷ [];
        owed = [];
        unread = i.unread;
        all = rw (append_assoc i.replied (o ∷ []) (i.unread ++ e.todo)) (rw q at i.all);
        few = omega arith;
        alone = rw (append_assoc i.replied (o ∷ []) i.unread) (rw q at i.alone);
        console = rw (← append_assoc i.heard i.replied (o ∷ [])) c;
        office = rw r (more-back p.id i.heard i.replied i.unread o e.sender e.heard e.back y (rw q at i.office));
        refusals = i.refusals;
        news = i.news;
      }

  allowed : (k reply : List ℕ) → Invariant p (turn ours e (Turn.allow k reply))
  allowed k reply =
      answered (step e.world (Call.allow k reply)) (sent_by (allow_of e.world.receiver k reply))
      (allow-turn p.id done i.unread e.world e.there i.owed read-path i.few i.console k reply)

  settled : (reply : List ℕ) → Invariant p (turn ours e (Turn.done reply))
  settled reply =
      answered (step e.world (Call.done reply)) (sent_by (done_of e.world.receiver reply))
      (done-turn p.id done i.unread e.world e.there i.owed read-path i.few i.console reply)

  -- ---- the office's turns
  listened : (n : ℕ) (scratch : List ℕ) → Invariant p (turn ours e (Turn.hear n scratch))
  listened n scratch =
      let x = hear-turn p.id i.heard (i.owed ++ i.unread) e.sender e.heard e.back n scratch i.replied
      (path-append p.id (reached i.heard) i.replied (i.owed ++ (i.unread ++ e.todo)) heard-path).0 i.alone i.office in
      go x.0 x.1
    where
      heard-path : Path p.id (reached i.heard) (i.replied ++ (i.owed ++ (i.unread ++ e.todo)))
      heard-path = (path-append p.id Point.fresh i.heard (i.replied ++ (i.owed ++ (i.unread ++ e.todo))) path).1

      l : Listening
      l = hear_of e.sender (take n e.back) e.heard scratch

      go : Hears p.id i.heard i.replied (i.owed ++ i.unread) l.listened.sender l.carry
          (drop l.listened.consumed e.back)
          → is_fine l.listened.news ≡ true → Invariant p (turn ours e (Turn.hear n scratch))
      go (HearTurn.same k) f =
          record {
            heard = i.heard;
            replied = i.replied;
            owed = i.owed;
            unread = i.unread;
            all = i.all;
            few = i.few;
            alone = i.alone;
            console = i.console;
            office = k;
            refusals = i.refusals;
            news = unfold every in rw f i.news;
          }
      go (HearTurn.hears o os q k) f =
          let g : Goes p.id (reached i.heard) o = (rw q at heard-path).0 in
          let a : i.heard ++ i.replied ≡ (i.heard ++ o ∷ []) ++ os = rw q (sym (append_assoc i.heard (o ∷ []) os)) in
          record {
            heard = i.heard ++ o ∷ [];
            replied = os;
            owed = i.owed;
            unread = i.unread;
            all = rw (append_assoc i.heard (o ∷ []) (os ++ (i.owed ++ (i.unread ++ e.todo)))) (rw q at i.all);
            few = i.few;
            alone = λ z. no_way (sym z ∙ rw (reach-append Point.fresh i.heard (o ∷ [])) (goes-sent g));
            console = rw a at i.console;
            office = k;
            refusals = i.refusals;
            news = unfold every in rw f i.news;
          }

  -- the order o is written, or waits
  wrote : (o : Order) (os : List Order) → e.todo ≡ o ∷ os → (out : List ℕ) → Invariant p (after_write e os (order_of ours e.sender o out))
  wrote o os q out = go (write-turn p.id i.heard i.replied rest e.sender o e.heard e.back out g i.office)
    where
      rest : List Order
      rest = i.owed ++ i.unread

      all : List Order
      all = i.heard ++ (i.replied ++ rest)

      parts : Path p.id Point.fresh all × Path p.id (reached all) (o ∷ os)
      parts = path-append p.id Point.fresh all (o ∷ os) (rw q at written-path)

      g : Goes p.id (reached all) o
      g = parts.1.0

      -- the orders as the console divides them
      as_read : all ≡ (done ++ i.owed) ++ i.unread
      as_read = sym (append_assoc i.heard i.replied rest) ∙ sym (append_assoc done i.owed i.unread)

      frame : List ℕ
      frame = framed (text_at p.id (reached all) o)

      there : frames (text_at p.id (reach (reached (done ++ i.owed)) i.unread) o ∷ []) ≡ frame
      there =
          append-nil _
          ∙ ap (λ (q : Point). framed (text_at p.id q o))
          (sym (reach-append Point.fresh (done ++ i.owed) i.unread) ∙ ap reached (sym as_read))

      read : Path p.id Point.fresh ((done ++ i.owed) ++ (i.unread ++ o ∷ []))
      read =
          rw (← append_assoc (done ++ i.owed) i.unread (o ∷ []), ← as_read)
          (path_join p.id Point.fresh all (o ∷ []) parts.0 (g, tt))

      go : Writes p.id i.heard i.replied rest e.sender o e.heard e.back out
          → Invariant p (after_write e os (order_of ours e.sender o out))
      go (WriteTurn.waits n w x) =
          rw x (record {
            heard = i.heard;
            replied = i.replied;
            owed = i.owed;
            unread = i.unread;
            all = i.all;
            few = i.few;
            alone = i.alone;
            console = i.console;
            office = i.office;
            refusals = unfold every in rw w i.refusals;
            news = i.news;
          })
      go (WriteTurn.goes x) =
          let a = append_assoc i.owed i.unread (o ∷ []) in
          let c = more-there p.id done i.owed i.unread o e.world e.there read i.console in
          rw x.wrote (record {
            heard = i.heard;
            replied = i.replied;
            owed = i.owed;
            unread = i.unread ++ o ∷ [];
            all = rw (append_assoc i.unread (o ∷ []) os) (rw q at i.all);
            few = i.few;
            alone = rw (← a) x.alone;
            console = rw x.stands (rw there at c);
            office = rw (← a) x.sends;
            refusals = i.refusals;
            news = i.news;
          })

  -- so does every turn, whatever it is lent
  pub turn-kept : (t : Turn) → Invariant p (turn ours e t)
  turn-kept (Turn.write out) = go e.todo refl
    where
      go : (todo : List Order) → e.todo ≡ todo → Invariant p (write_turn ours e todo out)
      go [] q = i
      go (o ∷ os) q = wrote o os q out
  turn-kept (Turn.hear n scratch) = listened n scratch
  turn-kept (Turn.feed n scratch reply) = fed n scratch reply
  turn-kept (Turn.allow k reply) = allowed k reply
  turn-kept (Turn.done reply) = settled reply
