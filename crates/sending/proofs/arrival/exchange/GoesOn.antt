-- From every exchange that turns reach, some turns bring it to rest.
use Prim.Native.Nat.{ℕ, zero, suc, ◌≤◌, ◌<◌}
use mathlib.Core.Path.{◌≡◌, refl, sym, ap, ◌∙◌}
use mathlib.Core.Bool.{Bool, true, false}
use mathlib.Core.Logic.{◌⊎◌, inl, inr}
use mathlib.Core.List.{List, [], ◌∷◌, ◌++◌, append-nil}
use native.Mathlib.Omega.{arith}
use lib.ListN.{length, take, length-append}
use lib.Dec.{lit≤}
use lib.Seq.{sets}
use Rattle.octets.specs.Outcome.{Outcome}
use Rattle.frames.specs.Stream.{framed}
use Rattle.protocol.specs.Calls.{is_owed, allow_of, done_of}
use Rattle.protocol.specs.Sessions.{settle_done, decided_of}
use Rattle.protocol.specs.Machine.{Call}
use Rattle.protocol.specs.declared.Table.{Table}
use Rattle.protocol.specs.declared.Decision.TheVariants as Decision
use Rattle.protocol.proofs.Ours.{step}
use Rattle.protocol.proofs.Laws.{no_way}
use Rattle.sending.specs.Machine.{ours}
use Rattle.sending.specs.Plans.{Plan, Order, Fit}
use Rattle.sending.specs.Exchange.{Exchange, Turn, turn, after, begin, write_turn, after_write, AtRest}
use Rattle.sending.specs.Arrives.{Arrives}
use Rattle.sending.specs.declared.Wrote.{Wrote}
use Rattle.sending.proofs.arrival.path.Points.{Point, next, Goes, text_at, reached}
use Rattle.sending.proofs.arrival.path.Ends.{is_answered, at_fresh}
use Rattle.sending.proofs.arrival.path.States.{table_of, owing_of}
use Rattle.sending.proofs.arrival.path.Texts.{order-length}
use Rattle.sending.proofs.arrival.path.Paths.{path-append}
use Rattle.sending.proofs.arrival.receiver.Answers.{allow-order, done_order}
use Rattle.sending.proofs.arrival.receiver.Promised.{promised}
use Rattle.sending.proofs.arrival.sender.Behind.{heard-sent}
use Rattle.sending.proofs.arrival.sender.Writes.{wrote_as}
use Rattle.sending.proofs.arrival.line.Line.{all_told}
use Rattle.sending.proofs.arrival.exchange.Writes.{GoesOut, ready}
use Rattle.sending.proofs.arrival.exchange.Invariant.{Invariant}
use Rattle.sending.proofs.arrival.exchange.Turns.{turn-kept, path, written-path, read-path}
use Rattle.sending.proofs.arrival.exchange.Rest.{begin-kept, after_kept, Silent, none, finish, silent, no-texts, whole-at-rest}
use Rattle.sending.proofs.arrival.exchange.Rooms.{Roomy, room-kept, after-room}
use Rattle.sending.proofs.arrival.exchange.Progress.{left, out, reply, scratch, hear-less, feed-less, answer-less, guarded-table}

-- a turn that makes what is left smaller
abbrev Less : Exchange → Type 0
Less e = (t : Turn) × (left (turn ours e t) < left e)

-- the session that is asked for is allowed
asked-allowed : {id : List ℕ} {q : Point} {o : Order} → Goes id q o → is_answered o ≡ false
    → (decided_of (owing_of id q o) Decision.Allow id).table ≡ table_of id (next q o)
asked-allowed {id} (Goes.sends i) a = (allow-order id i).table
asked-allowed (Goes.files past k name size i now valid bytes) a = no_way a
asked-allowed (Goes.pieces past f c i now fit long within) a = no_way a
asked-allowed (Goes.lasts past f c i now fit long whole) a = no_way a
asked-allowed (Goes.finishes past i before) a = no_way a

module _ (p : Plan) (fit : Fit p) (e : Exchange) (i : Invariant p e) (r : Roomy e) where
  abbrev done : List Order
  done = i.heard ++ i.replied

  -- what is read is answered: a send is allowed, anything else done
  answers : (o : Order) → i.owed ≡ o ∷ [] → Less e
  answers o q = go (is_answered o) refl
    where
      at : Point
      at = reached done

      t : e.world.receiver.table ≡ owing_of p.id at o
      t = rw q at i.console.table

      g : Goes p.id at o
      g = (rw q at (path-append p.id Point.fresh done (i.owed ++ i.unread) (read-path p fit e i)).1).0

      go : (b : Bool) → is_answered o ≡ b → Less e
      go true a =
          let w = e.world in
          let z = i.console.kept.sized in
          let short = (promised w.receiver z [] [] [] reply []).dones.short in
          let n : (done_of w.receiver reply).answer.receiver.table ≡ table_of p.id (next at o) =
          unfold done_of in guarded-table w.receiver (settle_done w.receiver.table)
          ∙ ap (λ (x : Table). (settle_done x).table) t ∙ (done_order g a).table in
          (Turn.done reply, answer-less e p.id at o t z (step w (Call.done reply)) (done_of w.receiver reply) n short)
      go false a =
          let w = e.world in
          let z = i.console.kept.sized in
          let k = p.id in
          let short = (promised w.receiver z [] [] [] reply k).allows.short in
          let n : (allow_of w.receiver k reply).answer.receiver.table ≡ table_of p.id (next at o) =
          unfold allow_of in guarded-table w.receiver (decided_of w.receiver.table Decision.Allow k)
          ∙ ap (λ (x : Table). (decided_of x Decision.Allow k).table) t ∙ asked-allowed g a in
          (Turn.allow k reply, answer-less e p.id at o t z (step w (Call.allow k reply)) (allow_of w.receiver k reply) n short)

  -- all is read, answered and heard: the next order is written
  writes : (o : Order) (os : List Order) → e.todo ≡ o ∷ os → i.owed ≡ [] → e.there ≡ [] → e.back ≡ [] → Less e
  writes o os q n th b = (Turn.write out, less)
    where
      rest : List Order
      rest = i.owed ++ i.unread

      all : List Order
      all = i.heard ++ (i.replied ++ rest)

      g : Goes p.id (reached all) o
      g = (path-append p.id Point.fresh all (o ∷ os) (rw q at (written-path p fit e i))).1.0

      none-on-way : rest ≡ []
      none-on-way = rw n (no-texts p.id _ i.unread (all_told _ _ _ _ i.console.line th))

      -- the reply to send is heard, if send is written
      same : {os : List Order} → i.replied ≡ os → Silent p.id (reached i.heard) os
          → at_fresh (reached i.heard) ≡ at_fresh (reached all)
      same s none = rw (s, none-on-way, append-nil i.heard)
      same s (finish past h) =
          let f : at_fresh (reached i.heard) ≡ false = ap at_fresh h in
          f ∙ sym (heard-sent i.office.behind f)

      quiet : Silent p.id (reached i.heard) i.replied
      quiet =
          silent p.id (reached i.heard) i.replied
          (path-append p.id (reached i.heard) i.replied (i.owed ++ (i.unread ++ e.todo))
          (path-append p.id Point.fresh i.heard (i.replied ++ (i.owed ++ (i.unread ++ e.todo))) (path p fit e i)).1).0
          (all_told _ _ _ _ i.office.line b)

      goes_out : GoesOut p.id i.heard i.replied rest e.sender o e.heard e.back out
      goes_out =
          ready p.id i.heard i.replied rest e.sender o e.heard e.back out g i.office
          (same refl quiet) (lit≤ tt)

      frame : List ℕ
      frame = framed (text_at p.id (reached all) o)

      -- the exchange after it
      wrote : Outcome Wrote
      wrote = wrote_as e.sender.framing p.id (reached all) o goes_out.transfer out

      after_it : turn ours e (Turn.write out) ≡ after_write e os wrote
      after_it = ap (λ (l : List Order). write_turn ours e l out) q ∙ ap (after_write e os) goes_out.wrote

      less : left (turn ours e (Turn.write out)) < left e
      less =
          let now : left (after_write e os wrote) < left e =
          omega (
            arith,
            ap length q,
            length-append e.there (take (length frame) (sets out 0 frame)),
            ap length goes_out.stands,
            order-length g,
          ) in
          rw after_it now

  goes : AtRest e ⊎ Less e
  goes = by-back e.back refl
    where
      rest : e.back ≡ [] → i.owed ≡ [] → e.there ≡ [] → (todo : List Order) → e.todo ≡ todo → AtRest e ⊎ Less e
      rest b n th [] q =
          inl (record { todo = q; there = th; back = b; owed = ap (λ (t : Table). t.owed) (rw n at i.console.table) })
      rest b n th (o ∷ os) q = inr (writes o os q n th b)

      by-there : e.back ≡ [] → i.owed ≡ [] → (there : List ℕ) → e.there ≡ there → AtRest e ⊎ Less e
      by-there b n [] q = rest b n q e.todo refl
      by-there b n (x ∷ xs) q =
          let free : is_owed e.world.receiver.table.owed ≡ false =
          ap (λ (t : Table). is_owed t.owed) (rw n at i.console.table) in
          let some : 1 ≤ length e.there = rw q (omega arith) in
          inr (Turn.feed (length e.there) scratch reply, feed-less e r free i.console.kept.sized some)

      by-owed : e.back ≡ [] → (owed : List Order) → i.owed ≡ owed → AtRest e ⊎ Less e
      by-owed b [] q = by-there b q e.there refl
      by-owed b (o ∷ []) q = inr (answers o q)
      by-owed b (o ∷ o' ∷ os) q = let h : 2 ≤ length i.owed = rw q (omega arith) in absurd (omega (arith, i.few))

      by-back : (back : List ℕ) → e.back ≡ back → AtRest e ⊎ Less e
      by-back [] q = by-owed q i.owed refl
      by-back (x ∷ xs) q =
          let some : 1 ≤ length e.back = rw q (omega arith) in
          inr (Turn.hear (length e.back) scratch, hear-less e r some)

-- ---- so turns come to an end
ends : (p : Plan) → Fit p → (n : ℕ) (e : Exchange) → Invariant p e → Roomy e → left e ≤ n → (ts : List Turn) × AtRest (after ours e ts)
ends p fit zero e i r h = go (goes p fit e i r)
  where
    go : AtRest e ⊎ Less e → (ts : List Turn) × AtRest (after ours e ts)
    go (inl rest) = ([], rest)
    go (inr less) = absurd (omega (arith, less.1))
ends p fit (suc n) e i r h =
    go (goes p fit e i r)
    (λ (t : Turn) (l : left (turn ours e t) < left e). ends p fit n (turn ours e t) (turn-kept p fit e i t) (room-kept e t r) (omega arith))
  where
    go : AtRest e ⊎ Less e → ((t : Turn) → left (turn ours e t) < left e → (ts : List Turn) × AtRest (after ours (turn ours e t) ts))
        → (ts : List Turn) × AtRest (after ours e ts)
    go (inl rest) f = ([], rest)
    go (inr less) f = let x = f less.0 less.1 in (less.0 ∷ x.0, x.1)

goes_on : (p : Plan) → Fit p → (e : Exchange) → Invariant p e → Roomy e → (ts : List Turn) × AtRest (after ours e ts)
goes_on p fit e i r = ends p fit (left e) e i r (omega arith)

-- ---- the theorem
pub arrives : Arrives ours
arrives p fit heard carry ts =
    let e = after ours (begin p heard carry) ts in
    let i = after_kept p fit (begin p heard carry) ts (begin-kept p heard carry) in
    record {
      refusals = i.refusals;
      news = i.news;
      whole = whole-at-rest p fit e i;
      goes_on = λ a b. goes_on p fit e i (after-room (begin p heard carry) ts (record { office = a; console = b }));
    }
