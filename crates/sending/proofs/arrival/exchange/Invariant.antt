-- What every exchange keeps: the orders of the plan in five parts, those whose replies are heard, those replied to, the one that is read
-- and not answered, those on their way, and those to do; and what each side keeps of them.
use Prim.Native.Nat.{ℕ, ◌≤◌}
use mathlib.Core.Path.{◌≡◌, sym, ◌∙◌}
use mathlib.Core.Bool.{true}
use mathlib.Core.List.{List, [], ◌∷◌, ◌++◌, append-nil, append_assoc, map}
use lib.ListN.{length}
use Rattle.octets.specs.Members.{every}
use Rattle.protocol.specs.Machine.{World}
use Rattle.sending.specs.Plans.{Plan, Order, orders_of}
use Rattle.sending.specs.Exchange.{Exchange}
use Rattle.sending.specs.Arrives.{is_wait, is_fine}
use Rattle.sending.specs.declared.Sender.{Sender}
use Rattle.sending.proofs.arrival.path.Points.{Point, reach, Path, text_at, texts_at, reply_at, said_text, replies_at, frames, reached}
use Rattle.sending.proofs.arrival.path.Ends.{at_fresh}
use Rattle.sending.proofs.arrival.path.Paths.{reach-append, texts_at-append, replies_at-append, frames-told, replies-told}
use Rattle.sending.proofs.arrival.line.Line.{line-more}
use Rattle.sending.proofs.arrival.exchange.Feeds.{Receives}
use Rattle.sending.proofs.arrival.exchange.Hears.{Sends}

pub record Invariant (p : Plan) (e : Exchange) : Type 0 where
  pub heard : List Order
  pub replied : List Order
  pub owed : List Order
  pub unread : List Order
  pub all : heard ++ (replied ++ (owed ++ (unread ++ e.todo))) ≡ orders_of p
  pub few : length owed ≤ 1
  -- until the reply to send is heard, nothing but send is written
  pub alone : at_fresh (reached heard) ≡ true → length (replied ++ (owed ++ unread)) ≤ 1
  pub console : Receives p.id (heard ++ replied) owed unread e.world e.there
  pub office : Sends p.id heard replied (owed ++ unread) e.sender e.heard e.back
  pub refusals : every is_wait e.refusals ≡ true
  pub news : every is_fine e.news ≡ true

-- ---- each side with one order more
-- on its way to the console
pub more-there : (id : List ℕ) (done owed unread : List Order) (o : Order) (w : World) (there : List ℕ)
    → Path id Point.fresh ((done ++ owed) ++ (unread ++ o ∷ [])) → Receives id done owed unread w there
    → Receives id done owed (unread ++ o ∷ []) w (there ++ frames (text_at id (reach (reached (done ++ owed)) unread) o ∷ []))
more-there id done owed unread o w there path r =
    let q = reached (done ++ owed) in
    let rs = texts_at id Point.fresh (done ++ owed) in
    let us = texts_at-append id q unread (o ∷ []) in
    let all : rs ++ texts_at id q (unread ++ o ∷ []) ≡ texts_at id Point.fresh ((done ++ owed) ++ (unread ++ o ∷ [])) =
    sym (texts_at-append id Point.fresh (done ++ owed) (unread ++ o ∷ [])) in
    let whole = rw (← all, us) at (frames-told id Point.fresh ((done ++ owed) ++ (unread ++ o ∷ [])) path) in
    record {
      kept = r.kept;
      table = r.table;
      line = rw us (line-more _ there rs (texts_at id q unread) _ r.line whole);
      marks = r.marks;
    }

-- answered: its reply is on its way back
pub more-back : (id : List ℕ) (heard replied unread : List Order) (o : Order) (s : Sender) (carry back : List ℕ)
    → Path id Point.fresh (heard ++ (replied ++ o ∷ [])) → Sends id heard replied (o ∷ unread) s carry back
    → Sends id heard (replied ++ o ∷ []) unread s carry (back ++ frames (map (said_text id) (reply_at (reached (heard ++ replied)) o)))
more-back id heard replied unread o s carry back path k =
    let h = reached heard in
    let q : reached (heard ++ replied) ≡ reach h replied = reach-append Point.fresh heard replied in
    let vs = map (said_text id) (reply_at (reach h replied) o) in
    let us : replies_at id h (replied ++ o ∷ []) ≡ replies_at id h replied ++ vs =
    replies_at-append id h replied (o ∷ []) ∙ rw (append-nil (reply_at (reach h replied) o)) in
    let rs = replies_at id Point.fresh heard in
    let all : rs ++ replies_at id h (replied ++ o ∷ []) ≡ replies_at id Point.fresh (heard ++ (replied ++ o ∷ [])) =
    sym (replies_at-append id Point.fresh heard (replied ++ o ∷ [])) in
    let whole = rw (← all, us) at (replies-told id Point.fresh (heard ++ (replied ++ o ∷ [])) path) in
    let a : (replied ++ o ∷ []) ++ unread ≡ replied ++ (o ∷ unread) = append_assoc replied (o ∷ []) unread in
    record {
      old = k.old;
      follows = k.follows;
      line = rw (us, q) (line-more k.old back _ (replies_at id h replied) vs k.line whole);
      others = k.others;
      transfer = rw a k.transfer;
      behind = rw a k.behind;
    }
