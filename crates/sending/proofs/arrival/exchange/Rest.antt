-- Every exchange that turns reach from the beginning keeps the invariant, and at rest it is whole.
use Prim.Native.Nat.{ℕ, ◌≤◌}
use mathlib.Core.Path.{◌≡◌, refl, sym, ap, ◌∙◌}
use mathlib.Core.Bool.{false}
use mathlib.Core.Logic.{◌⊎◌, inl, inr}
use mathlib.Core.List.{List, [], ◌∷◌, ◌++◌, append-nil, append_assoc, append_cancel_left, tail-eq_of_cons-eq, cons≢nil}
use native.Mathlib.Omega.{arith}
use lib.ListN.{length}
use Rattle.octets.specs.Members.{every}
use Rattle.frames.specs.Stream.{Mode, Told, stream}
use Rattle.frames.specs.Framings.{framing_of}
use Rattle.frames.proofs.Follows.{fresh-follows}
use Rattle.protocol.specs.Table.{empty_table, fresh_receiver}
use Rattle.protocol.specs.Calls.{is_owed}
use Rattle.protocol.specs.History.{bytes_of, marks_of}
use Rattle.protocol.specs.declared.Receiver.{Receiver}
use Rattle.protocol.specs.declared.Table.{Table}
use Rattle.protocol.proofs.CutsCalls.{start-kept}
use Rattle.sending.specs.Machine.{ours}
use Rattle.sending.specs.Plans.{File, Plan, Order, file_orders, orders_of, Fit}
use Rattle.sending.specs.Exchange.{Exchange, Turn, turn, after, begin, AtRest}
use Rattle.sending.specs.Arrives.{Whole}
use Rattle.sending.proofs.arrival.path.Points.{Sent, Point, next, Goes, Path, texts_at, replies_at, reached}
use Rattle.sending.proofs.arrival.path.Ends.{is_answered, over-ends, fresh-none, send-fresh}
use Rattle.sending.proofs.arrival.path.States.{past_of, table_of, owing_of, marks_at, transfer_of}
use Rattle.sending.proofs.arrival.path.Paths.{path-append, reach-append}
use Rattle.sending.proofs.arrival.path.PlanPaths.{plan-path, plan-reach}
use Rattle.sending.proofs.arrival.receiver.Answers.{owed-order}
use Rattle.sending.proofs.arrival.line.Line.{all_told}
use Rattle.sending.proofs.arrival.history.Marks.{plan_marks}
use Rattle.sending.proofs.arrival.history.Arrived.{past_files, plan_transfer, plan-whole}
use Rattle.sending.proofs.arrival.exchange.Hears.{Sends}
use Rattle.sending.proofs.arrival.exchange.Invariant.{Invariant}
use Rattle.sending.proofs.arrival.exchange.Turns.{turn-kept}

-- ---- from the beginning, at every exchange that turns reach
pub begin-kept : (p : Plan) (heard carry : List ℕ) → Invariant p (begin p heard carry)
unfolding stream marks_of every
begin-kept p heard carry =
    record {
      heard = [];
      replied = [];
      owed = [];
      unread = [];
      all = refl;
      few = omega arith;
      alone = λ e. omega arith;
      console = record { kept = start-kept carry; table = refl; line = record { bytes = refl; told = refl; whole = refl }; marks = refl };
      office =
          record {
            old = [];
            follows = fresh-follows heard;
            line = record { bytes = refl; told = refl; whole = refl };
            others = [];
            transfer = refl;
            behind = record { path = tt; reached = refl; behind = refl };
          };
      refusals = refl;
      news = refl;
    }

pub after_kept : (p : Plan) → Fit p → (e : Exchange) (ts : List Turn) → Invariant p e → Invariant p (after ours e ts)
after_kept p fit e [] i = i
after_kept p fit e (t ∷ ts) i = after_kept p fit (turn ours e t) ts (turn-kept p fit e i t)

-- ---- at rest
-- a send is not all of a plan
file-orders : (fs : List File) → (o : Order) × (os : List Order) × (file_orders fs ≡ o ∷ os)
file-orders [] = (Order.finish, [], refl)
file-orders (f ∷ fs) = (_, _, refl)

-- each order has a text
pub no-texts : (id : List ℕ) (q : Point) (os : List Order) → texts_at id q os ≡ [] → os ≡ []
no-texts id q [] e = refl
no-texts id q (o ∷ os) e = absurd (cons≢nil e)

-- orders without a reply: none, or a finish
pub data Silent (id : List ℕ) (h : Point) : List Order → Type 0 where
  none : Silent id h []
  finish : (past : List Sent) → h ≡ Point.idle past → Silent id h (Order.finish ∷ [])

pub silent : (id : List ℕ) (h : Point) (os : List Order) → Path id h os → replies_at id h os ≡ [] → Silent id h os
silent id h [] path e = none
silent id h (o ∷ os) path e = go path.0 path.1 e
  where
    go : {h : Point} {o : Order} → Goes id h o → Path id (next h o) os → replies_at id h (o ∷ os) ≡ [] → Silent id h (o ∷ os)
    go (Goes.sends i) path e = absurd (cons≢nil e)
    go (Goes.files past k name size i now valid bytes) path e = absurd (cons≢nil e)
    go (Goes.pieces past f c i now fit long within) path e = absurd (cons≢nil e)
    go (Goes.lasts past f c i now fit long whole) path e = absurd (cons≢nil e)
    go (Goes.finishes past i before) path e = rw (over-ends id past os path) (finish past refl)

closed-transfer : (id : List ℕ) (h w : Point) (others past : List Sent) → w ≡ Point.over past
    → (h ≡ Point.over past) ⊎ (h ≡ Point.idle past)
    → past_of w ≡ past_of h ++ others → transfer_of id h w others ≡ transfer_of id (Point.idle past) (Point.over past) []
closed-transfer id h w others past a (inl b) c =
    let n : [] ≡ others = append_cancel_left past [] others (append-nil past ∙ (rw (a, b) at c)) in
    rw (a, b, ← n)
closed-transfer id h w others past a (inr b) c =
    let n : [] ≡ others = append_cancel_left past [] others (append-nil past ∙ (rw (a, b) at c)) in
    rw (a, b, ← n)

module _ (p : Plan) (fit : Fit p) (e : Exchange) (i : Invariant p e) (r : AtRest e) where
  unread-none : i.unread ≡ []
  unread-none = no-texts p.id _ i.unread (all_told _ _ _ _ i.console.line r.there)

  all_read : i.heard ++ (i.replied ++ (i.owed ++ [])) ≡ orders_of p
  all_read = rw (unread-none, r.todo) at i.all

  -- nothing is owed but to a send, and after that there is more to do
  owed_none : i.owed ≡ []
  owed_none = go i.owed refl
    where
      done : List Order
      done = i.heard ++ i.replied

      unanswered : (o : Order) → i.owed ≡ o ∷ [] → is_answered o ≡ false
      unanswered o q =
          let t : e.world.receiver.table ≡ owing_of p.id (reached done) o = rw q at i.console.table in
          sym (owed-order p.id (reached done) o) ∙ ap is_owed (sym (ap (λ (t : Table). t.owed) t) ∙ r.owed)

      go : (owed : List Order) → i.owed ≡ owed → i.owed ≡ []
      go [] q = q
      go (o ∷ []) q =
          let all : done ++ o ∷ [] ≡ orders_of p = append_assoc i.heard i.replied (o ∷ []) ∙ (rw q at all_read) in
          let path = path-append p.id Point.fresh done (o ∷ []) (rw all (plan-path p fit)) in
          let none = fresh-none p.id Point.fresh done path.0 (send-fresh o path.1.0 (unanswered o q)) in
          let one : o ∷ [] ≡ orders_of p = rw none at all in
          let more = file-orders p.files in
          absurd (cons≢nil (sym (tail-eq_of_cons-eq one ∙ more.2)))
      go (o ∷ o' ∷ os) q = let h : 2 ≤ length i.owed = rw q (omega arith) in absurd (omega (arith, i.few))

  all-answered : i.heard ++ i.replied ≡ orders_of p
  all-answered = ap (λ (l : List Order). i.heard ++ l) (sym (append-nil i.replied)) ∙ (rw owed_none at all_read)

  past_all : reached (i.heard ++ i.replied) ≡ Point.over (past_files p)
  past_all = ap reached all-answered ∙ plan-reach p

  marks-all : marks_of e.world.history ≡ plan_marks p
  marks-all = (rw owed_none at i.console.marks) ∙ ap (λ (l : List Order). marks_at p.id Point.fresh l []) all-answered

  table-free : e.world.receiver.table ≡ empty_table
  table-free = (rw owed_none at i.console.table) ∙ ap (table_of p.id) past_all

  framing-plain : e.world.receiver.framing ≡ framing_of Mode.outside
  framing-plain =
      let l = rw r.there at i.console.line in
      let bytes = sym (append-nil (bytes_of e.world.history)) ∙ l.bytes in
      let mode = ap (λ (bs : List ℕ). (stream Mode.outside bs).1) bytes ∙ ap (λ (x : List Told × Mode). x.1) l.whole in
      i.console.kept.follows.framing ∙ ap framing_of mode

  transfer-closed : e.sender.transfer ≡ plan_transfer p
  transfer-closed =
      k.transfer
      ∙ closed-transfer p.id (reached i.heard) w k.others (past_files p) ends (go i.replied refl) k.behind.behind
    where
      k : Sends p.id i.heard i.replied (i.owed ++ i.unread) e.sender e.heard e.back
      k = i.office

      w : Point
      w = reached (i.heard ++ (i.replied ++ (i.owed ++ i.unread)))

      ends : w ≡ Point.over (past_files p)
      ends = rw (owed_none, unread-none, append-nil i.replied) past_all

      quiet : replies_at p.id (reached i.heard) i.replied ≡ []
      quiet = all_told _ _ _ _ k.line r.back

      path : Path p.id (reached i.heard) i.replied
      path = (path-append p.id Point.fresh i.heard i.replied (rw all-answered (plan-path p fit))).1

      go : (replied : List Order) → i.replied ≡ replied
          → (reached i.heard ≡ Point.over (past_files p)) ⊎ (reached i.heard ≡ Point.idle (past_files p))
      go replied q = by (silent p.id (reached i.heard) replied (rw q at path) (rw q at quiet)) (rw q at past_all)
        where
          by : {os : List Order} → Silent p.id (reached i.heard) os → reached (i.heard ++ os) ≡ Point.over (past_files p)
              → (reached i.heard ≡ Point.over (past_files p)) ⊎ (reached i.heard ≡ Point.idle (past_files p))
          by none t = inl (rw (append-nil i.heard) at t)
          by (finish past h) t =
              let o : Point.over past ≡ Point.over (past_files p) =
              sym (reach-append Point.fresh i.heard (Order.finish ∷ []) ∙ rw h) ∙ t in
              let a : past ≡ past_files p = cc in
              inr (h ∙ ap Point.idle a)

fresh-receiver : (r : Receiver) → r.framing ≡ framing_of Mode.outside → r.table ≡ empty_table → r ≡ fresh_receiver
fresh-receiver r f t =
    ap {B = Receiver} (λ x. record { framing = x; table = r.table }) f
    ∙ ap {B = Receiver} (λ x. record { framing = framing_of Mode.outside; table = x }) t

-- "what is sent arrives whole"
pub whole-at-rest : (p : Plan) → Fit p → (e : Exchange) → Invariant p e → AtRest e → Whole p e
whole-at-rest p fit e i r =
    let free = fresh-receiver e.world.receiver (framing-plain p fit e i r) (table-free p fit e i r) in
    plan-whole p fit e (marks-all p fit e i r) (transfer-closed p fit e i r) free
