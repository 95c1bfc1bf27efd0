-- The orders whose replies are not heard yet: from the point h, up to which replies are heard, to the point w, up to which all is written.
use Prim.Native.Nat.{ℕ}
use mathlib.Core.Path.{◌≡◌, refl, sym, ◌∙◌}
use mathlib.Core.Bool.{true, false}
use mathlib.Core.List.{List, [], ◌∷◌, ◌++◌, append-nil, append_assoc, append_cancel_left}
use lib.ListN.{length}
use Rattle.sending.specs.Plans.{Order}
use Rattle.sending.proofs.arrival.path.Points.{Sent, longer, Point, next, reach, Goes, Path}
use Rattle.sending.proofs.arrival.path.Ends.{at_fresh, reach-sent}
use Rattle.sending.proofs.arrival.path.States.{past_of}
use Rattle.sending.proofs.arrival.path.Paths.{reach-append, path_join}

-- the others are the files whose last piece is among these orders
pub record Behind (id : List ℕ) (h : Point) (os : List Order) (w : Point) (others : List Sent) : Type 0 where
  pub path : Path id h os
  pub reached : reach h os ≡ w
  pub behind : past_of w ≡ past_of h ++ others

-- once a reply is heard, something is written
pub heard-sent : {id : List ℕ} {h : Point} {os : List Order} {w : Point} {others : List Sent} → Behind id h os w others
    → at_fresh h ≡ false → at_fresh w ≡ false
heard-sent {h = h} {os = os} b e = rw (← b.reached) (reach-sent os h e)

-- ---- one order more
pub behind_more : {id : List ℕ} {h : Point} {os : List Order} {w : Point} {others : List Sent} → Behind id h os w others
    → (o : Order) → Goes id w o → (others' : List Sent) → past_of (next w o) ≡ past_of h ++ others'
    → Behind id h (os ++ o ∷ []) (next w o) others'
behind_more {id = id} {h = h} {os = os} b o g others' e =
    record {
      path = path_join id h os (o ∷ []) b.path (rw b.reached g, tt);
      reached = rw (← b.reached) (reach-append h os (o ∷ []));
      behind = e;
    }

-- ---- past files stay
abbrev More : Point → Point → Type 0
More p q = (more : List Sent) × (past_of q ≡ past_of p ++ more)

no_more : (past : List Sent) → (more : List Sent) × (past ≡ past ++ more)
no_more past = ([], sym (append-nil past))

next_past : (p : Point) (o : Order) → More p (next p o)
next_past Point.fresh (Order.send k) = ([], refl)
next_past Point.fresh (Order.file k name size) = ([], refl)
next_past Point.fresh (Order.piece c last) = ([], refl)
next_past Point.fresh Order.finish = ([], refl)
next_past (Point.idle past) (Order.send k) = no_more past
next_past (Point.idle past) (Order.file k name size) = no_more past
next_past (Point.idle past) (Order.piece c last) = no_more past
next_past (Point.idle past) Order.finish = no_more past
next_past (Point.busy past f) (Order.send k) = no_more past
next_past (Point.busy past f) (Order.file k name size) = no_more past
next_past (Point.busy past f) (Order.piece c false) = no_more past
next_past (Point.busy past f) (Order.piece c true) = (longer f (length c) ∷ [], refl)
next_past (Point.busy past f) Order.finish = no_more past
next_past (Point.over past) o = no_more past

reach-past : (os : List Order) (p : Point) → More p (reach p os)
reach-past [] p = no_more (past_of p)
reach-past (o ∷ os) p =
    let a = next_past p o in
    let b = reach-past os (next p o) in
    (a.0 ++ b.0, rw (b.1, a.1) (append_assoc (past_of p) a.0 b.0))

-- ---- the file that is being sent at h: at w it is still being sent, or its last piece is written
pub data Stands (k : List ℕ) (w : Point) : List Sent → Type 0 where
  sending : (past : List Sent) (f : Sent) → w ≡ Point.busy past f → f.id ≡ k → Stands k w []
  written : (f : Sent) (others : List Sent) → f.id ≡ k → Stands k w (f ∷ others)

-- a last piece: the files written begin with its file
pub last-first : (os : List Order) (past others : List Sent) (g : Sent)
    → past_of (reach (Point.idle (past ++ g ∷ [])) os) ≡ past ++ others
    → (others' : List Sent) × (others ≡ g ∷ others')
last-first os past others g e =
    let m = reach-past os (Point.idle (past ++ g ∷ [])) in
    let q : past ++ others ≡ past ++ (g ∷ m.0) = sym e ∙ m.1 ∙ append_assoc past (g ∷ []) m.0 in
    (m.0, append_cancel_left past others (g ∷ m.0) q)

-- the file that is being sent at h, from there to w
pub stands : (os : List Order) (past : List Sent) (f : Sent) (w : Point) (others : List Sent) → reach (Point.busy past f) os ≡ w
    → past_of w ≡ past ++ others → Stands f.id w others
stands [] past f w others e b =
    let q : past ++ [] ≡ past ++ others = append-nil past ∙ (rw (← e) at b) in
    rw (← append_cancel_left past [] others q) (Stands.sending past f (sym e) refl)
stands (Order.send k ∷ os) past f w others e b = stands os past f w others e b
stands (Order.file k name size ∷ os) past f w others e b = stands os past f w others e b
stands (Order.piece c false ∷ os) past f w others e b = stands os past (longer f (length c)) w others e b
stands (Order.piece c true ∷ os) past f w others e b =
    let m = last-first os past others (longer f (length c)) (rw (← e) at b) in
    rw m.1 (Stands.written (longer f (length c)) m.0 refl)
stands (Order.finish ∷ os) past f w others e b = stands os past f w others e b
