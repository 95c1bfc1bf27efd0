-- Where a path begins and ends: send is its first order, and nothing follows finish.
use Prim.Native.Nat.{ℕ}
use mathlib.Core.Path.{◌≡◌, refl, sym, ◌∙◌}
use mathlib.Core.Bool.{Bool, true, false}
use mathlib.Core.List.{List, [], ◌∷◌}
use Rattle.protocol.proofs.Laws.{no_way}
use Rattle.sending.specs.Plans.{Order}
use Rattle.sending.proofs.arrival.path.Points.{Sent, Point, next, reach, Goes, Path}

-- ---- nothing is sent
abbrev pub at_fresh : Point → Bool
at_fresh Point.fresh = true
at_fresh (Point.idle past) = false
at_fresh (Point.busy past f) = false
at_fresh (Point.over past) = false

next-sent : (p : Point) (o : Order) → at_fresh p ≡ false → at_fresh (next p o) ≡ false
next-sent Point.fresh (Order.send k) e = refl
next-sent Point.fresh (Order.file k name size) e = e
next-sent Point.fresh (Order.piece c last) e = e
next-sent Point.fresh Order.finish e = e
next-sent (Point.idle past) (Order.send k) e = refl
next-sent (Point.idle past) (Order.file k name size) e = refl
next-sent (Point.idle past) (Order.piece c last) e = refl
next-sent (Point.idle past) Order.finish e = refl
next-sent (Point.busy past f) (Order.send k) e = refl
next-sent (Point.busy past f) (Order.file k name size) e = refl
next-sent (Point.busy past f) (Order.piece c false) e = refl
next-sent (Point.busy past f) (Order.piece c true) e = refl
next-sent (Point.busy past f) Order.finish e = refl
next-sent (Point.over past) o e = refl

pub reach-sent : (os : List Order) (p : Point) → at_fresh p ≡ false → at_fresh (reach p os) ≡ false
reach-sent [] p e = e
reach-sent (o ∷ os) p e = reach-sent os (next p o) (next-sent p o e)

-- an order leads on, so nothing is written where nothing is sent
pub goes-sent : {id : List ℕ} {p : Point} {o : Order} → Goes id p o → at_fresh (next p o) ≡ false
goes-sent (Goes.sends i) = refl
goes-sent (Goes.files past k name size i now valid bytes) = refl
goes-sent (Goes.pieces past f c i now fit long within) = refl
goes-sent (Goes.lasts past f c i now fit long whole) = refl
goes-sent (Goes.finishes past i before) = refl

pub fresh-is : (p : Point) → at_fresh p ≡ true → p ≡ Point.fresh
fresh-is Point.fresh e = refl
fresh-is (Point.idle past) e = no_way (sym e)
fresh-is (Point.busy past f) e = no_way (sym e)
fresh-is (Point.over past) e = no_way (sym e)

-- so a path that ends where nothing is sent has no order
pub fresh-none : (id : List ℕ) (p : Point) (os : List Order) → Path id p os → at_fresh (reach p os) ≡ true → os ≡ []
fresh-none id p [] path e = refl
fresh-none id p (o ∷ os) path e = no_way (sym e ∙ reach-sent os (next p o) (goes-sent path.0))

-- ---- send
-- an answer is owed for every order but send, which the user is asked
abbrev pub is_answered : Order → Bool
is_answered (Order.send k) = false
is_answered (Order.file k name size) = true
is_answered (Order.piece c last) = true
is_answered Order.finish = true

-- it follows only where nothing is sent
pub send-fresh : {id : List ℕ} {q : Point} (o : Order) → Goes id q o → is_answered o ≡ false → at_fresh q ≡ true
send-fresh o (Goes.sends i) n = refl
send-fresh o (Goes.files past k name size i now valid bytes) n = no_way n
send-fresh o (Goes.pieces past f c i now fit long within) n = no_way n
send-fresh o (Goes.lasts past f c i now fit long whole) n = no_way n
send-fresh o (Goes.finishes past i before) n = no_way n

-- ---- all is sent
abbrev at_over : Point → Bool
at_over Point.fresh = false
at_over (Point.idle past) = false
at_over (Point.busy past f) = false
at_over (Point.over past) = true

not-over : {id : List ℕ} {p : Point} {o : Order} → Goes id p o → at_over p ≡ false
not-over (Goes.sends i) = refl
not-over (Goes.files past k name size i now valid bytes) = refl
not-over (Goes.pieces past f c i now fit long within) = refl
not-over (Goes.lasts past f c i now fit long whole) = refl
not-over (Goes.finishes past i before) = refl

-- nothing follows finish
pub over-ends : (id : List ℕ) (past : List Sent) (os : List Order) → Path id (Point.over past) os → os ≡ []
over-ends id past [] path = refl
over-ends id past (o ∷ os) path = no_way (not-over path.0)
