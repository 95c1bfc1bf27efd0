-- The carry afterwards, as `carry::keep` makes it: by one copy, from the piece's middle or its start, or by none.
use Prim.Native.Nat.{ℕ, ◌+◌, ◌-◌, ◌<◌, ◌≤◌, min}
use mathlib.Core.Path.{◌≡◌, refl, ap, sym, ◌∙◌}
use mathlib.Core.List.{List, ◌++◌, append_assoc}
use mathlib.Core.Bool.{Bool, true, false}
use native.Mathlib.Nat.{min-eq_left, min-eq_right, min_comm, add-sub_cancel_left, add-sub_of_le, le_of_lt}
use native.Mathlib.Omega.{arith}
use lib.ListN.{length, take, drop, length-take, length-drop, length-append, take-append-drop}
use lib.Seq.{take_all, take-take, length-take-le, take-append-le, take-append-add}
use lib.Dec.{leb}
use borrow.Rule.Slice.PartMut.{put_mid, Post-is}
use borrow.Author.Tests.{le-leb, lt-leb, leb-true, leb-false}
use Rattle.frames.specs.Stream.{text_limit}
use Rattle.frames.specs.Carry.{carry_of}

-- the first bytes of first bytes
pub take_min : (m k : ℕ) (l : List ℕ) → take m (take k l) ≡ take (min m k) l
take_min m k l = by (leb m k) refl
  where
    by : (t : Bool) → leb m k ≡ t → take m (take k l) ≡ take (min m k) l
    by true e = let h : m ≤ k = leb-true m k e in rw (take-take, min-eq_left h)
    by false e =
        let h : k < m = leb-false m k e in
        let s : length (take k l) ≤ m = simp length-take (omega arith) in
        rw (take_all m (take k l) s, min-eq_right (le_of_lt h))

take-joined : (k : ℕ) (a b : List ℕ) → length a ≤ k → take k (a ++ b) ≡ a ++ take (k - length a) b
take-joined k a b h = ap (λ (j : ℕ). take j (a ++ b)) (sym (add-sub_of_le h)) ∙ take-append-add a b (k - length a)

-- a text that lies wholly in the piece
pub keep-whole : (c xs src : List ℕ) (e n m : ℕ) → m ≡ min n text_limit → n ≤ e → e ≤ length xs
    → src ≡ take (((e - n) + m) - (e - n)) (drop (e - n) xs)
    → src ++ drop m c ≡ carry_of c xs e n
unfolding carry_of
keep-whole c xs src e n m p h k q =
    let r : src ≡ take text_limit (take n (drop (e - n) xs)) = q ∙ rw (take_min, add-sub_cancel_left, p, min_comm n text_limit) in
    let l : length src ≡ m = rw q (simp (length-take, length-drop) (omega arith)) in
    rw (le-leb n e h, ← r, l)

-- a text whose first bytes are in the carry, with room for more
pub keep-part : (c xs src : List ℕ) (e n m : ℕ) → m ≡ min e (text_limit - (n - e)) → e < n → n - e < text_limit
    → e ≤ length xs → text_limit ≤ length c → src ≡ take m xs
    → put_mid (n - e) (((n - e) + m) - (n - e)) c src ≡ carry_of c xs e n
unfolding carry_of
keep-part c xs src e n m p h l k o q =
    let z : ℕ = n - e in
    let lt : length (take z c) ≡ z = length-take-le z c (omega arith) in
    let lm : length src ≡ m = rw q (simp length-take (omega arith)) in
    let r : take (text_limit - z) (take e xs) ≡ src = take_min (text_limit - z) e xs ∙ rw (min_comm (text_limit - z) e, ← p) (sym q) in
    let t : take text_limit (take z c ++ take e xs) ≡ take z c ++ src =
    take-joined text_limit (take z c) (take e xs) (omega arith) ∙ rw (lt, r) in
    ap (λ (b : List ℕ). take z c ++ (src ++ b)) (Post-is z (z + m) c (omega arith))
    ∙ rw (lt-leb n e h, t, append_assoc, length-append, lt, lm)

-- a text of which the carry has 8,192 bytes already
pub keep-full : (c xs : List ℕ) (e n : ℕ) → e < n → text_limit ≤ n - e → text_limit ≤ length c → c ≡ carry_of c xs e n
unfolding carry_of
keep-full c xs e n h l k =
    let kept : List ℕ = take (n - e) c in
    let f : text_limit ≤ length kept = simp length-take (omega arith) in
    let t : take text_limit (kept ++ take e xs) ≡ take text_limit c =
    take-append-le text_limit kept (take e xs) f ∙ take-take text_limit (n - e) c l in
    rw (lt-leb n e h, t, length-take-le text_limit c k) (sym (take-append-drop text_limit c))
