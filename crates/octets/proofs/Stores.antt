-- Stores, one after the other from a place on, as loops make them.
use Prim.Native.Nat.{ℕ, suc, ◌+◌, ◌-◌, ◌≤◌}
use mathlib.Core.Path.{◌≡◌, refl, sym, ◌∙◌, ap}
use mathlib.Core.List.{List, [], ◌∷◌, ◌++◌, append_assoc}
use native.Mathlib.Omega.{arith}
use native.Mathlib.Numerals.{add-one, towards_suc}
use native.Mathlib.Nat.{add-zero}
use lib.ListN.{length, take, drop, set}
use lib.Seq.{sets, sets-eq, set_comm, length-take-le, take-append_seam, drop-set-add, take-set-le}
use lib.Seq.{drop_at as drop-seam}
use borrow.Rule.Slice.PartMut.{put_mid, Post-is}

-- ---- stores from a place on: the stored bytes are had from the equation e
module _ (l : List ℕ) (o : ℕ) {bs x : List ℕ} where
  pub put1 : {a : ℕ} {r : List ℕ} → bs ≡ a ∷ r → sets l o bs ≡ x → sets (set l o a) (o + 1) r ≡ x
  put1 e p = simp add-one (sym (ap (sets l o) e) ∙ p)

  pub put2 : {a b : ℕ} {r : List ℕ} → bs ≡ a ∷ b ∷ r → sets l o bs ≡ x → sets (set (set l o a) (o + 1) b) (o + 2) r ≡ x
  put2 e p = simp towards_suc (sym (ap (sets l o) e) ∙ p)

  pub put3 : {a b c : ℕ} {r : List ℕ} → bs ≡ a ∷ b ∷ c ∷ r → sets l o bs ≡ x
      → sets (set (set (set l o a) (o + 1) b) (o + 2) c) (o + 3) r ≡ x
  put3 e p = simp towards_suc (sym (ap (sets l o) e) ∙ p)

-- one string stored after another is the two stored at once
pub sets-append : (xs ys l : List ℕ) (i : ℕ) → sets (sets l i xs) (i + length xs) ys ≡ sets l i (xs ++ ys)
sets-append [] ys l i = rw add-zero
sets-append (x ∷ xs) ys l i =
    let e : i + suc (length xs) ≡ suc i + length xs = omega arith in
    rw e (sets-append xs ys (set l i x) (suc i))

-- the last one may be stored first
pub sets_last : (xs : List ℕ) (l : List ℕ) (i a : ℕ) → sets (set l (i + length xs) a) i xs ≡ sets l i (xs ++ (a ∷ []))
sets_last [] l i a = rw add-zero
sets_last (x ∷ xs) l i a =
    let e : i + suc (length xs) ≡ suc i + length xs = omega arith in
    rw (e, set_comm l (suc i + length xs) i a x (λ q. omega arith)) (sets_last xs (set l i x) (suc i) a)

-- a string copied over the part of its length from a place on, which a slice lends, is stored at that place
pub sets-part : (src dst : List ℕ) (at : ℕ) → at + length src ≤ length dst
    → put_mid at (at + length src - at) dst src ≡ sets dst at src
sets-part src dst at h =
    ap (λ (r : List ℕ). take at dst ++ (src ++ r)) (Post-is at (at + length src) dst (omega arith))
    ∙ sym (sets-eq src dst at h ∙ rw append_assoc)

-- ---- parts of a buffer after stores
-- the part in which a string was stored is that string
pub part-stored : (bs l : List ℕ) (at : ℕ) → at + length bs ≤ length l → take (length bs) (drop at (sets l at bs)) ≡ bs
part-stored bs l at h =
    let n : length (take at l) ≡ at = length-take-le at l (omega arith) in
    rw (sets-eq bs l at h, append_assoc, drop-seam (take at l) (bs ++ drop (at + length bs) l) at n) (take-append_seam bs _)

-- a store changes no part before its place
pub part-kept : (b l : List ℕ) (o p n : ℕ) → p + n ≤ o → take n (drop p (sets l o b)) ≡ take n (drop p l)
part-kept [] l o p n h = refl
part-kept (x ∷ b) l o p n h =
    let e : o ≡ p + (o - p) = omega arith in
    part-kept b (set l o x) (suc o) p n (omega arith)
    ∙ ap (λ (i : ℕ). take n (drop p (set l i x))) e
    ∙ ap (take n) (drop-set-add p l (o - p) x)
    ∙ take-set-le n (drop p l) (o - p) x (omega arith)
