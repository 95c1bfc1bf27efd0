-- Blocks of bytes without a byte that is searched for.
use Prim.Native.Nat.{ℕ, zero, suc, ◌+◌, ◌-◌, ◌<◌, ◌≤◌}
use mathlib.Core.Path.{◌≡◌, refl, ap, sym, ◌∙◌}
use mathlib.Core.List.{List, [], ◌∷◌, ◌++◌}
use mathlib.Core.Bool.{Bool, true, false, ◌||◌, not, cond}
use native.Mathlib.Nat.{zero-add, add_assoc, not-suc-le-zero, le_of_suc-le-suc}
use native.Mathlib.Omega.{arith}
use lib.ListN.{length, get_or, take, drop, length-drop, length-append}
use lib.Seq.{drop-drop, take-append_seam, drop-append_seam}
use lib.Dec.{eqb}
use lib.Dec.{ltb}
use borrow.Author.Tests.{eq-eqb, ne_eqb, eqb-true, eqb-false, ltb-false}
use Rattle.std.specs.Prelude.{position, ◌==◌, Some, None}
use Rattle.std.specs.List.{position_or_len}
use Rattle.octets.proofs.Finds.{index_le}
use Rattle.octets.specs.Search.{index_of, index_after}
use Rattle.octets.specs.Slices.{lacks}
use Rattle.octets.proofs.Lists.{drop_at, drop-end}

pub lacks_cons : (b x : ℕ) (ys : List ℕ) → lacks b (x ∷ ys) ≡ cond (eqb x b) false (lacks b ys)
unfolding index_of index_after
lacks_cons b x ys = by (eqb x b)
  where
    one_more : (i l : ℕ) (t : Bool) → eqb i l ≡ t → eqb (suc i) (suc l) ≡ t
    one_more i l true e = eq-eqb (suc i) (suc l) (ap suc (eqb-true i l e))
    one_more i l false e = ne_eqb (suc i) (suc l) (λ q. eqb-false i l e (omega arith))

    by : (t : Bool) → eqb (index_after t (index_of b ys)) (suc (length ys)) ≡ cond t false (lacks b ys)
    by true = ne_eqb 0 (suc (length ys)) (λ q. omega arith)
    by false = one_more (index_of b ys) (length ys) _ refl

-- ---- a block, tested byte by byte
module _ (b : ℕ) (s : List ℕ) (k : ℕ) where
  pub clear-turn : (h : Bool) → k < length s
      → cond h false (lacks b (drop k s)) ≡ cond (h || eqb (get_or s k 0) b) false (lacks b (drop (k + 1) s))
  clear-turn true l = refl
  clear-turn false l = rw (drop_at s k l) (lacks_cons b (get_or s k 0) (drop (k + 1) s))

  pub clear-end : (h : Bool) → length s ≤ k → cond h false (lacks b (drop k s)) ≡ not h
  unfolding index_of
  clear-end true l = refl
  clear-end false l = rw (drop-end s k l)

-- ---- a search behind it

index-past : (b n : ℕ) (ys : List ℕ) → n ≤ length ys → lacks b (take n ys) ≡ true → index_of b ys ≡ n + index_of b (drop n ys)
unfolding index_of index_after
index-past b zero ys l h = sym (zero-add (index_of b ys))
index-past b (suc n) [] l h = absurd (not-suc-le-zero l)
index-past b (suc n) (y ∷ ys) l h = by (eqb y b) (sym (lacks_cons b y (take n ys)) ∙ h) (index-past b n ys (le_of_suc-le-suc l))
  where
    by : (t : Bool) → cond t false (lacks b (take n ys)) ≡ true → (lacks b (take n ys) ≡ true → index_of b ys ≡ n + index_of b (drop n ys))
        → index_after t (index_of b ys) ≡ suc n + index_of b (drop n ys)
    by true q ih = cc
    by false q ih = omega (arith, ih q)

-- a search may start behind a block of n bytes without the byte, which an iterator gave from place `at` on
pub block-past : (b n at : ℕ) (s block rest : List ℕ) → at ≤ length s → drop at s ≡ block ++ rest → length block ≡ n
    → lacks b block ≡ true
    → (rest ≡ drop (at + n) s) × (at + n ≤ length s) × ((at + n) + index_of b (drop (at + n) s) ≡ at + index_of b (drop at s))
block-past b n at s block rest l e k h =
    let m : n + length rest ≡ length s - at = omega (arith, ap length e, length-drop at s, length-append block rest) in
    let seam : drop n (block ++ rest) ≡ rest = ap (λ (i : ℕ). drop i (block ++ rest)) (sym k) ∙ drop-append_seam block rest in
    let here : rest ≡ drop n (drop at s) = sym (ap (drop n) e ∙ seam) in
    let clear : lacks b (take n (drop at s)) ≡ true =
    ap (λ (t : List ℕ). lacks b (take n t)) e ∙ ap (λ (i : ℕ). lacks b (take i (block ++ rest))) (sym k)
    ∙ ap (lacks b) (take-append_seam block rest) ∙ h
    in
    let room : n ≤ length (drop at s) = omega (arith, length-drop at s) in
    let q : index_of b (drop at s) ≡ n + index_of b (drop n (drop at s)) = index-past b n (drop at s) room clear in (
      here ∙ drop-drop n at s,
      omega arith,
      rw (← drop-drop n at s) (rw q (add_assoc at n (index_of b (drop n (drop at s))))),
    )

-- ---- what the library's `position` answers
place_is : (b : ℕ) (t : List ℕ) → index_of b t ≡ position_or_len (λ x. x == b) t
unfolding index_of index_after
place_is b [] = refl
place_is b (x ∷ t) = by (eqb x b) (place_is b t)
  where
    by : (u : Bool) → index_of b t ≡ position_or_len (λ y. y == b) t
        → index_after u (index_of b t) ≡ cond (not u) (1 + position_or_len (λ y. y == b) t) 0
    by true e = refl
    by false e = omega (arith, e)

pub place_some : (b : ℕ) (t : List ℕ) (k : ℕ) → position (λ x. x == b) t ≡ Some k → k ≡ index_of b t
place_some b t k = by (ltb (position_or_len (λ x. x == b) t) (length t)) (place_is b t)
  where
    by : (u : Bool) → index_of b t ≡ position_or_len (λ x. x == b) t
        → cond u (Some (position_or_len (λ x. x == b) t)) None ≡ Some k → k ≡ index_of b t
    by true e q = cc
    by false e q = cc

pub place_none : (b : ℕ) (t : List ℕ) → position (λ x. x == b) t ≡ None → index_of b t ≡ length t
place_none b t = by (ltb (position_or_len (λ x. x == b) t) (length t)) refl (place_is b t)
  where
    by : (u : Bool) → ltb (position_or_len (λ x. x == b) t) (length t) ≡ u → index_of b t ≡ position_or_len (λ x. x == b) t
        → cond u (Some (position_or_len (λ x. x == b) t)) None ≡ None → index_of b t ≡ length t
    by true h e q = cc
    by false h e q = omega (arith, e, index_le b t, ltb-false _ _ h)
