-- The list with nothing taken away: a pair's k-th start in the first is matched with its k-th in the second.
use Prim.Native.Nat.{ℕ, suc, ◌-◌}
use mathlib.Core.Path.{◌≡◌, refl, ap, sym, ◌∙◌}
use mathlib.Core.Bool.{Bool, true, false, cond}
use mathlib.Core.List.{List, [], ◌∷◌, ◌++◌}
use native.Mathlib.Omega.{arith}
use lib.Dec.{leb, eqb-suc-zero, leb-zero, leb-suc-suc}
use borrow.Author.Tests.{lt-leb}
use Rattle.protocol.specs.Stretches.{Key}
use Rattle.windows.specs.Compare.{same_key, Start, partner, without, only_seconds, compared}
use Rattle.windows.specs.Ranks.{count_of, nth, first_lines, second_lines}
use Rattle.windows.proofs.KeyLaws.{by_test, key_refl, key-sound, key_sym, key-other}

-- ---- one start taken away
-- of its own pair: the ranks are one less
nth-same : (k : Key) (n : ℕ) (ys : List Start) → nth k (suc n) ys ≡ nth k n (without k ys)
unfolding nth without
nth-same k n [] = refl
nth-same k n (y ∷ ys) =
    by_test (same_key k y.key) (λ e. rw (e, eqb-suc-zero n) (ap (λ (m : ℕ). nth k m ys) (omega arith)))
    (λ e. rw (e, e) (nth-same k n ys))

-- of another: they stay
nth-other : (j k : Key) (n : ℕ) (ys : List Start) → same_key j k ≡ false → nth j n ys ≡ nth j n (without k ys)
unfolding nth without
nth-other j k n [] d = refl
nth-other j k n (y ∷ ys) d =
    by_test (same_key k y.key) (λ e. rw (e, key-other j k y.key d e))
    (λ e. rw (e, nth-other j k n ys d, nth-other j k (n - 1) ys d))

-- so it is one to have it before, or to take it away
nth-before : (x : Start) (j : Key) (before ys : List Start)
    → nth j (count_of j (x ∷ before)) ys ≡ nth j (count_of j before) (without x.key ys)
unfolding count_of
nth-before x j before ys =
    by_test (same_key j x.key)
    (λ e. rw (e, ← key-sound j x.key e) (nth-same j (count_of j before) ys))
    (λ e. rw e (nth-other j x.key (count_of j before) ys e))

partner-first : (k : Key) (ys : List Start) → partner k ys ≡ nth k 0 ys
unfolding partner nth
partner-first k [] = refl
partner-first k (y ∷ ys) = rw (partner-first k ys)

first_past : (x : Start) (before xs ys : List Start) → first_lines (x ∷ before) xs ys ≡ first_lines before xs (without x.key ys)
unfolding first_lines
first_past x before [] ys = refl
first_past x before (z ∷ zs) ys = rw (nth-before x z.key before ys, first_past x (before ++ z ∷ []) zs ys)

-- ---- the second's
count-swap : (k : Key) (a b : Start) (c : List Start) → count_of k (a ∷ b ∷ c) ≡ count_of k (b ∷ a ∷ c)
unfolding count_of
count-swap k a b c = swap (same_key k a.key) (same_key k b.key) (count_of k c)
  where
    swap : (t u : Bool) (n : ℕ)
        → cond t (suc (cond u (suc n) n)) (cond u (suc n) n) ≡ cond u (suc (cond t (suc n) n)) (cond t (suc n) n)
    swap true true n = refl
    swap true false n = refl
    swap false true n = refl
    swap false false n = refl

count-on : (k : Key) (a : Start) (b c : List Start) → count_of k b ≡ count_of k c → count_of k (a ∷ b) ≡ count_of k (a ∷ c)
unfolding count_of
count-on k a b c e = rw e

count_snoc : (k : Key) (b : List Start) (y : Start) → count_of k (b ++ y ∷ []) ≡ count_of k (y ∷ b)
count_snoc k [] y = refl
count_snoc k (z ∷ b) y = count-on k z (b ++ y ∷ []) (y ∷ b) (count_snoc k b y) ∙ count-swap k z y b

count_same : (k : Key) (x : Start) (xs : List Start) → same_key k x.key ≡ true → count_of k (x ∷ xs) ≡ suc (count_of k xs)
unfolding count_of
count_same k x xs e = rw e

count-other : (k : Key) (x : Start) (xs : List Start) → same_key k x.key ≡ false → count_of k (x ∷ xs) ≡ count_of k xs
unfolding count_of
count-other k x xs e = rw e

module _ (x : Start) (xs : List Start) where
  -- past the partner of x: x is one more of its pair in the first, and its partner one more before
  abbrev OneMore : (b c : List Start) → Type 0
  OneMore b c = (k : Key) → count_of k b ≡ count_of k (x ∷ c)

  more_snoc : (b c : List Start) (y : Start) → OneMore b c → OneMore (b ++ y ∷ []) (c ++ y ∷ [])
  more_snoc b c y h k =
      count_snoc k b y
      ∙ count-on k y b (x ∷ c) (h k)
      ∙ count-swap k y x c
      ∙ count-on k x (y ∷ c) (c ++ y ∷ []) (sym (count_snoc k c y))

  less-so : (k : Key) (b c : List Start) → OneMore b c → leb (count_of k (x ∷ xs)) (count_of k b) ≡ leb (count_of k xs) (count_of k c)
  less-so k b c h =
      by_test (same_key k x.key)
      (λ e. rw (h k, count_same k x xs e, count_same k x c e) (leb-suc-suc (count_of k xs) (count_of k c)))
      (λ e. rw (h k, count-other k x xs e, count-other k x c e))

  second-after : (b c ys : List Start) → OneMore b c → second_lines b ys (x ∷ xs) ≡ second_lines c ys xs
  unfolding second_lines
  second-after b c [] h = refl
  second-after b c (y ∷ ys) h =
      rw (less-so y.key b c h, second-after (b ++ y ∷ []) (c ++ y ∷ []) ys (more_snoc b c y h))

  -- the partner itself is not listed
  not_listed : (b : List Start) (y : Start) → x.key ≡ y.key → count_of x.key b ≡ 0
      → leb (count_of y.key (x ∷ xs)) (count_of y.key b) ≡ false
  not_listed b y q h =
      rw (← q, h, count_same x.key x xs (key_refl x.key)) (lt-leb (suc (count_of x.key xs)) 0 (omega arith))

  partner-more : (b : List Start) (y : Start) → x.key ≡ y.key → OneMore (b ++ y ∷ []) b
  unfolding count_of
  partner-more b y q k = count_snoc k b y ∙ ap (λ (j : Key). cond (same_key k j) (suc (count_of k b)) (count_of k b)) (sym q)

  -- up to it none of the pair is before
  second_past : (b ys : List Start) → count_of x.key b ≡ 0 → second_lines b ys (x ∷ xs) ≡ second_lines b (without x.key ys) xs
  unfolding second_lines without
  second_past b [] h = refl
  second_past b (y ∷ ys) h =
      by_test (same_key x.key y.key)
      (λ e.
      let q = key-sound x.key y.key e in
      rw (e, not_listed b y q h) (second-after (b ++ y ∷ []) b ys (partner-more b y q)))
      (λ e.
      let none = count_snoc x.key b y ∙ count-other x.key y b e ∙ h in
      rw (e, count-other y.key x xs (key_sym y.key x.key ∙ e), second_past (b ++ y ∷ []) ys none))

-- against nothing
second-all : (b ys : List Start) → only_seconds ys ≡ second_lines b ys []
unfolding only_seconds second_lines count_of
second-all b [] = refl
second-all b (y ∷ ys) = rw (leb-zero (count_of y.key b), second-all (b ++ y ∷ []) ys)

pub ranked : (xs ys : List Start) → compared xs ys ≡ first_lines [] xs ys ++ second_lines [] ys xs
unfolding compared first_lines count_of
ranked [] ys = second-all [] ys
ranked (x ∷ xs) ys =
    rw (partner-first x.key ys, ranked xs (without x.key ys), first_past x [] xs ys, second_past x xs [] ys refl)
