-- Laws of `equals` and `starts_with`: what they decide, and how a loop takes them one byte at a time.
use Prim.Native.Nat.{ℕ, ◌+◌, ◌≤◌, ◌<◌}
use mathlib.Core.Path.{◌≡◌, refl, ap, sym, ◌∙◌}
use mathlib.Core.Bool.{Bool, true, false, cond, ◌&&◌}
use mathlib.Core.List.{List, [], ◌∷◌, ◌++◌}
use native.Mathlib.Omega.{arith}
use lib.ListN.{length, get_or, drop, take}
use lib.Dec.{eqb}
use Rattle.std.specs.Cmp.Lexicographic.{pointwise}
use borrow.Author.Tests.{eq-eqb, eqb-true, ne_eqb, eqb-false}
use Rattle.octets.specs.Slices.{equals, starts_with}
use Rattle.octets.proofs.Lists.{drop_at, drop-end}

-- a choice that leaves false holds only where its test does
pub pick_test : (t u : Bool) → cond t u false ≡ true → (t ≡ true) × (u ≡ true)
pick_test true u e = (refl, e)
pick_test false u e = cc

both_choice : (t u : Bool) → (t && u) ≡ cond t u false
both_choice true u = refl
both_choice false u = refl

-- ---- equals
pub equals_refl : (a : List ℕ) → equals a a ≡ true
unfolding equals
equals_refl [] = refl
equals_refl (x ∷ a) = rw (eq-eqb x x refl) (equals_refl a)

pub equals-sound : (a b : List ℕ) → equals a b ≡ true → a ≡ b
unfolding equals
equals-sound [] [] e = refl
equals-sound [] (y ∷ b) e = cc
equals-sound (x ∷ a) [] e = cc
equals-sound (x ∷ a) (y ∷ b) e =
    let h = pick_test (eqb x y) (equals a b) e in
    rw (eqb-true x y h.0, equals-sound a b h.1)

pub equals_lengths : (a b : List ℕ) → (length a ≡ length b → ⊥) → equals a b ≡ false
equals_lengths a b n = go (equals a b) refl
  where
    go : (t : Bool) → equals a b ≡ t → t ≡ false
    go true e = absurd (n (ap length (equals-sound a b e)))
    go false e = refl

-- what the library's `==` of slices tells
pub equals-pointwise : (a b : List ℕ) → pointwise eqb a b ≡ equals a b
unfolding equals
equals-pointwise [] [] = refl
equals-pointwise [] (y ∷ b) = refl
equals-pointwise (x ∷ a) [] = refl
equals-pointwise (x ∷ a) (y ∷ b) = both_choice (eqb x y) _ ∙ ap (λ (t : Bool). cond (eqb x y) t false) (equals-pointwise a b)

-- at one length, to agree is to begin with
pub equals-starts : (a b : List ℕ) → length a ≡ length b → equals a b ≡ starts_with a b
unfolding equals starts_with
equals-starts [] [] l = refl
equals-starts [] (y ∷ b) l = absurd (omega arith)
equals-starts (x ∷ a) [] l = absurd (omega arith)
equals-starts (x ∷ a) (y ∷ b) l = rw (equals-starts a b (omega arith))

-- ---- starts_with
-- what the library's `starts_with` of slices tells
pub starts-pointwise : (s p : List ℕ) → pointwise eqb p (take (length p) s) ≡ starts_with s p
unfolding starts_with
starts-pointwise s [] = refl
starts-pointwise [] (y ∷ p) = refl
starts-pointwise (x ∷ s) (y ∷ p) =
    both_choice (eqb y x) _ ∙ rw (eqb-swap y x) (ap (λ (t : Bool). cond (eqb x y) t false) (starts-pointwise s p))
  where
    eqb-swap : (i j : ℕ) → eqb i j ≡ eqb j i
    eqb-swap i j = by (eqb i j) refl
      where
        by : (t : Bool) → eqb i j ≡ t → t ≡ eqb j i
        by true e = sym (eq-eqb j i (sym (eqb-true i j e)))
        by false e = sym (ne_eqb j i (λ q. eqb-false i j e (sym q)))

pub starts-append : (p r : List ℕ) → starts_with (p ++ r) p ≡ true
unfolding starts_with
starts-append [] r = refl
starts-append (x ∷ p) r = rw (eq-eqb x x refl) (starts-append p r)

pub starts-sound : (s p : List ℕ) → starts_with s p ≡ true → s ≡ p ++ drop (length p) s
unfolding starts_with
starts-sound s [] e = refl
starts-sound [] (y ∷ p) e = cc
starts-sound (x ∷ s) (y ∷ p) e =
    let h = pick_test (eqb x y) (starts_with s p) e in
    rw (eqb-true x y h.0) (ap (λ (l : List ℕ). y ∷ l) (starts-sound s p h.1))

pub starts-short : (s p : List ℕ) → length s < length p → starts_with s p ≡ false
unfolding starts_with
starts-short s [] l = absurd (omega arith)
starts-short [] (y ∷ p) l = refl
starts-short (x ∷ s) (y ∷ p) l = go (eqb x y) (starts-short s p (omega arith))
  where
    go : (t : Bool) → starts_with s p ≡ false → cond t (starts_with s p) false ≡ false
    go true e = e
    go false e = refl

pub starts-at : (s p : List ℕ) (i : ℕ) → i < length s → i < length p
    → starts_with (drop i s) (drop i p) ≡ cond (eqb (get_or s i 0) (get_or p i 0)) (starts_with (drop (i + 1) s) (drop (i + 1) p)) false
unfolding starts_with
starts-at s p i h k = rw (drop_at s i h, drop_at p i k)

pub starts-end : (s p : List ℕ) (i : ℕ) → length p ≤ i → starts_with s (drop i p) ≡ true
unfolding starts_with
starts-end s p i h = rw (drop-end p i h)
