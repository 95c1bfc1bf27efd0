-- Laws of `split` and `join`: each undoes the other, and a reader meets the parts one after another.
use Prim.Native.Nat.{ℕ, suc, ◌+◌, ◌<◌}
use mathlib.Core.Path.{◌≡◌, refl, sym, ◌∙◌}
use mathlib.Core.Bool.{Bool, true, false, cond}
use mathlib.Core.List.{List, [], ◌∷◌, ◌++◌}
use native.Mathlib.Omega.{arith}
use native.Mathlib.Numerals.{add-one}
use lib.ListN.{length, take, drop}
use lib.Dec.{eqb}
use borrow.Author.Tests.{eq-eqb, ne_eqb, eqb-true, eqb-false}
use Rattle.std.specs.Prelude.{◌==◌}
use Rattle.std.specs.List.{slice_split, onto_first}
use Rattle.octets.specs.Search.{index_of, index_after}
use Rattle.octets.specs.Members.{every}
use Rattle.octets.specs.Slices.{lacks}
use Rattle.octets.specs.Split.{onto, split, join}
use Rattle.octets.specs.Claims.{Divides}
use Rattle.octets.proofs.Below.{both_test}
use Rattle.octets.proofs.Passes.{lacks_cons}

-- ---- as a reader meets them
-- up to the first place of b stands the first part, after it the others
pub split_at : (b : ℕ) (t : List ℕ) → index_of b t < length t
    → split b t ≡ take (index_of b t) t ∷ split b (drop (index_of b t + 1) t)
unfolding split index_of index_after
split_at b [] h = absurd (omega arith)
split_at b (c ∷ r) h = go (eqb c b) h (split_at b r)
  where
    go : (u : Bool) → index_after u (index_of b r) < suc (length r)
        → (index_of b r < length r → split b r ≡ take (index_of b r) r ∷ split b (drop (index_of b r + 1) r))
        → cond u ([] ∷ split b r) (onto c (split b r))
        ≡ take (index_after u (index_of b r)) (c ∷ r) ∷ split b (drop (index_after u (index_of b r) + 1) (c ∷ r))
    go true l ih = refl
    go false l ih = unfold onto in rw (ih (omega arith)) (simp add-one)

-- without b the whole is the only part
pub split-end : (b : ℕ) (t : List ℕ) → index_of b t ≡ length t → split b t ≡ t ∷ []
unfolding split index_of index_after
split-end b [] h = refl
split-end b (c ∷ r) h = go (eqb c b) h (split-end b r)
  where
    go : (u : Bool) → index_after u (index_of b r) ≡ suc (length r) → (index_of b r ≡ length r → split b r ≡ r ∷ [])
        → cond u ([] ∷ split b r) (onto c (split b r)) ≡ (c ∷ r) ∷ []
    go true l ih = absurd (omega arith)
    go false l ih = unfold onto in rw (ih (omega arith))

-- ---- put together again
join-onto : (b c : ℕ) (ps : List (List ℕ)) → join b (onto c ps) ≡ c ∷ join b ps
unfolding join onto
join-onto b c [] = refl
join-onto b c (p ∷ []) = refl
join-onto b c (p ∷ q ∷ ps) = refl

join_more : (b c : ℕ) (r : List ℕ) → join b ([] ∷ split b r) ≡ b ∷ join b (split b r)
unfolding split
join_more b c [] = unfold join in refl
join_more b c (x ∷ r) = go (eqb x b) (split b r)
  where
    go : (u : Bool) (ps : List (List ℕ)) → join b ([] ∷ cond u ([] ∷ ps) (onto x ps)) ≡ b ∷ join b (cond u ([] ∷ ps) (onto x ps))
    go true ps = unfold join in refl
    go false [] = unfold join onto in refl
    go false (p ∷ ps) = unfold join onto in refl

pub join-split : (b : ℕ) (t : List ℕ) → join b (split b t) ≡ t
unfolding split
join-split b [] = unfold join in refl
join-split b (c ∷ r) = go (eqb c b) refl (join-split b r)
  where
    go : (u : Bool) → eqb c b ≡ u → join b (split b r) ≡ r → join b (cond u ([] ∷ split b r) (onto c (split b r))) ≡ c ∷ r
    go true e ih = join_more b c r ∙ rw (eqb-true c b e, ih)
    go false e ih = join-onto b c (split b r) ∙ rw ih

-- ---- divided again
-- b stands nowhere in the part
abbrev pub Free : ℕ → List ℕ → Type 0
Free b [] = Unit {0}
Free b (c ∷ r) = (c ≡ b → ⊥) × Free b r

abbrev pub AllFree : ℕ → List (List ℕ) → Type 0
AllFree b [] = Unit {0}
AllFree b (p ∷ ps) = Free b p × AllFree b ps

pub split-last : (b : ℕ) (p : List ℕ) → Free b p → split b p ≡ p ∷ []
unfolding split onto
split-last b [] h = refl
split-last b (c ∷ r) h = rw (ne_eqb c b h.0, split-last b r h.1)

pub split-cut : (b : ℕ) (p r : List ℕ) → Free b p → split b (p ++ b ∷ r) ≡ p ∷ split b r
unfolding split onto
split-cut b [] r h = rw (eq-eqb b b refl)
split-cut b (c ∷ p) r h = rw (ne_eqb c b h.0, split-cut b p r h.1)

pub split-join : (b : ℕ) (p : List ℕ) (ps : List (List ℕ)) → AllFree b (p ∷ ps) → split b (join b (p ∷ ps)) ≡ p ∷ ps
unfolding join
split-join b p [] h = split-last b p h.0
split-join b p (q ∷ ps) h = split-cut b p (join b (q ∷ ps)) h.0 ∙ rw (split-join b q ps h.1)

-- ---- the claim
lacks-free : (b : ℕ) (t : List ℕ) → lacks b t ≡ true → Free b t
lacks-free b [] h = tt
lacks-free b (c ∷ r) h = go (eqb c b) refl (sym (lacks_cons b c r) ∙ h) (lacks-free b r)
  where
    go : (u : Bool) → eqb c b ≡ u → cond u false (lacks b r) ≡ true → (lacks b r ≡ true → Free b r) → Free b (c ∷ r)
    go true e q ih = cc
    go false e q ih = (eqb-false c b e, ih q)

all-free : (b : ℕ) (ps : List (List ℕ)) → every (lacks b) ps ≡ true → AllFree b ps
unfolding every
all-free b [] h = tt
all-free b (p ∷ ps) h =
    let e = both_test (lacks b p) (every (lacks b) ps) h in
    (lacks-free b p e.0, all-free b ps e.1)

pub divides : Divides
divides b = (join-split b, λ p ps h. split-join b p ps (all-free b (p ∷ ps) h))

-- the library's `split` gives the same parts
pub split_is : (b : ℕ) (t : List ℕ) → slice_split (λ c. c == b) t ≡ split b t
unfolding split onto
split_is b [] = refl
split_is b (c ∷ t) = rw (split_is b t, onto_is (split b t))
  where
    onto_is : (ps : List (List ℕ)) → onto_first c ps ≡ onto c ps
    onto_is [] = refl
    onto_is (p ∷ ps) = refl
