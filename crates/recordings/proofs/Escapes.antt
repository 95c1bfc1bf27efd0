-- Texts without 1B.
use Prim.Native.Nat.{ℕ, suc, ◌+◌, ◌-◌, ◌≤◌, ◌<◌}
use mathlib.Core.Path.{◌≡◌, refl, ap, sym, ◌∙◌}
use mathlib.Core.Bool.{Bool, true, false}
use mathlib.Core.List.{List, [], ◌∷◌, ◌++◌}
use native.Mathlib.Omega.{arith}
use native.Mathlib.Nat.{add-sub_cancel_left}
use lib.ListN.{length, get_or, take, drop, take-append-drop, length-drop}
use lib.Seq.{drop-drop, get_or-drop, length-take-le}
use lib.Dec.{eqb}
use borrow.Author.Tests.{eq-eqb, ne_eqb, eqb-true, eqb-false}
use Rattle.octets.specs.Search.{index_of, index_after}
use Rattle.octets.specs.Slices.{lacks}
use Rattle.octets.proofs.Lists.{drop_at}
use Rattle.octets.proofs.Finds.{index_le, index-found}
use Rattle.octets.proofs.Splits.{Free}
use Rattle.recordings.specs.Walk.{next_escape}

pub free_index : (b : ℕ) (t : List ℕ) → Free b t → index_of b t ≡ length t
unfolding index_of index_after
free_index b [] h = refl
free_index b (c ∷ t) h = rw (ne_eqb c b h.0) (ap suc (free_index b t h.1))

pub free-lacks : (b : ℕ) (t : List ℕ) → Free b t → lacks b t ≡ true
free-lacks b t h = eq-eqb (index_of b t) (length t) (free_index b t h)

pub lacks-free : (b : ℕ) (t : List ℕ) → lacks b t ≡ true → Free b t
unfolding index_of index_after
lacks-free b t e = by t (eqb-true (index_of b t) (length t) e)
  where
    by : (t : List ℕ) → index_of b t ≡ length t → Free b t
    by [] e = tt
    by (c ∷ t) e = go (eqb c b) refl e (by t)
      where
        go : (u : Bool) → eqb c b ≡ u → index_after u (index_of b t) ≡ suc (length t) → (index_of b t ≡ length t → Free b t)
            → Free b (c ∷ t)
        go true q l ih = absurd (omega arith)
        go false q l ih = (eqb-false c b q, ih (omega arith))

pub free_snoc : (b : ℕ) (t : List ℕ) (c : ℕ) → Free b t → (c ≡ b → ⊥) → Free b (t ++ (c ∷ []))
free_snoc b [] c h n = (n, tt)
free_snoc b (x ∷ t) c h n = (h.0, free_snoc b t c h.1 n)

-- what stands before the first place of a byte lacks it
pub free-before : (b : ℕ) (t : List ℕ) → Free b (take (index_of b t) t)
unfolding index_of index_after
free-before b [] = tt
free-before b (c ∷ t) = go (eqb c b) refl (free-before b t)
  where
    go : (u : Bool) → eqb c b ≡ u → Free b (take (index_of b t) t) → Free b (take (index_after u (index_of b t)) (c ∷ t))
    go true e ih = tt
    go false e ih = (eqb-false c b e, ih)

-- ---- the next 1B from a place on
pub record Next (xs : List ℕ) (at i : ℕ) : Type 0 where
  pub from : at ≤ i
  pub within : i ≤ length xs
  pub size : length (take (i - at) (drop at xs)) ≡ i - at
  pub before : Free 0x1B (take (i - at) (drop at xs))
  pub parts : drop at xs ≡ take (i - at) (drop at xs) ++ drop i xs
  pub there : i < length xs → drop i xs ≡ 0x1B ∷ drop (i + 1) xs

pub next-escape : (xs : List ℕ) (at i : ℕ) → at ≤ length xs → i ≡ next_escape xs at → Next xs at i
next-escape xs at i h e =
    let k = index_of 0x1B (drop at xs) in
    let l : k ≤ length xs - at = omega (arith, index_le 0x1B (drop at xs), length-drop at xs) in
    let d : i - at ≡ k = rw e (add-sub_cancel_left at k) in
    record {
      from = omega arith;
      within = omega arith;
      size = length-take-le (i - at) (drop at xs) (omega (arith, length-drop at xs));
      before = rw d (free-before 0x1B (drop at xs));
      parts = sym (rw (d, e, ← drop-drop k at xs) (take-append-drop k (drop at xs)));
      there = λ w. drop_at xs i w ∙ rw (found w);
    }
  where
    found : i < length xs → get_or xs i 0 ≡ 0x1B
    found w =
        rw (e, ← get_or-drop at xs (index_of 0x1B (drop at xs)) 0)
        (index-found 0x1B (drop at xs) (omega (arith, length-drop at xs)))
