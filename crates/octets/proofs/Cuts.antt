-- The parts that a byte divides, as a loop meets them: each from a place up to the next place of the byte.
use Prim.Native.Nat.{ℕ, ◌+◌, ◌-◌, ◌≤◌, ◌<◌}
use mathlib.Core.Path.{◌≡◌, sym, ◌∙◌, ap}
use mathlib.Core.List.{List, [], ◌∷◌}
use native.Mathlib.Omega.{arith}
use native.Mathlib.Decide.{dec_lt}
use lib.ListN.{length, take, drop, length-take, length-drop}
use lib.Seq.{take_all, drop-drop}
use Rattle.octets.specs.Search.{index_of}
use Rattle.octets.specs.Split.{split}
use Rattle.octets.proofs.Finds.{index_le}
use Rattle.octets.proofs.Splits.{split_at, split-end}

-- `end` is the next place of b, or the end of t where b stands nowhere after `at`: what `find` answers
module _ (b : ℕ) (t : List ℕ) (at end : ℕ) (h : at ≤ length t) (e : end ≡ at + index_of b (drop at t)) where
  pub cut-within : end ≤ length t
  cut-within = omega (arith, index_le b (drop at t), length-drop at t)

  pub cut-length : length (take (end - at) (drop at t)) ≡ end - at
  cut-length = omega (arith, cut-within, length-take (end - at) (drop at t), length-drop at t)

  -- the last part
  pub cut-last : end ≡ length t → split b (drop at t) ≡ take (end - at) (drop at t) ∷ []
  cut-last l =
      split-end b (drop at t) (omega (arith, length-drop at t))
      ∙ ap (λ (p : List ℕ). p ∷ []) (sym (take_all (end - at) (drop at t) (omega (arith, length-drop at t))))

  -- a part that others follow
  pub cut-more : (end ≡ length t → ⊥) → split b (drop at t) ≡ take (end - at) (drop at t) ∷ split b (drop (end + 1) t)
  cut-more n =
      let k : index_of b (drop at t) ≡ end - at = omega arith in
      let m : at + (end - at + 1) ≡ end + 1 = omega arith in
      let l : end < length t = omega (arith, cut-within) in
      split_at b (drop at t) (omega (arith, length-drop at t)) ∙ rw (k, drop-drop (end - at + 1) at t, m)

  -- the first part, whatever follows
  pub cut-first : (ps : List (List ℕ)) × (split b (drop at t) ≡ take (end - at) (drop at t) ∷ ps)
  cut-first = go (dec_lt end (length t))
    where
      go : Dec (end < length t) → (ps : List (List ℕ)) × (split b (drop at t) ≡ take (end - at) (drop at t) ∷ ps)
      go (yes l) = (split b (drop (end + 1) t), cut-more (λ (q : end ≡ length t). omega arith))
      go (no l) = ([], cut-last (omega (arith, cut-within)))
