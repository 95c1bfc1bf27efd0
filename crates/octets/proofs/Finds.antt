-- Laws of the kit's `index_of`, the first place where a byte stands.
use Prim.Native.Nat.{ℕ, suc, ◌≤◌, ◌<◌}
use mathlib.Core.Path.{◌≡◌, refl}
use mathlib.Core.Bool.{Bool, true, false}
use mathlib.Core.List.{List, [], ◌∷◌}
use native.Mathlib.Omega.{arith}
use lib.ListN.{length, get_or}
use lib.Dec.{eqb}
use borrow.Author.Tests.{eqb-true}
use Rattle.octets.specs.Search.{index_of, index_after}

-- it is at most the length
pub index_le : (b : ℕ) (t : List ℕ) → index_of b t ≤ length t
unfolding index_of index_after
index_le b [] = omega arith
index_le b (x ∷ t) = go (eqb x b) (index_le b t)
  where
    go : (u : Bool) → index_of b t ≤ length t → index_after u (index_of b t) ≤ suc (length t)
    go true h = omega arith
    go false h = omega arith

-- below the length, b stands there
pub index-found : (b : ℕ) (t : List ℕ) → index_of b t < length t → get_or t (index_of b t) 0 ≡ b
unfolding index_of index_after
index-found b [] h = absurd (omega arith)
index-found b (x ∷ t) h = go (eqb x b) refl h (index-found b t)
  where
    go : (u : Bool) → eqb x b ≡ u → index_after u (index_of b t) < suc (length t)
        → (index_of b t < length t → get_or t (index_of b t) 0 ≡ b)
        → get_or (x ∷ t) (index_after u (index_of b t)) 0 ≡ b
    go true e l ih = eqb-true x b e
    go false e l ih = ih (omega arith)
