-- The first member of which a test holds, after a store.
use Prim.Native.Nat.{ℕ, zero, suc, ◌<◌}
use mathlib.Core.Path.{◌≡◌, refl}
use mathlib.Core.Bool.{Bool, true, false}
use mathlib.Core.List.{List, [], ◌∷◌}
use native.Mathlib.Omega.{arith}
use lib.ListN.{length, get_or, set}
use Rattle.std.specs.Prelude.{Option, Some, None}
use Rattle.protocol.specs.Table.{first, here_or}

module _ {A : Type 0} (p : A → Bool) (d : A) where
  -- a member that passes as the one before it
  pub first-same : (l : List A) (i : ℕ) (a : A) → p a ≡ p (get_or l i d) → first p (set l i a) ≡ first p l
  unfolding first
  first-same [] i a e = refl
  first-same (x ∷ xs) zero a e = rw e
  first-same (x ∷ xs) (suc i) a e = rw (first-same xs i a e)

  -- the only one that passes
  pub first-new : (l : List A) (i : ℕ) (a : A) → i < length l → first p l ≡ None → p a ≡ true → first p (set l i a) ≡ Some i
  unfolding first
  first-new [] i a h n e = absurd (omega arith)
  first-new (x ∷ xs) zero a h n e = rw e
  first-new (x ∷ xs) (suc i) a h n e = go (p x) refl (first p xs) refl n (λ r. first-new xs i a (omega arith) r e)
    where
      go : (b : Bool) → p x ≡ b → (f : Option ℕ) → first p xs ≡ f → here_or b f ≡ None
          → (first p xs ≡ None → first p (set xs i a) ≡ Some i)
          → here_or (p x) (first p (set xs i a)) ≡ Some (suc i)
      go true q f r s more = let z : ◌≡◌ {A = ℕ} 0 1 = cc in absurd (omega arith)
      go false q None r s more = rw (q, more r)
      go false q (Some k) r s more = let z : ◌≡◌ {A = ℕ} 0 1 = cc in absurd (omega arith)
