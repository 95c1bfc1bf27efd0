-- A search for the first member of which a test holds is what `position` answers.
use Prim.Native.Nat.{ℕ, suc, ◌+◌}
use mathlib.Core.Path.{◌≡◌, refl, ap}
use mathlib.Core.Bool.{Bool, true, false, cond, not}
use mathlib.Core.List.{List, [], ◌∷◌}
use native.Mathlib.Omega.{arith}
use lib.ListN.{length}
use Rattle.std.proofs.lemmas.Bool.{lt-ltb}
use Rattle.std.proofs.lemmas.Bool.Decides.{nat_tests}
use Rattle.std.specs.Prelude.{Some, None, nat_lt, position}
use Rattle.std.specs.List.{position_or_len}
use Rattle.protocol.specs.Table.{first, later, here_or}

pub first_position : {A : Type 0} (p : A → Bool) (l : List A) → first p l ≡ position p l
unfolding first
first_position p [] = refl
first_position p (x ∷ xs) = rw (first_position p xs) (go (p x) (position_or_len p xs))
  where
    go : (b : Bool) (k : ℕ) → here_or b (cond (nat_lt k (length xs)) (Some k) None)
        ≡ cond (nat_lt (cond (not b) (1 + k) 0) (suc (length xs))) (Some (cond (not b) (1 + k) 0)) None
    go true k = rw (lt-ltb 0 (suc (length xs)) (omega arith))
    go false k = rw longer (by_less (nat_lt k (length xs)))
      where
        longer : nat_lt (1 + k) (suc (length xs)) ≡ nat_lt k (length xs)
        longer = grind (arith, nat_tests)

        by_less : (t : Bool) → later (cond t (Some k) None) ≡ cond t (Some (1 + k)) None
        by_less true = ap (λ (n : ℕ). Some n) (omega arith)
        by_less false = refl
