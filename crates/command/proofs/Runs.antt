-- The bytes before one that does not pass a test.
use Prim.Native.Nat.{ℕ, zero, suc, ◌+◌, ◌≤◌, ◌<◌}
use mathlib.Core.Path.{◌≡◌, refl, ap}
use mathlib.Core.Bool.{Bool, true, false, not, cond}
use mathlib.Core.List.{List, [], ◌∷◌}
use native.Mathlib.Omega.{arith}
use lib.ListN.{length, get_or, take, drop}
use lib.Dec.{ltb}
use borrow.Author.Tests.{ltb-false}
use Rattle.std.specs.Prelude.{position, Some, None}
use Rattle.std.specs.List.{position_or_len}
use Rattle.std.proofs.lemmas.List.Recursion.{is_position_or_len}
use Rattle.octets.specs.Members.{every}
use Rattle.octets.proofs.Lists.{drop-end}
use Rattle.command.specs.Classes.{run}
use Rattle.command.proofs.Cases.{by_test}
use Rattle.command.proofs.Every.{every_cons}

module _ (f : ℕ → Bool) (s : List ℕ) (i : ℕ) where
  pub run_end : length s ≤ i → run f (drop i s) ≡ 0
  unfolding run
  run_end h = rw (drop-end s i h)

pub run_le : (f : ℕ → Bool) (s : List ℕ) → run f s ≤ length s
unfolding run
run_le f [] = omega arith
run_le f (x ∷ s) = let h = run_le f s in by_test (λ (n : ℕ). n ≤ suc (length s)) (f x) (λ e. omega arith) (λ e. omega arith)

-- bytes that pass, up to one that does not
pub run_is : (f : ℕ → Bool) (s : List ℕ) (i : ℕ) → i < length s → every f (take i s) ≡ true → f (get_or s i 0) ≡ false → run f s ≡ i
unfolding run
run_is f [] i h e n = absurd (omega arith)
run_is f (x ∷ s) zero h e n = rw n
run_is f (x ∷ s) (suc i) h e n = let q = every_cons f x (take i s) e in rw q.0 (ap suc (run_is f s i (omega arith) q.1 n))

-- what `position` finds of a byte that does not pass
module _ (f : ℕ → Bool) where
  run-position : (s : List ℕ) → run f s ≡ position_or_len (λ x. not (f x)) s
  unfolding run
  run-position = is_position_or_len (run f) (λ x. not (f x)) refl (λ x s. turned (f x) (run f s))
    where
      turned : (b : Bool) (n : ℕ) → cond b (suc n) 0 ≡ cond (not b) 0 (1 + n)
      turned true n = omega arith
      turned false n = refl

  pub lapse-some : (s : List ℕ) (k : ℕ) → position (λ x. not (f x)) s ≡ Some k → k ≡ run f s
  lapse-some s k = by (ltb (position_or_len (λ x. not (f x)) s) (length s)) (run-position s)
    where
      by : (u : Bool) → run f s ≡ position_or_len (λ x. not (f x)) s
          → cond u (Some (position_or_len (λ x. not (f x)) s)) None ≡ Some k → k ≡ run f s
      by true e q = cc
      by false e q = cc

  pub lapse-none : (s : List ℕ) → position (λ x. not (f x)) s ≡ None → run f s ≡ length s
  lapse-none s = by (ltb (position_or_len (λ x. not (f x)) s) (length s)) refl (run-position s)
    where
      by : (u : Bool) → ltb (position_or_len (λ x. not (f x)) s) (length s) ≡ u → run f s ≡ position_or_len (λ x. not (f x)) s
          → cond u (Some (position_or_len (λ x. not (f x)) s)) None ≡ None → run f s ≡ length s
      by true h e q = cc
      by false h e q = omega (arith, e, run_le f s, ltb-false _ _ h)
