-- A rule of every number below a numeral, by one test that the checker computes.
use Prim.Native.Nat.{ℕ, zero, suc, ◌<◌}
use mathlib.Core.Path.{◌≡◌, refl}
use mathlib.Core.Bool.{Bool, true, false, ◌&&◌}
use native.Mathlib.Decide.{ℕ_discrete}
use native.Mathlib.Omega.{arith}

pub both_test : (t u : Bool) → (t && u) ≡ true → (t ≡ true) × (u ≡ true)
both_test true u e = (refl, e)
both_test false u e = cc

-- the test holds of each number below n
abbrev pub all : ℕ → (ℕ → Bool) → Bool
all zero f = true
all (suc n) f = f n && all n f

pub at : (n : ℕ) (f : ℕ → Bool) → all n f ≡ true → (k : ℕ) → k < n → f k ≡ true
at zero f e k h = absurd (omega arith)
at (suc n) f e k h = go (ℕ_discrete k n) (λ (l : k < n). at n f (both_test (f n) (all n f) e).1 k l)
  where
    go : Dec (k ≡ n) → (k < n → f k ≡ true) → f k ≡ true
    go (yes q) rest = rw q (both_test (f n) (all n f) e).0
    go (no q) rest = rest (omega arith)
