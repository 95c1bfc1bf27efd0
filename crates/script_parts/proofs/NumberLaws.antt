-- Numbers of two, three, four and eight bytes, of which some may be missing.
use Prim.Native.Nat.{ℕ, ◌+◌, ◌*◌}
use mathlib.Core.Path.{◌≡◌}
use mathlib.Core.List.{List, [], ◌∷◌}
use native.Mathlib.Omega.{arith}
use lib.ListN.{get_or, take, drop}
use Rattle.octets.specs.Little.{number}

pub of_two : (t : List ℕ) → number (take 2 t) ≡ get_or t 0 0 + get_or t 1 0 * 256
unfolding number
of_two [] = omega arith
of_two (a ∷ []) = omega arith
of_two (a ∷ b ∷ t) = omega arith

pub of_three : (t : List ℕ) → number (take 3 t) ≡ number (take 2 t) + get_or t 2 0 * 65536
unfolding number
of_three [] = omega arith
of_three (a ∷ []) = omega arith
of_three (a ∷ b ∷ []) = omega arith
of_three (a ∷ b ∷ c ∷ t) = omega arith

pub of_four : (t : List ℕ) → number (take 4 t) ≡ number (take 2 t) + number (take 2 (drop 2 t)) * 65536
unfolding number
of_four [] = omega arith
of_four (a ∷ []) = omega arith
of_four (a ∷ b ∷ []) = omega arith
of_four (a ∷ b ∷ c ∷ []) = omega arith
of_four (a ∷ b ∷ c ∷ d ∷ t) = omega arith

pub of_eight : (t : List ℕ) → number (take 8 t) ≡ number (take 4 t) + number (take 4 (drop 4 t)) * 4294967296
unfolding number
of_eight [] = omega arith
of_eight (a ∷ []) = omega arith
of_eight (a ∷ b ∷ []) = omega arith
of_eight (a ∷ b ∷ c ∷ []) = omega arith
of_eight (a ∷ b ∷ c ∷ d ∷ []) = omega arith
of_eight (a ∷ b ∷ c ∷ d ∷ e ∷ []) = omega arith
of_eight (a ∷ b ∷ c ∷ d ∷ e ∷ f ∷ []) = omega arith
of_eight (a ∷ b ∷ c ∷ d ∷ e ∷ f ∷ g ∷ []) = omega arith
of_eight (a ∷ b ∷ c ∷ d ∷ e ∷ f ∷ g ∷ h ∷ t) = omega arith
