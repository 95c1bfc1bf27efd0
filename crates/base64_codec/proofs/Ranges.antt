-- The alphabet by ranges of bytes: the same, for every byte, as the definition says.
use Prim.Native.Nat.{ℕ, ◌<◌}
use mathlib.Core.Path.{◌≡◌, refl}
use mathlib.Core.Bool.{Bool, true, false, not, ◌&&◌, ◌||◌}
use native.Mathlib.Omega.{arith}
use lib.Dec.{leb, eqb}
use Rattle.octets.proofs.Below.{at}
use Rattle.base64_codec.specs.Alphabet.{value_of}
use Rattle.base64_codec.specs.Letters.{is_letter}

-- two tests answer alike
unfoldable pub alike : Bool → Bool → Bool
alike true b = b
alike false b = not b

pub alike_same : (a b : Bool) → alike a b ≡ true → a ≡ b
unfolding alike
alike_same true true e = refl
alike_same true false e = let z : ◌≡◌ {A = ℕ} 0 1 = cc in absurd (omega arith)
alike_same false true e = let z : ◌≡◌ {A = ℕ} 0 1 = cc in absurd (omega arith)
alike_same false false e = refl

abbrev pub in_ranges : ℕ → Bool
in_ranges c = (((leb 97 c && leb c 122) || (leb 65 c && leb c 90)) || (leb 47 c && leb c 57)) || eqb c 43

pub letter-ranges : (c : ℕ) → c < 256 → in_ranges c ≡ is_letter c
unfolding alike value_of
letter-ranges c h = alike_same _ _ (at 256 (λ (b : ℕ). alike (in_ranges b) (is_letter b)) refl c h)
