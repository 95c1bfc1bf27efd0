-- Numbers in bytes and back, for every width.
use Prim.Native.Nat.{ℕ, zero, suc, ◌+◌, ◌*◌, ◌/◌, ◌%◌, ◌^◌, ◌<◌}
use mathlib.Core.Path.{◌≡◌, refl, ap}
use mathlib.Core.List.{List, [], ◌∷◌}
use native.Mathlib.Omega.{arith}
use native.Mathlib.Nat.{pow-succ'}
use lib.ListN.{length}
use Rattle.octets.specs.Bytes.{Bytes}
use Rattle.octets.specs.Little.{little, number}

pub length-little : (k n : ℕ) → length (little k n) ≡ k
unfolding little
length-little zero n = refl
length-little (suc k) n = ap suc (length-little k (n / 256))

pub little-bytes : (k n : ℕ) → Bytes (little k n)
unfolding little
little-bytes zero n = tt
little-bytes (suc k) n = (omega arith, little-bytes k (n / 256))

-- a number that fits the width is read as it was laid out
pub number-little : (k n : ℕ) → n < 256 ^ k → number (little k n) ≡ n
unfolding little number
number-little zero n h = omega arith
number-little (suc k) n h =
    let l : n / 256 < 256 ^ k = omega (arith, pow-succ' 256 k) in
    omega (arith, number-little k (n / 256) l)

-- bytes are what their number is laid out as
pub little-number : (bs : List ℕ) → Bytes bs → little (length bs) (number bs) ≡ bs
unfolding little number
little-number [] h = refl
little-number (b ∷ bs) h =
    let low : (b + 256 * number bs) % 256 ≡ b = omega (arith, h.0) in
    let rest : (b + 256 * number bs) / 256 ≡ number bs = omega (arith, h.0) in
    rw (low, rest, little-number bs h.1)

-- k bytes hold numbers below 256 to the k
pub number_lt : (bs : List ℕ) → Bytes bs → number bs < 256 ^ length bs
unfolding number
number_lt [] h = omega arith
number_lt (b ∷ bs) h = omega (arith, number_lt bs h.1, pow-succ' 256 (length bs), h.0)
