-- Powers of ten.
use Prim.Native.Nat.{ℕ, ◌*◌, ◌/◌, ◌^◌, ◌≤◌, ◌<◌}
use mathlib.Core.Path.{◌≡◌}
use native.Mathlib.Omega.{arith}
use native.Mathlib.Nat.{pow-le-pow_right, one-le-pow, le-div_iff_mul-le, div-lt_iff_lt-mul}
use native.Mathlib.Decide.{dec_lt}
use lib.Dec.{lit<}

pub ten_le : {i j : ℕ} → i ≤ j → 10 ^ i ≤ 10 ^ j
ten_le h = pow-le-pow_right {n = 10} (lit< tt) h

pub ten_pos : (k : ℕ) → 1 ≤ 10 ^ k
ten_pos k = one-le-pow k 10 (lit< tt)

-- a number between two powers
pub ten_lt : (i j n : ℕ) → 10 ^ i ≤ n → n < 10 ^ j → i < j
ten_lt i j n l u = go (dec_lt i j)
  where
    go : Dec (i < j) → i < j
    go (yes h) = h
    go (no h) = absurd (omega (arith, ten_le {i = j} {j = i} (omega arith)))

-- what is left above k digits tells whether they hold the number
pub above-some : (k n : ℕ) → 1 ≤ n / 10 ^ k → 10 ^ k ≤ n
above-some k n h = let l : 1 * 10 ^ k ≤ n = (le-div_iff_mul-le (ten_pos k)).0 h in omega arith

pub above-none : (k n : ℕ) → n / 10 ^ k ≡ 0 → n < 10 ^ k
above-none k n e = let l : n < 1 * 10 ^ k = (div-lt_iff_lt-mul (ten_pos k)).0 (omega arith) in omega arith
