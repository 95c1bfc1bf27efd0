-- The weak sum of the rsync technical report, whose M is 65,536, of a window X1 .. Xn.
use Rattle.std.specs.Prelude.{ℕ, ◌+◌, ◌-◌, ◌*◌, ◌/◌, ◌%◌, List, [], ◌∷◌, length}

-- the sum of Xi
unfoldable pub sum_of : List ℕ → ℕ
sum_of [] = 0
sum_of (x ∷ w) = x + sum_of w

-- the sum of (n - i + 1) Xi
unfoldable pub weighed_of : List ℕ → ℕ
weighed_of [] = 0
weighed_of (x ∷ w) = length (x ∷ w) * x + weighed_of w

-- a + 2^16 b
abbrev pub both_of : ℕ → ℕ → ℕ
both_of a b = a + 65536 * b

unfoldable pub weak_of : List ℕ → ℕ
weak_of w = both_of (sum_of w % 65536) (weighed_of w % 65536)

-- "a' = (a - X1 + Y) mod M" and "b' = (b - n X1 + a') mod M", with M added before what is taken away
abbrev pub rolled_low : ℕ → ℕ → ℕ → ℕ
rolled_low s x y = (s % 65536 + 65536 - x + y) % 65536

unfoldable pub rolled_of : ℕ → ℕ → ℕ → ℕ → ℕ
rolled_of s n x y =
    both_of (rolled_low s x y) ((s / 65536 + 65536 - n % 65536 * x % 65536 + rolled_low s x y) % 65536)
