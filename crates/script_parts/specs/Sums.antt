-- The sum that is printed of a buffer.
use Rattle.std.specs.Prelude.{ℕ, suc, ◌+◌, ◌*◌, ◌%◌, List, [], ◌∷◌}
use Rattle.script_parts.specs.declared.sums.Sums.{Sums}

-- each member times its place, the first place being k
unfoldable pub weighed : ℕ → List ℕ → ℕ
weighed k [] = 0
weighed k (x ∷ xs) = k * x + weighed (suc k) xs

unfoldable pub sum_of : List ℕ → ℕ
sum_of xs = weighed 1 xs % 65521

-- the two sums with a member more in front
abbrev pub in_front : Sums → ℕ → Sums
in_front s x = let tail = (s.tail + x) % 65521 in record { total = (s.total + tail) % 65521; tail = tail }
