-- What stands at a place of a list, and lists stored at a place, as loops meet them.
use Prim.Native.Nat.{ℕ, ◌+◌, ◌-◌, ◌≤◌, ◌<◌}
use mathlib.Core.Path.{◌≡◌}
use mathlib.Core.List.{List, [], ◌∷◌}
use native.Mathlib.Omega.{arith}
use native.Mathlib.Numerals.{add-one}
use lib.ListN.{length, get_or, take, drop, drop_of_length-le, length-drop}
use lib.Seq.{drop-cons, take_all}

-- what is left at a place inside: its member, and what is left after it
pub drop_at : (t : List ℕ) (i : ℕ) → i < length t → drop i t ≡ get_or t i 0 ∷ drop (i + 1) t
drop_at t i h = rw (add-one, drop-cons t i 0)

-- nothing is left at the end
pub drop-end : (t : List ℕ) (i : ℕ) → length t ≤ i → drop i t ≡ []
drop-end t i h = drop_of_length-le t h

-- the part from a place to the end, as a slice lends it
pub part-rest : (t : List ℕ) (i : ℕ) → take (length t - i) (drop i t) ≡ drop i t
part-rest t i = take_all (length t - i) (drop i t) (omega (arith, length-drop i t))
