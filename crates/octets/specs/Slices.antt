-- Byte strings compared, and copied to a place.
use Rattle.std.specs.Prelude.{ℕ, ◌+◌, Option, Some, None, Bool, true, false, cond, List, [], ◌∷◌, length, take, drop, leb, eqb}
use Rattle.octets.specs.Search.{index_of}
use Rattle.octets.specs.Outcome.{Outcome, stored_at}

-- length and all bytes agree
unfoldable pub equals : List ℕ → List ℕ → Bool
equals [] [] = true
equals [] (y ∷ ys) = false
equals (x ∷ xs) [] = false
equals (x ∷ xs) (y ∷ ys) = cond (eqb x y) (equals xs ys) false

-- the bytes begin with a given string
unfoldable pub starts_with : List ℕ → List ℕ → Bool
starts_with xs [] = true
starts_with [] (y ∷ ys) = false
starts_with (x ∷ xs) (y ∷ ys) = cond (eqb x y) (starts_with xs ys) false

-- b stands nowhere in the bytes: the first place where it stands is their end
abbrev pub lacks : ℕ → List ℕ → Bool
lacks b xs = eqb (index_of b xs) (length xs)

-- the n bytes from a place on, and none where they pass the end
unfoldable pub part_of : List ℕ → ℕ → ℕ → List ℕ
part_of xs start n = cond (leb (start + n) (length xs)) (take n (drop start xs)) []

-- src stored in dst from place `at` on, where it fits, with the place where it ends
unfoldable pub copy_at : List ℕ → List ℕ → ℕ → Outcome (Option ℕ)
copy_at src dst at = stored_at (Some (at + length src)) None src dst at
