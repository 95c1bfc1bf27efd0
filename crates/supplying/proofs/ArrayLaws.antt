-- The first member of an array of structs.
use Prim.Native.Nat.{ℕ, suc}
use mathlib.Core.Path.{◌≡◌, refl, sym, ◌∙◌}
use mathlib.Core.List.{List, [], ◌∷◌, map}
use native.Mathlib.Omega.{arith}
use lib.ListN.{length, get_or, length-map}

-- owning an array of structs tells the length of the list of its members' fields
pub length_mapped : {X Y : Type 0} (f : X → Y) (l : List X) (n : ℕ) → length (map f l) ≡ n → length l ≡ n
length_mapped f l n e = sym (length-map l f) ∙ e

-- where there is one, nothing depends on what would stand outside
pub first-inside : {A : Type 0} (l : List A) (n : ℕ) (d e : A) → length l ≡ suc n → get_or l 0 d ≡ get_or l 0 e
first-inside [] n d e h = absurd (omega arith)
first-inside (x ∷ l) n d e h = refl
