-- Lists that are empty because what they are part of is, or because they are so short.
use Prim.Native.Nat.{◌≤◌}
use mathlib.Core.Path.{◌≡◌, refl}
use mathlib.Core.List.{List, [], ◌∷◌, ◌++◌, map, cons≢nil}
use native.Mathlib.Omega.{arith}
use lib.ListN.{length}

pub empty_left : {A : Type 0} (xs ys : List A) → xs ++ ys ≡ [] → xs ≡ []
empty_left [] ys e = refl
empty_left (x ∷ xs) ys e = absurd (cons≢nil e)

pub empty_under : {A B : Type 0} (f : A → B) (xs : List A) → map f xs ≡ [] → xs ≡ []
empty_under f [] e = refl
empty_under f (x ∷ xs) e = absurd (cons≢nil e)

pub empty-short : {A : Type 0} (xs : List A) → length xs ≤ 0 → xs ≡ []
empty-short [] h = refl
empty-short (x ∷ xs) h = absurd (omega arith)
