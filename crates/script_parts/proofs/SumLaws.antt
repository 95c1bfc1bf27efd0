-- The sums that are printed, folded from the last member on.
use Rattle.std.proofs.Common.{ℕ, suc, ◌+◌, ◌*◌, ◌%◌, ◌≡◌, refl, ap, ◌∙◌, List, [], ◌∷◌, arith}
use Rattle.std.specs.List.{fold}
use mathlib.Core.List.{reverse}
use native.Mathlib.Nat.{suc-mul}
use Rattle.std.proofs.lemmas.List.{reverse-append}
use Rattle.std.proofs.lemmas.List.Sums.{fold-append}
use Rattle.script_parts.specs.declared.sums.Sums.{Sums}
use Rattle.script_parts.specs.Sums.{weighed, sum_of, in_front}

unfoldable plain : List ℕ → ℕ
plain [] = 0
plain (x ∷ xs) = x + plain xs

-- one place further on each member counts once more
next_place : (k : ℕ) (xs : List ℕ) → weighed (suc k) xs ≡ weighed k xs + plain xs
unfolding weighed plain
next_place k [] = omega arith
next_place k (x ∷ xs) = omega (arith, suc-mul k x, next_place (suc k) xs)

abbrev none : Sums
none = record { total = 0; tail = 0 }

abbrev both : List ℕ → Sums
both xs = record { total = weighed 1 xs % 65521; tail = plain xs % 65521 }

front : (x : ℕ) (xs : List ℕ) → in_front (both xs) x ≡ both (x ∷ xs)
unfolding weighed plain
front x xs =
    let tail : (plain xs % 65521 + x) % 65521 ≡ (x + plain xs) % 65521 = omega arith in
    let total : (weighed 1 xs % 65521 + (plain xs % 65521 + x) % 65521) % 65521 ≡ (1 * x + weighed 2 xs) % 65521
    = omega (arith, next_place 1 xs) in
    ap (λ n. record { total = (weighed 1 xs % 65521 + (plain xs % 65521 + x) % 65521) % 65521; tail = n }) tail
    ∙ ap (λ n. record { total = n; tail = (x + plain xs) % 65521 }) total

folded : (xs : List ℕ) → fold in_front none (reverse xs) ≡ both xs
unfolding weighed plain
folded [] = refl
folded (x ∷ xs) =
    ap (fold in_front none) (reverse-append (x ∷ []) xs) ∙ fold-append in_front none (reverse xs) (x ∷ [])
    ∙ ap (λ s. in_front s x) (folded xs) ∙ front x xs

pub total-folded : (xs : List ℕ) → (fold in_front none (reverse xs)).total ≡ sum_of xs
unfolding sum_of
total-folded xs = ap (λ s. s.total) (folded xs)
