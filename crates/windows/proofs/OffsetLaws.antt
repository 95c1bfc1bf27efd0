-- Contents compared: the offset is the first at which they part; and the two the other way round.
use Prim.Native.Nat.{ℕ}
use mathlib.Core.Path.{◌≡◌, refl, sym}
use mathlib.Core.List.{List, [], ◌∷◌}
use native.Mathlib.Omega.{arith}
use lib.Dec.{eqb}
use borrow.Author.Tests.{eq-eqb, ne_eqb, eqb-true, eqb-false}
use Rattle.windows.specs.Compare.{Verdict, later, first_diff}
use Rattle.windows.specs.Laws.{mirror, RightOf, FirstOffset}
use Rattle.windows.proofs.KeyLaws.{by_test}

right-on : (x : ℕ) (a b : List ℕ) (v : Verdict) → RightOf a b v → RightOf (x ∷ a) (x ∷ b) (later v)
right-on x a b Verdict.only_first r = r
right-on x a b Verdict.only_second r = r
right-on x a b Verdict.same r = rw r
right-on x a b (Verdict.different n) r = (omega arith, omega arith, rw r.2, r.3)

pub first-offset : FirstOffset first_diff
unfolding first_diff
first-offset [] [] = refl
first-offset [] (y ∷ b) = (omega arith, omega arith, refl, tt)
first-offset (x ∷ a) [] = (omega arith, omega arith, refl, tt)
first-offset (x ∷ a) (y ∷ b) =
    by_test (eqb x y)
    (λ e. rw (e, ← eqb-true x y e) (right-on x a b (first_diff a b) (first-offset a b)))
    (λ e. rw e (omega arith, omega arith, refl, eqb-false x y e))

pub diff_refl : (a : List ℕ) → first_diff a a ≡ Verdict.same
unfolding first_diff
diff_refl [] = refl
diff_refl (x ∷ a) = rw (eq-eqb x x refl, diff_refl a)

-- ---- the other way round
test_sym : (x y : ℕ) → eqb y x ≡ eqb x y
test_sym x y =
    by_test (eqb x y) (λ e. rw e (eq-eqb y x (sym (eqb-true x y e)))) (λ e. rw e (ne_eqb y x (λ q. eqb-false x y e (sym q))))

later-mirror : (v : Verdict) → later (mirror v) ≡ mirror (later v)
later-mirror Verdict.only_first = refl
later-mirror Verdict.only_second = refl
later-mirror Verdict.same = refl
later-mirror (Verdict.different n) = refl

pub diff-mirror : (a b : List ℕ) → first_diff b a ≡ mirror (first_diff a b)
unfolding first_diff
diff-mirror [] [] = refl
diff-mirror [] (y ∷ b) = refl
diff-mirror (x ∷ a) [] = refl
diff-mirror (x ∷ a) (y ∷ b) =
    by_test (eqb x y) (λ e. rw (test_sym x y, e, diff-mirror a b) (later-mirror (first_diff a b))) (λ e. rw (test_sym x y, e))
