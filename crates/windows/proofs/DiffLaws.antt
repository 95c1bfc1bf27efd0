-- Contents compared, from an offset on.
use Prim.Native.Nat.{ℕ, suc, ◌+◌, min}
use mathlib.Core.Path.{◌≡◌, refl, ap, ◌∙◌}
use mathlib.Core.Bool.{Bool, true, false, cond, not}
use mathlib.Core.List.{List, [], ◌∷◌}
use native.Mathlib.Omega.{arith}
use lib.ListN.{length}
use lib.Dec.{eqb}
use borrow.Author.Tests.{eq-eqb, ne_eqb, eqb-true, eqb-false}
use Rattle.std.specs.Prelude.{Option, Some, None, position, zip}
use Rattle.std.specs.List.{position_from}
use Rattle.std.proofs.lemmas.Iterator.Adapters.{position_from-zero}
use Rattle.windows.specs.Compare.{Verdict, later, first_diff}

-- n places on
abbrev pub later_by : ℕ → Verdict → Verdict
later_by n Verdict.only_first = Verdict.only_first
later_by n Verdict.only_second = Verdict.only_second
later_by n Verdict.same = Verdict.same
later_by n (Verdict.different m) = Verdict.different (n + m)

later-one : (n : ℕ) (v : Verdict) → later_by n (later v) ≡ later_by (n + 1) v
later-one n Verdict.only_first = refl
later-one n Verdict.only_second = refl
later-one n Verdict.same = refl
later-one n (Verdict.different m) = let e : n + suc m ≡ n + 1 + m = omega arith in rw e

abbrev pub unlike : ℕ × ℕ → Bool
unlike bytes = not (eqb bytes.0 bytes.1)

-- by the first offset, from n on, at which both have a byte and not the same; and by how many bytes are left of each
abbrev pub by_offset : ℕ → Option ℕ → (left right : ℕ) → Verdict
by_offset n (Some i) l m = Verdict.different i
by_offset n None l m = cond (eqb l m) Verdict.same (Verdict.different (n + min l m))

offset-on : (n : ℕ) (o : Option ℕ) (l m : ℕ) → by_offset (n + 1) o l m ≡ by_offset n o (suc l) (suc m)
offset-on n (Some i) l m = refl
offset-on n None l m = by (eqb l m) refl
  where
    by : (t : Bool) → eqb l m ≡ t
        → cond t Verdict.same (Verdict.different (n + 1 + min l m))
        ≡ cond (eqb (suc l) (suc m)) Verdict.same (Verdict.different (n + min (suc l) (suc m)))
    by true e = let q : suc l ≡ suc m = ap suc (eqb-true l m e) in rw (eq-eqb (suc l) (suc m) q)
    by false e =
        let d : suc l ≡ suc m → ⊥ = λ q. eqb-false l m e (omega arith) in
        let k : n + 1 + min l m ≡ n + min (suc l) (suc m) = omega arith in
        rw (ne_eqb (suc l) (suc m) d, k)

diff-from : (n : ℕ) (a b : List ℕ)
    → later_by n (first_diff a b) ≡ by_offset n (position_from unlike n (zip a b)) (length a) (length b)
unfolding first_diff
diff-from n [] [] = refl
diff-from n [] (y ∷ ys) =
    let d : 0 ≡ suc (length ys) → ⊥ = λ e. omega arith in
    let z : n + 0 ≡ n + min 0 (suc (length ys)) = omega arith in
    rw (ne_eqb 0 (suc (length ys)) d) (ap Verdict.different z)
diff-from n (x ∷ xs) [] =
    let d : suc (length xs) ≡ 0 → ⊥ = λ e. omega arith in
    let z : n + 0 ≡ n + min (suc (length xs)) 0 = omega arith in
    rw (ne_eqb (suc (length xs)) 0 d) (ap Verdict.different z)
diff-from n (x ∷ xs) (y ∷ ys) = by (eqb x y) (diff-from (n + 1) xs ys)
  where
    by : (t : Bool)
        → later_by (n + 1) (first_diff xs ys)
        ≡ by_offset (n + 1) (position_from unlike (n + 1) (zip xs ys)) (length xs) (length ys)
        → later_by n (cond t (later (first_diff xs ys)) (Verdict.different 0))
        ≡ by_offset n (cond (not t) (Some n) (position_from unlike (n + 1) (zip xs ys))) (suc (length xs)) (suc (length ys))
    by true e =
        later-one n (first_diff xs ys)
        ∙ e
        ∙ offset-on n (position_from unlike (n + 1) (zip xs ys)) (length xs) (length ys)
    by false e = let z : n + 0 ≡ n = omega arith in rw z

diff-offset : (a b : List ℕ) → first_diff a b ≡ by_offset 0 (position unlike (zip a b)) (length a) (length b)
diff-offset a b =
    rw (position_from-zero unlike (zip a b)) (still (first_diff a b) ∙ diff-from 0 a b)
  where
    still : (v : Verdict) → v ≡ later_by 0 v
    still Verdict.only_first = refl
    still Verdict.only_second = refl
    still Verdict.same = refl
    still (Verdict.different m) = let z : 0 + m ≡ m = omega arith in rw z

-- ---- by what the code finds
module _ (a b : List ℕ) where
  found : {o : Option ℕ} → o ≡ position unlike (zip a b) → first_diff a b ≡ by_offset 0 o (length a) (length b)
  found e = rw e (diff-offset a b)

  pub diff-at : (i : ℕ) → Some i ≡ position unlike (zip a b) → first_diff a b ≡ Verdict.different i
  diff-at i e = found e

  -- no offset is found: one is the start of the other
  pub diff-none : None ≡ position unlike (zip a b) → length a ≡ length b → first_diff a b ≡ Verdict.same
  diff-none e k = found e ∙ rw (eq-eqb (length a) (length b) k)

  pub diff-short : None ≡ position unlike (zip a b) → (length a ≡ length b → ⊥)
      → first_diff a b ≡ Verdict.different (min (length a) (length b))
  diff-short e k =
      let z : 0 + min (length a) (length b) ≡ min (length a) (length b) = omega arith in
      found e ∙ rw (ne_eqb (length a) (length b) k) (ap Verdict.different z)
