-- Listed once each: the first's starts in order, then those only the second has, in order; and six numbers a line.
use Prim.Native.Nat.{ℕ, zero, suc, ◌*◌}
use mathlib.Core.Path.{◌≡◌, refl}
use mathlib.Core.List.{List, [], ◌∷◌, ◌++◌}
use native.Mathlib.Omega.{arith}
use lib.ListN.{length, drop}
use lib.Seq.{take-append_seam, drop-append_seam}
use Rattle.protocol.specs.Stretches.{Key}
use Rattle.windows.specs.Compare.{same_key, Start, without, Line, only_seconds, compared, listed}
use Rattle.windows.specs.Laws.{listed_starts, of_key, Among, ListsOnce}
use Rattle.windows.proofs.KeyLaws.{by_test, key-sound}
use Rattle.windows.proofs.MatchLaws.{without_other}

-- those only the second has
abbrev left_over : (xs ys : List Start) → List Start
left_over [] ys = ys
left_over (x ∷ xs) ys = left_over xs (without x.key ys)

seconds-listed : (ys : List Start) → listed_starts (only_seconds ys) ≡ ys
unfolding only_seconds
seconds-listed [] = refl
seconds-listed (y ∷ ys) = rw (seconds-listed ys)

starts-listed : (xs ys : List Start) → listed_starts (compared xs ys) ≡ xs ++ left_over xs ys
unfolding compared
starts-listed [] ys = seconds-listed ys
starts-listed (x ∷ xs) ys = rw (starts-listed xs (without x.key ys))

-- ---- in order
among-all : (ys : List Start) → Among ys ys
among-all [] = Among.none
among-all (y ∷ ys) = Among.with y (among-all ys)

among-without : (k : Key) {zs ys : List Start} → Among zs ys → Among (without k zs) ys
unfolding without
among-without k Among.none = Among.none
among-without k (Among.with {xs} {ys} y a) =
    by_test (same_key k y.key) (λ e. rw e (Among.past y a)) (λ e. rw e (Among.with y (among-without k a)))
among-without k (Among.past y a) = Among.past y (among-without k a)

among-left : (xs : List Start) {zs ys : List Start} → Among zs ys → Among (left_over xs zs) ys
among-left [] a = a
among-left (x ∷ xs) a = among-left xs (among-without x.key a)

-- ---- those past as many as the first has
drop-next : {A : Type 0} (n : ℕ) (xs : List A) → drop n (drop 1 xs) ≡ drop (suc n) xs
drop-next zero [] = refl
drop-next (suc n) [] = refl
drop-next zero (x ∷ xs) = refl
drop-next (suc n) (x ∷ xs) = refl

without-same : (k : Key) (ys : List Start) → of_key k (without k ys) ≡ drop 1 (of_key k ys)
unfolding of_key without
without-same k [] = refl
without-same k (y ∷ ys) = by_test (same_key k y.key) (λ e. rw e) (λ e. rw (e, e) (without-same k ys))

left-past : (k : Key) (xs ys : List Start) → of_key k (left_over xs ys) ≡ drop (length (of_key k xs)) (of_key k ys)
unfolding of_key
left-past k [] ys = refl
left-past k (x ∷ xs) ys =
    by_test (same_key k x.key)
    (λ e.
    rw (e, ← key-sound k x.key e, left-past k xs (without k ys), without-same k ys) (drop-next (length (of_key k xs)) (of_key k ys)))
    (λ e. rw (e, left-past k xs (without x.key ys), without_other k x.key ys e))

pub lists-once : ListsOnce compared
lists-once xs ys =
    record {
      first = rw (starts-listed xs ys) (take-append_seam xs (left_over xs ys));
      in_order = rw (starts-listed xs ys, drop-append_seam xs (left_over xs ys)) (among-left xs (among-all ys));
      only_second = λ k. rw (starts-listed xs ys, drop-append_seam xs (left_over xs ys)) (left-past k xs ys);
    }

-- ---- as numbers
pub listed-length : (ls : List Line) → length (listed ls) ≡ 6 * length ls
unfolding listed
listed-length [] = refl
listed-length (l ∷ ls) = omega (arith, listed-length ls)
