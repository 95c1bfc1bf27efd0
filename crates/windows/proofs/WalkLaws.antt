-- The two walks over rows: a turn of each, and its end.
use Prim.Native.Nat.{ℕ, suc, ◌+◌, ◌-◌, ◌≤◌, ◌<◌}
use mathlib.Core.Path.{◌≡◌, refl, ap, sym}
use mathlib.Core.Bool.{Bool, true, false, cond}
use mathlib.Core.List.{List, [], ◌∷◌, ◌++◌}
use native.Mathlib.Omega.{arith}
use lib.ListN.{length, get_or}
use lib.Dec.{eqb}
use Rattle.octets.specs.Outcome.{Outcome, outcome}
use Rattle.protocol.specs.Stretches.{Key}
use Rattle.windows.specs.Compare.{same_key, Start, starts_of, Line}
use Rattle.windows.specs.Ranks.{count_of, first_lines, second_lines}
use Rattle.windows.specs.Steps.{Side, key_at, starts_from, starts_in, start_at, rank_at, first_line, second_line, is_left}
use Rattle.windows.specs.Steps.{with_line, first_row, second_row, Writes}
use Rattle.windows.proofs.RowsLeft.{RowPlace, no_row, starts-at, count-split}
use Rattle.windows.proofs.LineLaws.{Walking, walk-starts, walk-past, walk_ends}

count-last : (k : Key) (xs : List Start) (x : Start) → count_of k (xs ++ x ∷ []) ≡ count_of k xs + count_of k (x ∷ [])
unfolding count_of
count-last k [] x = omega arith
count-last k (y ∷ xs) x = by (same_key k y.key) (count-last k xs x)
  where
    by : (t : Bool) → count_of k (xs ++ x ∷ []) ≡ count_of k xs + count_of k (x ∷ [])
        → cond t (suc (count_of k (xs ++ x ∷ []))) (count_of k (xs ++ x ∷ []))
        ≡ cond t (suc (count_of k xs)) (count_of k xs) + count_of k (x ∷ [])
    by true e = omega (arith, e)
    by false e = e

count-first : (k : Key) (x : Start) (xs : List Start) → count_of k (x ∷ xs) ≡ count_of k (x ∷ []) + count_of k xs
unfolding count_of
count-first k x xs = by (same_key k x.key)
  where
    by : (t : Bool) → cond t (suc (count_of k xs)) (count_of k xs) ≡ cond t 1 0 + count_of k xs
    by true = omega arith
    by false = omega arith

-- ---- the starts before a row
module _ (s : Side) where
  pub record Passed (at : ℕ) (before : List Start) : Type 0 where
    pub within : at ≤ length s.numbers
    pub place : RowPlace at
    pub counts : (k : Key) → count_of k before + count_of k (starts_from s at) ≡ count_of k (starts_in s)

  passed_none : Passed 0 []
  unfolding count_of
  passed_none = record { within = omega arith; place = (0, refl); counts = λ k. omega arith }

  module _ (at : ℕ) (before : List Start) (p : Passed at before) (h : at + 7 ≤ length s.numbers) where
    -- how many of a row's pair stand before it
    passed-rank : count_of (key_at s.recording s.numbers at) before ≡ rank_at s at
    passed-rank =
        let k = key_at s.recording s.numbers at in
        omega (arith, p.counts k, count-split s at k p.place p.within)

    passed-part : starts_from s at ≡ starts_from s (at + 7) → Passed (at + 7) before
    passed-part e =
        record {
          within = h;
          place = (suc p.place.0, omega (arith, p.place.1));
          counts = λ k. rw e at (p.counts k);
        }

    passed_start : starts_from s at ≡ start_at s at ∷ starts_from s (at + 7) → Passed (at + 7) (before ++ start_at s at ∷ [])
    passed_start e =
        record {
          within = h;
          place = (suc p.place.0, omega (arith, p.place.1));
          counts = λ k.
              omega (
                arith,
                p.counts k,
                ap (λ (xs : List Start). count_of k xs) e,
                count-last k before (start_at s at),
                count-first k (start_at s at) (starts_from s (at + 7)),
              );
        }

-- ---- the first's rows
module _ (a b : Side) (list₀ : List ℕ) where
  abbrev ahead : ℕ → List Start → List Line
  ahead at before = first_lines before (starts_from a at) (starts_in b)

  pub record First (at row : ℕ) (list : List ℕ) : Type 0 where
    pub before : List Start
    pub passed : Passed a at before
    pub few : row ≤ at
    pub walking : Walking (first_lines [] (starts_in a) (starts_in b)) 0 list₀ (ahead at before) row list

  pub first-starts : First 0 0 list₀
  first-starts = record { before = []; passed = passed_none a; few = omega arith; walking = walk-starts _ 0 list₀ }

  module _ (at row : ℕ) (list : List ℕ) (f : First at row list) where
    abbrev Past : Outcome ℕ → Type 0
    Past o = First (at + 7) o.answer o.buffer

    past : (t : Bool) → at + 7 ≤ length a.numbers
        → starts_from a at ≡ cond t (starts_from a (at + 7)) (start_at a at ∷ starts_from a (at + 7))
        → Past (cond t (outcome row list) (outcome (row + 1) (with_line list row (first_line a b at))))
    unfolding first_lines
    past true h e =
        record {
          before = f.before;
          passed = passed-part a at f.before f.passed h e;
          few = omega (arith, f.few);
          walking = rw e at f.walking;
        }
    past false h e =
        record {
          before = f.before ++ start_at a at ∷ [];
          passed = passed_start a at f.before f.passed h e;
          few = omega (arith, f.few);
          walking = walk-past (first_lines [] (starts_in a) (starts_in b)) 0 list₀ (first_line a b at)
              (ahead (at + 7) (f.before ++ start_at a at ∷ [])) row list
              (rw (e, passed-rank a at f.before f.passed h) at f.walking);
        }

    pub first_past : {row' : ℕ} {list' : List ℕ} → at + 7 ≤ length a.numbers → outcome row' list' ≡ first_row a b at list row
        → First (at + 7) row' list'
    unfolding first_row
    first_past h e = rw (sym e) at (past (eqb (get_or a.numbers at 0) 0) h (starts-at a at h))

    pub first_ends : length a.numbers - at < 7 → Writes (first_lines [] (starts_in a) (starts_in b)) 0 list₀ row list
    unfolding starts_of first_lines
    first_ends l =
        walk_ends (first_lines [] (starts_in a) (starts_in b)) 0 list₀
        (rw (no_row a.recording a.parts a.numbers at l) at f.walking)

-- ---- the second's rows
module _ (a b : Side) (row₀ : ℕ) (list₀ : List ℕ) where
  abbrev left : ℕ → List Start → List Line
  left at before = second_lines before (starts_from b at) (starts_in a)

  pub record Second (at row : ℕ) (list : List ℕ) : Type 0 where
    pub before : List Start
    pub passed : Passed b at before
    pub few : row ≤ row₀ + at
    pub walking : Walking (second_lines [] (starts_in b) (starts_in a)) row₀ list₀ (left at before) row list

  pub second-starts : Second 0 row₀ list₀
  second-starts = record { before = []; passed = passed_none b; few = omega arith; walking = walk-starts _ row₀ list₀ }

  module _ (at row : ℕ) (list : List ℕ) (f : Second at row list) where
    abbrev PastRow : Outcome ℕ → Type 0
    PastRow o = Second (at + 7) o.answer o.buffer

    abbrev Rest : List Line → Type 0
    Rest ls = Walking (second_lines [] (starts_in b) (starts_in a)) row₀ list₀ ls row list

    -- a start, by whether only the second has it
    start-past : (t : Bool) → at + 7 ≤ length b.numbers → starts_from b at ≡ start_at b at ∷ starts_from b (at + 7)
        → let rest = left (at + 7) (f.before ++ start_at b at ∷ []) in Rest (cond t (second_line b at ∷ rest) rest)
        → PastRow (cond t (outcome (row + 1) (with_line list row (second_line b at))) (outcome row list))
    start-past true h e w =
        record {
          before = f.before ++ start_at b at ∷ [];
          passed = passed_start b at f.before f.passed h e;
          few = omega (arith, f.few);
          walking = walk-past (second_lines [] (starts_in b) (starts_in a)) row₀ list₀ (second_line b at)
              (left (at + 7) (f.before ++ start_at b at ∷ [])) row list w;
        }
    start-past false h e w =
        record {
          before = f.before ++ start_at b at ∷ [];
          passed = passed_start b at f.before f.passed h e;
          few = omega (arith, f.few);
          walking = w;
        }

    row-past : (t : Bool) → at + 7 ≤ length b.numbers
        → starts_from b at ≡ cond t (starts_from b (at + 7)) (start_at b at ∷ starts_from b (at + 7))
        → PastRow (cond t (outcome row list)
        (cond (is_left a b at) (outcome (row + 1) (with_line list row (second_line b at))) (outcome row list)))
    unfolding second_lines
    row-past true h e =
        record {
          before = f.before;
          passed = passed-part b at f.before f.passed h e;
          few = omega (arith, f.few);
          walking = rw e at f.walking;
        }
    row-past false h e = start-past (is_left a b at) h e (rw (e, passed-rank b at f.before f.passed h) at f.walking)

    pub second_past : {row' : ℕ} {list' : List ℕ} → at + 7 ≤ length b.numbers → outcome row' list' ≡ second_row a b at list row
        → Second (at + 7) row' list'
    unfolding second_row
    second_past h e = rw (sym e) at (row-past (eqb (get_or b.numbers at 0) 0) h (starts-at b at h))

    pub second-ends : length b.numbers - at < 7 → Writes (second_lines [] (starts_in b) (starts_in a)) row₀ list₀ row list
    unfolding starts_of second_lines
    second-ends l =
        walk_ends (second_lines [] (starts_in b) (starts_in a)) row₀ list₀
        (rw (no_row b.recording b.parts b.numbers at l) at f.walking)
