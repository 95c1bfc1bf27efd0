-- The same list with nothing taken away, as the code makes it: a pair's k-th start in the first is matched with its k-th in the second.
use Rattle.std.specs.Prelude.{ℕ, suc, ◌-◌, cond, List, [], ◌∷◌, ◌++◌, leb, eqb, Option, Some, None}
use Rattle.protocol.specs.Stretches.{Key}
use Rattle.windows.specs.Compare.{same_key, Start, Verdict, against, Line}

-- how many starts of a pair there are
unfoldable pub count_of : Key → List Start → ℕ
count_of k [] = 0
count_of k (x ∷ xs) = cond (same_key k x.key) (suc (count_of k xs)) (count_of k xs)

-- the one with n others of its pair before it
unfoldable pub nth : Key → ℕ → List Start → Option Start
nth k n [] = None
nth k n (y ∷ ys) = cond (same_key k y.key) (cond (eqb n 0) (Some y) (nth k (n - 1) ys)) (nth k n ys)

-- the lines of the first's starts, given those before them
unfoldable pub first_lines : (before xs ys : List Start) → List Line
first_lines before [] ys = []
first_lines before (x ∷ xs) ys =
    record { verdict = against x (nth x.key (count_of x.key before) ys); start = x } ∷ first_lines (before ++ x ∷ []) xs ys

-- the lines of the second's starts that have as many of their pair before them as the first has
unfoldable pub second_lines : (before ys xs : List Start) → List Line
second_lines before [] xs = []
second_lines before (y ∷ ys) xs =
    cond (leb (count_of y.key xs) (count_of y.key before))
    (record { verdict = Verdict.only_second; start = y } ∷ second_lines (before ++ y ∷ []) ys xs)
    (second_lines (before ++ y ∷ []) ys xs)
