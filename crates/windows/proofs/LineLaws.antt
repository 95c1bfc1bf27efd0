-- Lines stored one after another, and the walks that store them.
use Prim.Native.Nat.{ℕ, ◌+◌, ◌*◌}
use mathlib.Core.Path.{◌≡◌, refl, ap, sym, ◌∙◌}
use mathlib.Core.Bool.{Bool, true, false, cond}
use mathlib.Core.List.{List, [], ◌∷◌, ◌++◌, append_assoc, append-nil}
use native.Mathlib.Omega.{arith}
use lib.ListN.{length, length-append}
use lib.Seq.{sets, length-sets}
use lib.Dec.{leb}
use borrow.Author.Tests.{le-leb}
use Rattle.octets.proofs.Stores.{sets-append}
use Rattle.windows.specs.Compare.{Line, numbers_of, listed}
use Rattle.windows.specs.Steps.{with_line, Writes}

-- ---- the list as numbers
pub listed-length : (ls : List Line) → length (listed ls) ≡ length ls * 6
unfolding listed
listed-length [] = refl
listed-length (l ∷ ls) = omega (arith, listed-length ls)

listed-append : (ls ms : List Line) → listed (ls ++ ms) ≡ listed ls ++ listed ms
unfolding listed
listed-append [] ms = refl
listed-append (l ∷ ls) ms = ap (λ (x : List ℕ). numbers_of l ++ x) (listed-append ls ms)

-- ---- what is stored
writes-none : (row : ℕ) (list : List ℕ) → Writes [] row list row list
unfolding listed
writes-none row list = record { rows = omega arith; size = refl; stored = λ h. refl }

line-size : (list : List ℕ) (row : ℕ) (line : Line) → length (with_line list row line) ≡ length list
unfolding with_line
line-size list row line = by (leb (row * 6 + 6) (length list))
  where
    by : (t : Bool) → length (cond t (sets list (row * 6) (numbers_of line)) list) ≡ length list
    by true = length-sets list (row * 6) (numbers_of line)
    by false = refl

writes_line : (line : Line) (row : ℕ) (list : List ℕ) → Writes (line ∷ []) row list (row + 1) (with_line list row line)
unfolding listed with_line
writes_line line row list =
    record {
      rows = refl;
      size = line-size list row line;
      stored = λ h. rw (le-leb (row * 6 + 6) (length list) (omega arith));
    }

pub writes_more : {ls ms : List Line} {row₀ row row' : ℕ} {list₀ list list' : List ℕ}
    → Writes ls row₀ list₀ row list → Writes ms row list row' list' → Writes (ls ++ ms) row₀ list₀ row' list'
writes_more {ls = ls} {ms = ms} {row₀ = row₀} {row = row} {row' = row'} {list₀ = list₀} {list = list} {list' = list'} v w =
    record {
      rows = omega (arith, length-append ls ms, v.rows, w.rows);
      size = w.size ∙ v.size;
      stored = λ h.
          let e : list ≡ sets list₀ (row₀ * 6) (listed ls) = v.stored (omega (arith, w.rows)) in
          let n : row * 6 ≡ row₀ * 6 + length (listed ls) = omega (arith, listed-length ls, v.rows) in
          w.stored (omega (arith, v.size))
          ∙ rw (n, e, listed-append ls ms) (sets-append (listed ls) (listed ms) list₀ (row₀ * 6));
    }

-- ---- a walk on its way: some lines are stored, and the rest is left
module _ (lines : List Line) (row₀ : ℕ) (list₀ : List ℕ) where
  pub record Walking (rest : List Line) (row : ℕ) (list : List ℕ) : Type 0 where
    pub done : List Line
    pub writes : Writes done row₀ list₀ row list
    pub whole : done ++ rest ≡ lines

  pub walk-past : (line : Line) (rest : List Line) (row : ℕ) (list : List ℕ) → Walking (line ∷ rest) row list
      → Walking rest (row + 1) (with_line list row line)
  walk-past line rest row list w =
      record {
        done = w.done ++ line ∷ [];
        writes = writes_more w.writes (writes_line line row list);
        whole = append_assoc w.done (line ∷ []) rest ∙ w.whole;
      }

  pub walk_ends : {row : ℕ} {list : List ℕ} → Walking [] row list → Writes lines row₀ list₀ row list
  walk_ends w = rw (sym (append-nil w.done) ∙ w.whole) at w.writes

pub walk-starts : (lines : List Line) (row : ℕ) (list : List ℕ) → Walking lines row list lines row list
walk-starts lines row list = record { done = []; writes = writes-none row list; whole = refl }
