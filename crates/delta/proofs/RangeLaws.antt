-- A range of blocks is one part of the old file.
use Prim.Native.Nat.{ℕ, zero, suc, ◌+◌, ◌-◌, ◌*◌, ◌≤◌, min}
use mathlib.Core.Path.{◌≡◌, sym, ap, ◌∙◌}
use mathlib.Core.List.{List, ◌++◌}
use native.Mathlib.Omega.{arith}
use native.Mathlib.Nat.{le-mul_of_pos_right, one-mul, suc-mul, add_comm, zero-min, min-zero, suc-min-suc}
use lib.ListN.{length, take, drop, length-drop}
use lib.Seq.{take-add, drop-drop}
use borrow.Author.Tests.{le-leb}
use Rattle.std.proofs.lemmas.List.{take_min}
use Rattle.octets.specs.Slices.{part_of}
use Rattle.delta.specs.Patch.{block_of, range_of}

pub range-piece : (size : ℕ) (old : List ℕ) (i n : ℕ) → range_of size old i n ≡ take ((n + 1) * size) (drop (i * size) old)
unfolding range_of
range-piece size old i zero = rw (one-mul size)
range-piece size old i (suc n) =
    let m : suc n + 1 ≡ suc (n + 1) = omega arith in
    let e : (suc n + 1) * size ≡ size + (n + 1) * size =
    ap (λ (k : ℕ). k * size) m ∙ suc-mul (n + 1) size ∙ add_comm ((n + 1) * size) size in
    rw (e, take-add size ((n + 1) * size) (drop (i * size) old), drop-drop size (i * size) old, ← suc-mul i size)
    (ap (λ (r : List ℕ). block_of size old i ++ r) (range-piece size old (suc i) n))

-- as the code takes it: no more than there is
pub part-range : (size : ℕ) (old : List ℕ) (i n : ℕ) → i * size ≤ length old
    → part_of old (i * size) (min ((n + 1) * size) (length old - i * size)) ≡ range_of size old i n
unfolding part_of
part-range size old i n h =
    let start = i * size in
    rw (le-leb (start + min ((n + 1) * size) (length old - start)) (length old) (omega arith), ← length-drop start old)
    (take_min ((n + 1) * size) (drop start old) ∙ sym (range-piece size old i n))

-- a block's index is never past its start
pub ruleset reaching = (le-mul_of_pos_right)
