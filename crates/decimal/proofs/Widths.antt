-- The width of a number: the least number of digits, one or more, that holds it.
use Prim.Native.Nat.{ℕ, zero, suc, ◌+◌, ◌^◌, ◌≤◌, ◌<◌}
use mathlib.Core.Path.{◌≡◌, refl}
use mathlib.Core.Bool.{Bool, true, false, cond}
use native.Mathlib.Omega.{arith}
use native.Mathlib.Decide.{dec_lt}
use lib.Dec.{ltb}
use borrow.Author.Tests.{ltb-true, ltb-false}
use Rattle.decimal.specs.Write.{width_from, width_of}
use Rattle.decimal.proofs.Powers.{ten_le, ten_lt}

-- k is the least width from w to `last` that holds n, if one does
pub record Least (w last n k : ℕ) : Type 0 where
  pub first : w ≤ k
  pub upto : k ≤ last
  pub holds : n < 10 ^ last → n < 10 ^ k
  pub least : (j : ℕ) → w ≤ j → n < 10 ^ j → k ≤ j

least-from : (f w last n : ℕ) → f + w ≡ last → Least w last n (width_from f w n)
unfolding width_from
least-from zero w last n q =
    let e : w ≡ last = omega arith in
    record { first = omega arith; upto = omega arith; holds = λ h. rw e h; least = λ j h k. h }
least-from (suc f) w last n q = go (ltb n (10 ^ w)) refl (least-from f (suc w) last n (omega arith))
  where
    go : (b : Bool) → ltb n (10 ^ w) ≡ b → Least (suc w) last n (width_from f (suc w) n)
        → Least w last n (cond b w (width_from f (suc w) n))
    go true e l = record { first = omega arith; upto = omega arith; holds = λ h. ltb-true n (10 ^ w) e; least = λ j h k. h }
    go false e l =
        record {
          first = omega arith;
          upto = l.upto;
          holds = l.holds;
          least = λ j h k. l.least j (ten_lt w j n (ltb-false n (10 ^ w) e) k) k;
        }

pub width-least : (n : ℕ) → Least 1 20 n (width_of n)
width-least n = least-from 19 1 20 n refl

-- without leading zeros the width is that of the digits
pub width-unique : (k n : ℕ) → k < 20 → 10 ^ k ≤ n → n < 10 ^ suc k → width_of n ≡ suc k
width-unique k n h l u =
    let w = width-least n in
    let b = ten_le {i = suc k} {j = 20} h in
    let a = ten_lt k (width_of n) n l (w.holds (omega arith)) in
    let z = w.least (suc k) (omega arith) u in
    omega arith

-- and a number that is not 0 has none
pub width_top : (k n : ℕ) → width_of n ≡ suc k → 1 ≤ n → 10 ^ k ≤ n
width_top k n e h = go k e (dec_lt n (10 ^ k))
  where
    go : (j : ℕ) → width_of n ≡ suc j → Dec (n < 10 ^ j) → 10 ^ j ≤ n
    go zero q d = h
    go (suc j) q (yes l) = absurd (omega (arith, (width-least n).least (suc j) (omega arith) l))
    go (suc j) q (no l) = omega arith
