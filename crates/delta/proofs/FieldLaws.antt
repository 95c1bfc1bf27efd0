-- A number read from its last byte on, and parts that lie within.
use Prim.Native.Nat.{ℕ, suc, ◌+◌, ◌*◌, ◌^◌, ◌≤◌, ◌<◌}
use mathlib.Core.Path.{◌≡◌, refl, sym, ap, ◌∙◌}
use mathlib.Core.Bool.{Bool, true, false, cond}
use mathlib.Core.List.{List, [], ◌∷◌, ◌++◌, append_assoc, append-nil}
use native.Mathlib.Omega.{arith}
use native.Mathlib.Nat.{pow-le-pow_right, pow-succ'}
use native.Mathlib.Numerals.{add-one}
use lib.ListN.{length, get_or, take, drop, length-take, length-drop, length-append}
use lib.Seq.{get_or-append_seam, length-take-le}
use Rattle.std.specs.List.{push}
use lib.Dec.{leb}
use borrow.Author.Tests.{le-leb}
use Rattle.octets.specs.Little.{number}
use Rattle.octets.specs.Slices.{part_of}

-- the bytes r are still to be read, and n is what the ones behind them lay out
pub record Halfway (t r : List ℕ) (n : ℕ) : Type 0 where
  pub done : List ℕ
  pub all : t ≡ r ++ done
  pub value : n ≡ number done
  pub bound : n < 256 ^ length done

pub none-read : (t : List ℕ) → Halfway t t 0
unfolding number
none-read t = record { done = []; all = sym (append-nil t); value = refl; bound = omega arith }

pub all-read : (t r : List ℕ) (n : ℕ) → length r ≡ 0 → Halfway t r n → (n ≡ number t) × (n < 256 ^ length t)
all-read t [] n e h = rw h.all (h.value, h.bound)
all-read t (x ∷ r) n e h = absurd (omega arith)

-- eight bytes hold no more than a u64
pub small : (n k : ℕ) → n < 256 ^ k → k ≤ 7 → n < 72057594037927936
small n k h l = omega (arith, pow-le-pow_right {n = 256} (omega arith) {i = k} {j = 7} l)

pub more : (n b k l : ℕ) → n < 256 ^ k → b < 256 → l ≡ k + 1 → n * 256 + b < 256 ^ l
more n b k l h m e = rw (e, add-one k, pow-succ' 256 k) (omega arith)

module _ (t r : List ℕ) (x n : ℕ) (h : Halfway t (push r x) n) where
  behind : t ≡ r ++ x ∷ h.done
  behind = h.all ∙ append_assoc r (x ∷ []) h.done

  pub byte-read : get_or t (length r) 0 ≡ x
  byte-read = rw behind (get_or-append_seam r x h.done 0)

  pub room-left : length t ≤ 8 → n < 72057594037927936
  room-left l =
      let k : length t ≡ length r + suc (length h.done) = ap length behind ∙ length-append r (x ∷ h.done) in
      small n (length h.done) h.bound (omega arith)

  pub one-more : x < 256 → Halfway t r (n * 256 + x)
  unfolding number
  one-more b =
      record {
        done = x ∷ h.done;
        all = behind;
        value = omega (arith, h.value);
        bound = more n x (length h.done) (suc (length h.done)) h.bound b (omega arith);
      }

pub part-within : (s : List ℕ) (at n : ℕ) → at + n ≤ length s → part_of s at n ≡ take n (drop at s)
unfolding part_of
part-within s at n h = rw (le-leb (at + n) (length s) h)

pub part_small : (s : List ℕ) (at n : ℕ) → length (part_of s at n) ≤ length s
unfolding part_of
part_small s at n = by (leb (at + n) (length s))
  where
    by : (u : Bool) → length (cond u (take n (drop at s)) []) ≤ length s
    by true = omega (arith, length-take n (drop at s), length-drop at s)
    by false = omega arith

-- a part that lies within is as long as was asked
pub ruleset in_part = (part-within, length-take-le, length-drop)
