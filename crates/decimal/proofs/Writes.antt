-- Which numbers `write` stores.
use Prim.Native.Nat.{ℕ, ◌+◌, ◌^◌, ◌≤◌, ◌<◌}
use mathlib.Core.Path.{◌≡◌, refl}
use mathlib.Core.Bool.{Bool, true, false, not, ◌&&◌}
use mathlib.Core.List.{List}
use native.Mathlib.Omega.{arith}
use lib.ListN.{length}
use borrow.Author.Tests.{le-ltb, ltb-false}
use Rattle.std.specs.Prelude.{Ok, Err}
use Rattle.octets.specs.Outcome.{stored_at}
use Rattle.decimal.specs.Limits.{most_digits, limit}
use Rattle.decimal.specs.Write.{text_of, negative_zero, out_of_range, writable, write_of}
use Rattle.decimal.specs.declared.Number.{Number}
use Rattle.decimal.specs.declared.WriteError.TheVariants.{NoRoom}

-- a magnitude within the limit has no more digits than are read
pub limit_lt : (s : Bool) → limit s < 10 ^ most_digits
limit_lt true = omega arith
limit_lt false = omega arith

-- no negative zero, and within the limit
pub writable-is : (n : Number) → writable n ≡ true → (negative_zero n ≡ false) × (n.magnitude ≤ limit n.negative)
unfolding writable
writable-is n e = go (negative_zero n) refl (out_of_range n) refl e
  where
    go : (z : Bool) → negative_zero n ≡ z → (r : Bool) → out_of_range n ≡ r → (not z && not r) ≡ true
        → (negative_zero n ≡ false) × (n.magnitude ≤ limit n.negative)
    go true ez r er q = let z : ◌≡◌ {A = ℕ} 0 1 = cc in absurd (omega arith)
    go false ez true er q = let z : ◌≡◌ {A = ℕ} 0 1 = cc in absurd (omega arith)
    go false ez false er q = (ez, ltb-false _ _ er)

-- the text of such a number is stored, if it fits
pub write-stores : (n : Number) (out : List ℕ) (at : ℕ) → writable n ≡ true
    → write_of n out at ≡ stored_at (Ok (at + length (text_of n))) (Err NoRoom) (text_of n) out at
unfolding write_of
write-stores n out at e = let h = writable-is n e in rw (h.0, le-ltb _ _ h.1)
