-- Writing: "integers without leading zeros or `-0`".
use Rattle.std.specs.Prelude.{ℕ, zero, suc, ◌+◌, ◌/◌, ◌%◌, ◌^◌, Bool, true, false, not, cond, ◌&&◌, List, [], ◌∷◌, length, ltb, eqb}
use Rattle.std.specs.Prelude.{Result, Ok, Err}
use Rattle.octets.specs.Outcome.{Outcome, outcome, stored_at}
use Rattle.decimal.specs.Limits.{limit, minus, digit0}
use Rattle.decimal.specs.declared.Number.{Number}
use Rattle.decimal.specs.declared.WriteError.{WriteError}
use Rattle.decimal.specs.declared.WriteError.TheVariants.{NegativeZero, OutOfRange, NoRoom}

-- the last w digits of n
unfoldable pub fixed : ℕ → ℕ → List ℕ
fixed zero n = []
fixed (suc w) n = (n / 10 ^ w % 10 + digit0) ∷ fixed w n

-- the least width from w on that holds n, looked for f times more
unfoldable pub width_from : ℕ → ℕ → ℕ → ℕ
width_from zero w n = w
width_from (suc f) w n = cond (ltb n (10 ^ w)) w (width_from f (suc w) n)

-- one digit or more, and 20 hold every u64
abbrev pub width_of : ℕ → ℕ
width_of n = width_from 19 1 n

-- `-` below zero, then the digits
abbrev pub signed_text : Bool → List ℕ → List ℕ
signed_text true ds = minus ∷ ds
signed_text false ds = ds

unfoldable pub text_of : Number → List ℕ
text_of n = signed_text n.negative (fixed (width_of n.magnitude) n.magnitude)

-- "or `-0`"
abbrev pub negative_zero : Number → Bool
negative_zero n = n.negative && eqb n.magnitude 0

-- not "within signed 64 bits"
abbrev pub out_of_range : Number → Bool
out_of_range n = ltb (limit n.negative) n.magnitude

-- an integer of ours, which `write` refuses only for want of room
unfoldable pub writable : Number → Bool
writable n = not (negative_zero n) && not (out_of_range n)

-- a negative zero or a number past signed 64 bits is refused; else the text is stored at its place, if it fits
unfoldable pub write_of : Number → List ℕ → ℕ → Outcome (Result ℕ WriteError)
write_of n out at =
    cond (negative_zero n) (outcome (Err NegativeZero) out)
    (cond (out_of_range n) (outcome (Err OutOfRange) out)
    (stored_at (Ok (at + length (text_of n))) (Err NoRoom) (text_of n) out at))
