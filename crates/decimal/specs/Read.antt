-- Reading: "optional `-`, then 1 to 19 digits, within signed 64 bits".
use Rattle.std.specs.Prelude.{ℕ, ◌+◌, ◌-◌, ◌*◌, Bool, true, false, cond, List, [], ◌∷◌, length, drop, ltb, eqb}
use Rattle.std.specs.Prelude.{Option, Some, None, Result, Ok, Err}
use Rattle.octets.specs.Ascii.{ascii}
use Rattle.octets.specs.Slices.{starts_with}
use Rattle.decimal.specs.Limits.{most_digits, limit, digit0}
use Rattle.decimal.specs.declared.Number.{Number}
use Rattle.decimal.specs.declared.ParseError.{ParseError}
use Rattle.decimal.specs.declared.ParseError.TheVariants.{Malformed, OutOfRange}

-- the value of the digits, after digits of value a; none where a byte is no digit
unfoldable pub digits_of : ℕ → List ℕ → Option ℕ
digits_of a [] = Some a
digits_of a (c ∷ r) = cond (ltb c digit0) None (cond (ltb 57 c) None (digits_of (a * 10 + (c - digit0)) r))

-- zero has no sign
abbrev pub signed : Bool → ℕ → Number
signed true m = record { negative = cond (eqb m 0) false true; magnitude = m }
signed false m = record { negative = false; magnitude = m }

-- "within signed 64 bits"
unfoldable pub ranged_of : Bool → ℕ → Result Number ParseError
ranged_of negative m = cond (ltb (limit negative) m) (Err OutOfRange) (Ok (signed negative m))

abbrev pub digits_ranged : Bool → Option ℕ → Result Number ParseError
digits_ranged negative (Some m) = ranged_of negative m
digits_ranged negative None = Err Malformed

-- "then 1 to 19 digits"
unfoldable pub magnitude_of : Bool → List ℕ → Result Number ParseError
magnitude_of negative t =
    cond (eqb (length t) 0) (Err Malformed)
    (cond (ltb most_digits (length t)) (Err Malformed)
    (digits_ranged negative (digits_of 0 t)))

-- "optional `-`"
unfoldable pub parse_of : List ℕ → Result Number ParseError
parse_of t = cond (starts_with t (ascii "-")) (magnitude_of true (drop 1 t)) (magnitude_of false t)
