-- "then 1 to 19 digits, within signed 64 bits".
use Rattle.std.specs.Prelude.{ℕ, Bool, true, false}

-- the most digits of a text
abbrev pub most_digits : ℕ
most_digits = 19

-- the greatest magnitude of a sign: 2^63 below zero, 2^63 - 1 else
abbrev pub limit : Bool → ℕ
limit true = 9223372036854775808
limit false = 9223372036854775807

-- the bytes of `-` and of `0`, from which the digits count
abbrev pub minus : ℕ
minus = 45

abbrev pub digit0 : ℕ
digit0 = 48
