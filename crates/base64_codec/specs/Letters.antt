-- Letters, as the check passes them by blocks.
use Rattle.std.specs.Prelude.{ℕ, ◌-◌, Bool, not, cond, List, get_or, eqb}
use Rattle.base64_codec.specs.Alphabet.{value_of}

-- a character of the alphabet
abbrev pub is_letter : ℕ → Bool
is_letter c = not (eqb (value_of c) 64)

-- the value of the character before place i, and 0 at the start
abbrev pub value_before : List ℕ → ℕ → ℕ
value_before t i = cond (eqb i 0) 0 (value_of (get_or t (i - 1) 0))
