-- RFC 4648, table 1: the Base64 alphabet.
use Rattle.std.specs.Prelude.{cond, ◌&&◌, ℕ, ◌+◌, ◌-◌, ltb, leb, eqb}

-- the padding character `=`
abbrev pub pad : ℕ
pad = 61

-- a row of the table: the characters from `first` to `last` count from `base` on; v for every other byte
abbrev pub row_of : ℕ → ℕ → ℕ → ℕ → ℕ → ℕ
row_of first last base c v = cond (leb first c && leb c last) (base + (c - first)) v

-- the last two characters, `+` and `/`; 64 for every other byte
abbrev pub sign_of : ℕ → ℕ
sign_of c = cond (eqb c 43) 62 (cond (eqb c 47) 63 64)

-- the value of a character (A to Z, a to z, 0 to 9, + and / count from 0 to 63), and 64 for a byte that is none
unfoldable pub value_of : ℕ → ℕ
value_of c = row_of 65 90 0 c (row_of 97 122 26 c (row_of 48 57 52 c (sign_of c)))

-- the character of a value below 64
unfoldable pub letter_of : ℕ → ℕ
letter_of v = cond (ltb v 26) (v + 65) (cond (ltb v 52) (v + 71) (cond (ltb v 62) (v - 4) (cond (eqb v 62) 43 47)))
