-- Which bytes may stand where.
use Rattle.std.specs.Prelude.{ℕ, Bool, not, ◌&&◌, ◌||◌, List, ltb, leb}
use Rattle.octets.specs.Ascii.{ascii}
use Rattle.octets.specs.Slices.{lacks}

-- from one byte up to another
abbrev pub between : ℕ → ℕ → ℕ → Bool
between low high b = leb low b && leb b high

-- one of a string's bytes
abbrev pub among : List ℕ → ℕ → Bool
among s b = not (lacks b s)

-- 0 to 9, A to Z, a to z
abbrev pub alphanumeric : ℕ → Bool
alphanumeric b = between 48 57 b || (between 65 90 b || between 97 122 b)

-- "Keys: one or more of `[a-zA-Z0-9_]`"
unfoldable pub key_byte : ℕ → Bool
key_byte b = alphanumeric b || among (ascii "_") b

-- "Safe strings use `[0-9a-zA-Z_:./@-]`"
unfoldable pub safe_byte : ℕ → Bool
safe_byte b = alphanumeric b || among (ascii "_:./@-") b

-- "Text bytes must be 20 to 7E"
unfoldable pub text_byte : ℕ → Bool
text_byte b = between 0x20 0x7E b

-- what a slice of bytes can hold
abbrev pub is_byte : ℕ → Bool
is_byte b = ltb b 256
