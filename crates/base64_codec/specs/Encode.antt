-- Encoding: the text of some bytes, and what `encode` does with it.
use Rattle.std.specs.Prelude.{ℕ, ◌+◌, ◌*◌, ◌/◌, ◌%◌, Option, Some, None, List, [], ◌∷◌, length}
use Rattle.octets.specs.Outcome.{Outcome, stored_at}
use Rattle.base64_codec.specs.Alphabet.{pad, letter_of}

-- the four characters of a group of bytes, each of six bits
abbrev pub char1 : ℕ → ℕ
char1 a = letter_of (a / 4)

abbrev pub char2 : ℕ → ℕ → ℕ
char2 a b = letter_of (a % 4 * 16 + b / 16)

abbrev pub char3 : ℕ → ℕ → ℕ
char3 b c = letter_of (b % 16 * 4 + c / 64)

abbrev pub char4 : ℕ → ℕ
char4 c = letter_of (c % 64)

-- groups of three bytes; a last group of one or two is filled with zero bits and padded
unfoldable pub text_of : List ℕ → List ℕ
text_of [] = []
text_of (a ∷ []) = char1 a ∷ char2 a 0 ∷ pad ∷ pad ∷ []
text_of (a ∷ b ∷ []) = char1 a ∷ char2 a b ∷ char3 b 0 ∷ pad ∷ []
text_of (a ∷ b ∷ c ∷ r) = char1 a ∷ char2 a b ∷ char3 b c ∷ char4 c ∷ text_of r

unfoldable pub encode_of : List ℕ → List ℕ → ℕ → Outcome (Option ℕ)
encode_of s out at = stored_at (Some (at + length (text_of s))) None (text_of s) out at
