-- The classes of bytes that the code tells apart.
use Rattle.std.specs.Prelude.{ℕ, suc, Bool, cond, List, [], ◌∷◌}
use Rattle.command.specs.Letters.{text_byte, key_byte, safe_byte}
use Rattle.command.specs.declared.letters.Class.{Class}

-- the bytes of a class
abbrev pub byte_of : Class → ℕ → Bool
byte_of Class.Text = text_byte
byte_of Class.Key = key_byte
byte_of Class.Safe = safe_byte

-- how many bytes pass a test before one does not
unfoldable pub run : (ℕ → Bool) → List ℕ → ℕ
run f [] = 0
run f (x ∷ xs) = cond (f x) (suc (run f xs)) 0
