-- UTF-8: "only the well-formed byte sequences of the Unicode Standard (table 3-7)".
use Rattle.std.specs.Prelude.{ℕ, Bool, true, false, cond, ◌&&◌, Option, Some, None, List, [], ◌∷◌, leb}

-- ---- the table
pub record Range : Type 0 where
  pub low : ℕ
  pub high : ℕ

abbrev pub range : ℕ → ℕ → Range
range low high = record { low = low; high = high }

-- the range of the first byte, and those of the bytes after it
pub record Row : Type 0 where
  pub first : Range
  pub rest : List Range

abbrev pub row : ℕ → ℕ → List Range → Row
row low high rest = record { first = range low high; rest = rest }

abbrev pub tail : Range
tail = range 0x80 0xBF

-- in the standard's order
abbrev pub rows : List Row
rows =
    row 0x00 0x7F []
    ∷ row 0xC2 0xDF (tail ∷ [])
    ∷ row 0xE0 0xE0 (range 0xA0 0xBF ∷ tail ∷ [])
    ∷ row 0xE1 0xEC (tail ∷ tail ∷ [])
    ∷ row 0xED 0xED (range 0x80 0x9F ∷ tail ∷ [])
    ∷ row 0xEE 0xEF (tail ∷ tail ∷ [])
    ∷ row 0xF0 0xF0 (range 0x90 0xBF ∷ tail ∷ tail ∷ [])
    ∷ row 0xF1 0xF3 (tail ∷ tail ∷ tail ∷ [])
    ∷ row 0xF4 0xF4 (range 0x80 0x8F ∷ tail ∷ tail ∷ [])
    ∷ []

-- ---- sequences one after another
abbrev pub inside : Range → ℕ → Bool
inside r b = leb r.low b && leb b r.high

-- what must follow a first byte, by the row that it stands in; a byte in no row is no first byte
unfoldable pub followers_in : List Row → ℕ → Option (List Range)
followers_in [] b = None
followers_in (r ∷ rs) b = cond (inside r.first b) (Some r.rest) (followers_in rs b)

abbrev pub begun : Option (List Range) → (List Range → Bool) → Bool
begun None more = false
begun (Some rs) more = more rs

-- where bytes of these ranges are due
unfoldable pub sequences : List Range → List ℕ → Bool
sequences [] [] = true
sequences (r ∷ rs) [] = false
sequences [] (b ∷ s) = begun (followers_in rows b) (λ rs. sequences rs s)
sequences (r ∷ rs) (b ∷ s) = inside r b && sequences rs s

abbrev pub utf8 : List ℕ → Bool
utf8 s = sequences [] s
