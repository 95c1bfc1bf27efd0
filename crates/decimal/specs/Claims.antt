-- What the reader and the writer are to each other, by the definitions that their contracts cite.
use Rattle.std.specs.Prelude.{ℕ, ◌+◌, ◌*◌, ◌/◌, ◌%◌, ◌^◌, ◌≤◌, ◌≡◌, true, Some, Ok, List, length}
use Rattle.std.proofs.lemmas.List.Edits.{sets}
use Rattle.octets.specs.Outcome.{outcome}
use Rattle.decimal.specs.Read.{digits_of, parse_of}
use Rattle.decimal.specs.Write.{fixed, text_of, writable, write_of}
use Rattle.decimal.specs.Canonical.{Canonical}
use Rattle.decimal.specs.declared.Number.{Number}

-- "Integer writing is proved once over the width": for every width w the last w digits of n, behind digits of value a, read as a and them
abbrev pub FixedReads : Type 0
FixedReads = (w a n : ℕ) → digits_of a (fixed w n) ≡ Some (a * 10 ^ w + n % 10 ^ w)

-- and conversely: digits that read as m, behind digits of value a, are the last digits of m, and a stands above them
abbrev pub ReadsFixed : Type 0
ReadsFixed = (ds : List ℕ) (a m : ℕ) → digits_of a ds ≡ Some m → (m / 10 ^ length ds ≡ a) × (fixed (length ds) m ≡ ds)

-- each number "within signed 64 bits" but `-0` is written where its text has room; the text is canonical, and reads as the number
abbrev pub WrittenReads : Type 0
WrittenReads =
    (n : Number) (out : List ℕ) (at : ℕ) → writable n ≡ true → at + length (text_of n) ≤ length out
    → (write_of n out at ≡ outcome (Ok (at + length (text_of n))) (sets out at (text_of n)))
    × Canonical (text_of n)
    × (parse_of (text_of n) ≡ Ok n)

-- each number that a text reads as can be written, and if the text is canonical it is the number's text
abbrev pub ReadWrites : Type 0
ReadWrites = (t : List ℕ) (n : Number) → parse_of t ≡ Ok n → (writable n ≡ true) × (Canonical t → text_of n ≡ t)
