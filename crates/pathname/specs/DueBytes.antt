-- What the loop over a name keeps (`utf8::Due`), as the definition has it: the ranges of the bytes that must follow.
use Rattle.std.specs.Prelude.{ℕ, zero, suc, Option, Some, None, List, [], ◌∷◌}
use Rattle.pathname.specs.declared.utf8.Due.{Due}
use Rattle.pathname.specs.Utf8.{Range, range}

-- so many ranges: the first as given, each later one 80 to BF
unfoldable pub ranges_of : ℕ → ℕ → ℕ → List Range
ranges_of zero low high = []
ranges_of (suc more) low high = range low high ∷ ranges_of more 0x80 0xBF

abbrev pub due_of : Due → List Range
due_of d = ranges_of d.count d.low d.high

-- after a first byte; none where it is no first byte
abbrev pub lead_of : Option Due → Option (List Range)
lead_of None = None
lead_of (Some d) = Some (due_of d)
