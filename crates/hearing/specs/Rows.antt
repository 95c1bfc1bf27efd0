-- How a recording's happenings stand in numbers and bytes: seven numbers each, in order.
use Rattle.std.specs.Prelude.{ℕ, ◌+◌, ◌≤◌, Bool, true, false, cond, List, [], ◌∷◌, get_or, eqb}
use Rattle.octets.specs.Slices.{part_of}
use Rattle.protocol.specs.Stretches.{Key}
use Rattle.command.specs.declared.Place.{Place}
use Rattle.hearing.specs.Hearing.{Happening}
use Rattle.hearing.specs.declared.row.Kind.{Kind}
use Rattle.hearing.specs.declared.row.Row.{Row}

-- 0 for a part and 1 for a start; where the session's id and the file's id stand in the recording; and where its part stands in the bytes
abbrev pub happening_of : (recording bytes : List ℕ) (kind id id_len file file_len part part_len : ℕ) → Happening
happening_of recording bytes kind id id_len file file_len part part_len =
    let key : Key = record { id = part_of recording id id_len; file = part_of recording file file_len } in
    cond (eqb kind 0) (Happening.hands key (part_of bytes part part_len))
    (Happening.starts key (record { id = id; id_len = id_len; file = file; file_len = file_len }))

unfoldable pub happenings_in : (recording bytes numbers : List ℕ) → List Happening
happenings_in recording bytes [] = []
happenings_in recording bytes (k ∷ []) = []
happenings_in recording bytes (k ∷ a ∷ []) = []
happenings_in recording bytes (k ∷ a ∷ b ∷ []) = []
happenings_in recording bytes (k ∷ a ∷ b ∷ c ∷ []) = []
happenings_in recording bytes (k ∷ a ∷ b ∷ c ∷ d ∷ []) = []
happenings_in recording bytes (k ∷ a ∷ b ∷ c ∷ d ∷ p ∷ []) = []
happenings_in recording bytes (k ∷ a ∷ b ∷ c ∷ d ∷ p ∷ n ∷ ns) =
    happening_of recording bytes k a b c d p n ∷ happenings_in recording bytes ns

-- the parts lie one after another in the bytes, from a place up to another
unfoldable pub Apart : (from to : ℕ) (numbers : List ℕ) → Type 0
Apart from to [] = from ≤ to
Apart from to (k ∷ []) = from ≤ to
Apart from to (k ∷ a ∷ []) = from ≤ to
Apart from to (k ∷ a ∷ b ∷ []) = from ≤ to
Apart from to (k ∷ a ∷ b ∷ c ∷ []) = from ≤ to
Apart from to (k ∷ a ∷ b ∷ c ∷ d ∷ []) = from ≤ to
Apart from to (k ∷ a ∷ b ∷ c ∷ d ∷ p ∷ []) = from ≤ to
Apart from to (k ∷ a ∷ b ∷ c ∷ d ∷ p ∷ n ∷ ns) = (from ≤ p) × Apart (p + n) to ns

-- ---- one row
abbrev pub kind_number : Kind → ℕ
kind_number Kind.Part = 0
kind_number Kind.Start = 1

abbrev pub is_start : Kind → Bool
is_start Kind.Part = false
is_start Kind.Start = true

abbrev pub kind_of : ℕ → Kind
kind_of n = cond (eqb n 0) Kind.Part Kind.Start

abbrev pub row_numbers : Row → List ℕ
row_numbers r =
    kind_number r.kind
    ∷ r.id.start
    ∷ r.id.len
    ∷ r.file_id.start
    ∷ r.file_id.len
    ∷ r.part.start
    ∷ r.part.len
    ∷ []

abbrev pub place : (start len : ℕ) → Place
place start len = record { start = start; len = len }

-- the row whose numbers begin at a place
abbrev pub row_at : (numbers : List ℕ) → ℕ → Row
row_at numbers at =
    record {
      kind = kind_of (get_or numbers at 0);
      id = place (get_or numbers (at + 1) 0) (get_or numbers (at + 2) 0);
      file_id = place (get_or numbers (at + 3) 0) (get_or numbers (at + 4) 0);
      part = place (get_or numbers (at + 5) 0) (get_or numbers (at + 6) 0);
    }
