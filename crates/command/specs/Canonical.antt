-- The canonical text of a command: what the writer makes of its values. Which texts are canonical is said apart, in `Grammar`.
use Rattle.std.specs.Prelude.{ℕ, List, [], ◌∷◌, ◌++◌}
use Rattle.octets.specs.Ascii.{ascii}
use Rattle.octets.specs.Split.{join}
use Rattle.command.specs.Keys.{Key, keys}
use Rattle.command.specs.Values.{Value, Shown, shown}

-- a field `key=value` before the others; nothing for a value that is left out
abbrev pub field : List ℕ → Shown → List (List ℕ) → List (List ℕ)
field name Shown.left_out fs = fs
field name (Shown.text v) fs = (name ++ 61 ∷ v) ∷ fs
field name (Shown.refused r) fs = fs

-- "fields in the order ..", "defaults left out"
unfoldable pub fields_of : List Key → List Value → List (List ℕ)
fields_of [] c = []
fields_of (k ∷ ks) [] = []
fields_of (k ∷ ks) (v ∷ c) = field k.name (shown k.kind v) (fields_of ks c)

-- "`5113;` and fields .."
unfoldable pub canonical : List Value → List ℕ
canonical c = ascii "5113;" ++ join 59 (fields_of keys c)
