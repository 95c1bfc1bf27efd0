-- The text of a command as it is put: `5113`, and `;key=value` for each field.
use Rattle.std.specs.Prelude.{ℕ, Result, List, [], ◌∷◌, ◌++◌}
use Rattle.octets.specs.Ascii.{ascii}
use Rattle.command.specs.Keys.{Key, keys}
use Rattle.command.specs.Values.{Value, Shown, shown}
use Rattle.command.specs.Write.{Checked, before}
use Rattle.command.specs.declared.Refusal.{Refusal}
use Rattle.command_writer.specs.Stores.{Told}
use Rattle.command_writer.specs.declared.store.Draft.{Draft}

-- `;key=value`, and nothing for a value that is left out
abbrev pub piece : List ℕ → Shown → List ℕ
piece name Shown.left_out = []
piece name (Shown.text v) = 59 ∷ name ++ 61 ∷ v
piece name (Shown.refused r) = []

unfoldable pub pieces : List Key → List Value → List ℕ
pieces [] c = []
pieces (k ∷ ks) [] = []
pieces (k ∷ ks) (v ∷ c) = piece k.name (shown k.kind v) ++ pieces ks c

-- all of it; with an action it is the canonical text, as proofs/ show
abbrev pub whole : List Value → List ℕ
whole c = ascii "5113" ++ pieces keys c

-- a field put at the end of a draft, or its value refused
abbrev pub FieldPut : List ℕ → Shown → Draft → Result (Unit {0}) Refusal → Draft → Type 0
FieldPut name s d r d' = Told (before s Checked.fine) (piece name s) d r d'
