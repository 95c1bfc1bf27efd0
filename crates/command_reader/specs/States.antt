-- What is left to read of a text at a place, and what a field is by its key.
use Rattle.std.specs.Prelude.{Option, Some, None, Result, Ok, Err, ℕ, ◌+◌, ◌-◌, ◌≤◌, ◌<◌, ◌≡◌, cond, List, length, take, drop, leb}
use Rattle.octets.specs.Split.{split}
use Rattle.command.specs.Fields.{Turn, and_then, fields_read}
use Rattle.command.specs.Read.{Reader, kept}
use Rattle.command.specs.Refusals.{refusal_number}
use Rattle.command.specs.declared.Refusal.{Refusal}
use Rattle.command_reader.specs.declared.fields.Field.{Field}

-- the fields from a place on; past the end of the text there is none
unfoldable pub left : ℕ → List ℕ → Reader → Turn Reader
left at t s = cond (leb at (length t)) (fields_read kept at (split 59 (drop at t)) s) (Turn.on s)

-- a known key is one of the table
abbrev pub Known : Option ℕ → Type 0
Known (Some n) = n < 15
Known None = Unit {0}

-- what is kept of a field by its key: nothing, if it is unknown
abbrev pub kept_of : Option ℕ → ℕ → List ℕ → Reader → Turn Reader
kept_of (Some n) from v s = kept n from v s
kept_of None from v s = Turn.on s

abbrev pub known_kept : Field → List ℕ → Reader → Turn Reader
known_kept f t s = kept_of f.key f.from (take (f.end - f.from) (drop f.from t)) s

-- the field at a place is as the code tells it
abbrev pub Names : Result Field Refusal → List ℕ → ℕ → Type 0
Names (Err r) t at = (s : Reader) → left at t s ≡ Turn.off (refusal_number r) s
Names (Ok f) t at =
    (at < f.from) × (f.from ≤ f.end) × (f.end ≤ length t)
    × Known f.key
    × ((s : Reader) → left at t s ≡ and_then (known_kept f t s) (λ s'. left (f.end + 1) t s'))
