-- What the code's answers for a value say, in terms of what is kept of it.
use Rattle.std.specs.Prelude.{Option, Some, Result, Ok, Err, ℕ, ◌+◌, ◌≡◌, List, set}
use Rattle.command.specs.Keys as Keys
use Rattle.command.specs.Values.{value_read}
use Rattle.command.specs.Fields.{Turn}
use Rattle.command.specs.Refusals.{refusal_number}
use Rattle.command.specs.Read.{Reader, kept_by}
use Rattle.command.specs.declared.Slot.{Slot}
use Rattle.command.specs.declared.Refusal.{Refusal}
use Rattle.command_reader.specs.declared.values.Kept.{Kept}

-- a value of which nothing goes to the scratch
abbrev pub plain : Slot → Kept
plain slot = record { slot = slot; stored = 0 }

-- a reader with a value kept in its slot n, or with its refusal; l is the scratch afterwards
abbrev pub kept_in : ℕ → Reader → List ℕ → Result Kept Refusal → Turn Reader
kept_in n s l (Ok k) = Turn.on (record { slots = set s.slots n (Some k.slot); scratch = l; used = s.used + k.stored })
kept_in n s l (Err r) = Turn.off (refusal_number r) (record { slots = s.slots; scratch = l; used = s.used })

-- the answer r for the text v of a value at place `at`, with which the scratch becomes l, is what is kept of it, in any slot
abbrev pub Keeps : Keys.Kind → ℕ → List ℕ → List ℕ → ℕ → Result Kept Refusal → List ℕ → Type 0
Keeps k at v scratch used r l =
    (n : ℕ) (slots : List (Option Slot)) → let s : Reader = record { slots = slots; scratch = scratch; used = used } in
    kept_in n s l r ≡ kept_by k n at s (value_read k v)

-- the same of an answer that leaves any scratch alone
abbrev pub Plain : Keys.Kind → ℕ → List ℕ → Result Kept Refusal → Type 0
Plain k at v r = (scratch : List ℕ) (used : ℕ) → Keeps k at v scratch used r scratch
