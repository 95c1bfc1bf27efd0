-- What the functions under `measure` and `apply` answer.
use Rattle.std.specs.Prelude.{ℕ, ◌+◌, ◌-◌, ◌*◌, ◌≤◌, min, ◌≡◌, cond, List, length, ltb, Option, Some, None, Result, Ok, Err}
use Rattle.std.proofs.lemmas.List.Edits.{sets}
use Rattle.octets.specs.Outcome.{Outcome, outcome}
use Rattle.octets.specs.Slices.{part_of, copy_at}
use Rattle.delta.specs.Read.{limit, span, measured}
use Rattle.delta.specs.Patch.{NewFile}
use Rattle.delta.specs.declared.Refusal.{Refusal}
use Rattle.delta.specs.declared.Span.{Span}
use Rattle.delta.specs.declared.Measured.{Measured}
use Rattle.delta.specs.declared.Operation.{Operation}
use Rattle.delta.specs.declared.walk.Tally.{Tally}

-- ---- blocks
-- a block and the `more` ones after it, in an old file of n bytes
unfoldable pub span_of : ℕ → ℕ → ℕ → ℕ → Option Span
span_of size n first more =
    cond (ltb ((first + more) * size) n) (Some (span (first * size) (min ((more + 1) * size) (n - first * size)))) None

-- ---- one turn
abbrev pub tally : ℕ → ℕ → Option Span → Tally
tally at total h = record { at = at; total = total; checksum = h }

unfoldable pub put_of : List ℕ → ℕ → Tally → List ℕ → Outcome (Result Tally Refusal)
put_of piece next t out =
    outcome (Ok (tally next (t.total + length piece) t.checksum)) (copy_at piece out t.total).buffer

unfoldable pub copied_of : Option Span → ℕ → Tally → List ℕ → List ℕ → Outcome (Result Tally Refusal)
copied_of (Some p) next t old out = put_of (part_of old p.start p.len) next t out
copied_of None next t old out = outcome (Err Refusal.Damaged) out

abbrev pub hashed_of : Option Span → Tally → Span → ℕ → Result Tally Refusal
hashed_of None t p next = Ok (tally next t.total (Some p))
hashed_of (Some first) t p next = Err Refusal.Damaged

unfoldable pub turn_of : Operation → ℕ → Tally → ℕ → List ℕ → List ℕ → List ℕ → Outcome (Result Tally Refusal)
turn_of Operation.End next t size old d out = outcome (Err Refusal.Damaged) out
turn_of (Operation.Block i) next t size old d out = copied_of (span_of size (length old) i 0) next t old out
turn_of (Operation.Data p) next t size old d out = put_of (part_of d p.start p.len) next t out
turn_of (Operation.Hash p) next t size old d out = outcome (hashed_of t.checksum t p next) out
turn_of (Operation.Blocks i n) next t size old d out = copied_of (span_of size (length old) i n) next t old out

-- ---- the whole walk
-- what is told is right in any case; an output with room holds the new file
abbrev pub Makes : NewFile → List ℕ → Result Measured Refusal → List ℕ → Type 0
Makes NewFile.damaged before w out = w ≡ Err Refusal.Damaged
Makes (NewFile.made bs h) before w out = (w ≡ Ok (measured (length bs) h)) × (length bs ≤ length before → out ≡ sets before 0 bs)

unfoldable pub limited_to : Measured → Result Measured Refusal
limited_to m = cond (ltb limit m.length) (Err Refusal.NoRoom) (Ok m)

abbrev pub answer_of : Result Measured Refusal → Result Measured Refusal
answer_of (Ok m) = limited_to m
answer_of (Err why) = Err why
