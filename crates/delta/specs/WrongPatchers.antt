-- Wrong readers, patchers and sums, each with one error. A law that held of one of them would be worth nothing; `DeltaTeeth` says that
-- the laws are false of them.
use Rattle.std.specs.Prelude.{ℕ, ◌+◌, ◌-◌, ◌*◌, ◌/◌, ◌%◌, cond, List, [], ◌∷◌, length, ltb, None, Result, Ok, Err}
use Rattle.std.proofs.lemmas.List.Edits.{sets}
use Rattle.octets.specs.Outcome.{Outcome, outcome}
use Rattle.delta.specs.Read.{measured, Delta, delta_of, entry_of, step, step_of}
use Rattle.delta.specs.Calls.{apply_of}
use Rattle.delta.specs.Weak.{sum_of, both_of, weak_of, rolled_low, rolled_of}
use Rattle.delta.specs.Laws as Laws
use Rattle.delta.specs.declared.Refusal.{Refusal}
use Rattle.delta.specs.declared.Operation.{Operation}
use Rattle.delta.specs.declared.Step.{Step}
use Rattle.delta.specs.declared.Measured.{Measured}

-- ---- readers
-- what is damaged is the end
abbrev pub lenient : Laws.DeltaReader
lenient d = go (delta_of d)
  where
    go : Delta → Delta
    go Delta.end = Delta.end
    go Delta.damaged = Delta.end
    go (Delta.next o r) = Delta.next o (go r)

-- the first operation alone is read
abbrev pub impatient : Laws.DeltaReader
impatient d = go (delta_of d)
  where
    go : Delta → Delta
    go Delta.end = Delta.end
    go Delta.damaged = Delta.damaged
    go (Delta.next o r) = Delta.next o Delta.end

-- an operation of data ends where its bytes would, were they the first
abbrev pub short_step : Laws.Stepper
short_step d at = go (step_of d at)
  where
    shorter : Operation → Step → Step
    shorter Operation.End p = p
    shorter (Operation.Block i) p = p
    shorter (Operation.Data s) p = step (Operation.Data s) (at + s.len)
    shorter (Operation.Hash s) p = p
    shorter (Operation.Blocks i n) p = p

    go : Result Step Refusal → Result Step Refusal
    go (Ok p) = Ok (shorter p.operation p)
    go (Err why) = Err why

-- every header is taken, and none
abbrev pub credulous : Laws.SignatureReader
credulous = record { header = λ s. Ok (Laws.signature 1 0); entry = entry_of }

abbrev pub unreading : Laws.SignatureReader
unreading = record { header = λ s. Err Refusal.Damaged; entry = entry_of }

-- ---- patchers
abbrev pub refusing : Laws.Patcher
refusing s old d out = outcome (Err Refusal.Damaged) out

abbrev pub alarmed : Laws.Patcher
alarmed s old d out = outcome (Err Refusal.TooLong) out

abbrev pub trusting : Laws.Patcher
trusting s old d out = outcome (Ok (measured 0 None)) out

-- room is asked for before the delta is checked
abbrev pub room_first : Laws.Patcher
room_first s old d out = cond (ltb (length out) 1) (outcome (Err Refusal.NoRoom) out) (apply_of s old d out)

-- the hash is not told
abbrev pub silent : Laws.Patcher
silent s old d out = go (apply_of s old d out)
  where
    tell : Result Measured Refusal → Result Measured Refusal
    tell (Ok m) = Ok (measured m.length None)
    tell (Err why) = Err why

    go : Outcome (Result Measured Refusal) → Outcome (Result Measured Refusal)
    go o = outcome (tell o.answer) o.buffer

-- the output is written though something is refused
abbrev pub hasty : Laws.Patcher
hasty s old d out = go (apply_of s old d out).answer
  where
    go : Result Measured Refusal → Outcome (Result Measured Refusal)
    go (Ok m) = apply_of s old d out
    go (Err why) = outcome (Err why) (sets out 0 (0 ∷ []))

-- ---- sums
-- weights from n - 1
unfoldable pub light_of : List ℕ → ℕ
light_of [] = 0
light_of (x ∷ w) = length w * x + light_of w

abbrev pub light : List ℕ → ℕ
light w = both_of (sum_of w % 65536) (light_of w % 65536)

abbrev pub short_roll : ℕ → ℕ → ℕ → ℕ → ℕ
short_roll s n x y = rolled_of s (n - 1) x y

-- the old a in b'
abbrev pub stale_roll : ℕ → ℕ → ℕ → ℕ → ℕ
stale_roll s n x y = both_of (rolled_low s x y) ((s / 65536 + 65536 - n % 65536 * x % 65536 + s % 65536) % 65536)

pub record DeltaTeeth : Type 0 where
  pub damage_is_end : Laws.LaidReads lenient → ⊥
  pub first_alone : Laws.ReadsLaid impatient → ⊥
  pub rest_ignored : Laws.LaidReads impatient → ⊥
  pub data_too_short : Laws.TellsEach short_step → ⊥
  pub any_header : Laws.LaidSignatures credulous → ⊥
  pub no_header : Laws.ReadsSignature unreading → ⊥
  pub all_refused : Laws.Applies refusing → ⊥
  pub long_damaged : Laws.TooLongFirst refusing → ⊥
  pub all_too_long : Laws.TooLongOnly alarmed → ⊥
  pub all_taken : Laws.OnlyApplies trusting → ⊥
  pub no_room_damaged : Laws.RefusesTooLarge refusing → ⊥
  pub room_asked_first : Laws.NoRoomLast room_first → ⊥
  pub hash_not_told : Laws.Applies silent → ⊥
  pub written_anyway : Laws.KeepsOutput hasty → ⊥
  pub nothing_measured : Laws.Measures apply_of (λ s old d. Ok (measured 0 None)) → ⊥
  pub light_weights : Laws.Rolls light rolled_of → ⊥
  pub one_less : Laws.Rolls weak_of short_roll → ⊥
  pub stale_low : Laws.Rolls weak_of stale_roll → ⊥
