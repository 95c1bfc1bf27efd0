-- What `measure` and `apply` answer, and the output afterwards.
use Rattle.std.specs.Prelude.{ℕ, cond, ◌||◌, List, length, ltb, Option, Result, Ok, Err}
use Rattle.std.proofs.lemmas.List.Edits.{sets}
use Rattle.octets.specs.Outcome.{Outcome, outcome}
use Rattle.delta.specs.Read.{limit, measured, signature_of}
use Rattle.delta.specs.Patch.{NewFile, result_of}
use Rattle.delta.specs.declared.Refusal.{Refusal}
use Rattle.delta.specs.declared.Signature.{Signature}
use Rattle.delta.specs.declared.Span.{Span}
use Rattle.delta.specs.declared.Measured.{Measured}

abbrev pub refusal_number : Refusal → ℕ
refusal_number Refusal.TooLong = 17
refusal_number Refusal.Damaged = 16
refusal_number Refusal.NoRoom = 9

-- "An input over 65,536 bytes gets 17 first"; a signature's own length is the first thing that its reader tests
unfoldable pub inputs_of : List ℕ → List ℕ → List ℕ → Result Signature Refusal
inputs_of s old d = cond (ltb limit (length old) || ltb limit (length d)) (Err Refusal.TooLong) (signature_of s)

-- the new file and its hash; or why there is none: named as in `Read`
pub data Patched : Type 0 where
  refused : Refusal → Patched
  patched : List ℕ → Option Span → Patched

-- "a result over 65,536 bytes, gives 9 likewise, after 16"
abbrev pub limited : NewFile → Patched
limited NewFile.damaged = Patched.refused Refusal.Damaged
limited (NewFile.made bs h) = cond (ltb limit (length bs)) (Patched.refused Refusal.NoRoom) (Patched.patched bs h)

unfoldable pub patched_of : ℕ → List ℕ → List ℕ → Patched
patched_of size old d = limited (result_of size old d)

abbrev pub patch_by : Result Signature Refusal → List ℕ → List ℕ → Patched
patch_by (Ok g) old d = patched_of g.block_size old d
patch_by (Err why) old d = Patched.refused why

unfoldable pub patch_of : List ℕ → List ℕ → List ℕ → Patched
patch_of s old d = patch_by (inputs_of s old d) old d

abbrev pub measured_in : Patched → Result Measured Refusal
measured_in (Patched.refused why) = Err why
measured_in (Patched.patched bs h) = Ok (measured (length bs) h)

-- "too little output .. gives 9 likewise"; "refused .. and the output is as before"
abbrev pub stored_in : Patched → List ℕ → Outcome (Result Measured Refusal)
stored_in (Patched.refused why) out = outcome (Err why) out
stored_in (Patched.patched bs h) out =
    cond (ltb (length out) (length bs)) (outcome (Err Refusal.NoRoom) out)
    (outcome (Ok (measured (length bs) h)) (sets out 0 bs))

unfoldable pub measure_of : List ℕ → List ℕ → List ℕ → Result Measured Refusal
measure_of s old d = measured_in (patch_of s old d)

unfoldable pub apply_of : List ℕ → List ℕ → List ℕ → List ℕ → Outcome (Result Measured Refusal)
apply_of s old d out = stored_in (patch_of s old d) out
