-- Writing a command: what `write` answers, and the buffer afterwards.
use Rattle.std.specs.Prelude.{Result, Ok, Err, cond, ◌||◌, ℕ, List, [], ◌∷◌, length, ltb}
use Rattle.std.proofs.lemmas.List.Edits.{sets}
use Rattle.octets.specs.Outcome.{Outcome, outcome}
use Rattle.frames.specs.Stream.{text_limit}
use Rattle.command.specs.Keys.{Key, keys}
use Rattle.command.specs.Values.{Value, Shown, shown}
use Rattle.command.specs.Meaning.{missing}
use Rattle.command.specs.Canonical.{canonical}
use Rattle.command.specs.Refusals.{refusal_number}
use Rattle.command.specs.declared.Refusal.{Refusal}

-- nothing at fault, or a refusal
pub data Checked : Type 0 where
  fine : Checked
  fault : ℕ → Checked

abbrev pub before : Shown → Checked → Checked
before Shown.left_out c = c
before (Shown.text v) c = c
before (Shown.refused r) c = Checked.fault r

-- "the first field in writing order not of its kind (6) or else over 32 bytes (8)", where document 02 has 61 to 65 for 6. A command has a
-- value for each key, so that the 6 of other lists is no call's answer.
unfoldable pub checked_of : List Key → List Value → Checked
checked_of [] [] = Checked.fine
checked_of [] (v ∷ c) = Checked.fault 6
checked_of (k ∷ ks) [] = Checked.fault 6
checked_of (k ∷ ks) (v ∷ c) = before (shown k.kind v) (checked_of ks c)

-- an answer: the text's length, or a refusal by its number
pub data Answer : Type 0 where
  written : ℕ → Answer
  refused : ℕ → Answer

-- "9 exactly when its buffer is shorter than the text or the text would pass 8,192 bytes"
abbrev pub stored_text : List ℕ → List ℕ → Outcome Answer
stored_text t out =
    cond (ltb text_limit (length t) || ltb (length out) (length t))
    (outcome (Answer.refused 9) out)
    (outcome (Answer.written (length t)) (sets out 0 t))

abbrev pub written_by : Checked → List Value → List ℕ → Outcome Answer
written_by (Checked.fault r) c out = outcome (Answer.refused r) out
written_by Checked.fine c out = cond (missing c) (outcome (Answer.refused 7) out) (stored_text (canonical c) out)

-- "It refuses, in this order .. Each leaves its buffer as before, as do bytes beyond the text"
unfoldable pub write_of : List Value → List ℕ → Outcome Answer
write_of c out = written_by (checked_of keys c) c out

-- the code's answer, its refusal by document 01's number
abbrev pub answered : Result ℕ Refusal → Answer
answered (Ok n) = Answer.written n
answered (Err r) = Answer.refused (refusal_number r)
