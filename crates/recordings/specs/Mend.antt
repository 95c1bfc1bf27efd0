-- What `mend` answers, and both buffers afterwards.
use Rattle.std.specs.Prelude.{ℕ, cond, ◌||◌, List, length, ltb, Result, Ok, Err}
use Rattle.std.proofs.lemmas.List.Edits.{sets}
use Rattle.recordings.specs.Pieces.{pieces_of, dropped, mended_of, list_of}
use Rattle.recordings.specs.declared.Mended.{Mended}
use Rattle.recordings.specs.declared.Refusal.{Refusal}
use Rattle.recordings.specs.declared.Refusal.TheVariants.{TooLong, NoRoom}

pub record Mending : Type 0 where
  pub answer : Result Mended Refusal
  pub output : List ℕ
  pub list : List ℕ

abbrev pub mending : Result Mended Refusal → List ℕ → List ℕ → Mending
mending a out list = record { answer = a; output = out; list = list }

abbrev pub recording_limit : ℕ
recording_limit = 65536

abbrev pub mended : (kept rows : ℕ) → Mended
mended kept rows = record { kept = kept; rows = rows }

-- "Over 65,536 bytes gives 17, then no room for the whole output or list 9, nothing written"; else the bytes kept and how many stretches
-- were dropped
unfoldable pub mend_of : List ℕ → List ℕ → List ℕ → Mending
mend_of xs out list =
    cond (ltb recording_limit (length xs)) (mending (Err TooLong) out list)
    (cond (ltb (length out) (length (mended_of xs)) || ltb (length list) (length (list_of xs))) (mending (Err NoRoom) out list)
    (mending (Ok (mended (length (mended_of xs)) (dropped (pieces_of xs)))) (sets out 0 (mended_of xs)) (sets list 0 (list_of xs))))
