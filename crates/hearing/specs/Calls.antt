-- What `hear` answers: what its numbers and bytes say, read back.
use Rattle.std.specs.Prelude.{ℕ, ◌≤◌, ◌≡◌, cond, ◌||◌, List, length, take, ltb, Result, Ok, Err}
use Rattle.recordings.specs.Mend.{recording_limit}
use Rattle.hearing.specs.Hearing.{Happening, heard_in}
use Rattle.hearing.specs.Rows.{happenings_in, Apart}
use Rattle.recordings.specs.Refusals.{refusal_number}
use Rattle.recordings.specs.declared.Refusal.{Refusal}

pub data Account : Type 0 where
  heard : List Happening → Account
  refused : ℕ → Account

-- the numbers that were noted are rows
abbrev pub read_back : Result ℕ Refusal → (recording events bytes : List ℕ) → Account
read_back (Ok n) recording events bytes = Account.heard (happenings_in recording bytes (take n events))
read_back (Err r) recording events bytes = Account.refused (refusal_number r)

-- "A recording over 65,536 bytes: 17"; then 9 for less room, in numbers or bytes, than such a recording may need
unfoldable pub hear_of : (recording : List ℕ) (numbers bytes : ℕ) → Account
hear_of xs numbers bytes =
    cond (ltb recording_limit (length xs)) (Account.refused 17)
    (cond (ltb numbers recording_limit || ltb bytes recording_limit) (Account.refused 9) (Account.heard (heard_in xs)))

-- the numbers are within the buffer, and the parts lie apart in the bytes
abbrev pub Within : Result ℕ Refusal → (events bytes : List ℕ) → Type 0
Within (Ok n) events bytes = (n ≤ length events) × Apart 0 (length bytes) (take n events)
Within (Err r) events bytes = Unit {0}

-- "nothing written" where something is refused
abbrev pub Unwritten : Result ℕ Refusal → (events₀ bytes₀ events bytes : List ℕ) → Type 0
Unwritten (Ok n) events₀ bytes₀ events bytes = Unit {0}
Unwritten (Err r) events₀ bytes₀ events bytes = (events ≡ events₀) × (bytes ≡ bytes₀)
