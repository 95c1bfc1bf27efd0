-- What a read gives, and how a run stands.
use Rattle.std.specs.Prelude.{ℕ, min, ◌<◌, ◌≤◌, ◌≡◌, Bool, true, false, List, length, take, Option, Some, None, Result, Ok, Err}
use Rattle.std.specs.declared.io.Error.{Error}
use Rattle.std.specs.declared.io.Stdout.{Stdout}
use Rattle.std.specs.Io.KnownBytes.{Consumes, IsAtEnd}
use Rattle.std.specs.Io.KnownBytes.{Keeps as KeepsBytes}
use Rattle.streams.specs.declared.Run.{Run}
use Rattle.streams.specs.declared.Run.TheVariants.{Well, NotRead, NotWritten, Stuck}

-- what the answer to a read means: a number of bytes, or a failure
abbrev pub got_of : Result ℕ Error → ℕ → Option ℕ
got_of (Ok k) most = Some (min k most)
got_of (Err e) most = None

-- `&xs[..n]` is in bounds and has n bytes: the second part follows from the first, and spares a caller a proof file
abbrev pub IsPrefixLen : ℕ → List ℕ → Type 0
IsPrefixLen n xs = (n ≤ length xs) × (n ≡ length (take n xs))

-- the bytes read stand at the start of the buffer
abbrev pub Within : Option ℕ → List ℕ → Type 0
Within (Some n) xs = IsPrefixLen n xs
Within None xs = Unit {0}

-- where a reader knows its bytes: one read took those that stand at the start of the buffer, none of them only at the end
-- or with no room, and one that failed took none
abbrev pub ReadsOnce : (old new : Option (List ℕ)) → Option ℕ → List ℕ → Type 0
ReadsOnce old new (Some n) xs = Consumes old new (take n xs) × (n ≡ 0 → 0 < length xs → IsAtEnd new)
ReadsOnce old new None xs = KeepsBytes old new

-- likewise of reads that gave n bytes until the buffer was full: where it is not, nothing is left
abbrev pub Fills : (old new : Option (List ℕ)) → ℕ → List ℕ → Type 0
Fills old new n xs = Consumes old new (take n xs) × (n < length xs → IsAtEnd new)

-- the same of what they are answered by; of reads of which one failed nothing is said
abbrev pub ReadsOn : (old new : Option (List ℕ)) → Option ℕ → List ℕ → Type 0
ReadsOn old new (Some n) xs = Fills old new n xs
ReadsOn old new None xs = Unit {0}

abbrev pub is_well : Run → Bool
is_well (Well out) = true
is_well NotRead = false
is_well NotWritten = false
is_well Stuck = false

-- how a run stands after a write, by whether all was written
abbrev pub wrote : Stdout → Bool → Run
wrote out true = Well out
wrote out false = NotWritten

-- a run that failed stands as it stood
abbrev pub Keeps : Run → Run → Type 0
Keeps (Well out) r = Unit {0}
Keeps NotRead r = r ≡ NotRead
Keeps NotWritten r = r ≡ NotWritten
Keeps Stuck r = r ≡ Stuck
