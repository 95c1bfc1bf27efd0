-- The laws of signatures, deltas and weak sums, each of any reader, so that it can be refuted of a wrong one.
use Rattle.std.specs.Prelude.{ℕ, ◌+◌, ◌*◌, ◌^◌, ◌≤◌, ◌<◌, ◌≡◌, true, ◌⊎◌, List, [], ◌∷◌, ◌++◌, length, get_or, take, drop}
use Rattle.std.specs.Prelude.{Option, Some, None, Result, Ok, Err}
use Rattle.std.proofs.lemmas.List.Edits.{sets}
use Rattle.octets.specs.Bytes.{Bytes}
use Rattle.octets.specs.Little.{little, number}
use Rattle.octets.specs.Outcome.{Outcome, outcome}
use Rattle.delta.specs.Layout.{Op, laid, laid_all, Fits, AllFit, laid_signature, EntriesFit}
use Rattle.delta.specs.Read.{Delta, limit, span, measured, delta_of, signature_of, entry_of, step, step_of}
use Rattle.delta.specs.Patch.{range_of, sound, hashes, joined, hash_from}
use Rattle.delta.specs.Calls.{measure_of, apply_of}
use Rattle.delta.specs.Weak.{weak_of, rolled_of}
use Rattle.delta.specs.declared.Refusal.{Refusal}
use Rattle.delta.specs.declared.Entry.{Entry}
use Rattle.delta.specs.declared.Signature.{Signature}
use Rattle.delta.specs.declared.Operation.TheVariants as Operation
use Rattle.delta.specs.declared.Step.{Step}
use Rattle.delta.specs.declared.Span.{Span}
use Rattle.delta.specs.declared.Measured.{Measured}

-- ---- numbers: once over the width, there and back
pub record Numbers : Type 0 where
  pub laid_out : (k n : ℕ) → n < 256 ^ k → number (little k n) ≡ n
  pub read_back : (bs : List ℕ) → Bytes bs → little (length bs) (number bs) ≡ bs

-- ---- deltas: 001's layout and nothing else
abbrev pub listed : List Op → Delta
listed [] = Delta.end
listed (o ∷ os) = Delta.next o (listed os)

abbrev pub DeltaReader : Type 0
DeltaReader = List ℕ → Delta

-- operations laid out are read as themselves
abbrev pub ReadsLaid : DeltaReader → Type 0
ReadsLaid r = (os : List Op) → AllFit os → r (laid_all os) ≡ listed os

-- and bytes that are read as operations are those laid out
abbrev pub LaidReads : DeltaReader → Type 0
LaidReads r = (d : List ℕ) (os : List Op) → Bytes d → r d ≡ listed os → (laid_all os ≡ d) × AllFit os

-- and by its place an operation is told as it stands there: what it has, where its payload starts, and where it ends
abbrev pub Stepper : Type 0
Stepper = List ℕ → ℕ → Result Step Refusal

abbrev pub told_at : ℕ → Op → Step
told_at at (Op.block i) = step (Operation.Block i) (at + 9)
told_at at (Op.bytes bs) = step (Operation.Data (span (at + 5) (length bs))) (at + 5 + length bs)
told_at at (Op.hash bs) = step (Operation.Hash (span (at + 3) (length bs))) (at + 3 + length bs)
told_at at (Op.blocks i n) = step (Operation.Blocks i n) (at + 13)

abbrev pub TellsEach : Stepper → Type 0
TellsEach r =
    (front back : List ℕ) (o : Op) → Fits o → let d = front ++ (laid o ++ back) in
    length d ≤ limit → r d (length front) ≡ Ok (told_at (length front) o)

-- ---- signatures: the same
pub record SignatureReader : Type 0 where
  pub header : List ℕ → Result Signature Refusal
  pub entry : List ℕ → ℕ → Result (Option Entry) Refusal

abbrev pub ours : SignatureReader
ours = record { header = signature_of; entry = entry_of }

-- any entry, which stands in for one past the end
abbrev pub no_entry : Entry
no_entry = record { index = 0; weak = 0; strong = 0 }

abbrev pub signature : ℕ → ℕ → Signature
signature size n = record { block_size = size; blocks = n }

-- a block size and entries that can stand in a signature
pub record Signs (size : ℕ) (es : List Entry) : Type 0 where
  pub some : 0 < size
  pub fits : size < 256 ^ 4
  pub entries : EntriesFit es
  pub short : length (laid_signature size es) ≤ limit

abbrev pub ReadsSignature : SignatureReader → Type 0
ReadsSignature r =
    (size : ℕ) (es : List Entry) → Signs size es
    → (r.header (laid_signature size es) ≡ Ok (signature size (length es)))
    × ((i : ℕ) → i < length es → r.entry (laid_signature size es) i ≡ Ok (Some (get_or es i no_entry)))
    × ((i : ℕ) → length es ≤ i → r.entry (laid_signature size es) i ≡ Ok None)

pub record SignatureLaid (s : List ℕ) (g : Signature) : Type 0 where
  pub entries : List Entry
  pub signs : Signs g.block_size entries
  pub laid : s ≡ laid_signature g.block_size entries
  pub all : g.blocks ≡ length entries

abbrev pub LaidSignatures : SignatureReader → Type 0
LaidSignatures r = (s : List ℕ) (g : Signature) → Bytes s → r.header s ≡ Ok g → SignatureLaid s g

-- ---- a range is one part of the old file
abbrev pub Ranges : Type 0
Ranges = (size : ℕ) (old : List ℕ) (i n : ℕ) → range_of size old i n ≡ take ((n + 1) * size) (drop (i * size) old)

-- ---- applying
abbrev pub Patcher : Type 0
Patcher = List ℕ → List ℕ → List ℕ → List ℕ → Outcome (Result Measured Refusal)

-- a signature and a delta of an old file: "A block that starts at or past the old file's end, block size 0, another header field not zero,
-- an unknown operation, a second hash operation or anything cut off" is none of these
pub record Taken (s old d : List ℕ) (size : ℕ) (es : List Entry) (os : List Op) : Type 0 where
  pub signs : Signs size es
  pub signature : s ≡ laid_signature size es
  pub fits : AllFit os
  pub delta : d ≡ laid_all os
  pub inside : sound size old (listed os) ≡ true
  pub one_hash : hashes (listed os) ≤ 1
  pub short_old : length old ≤ limit
  pub short_delta : length d ≤ limit

abbrev pub new_file : ℕ → List ℕ → List Op → List ℕ
new_file size old os = joined size old (listed os)

-- "Everything else is accepted and yields exactly the joined blocks and data"
abbrev pub Applies : Patcher → Type 0
Applies p =
    (s old d out : List ℕ) (size : ℕ) (es : List Entry) (os : List Op) → Taken s old d size es os → length (new_file size old os) ≤ limit
    → length (new_file size old os) ≤ length out
    → p s old d out
    ≡ outcome (Ok (measured (length (new_file size old os)) (hash_from 0 (listed os)))) (sets out 0 (new_file size old os))

-- and nothing else is
pub record Made (s old d out : List ℕ) (n : ℕ) (h : Option Span) : Type 0 where
  pub size : ℕ
  pub entries : List Entry
  pub operations : List Op
  pub taken : Taken s old d size entries operations
  pub counted : n ≡ length (new_file size old operations)
  pub told : h ≡ hash_from 0 (listed operations)

abbrev pub OnlyApplies : Patcher → Type 0
OnlyApplies p =
    (s old d out : List ℕ) (n : ℕ) (h : Option Span) → Bytes s → Bytes d → (p s old d out).answer ≡ Ok (measured n h)
    → Made s old d out n h × (n ≤ limit) × (n ≤ length out)

-- "An input over 65,536 bytes gets 17 first"
abbrev pub TooLongFirst : Patcher → Type 0
TooLongFirst p =
    (s old d out : List ℕ) → (limit < length s) ⊎ ((limit < length old) ⊎ (limit < length d))
    → p s old d out ≡ outcome (Err Refusal.TooLong) out

-- and nothing else gets it: what is neither taken, nor too large by `NoRoomLast`, "is refused with 16"
abbrev pub TooLongOnly : Patcher → Type 0
TooLongOnly p =
    (s old d out : List ℕ) → (p s old d out).answer ≡ Err Refusal.TooLong
    → (limit < length s) ⊎ ((limit < length old) ⊎ (limit < length d))

-- "refused .. and the output is as before"
abbrev pub KeepsOutput : Patcher → Type 0
KeepsOutput p =
    (s old d out : List ℕ) (why : Refusal) → (p s old d out).answer ≡ Err why → (p s old d out).buffer ≡ out

-- "too little output, or a result over 65,536 bytes, gives 9 likewise, after 16"
pub record TooLarge (s old d out : List ℕ) : Type 0 where
  pub n : ℕ
  pub h : Option Span
  pub made : Made s old d out n h
  pub more : (limit < n) ⊎ (length out < n)

abbrev pub RefusesTooLarge : Patcher → Type 0
RefusesTooLarge p =
    (s old d out : List ℕ) (size : ℕ) (es : List Entry) (os : List Op) → Taken s old d size es os
    → (limit < length (new_file size old os)) ⊎ (length out < length (new_file size old os))
    → p s old d out ≡ outcome (Err Refusal.NoRoom) out

abbrev pub NoRoomLast : Patcher → Type 0
NoRoomLast p =
    (s old d out : List ℕ) → Bytes s → Bytes d → (p s old d out).answer ≡ Err Refusal.NoRoom → TooLarge s old d out

-- measuring tells what applying with room for it answers
abbrev pub Measures : Patcher → (List ℕ → List ℕ → List ℕ → Result Measured Refusal) → Type 0
Measures p m =
    (s old d out : List ℕ)
    → ((n : ℕ) (h : Option Span) → m s old d ≡ Ok (measured n h) → n ≤ length out → (p s old d out).answer ≡ Ok (measured n h))
    × ((why : Refusal) → m s old d ≡ Err why → (p s old d out).answer ≡ Err why)

-- ---- the weak sum: "rolling it one byte on equals working it out afresh, for every non-empty window"
abbrev pub Rolls : (List ℕ → ℕ) → (ℕ → ℕ → ℕ → ℕ → ℕ) → Type 0
Rolls sum roll = (w : List ℕ) (x y : ℕ) → x < 256 → roll (sum (x ∷ w)) (length (x ∷ w)) x y ≡ sum (w ++ y ∷ [])

-- ---- all of them, of ours
pub record DeltaLaws : Type 0 where
  pub numbers : Numbers
  pub reads_laid : ReadsLaid delta_of
  pub laid_reads : LaidReads delta_of
  pub tells_each : TellsEach step_of
  pub reads_signature : ReadsSignature ours
  pub laid_signatures : LaidSignatures ours
  pub ranges : Ranges
  pub applies : Applies apply_of
  pub only_applies : OnlyApplies apply_of
  pub too_long_first : TooLongFirst apply_of
  pub too_long_only : TooLongOnly apply_of
  pub keeps_output : KeepsOutput apply_of
  pub refuses_too_large : RefusesTooLarge apply_of
  pub no_room_last : NoRoomLast apply_of
  pub measures : Measures apply_of measure_of
  pub rolls : Rolls weak_of rolled_of
