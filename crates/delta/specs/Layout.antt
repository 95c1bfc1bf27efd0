-- Source document 001's layouts, "The format of signatures and deltas": "all integers must be encoded in little-endian format".
use Rattle.std.specs.Prelude.{ℕ, ◌^◌, ◌<◌, List, [], ◌∷◌, ◌++◌, length}
use Rattle.octets.specs.Little.{little}
use Rattle.delta.specs.declared.Entry.{Entry}

-- ---- a delta, "a list of operations"
pub data Op : Type 0 where
  block : ℕ → Op
  bytes : List ℕ → Op
  hash : List ℕ → Op
  blocks : ℕ → ℕ → Op

-- "a single byte denoting the operation type followed by variable length data depending on the type"; a range has an index, and the
-- number of additional blocks
unfoldable pub laid : Op → List ℕ
laid (Op.block i) = 0 ∷ little 8 i
laid (Op.bytes bs) = 1 ∷ (little 4 (length bs) ++ bs)
laid (Op.hash bs) = 2 ∷ (little 2 (length bs) ++ bs)
laid (Op.blocks i n) = 3 ∷ (little 8 i ++ little 4 n)

unfoldable pub laid_all : List Op → List ℕ
laid_all [] = []
laid_all (o ∷ os) = laid o ++ laid_all os

-- the numbers fit their widths
abbrev pub Fits : Op → Type 0
Fits (Op.block i) = i < 256 ^ 8
Fits (Op.bytes bs) = length bs < 256 ^ 4
Fits (Op.hash bs) = length bs < 256 ^ 2
Fits (Op.blocks i n) = (i < 256 ^ 8) × (n < 256 ^ 4)

abbrev pub AllFit : List Op → Type 0
AllFit [] = Unit {0}
AllFit (o ∷ os) = Fits o × AllFit os

-- ---- a signature
-- "uint64 index, uint32 weak_hash, uint64 strong_hash"
unfoldable pub laid_entry : Entry → List ℕ
laid_entry e = little 8 e.index ++ (little 4 e.weak ++ little 8 e.strong)

unfoldable pub laid_entries : List Entry → List ℕ
laid_entries [] = []
laid_entries (e ∷ es) = laid_entry e ++ laid_entries es

-- "uint16 version, checksum_type, strong_hash_type, weak_hash_type", "currently all zero", "uint32 block_size"; then the blocks
unfoldable pub laid_signature : ℕ → List Entry → List ℕ
laid_signature size es = little 2 0 ++ (little 2 0 ++ (little 2 0 ++ (little 2 0 ++ (little 4 size ++ laid_entries es))))

abbrev pub EntryFits : Entry → Type 0
EntryFits e = (e.index < 256 ^ 8) × (e.weak < 256 ^ 4) × (e.strong < 256 ^ 8)

abbrev pub EntriesFit : List Entry → Type 0
EntriesFit [] = Unit {0}
EntriesFit (e ∷ es) = EntryFits e × EntriesFit es
