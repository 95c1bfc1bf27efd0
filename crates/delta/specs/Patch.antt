-- The new file that a delta makes of an old one.
use Rattle.std.specs.Prelude.{ℕ, zero, suc, ◌+◌, ◌*◌, Bool, true, false, cond, ◌&&◌, List, [], ◌++◌, length, take, drop, leb, ltb}
use Rattle.std.specs.Prelude.{Option, Some, None}
use Rattle.delta.specs.Layout.{Op, laid}
use Rattle.delta.specs.Read.{span, Delta, delta_of}
use Rattle.delta.specs.declared.Span.{Span}

-- ---- blocks: "the position of a block in the file is: index * block_size"
-- "A block that starts at or past the old file's end" is refused
abbrev pub within : ℕ → List ℕ → ℕ → Bool
within size old i = ltb (i * size) (length old)

-- "The last block may be short"
abbrev pub block_of : ℕ → List ℕ → ℕ → List ℕ
block_of size old i = take size (drop (i * size) old)

-- a block and the n after it
unfoldable pub range_of : ℕ → List ℕ → ℕ → ℕ → List ℕ
range_of size old i zero = block_of size old i
range_of size old i (suc n) = block_of size old i ++ range_of size old (suc i) n

-- ---- an operation
-- of a range the last block starts last
abbrev pub inside : ℕ → List ℕ → Op → Bool
inside size old (Op.block i) = within size old i
inside size old (Op.bytes bs) = true
inside size old (Op.hash bs) = true
inside size old (Op.blocks i n) = within size old (i + n)

abbrev pub piece_of : ℕ → List ℕ → Op → List ℕ
piece_of size old (Op.block i) = block_of size old i
piece_of size old (Op.bytes bs) = bs
piece_of size old (Op.hash bs) = []
piece_of size old (Op.blocks i n) = range_of size old i n

-- ---- all of them
unfoldable pub sound : ℕ → List ℕ → Delta → Bool
sound size old Delta.end = true
sound size old Delta.damaged = false
sound size old (Delta.next o d) = inside size old o && sound size old d

unfoldable pub hashes : Delta → ℕ
hashes Delta.end = 0
hashes Delta.damaged = 0
hashes (Delta.next (Op.block i) d) = hashes d
hashes (Delta.next (Op.bytes bs) d) = hashes d
hashes (Delta.next (Op.hash bs) d) = suc (hashes d)
hashes (Delta.next (Op.blocks i n) d) = hashes d

-- "exactly the joined blocks and data"
unfoldable pub joined : ℕ → List ℕ → Delta → List ℕ
joined size old Delta.end = []
joined size old Delta.damaged = []
joined size old (Delta.next o d) = piece_of size old o ++ joined size old d

-- where the first hash of the operations from a place on stands, behind its type and its size
unfoldable pub hash_from : ℕ → Delta → Option Span
hash_from at Delta.end = None
hash_from at Delta.damaged = None
hash_from at (Delta.next (Op.block i) d) = hash_from (at + length (laid (Op.block i))) d
hash_from at (Delta.next (Op.bytes bs) d) = hash_from (at + length (laid (Op.bytes bs))) d
hash_from at (Delta.next (Op.hash bs) d) = Some (span (at + 3) (length bs))
hash_from at (Delta.next (Op.blocks i n) d) = hash_from (at + length (laid (Op.blocks i n))) d

-- the new file and its hash, or damage: named as in `Read`
pub data NewFile : Type 0 where
  damaged : NewFile
  made : List ℕ → Option Span → NewFile

-- "a second hash operation .. is refused"
abbrev pub result_in : ℕ → List ℕ → Delta → NewFile
result_in size old d =
    cond (sound size old d && leb (hashes d) 1) (NewFile.made (joined size old d) (hash_from 0 d)) NewFile.damaged

unfoldable pub result_of : ℕ → List ℕ → List ℕ → NewFile
result_of size old d = result_in size old (delta_of d)
