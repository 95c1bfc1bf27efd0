-- Examples of the rules: a signature, an old file and a delta, with the new file and its hash, or the refusal.
use Rattle.std.specs.Prelude.{ℕ, ◌≡◌, List, [], ◌∷◌, ◌++◌, map, take, replicate, Some, None, Ok, Err}
use Prim.Native.String.{String}
use Rattle.octets.specs.Ascii.{ascii}
use Rattle.delta.specs.Layout.{Op, laid_all, laid_signature}
use Rattle.delta.specs.Read.{limit, span, measured, signature_of, entry_of}
use Rattle.delta.specs.Calls.{refusal_number, Patched, patch_of, apply_of}
use Rattle.delta.specs.Laws.{signature}
use Rattle.delta.specs.Weak.{weak_of, rolled_of}
use Rattle.delta.specs.declared.Refusal.TheVariants as Refusal

pub record Example : Type 0 where
  pub signature : List ℕ
  pub old : String
  pub delta : List ℕ
  pub answer : Patched

abbrev pub example : List ℕ → String → List ℕ → Patched → Example
example s old d a = record { signature = s; old = old; delta = d; answer = a }

abbrev pub gives : String → Patched
gives t = Patched.patched (ascii t) None

abbrev pub damaged : Patched
damaged = Patched.refused Refusal.Damaged

-- a header alone
abbrev pub head : ℕ → List ℕ
head size = laid_signature size []

abbrev pub ten : String
ten = "abcdefghij"

-- made by kitty 0.48 of the old file `abc`: byte for byte, so that no layout that stands in them can be changed in reader and definition
-- alike
abbrev pub kitty_signature : List ℕ
kitty_signature =
    0 ∷ 0 ∷ 0 ∷ 0 ∷ 0 ∷ 0 ∷ 0 ∷ 0 ∷ 2 ∷ 0 ∷ 0 ∷ 0
    ∷ 0 ∷ 0 ∷ 0 ∷ 0 ∷ 0 ∷ 0 ∷ 0 ∷ 0 ∷ 0xC3 ∷ 0 ∷ 0x24 ∷ 1 ∷ 0x5C ∷ 0x73 ∷ 0xD5 ∷ 0x24 ∷ 0x9C ∷ 0x71 ∷ 0x73 ∷ 0xA8
    ∷ 1 ∷ 0 ∷ 0 ∷ 0 ∷ 0 ∷ 0 ∷ 0 ∷ 0 ∷ 0x63 ∷ 0 ∷ 0x63 ∷ 0 ∷ 0x1B ∷ 0xF8 ∷ 0xB9 ∷ 0x46 ∷ 0x9A ∷ 0x21 ∷ 0x40 ∷ 0x8C ∷ []

abbrev pub kitty_hash : List ℕ
kitty_hash = 0x8D ∷ 0x6B ∷ 0x60 ∷ 0x38 ∷ 0x3D ∷ 0xFA ∷ 0x90 ∷ 0xC2 ∷ 0x1B ∷ 0xE7 ∷ 0x9E ∷ 0xEC ∷ 0xD1 ∷ 0xB1 ∷ 0x35 ∷ 0x3D ∷ []

abbrev pub kitty_delta : List ℕ
kitty_delta = 0 ∷ 0 ∷ 0 ∷ 0 ∷ 0 ∷ 0 ∷ 0 ∷ 0 ∷ 0 ∷ 1 ∷ 2 ∷ 0 ∷ 0 ∷ 0 ∷ 0x63 ∷ 0x64 ∷ 2 ∷ 0x10 ∷ 0 ∷ kitty_hash

abbrev pub examples : List Example
examples =
    example kitty_signature "abc" kitty_delta (Patched.patched (ascii "abcd") (Some (span 19 16)))
    -- a block and a range byte for byte, whose numbers kitty's delta does not show
    ∷ example (head 4) ten (0 ∷ 2 ∷ replicate 7 0) (gives "ij")
    ∷ example (head 4) ten (3 ∷ 1 ∷ 0 ∷ 0 ∷ 0 ∷ 0 ∷ 0 ∷ 0 ∷ 0 ∷ 1 ∷ 0 ∷ 0 ∷ 0 ∷ []) (gives "efghij")
    -- headers, and signatures cut off
    ∷ example (head 0) ten [] damaged
    ∷ example (1 ∷ 0 ∷ 0 ∷ 0 ∷ 0 ∷ 0 ∷ 0 ∷ 0 ∷ 4 ∷ 0 ∷ 0 ∷ 0 ∷ []) ten [] damaged
    ∷ example (0 ∷ 0 ∷ 0 ∷ 0 ∷ 0 ∷ 0 ∷ 0 ∷ 1 ∷ 4 ∷ 0 ∷ 0 ∷ 0 ∷ []) ten [] damaged
    ∷ example (take 11 (head 4)) ten [] damaged
    ∷ example (head 4 ++ replicate 19 7) ten [] damaged
    ∷ example (head 4 ++ replicate 20 7) ten [] (gives "")
    -- ranges
    ∷ example (head 4) ten (laid_all (Op.blocks 0 2 ∷ [])) (gives ten)
    ∷ example (head 4) ten (laid_all (Op.blocks 1 0 ∷ [])) (gives "efgh")
    ∷ example (head 4) ten (laid_all (Op.blocks 0 3 ∷ [])) damaged
    -- the last block may be short
    ∷ example (head 4) ten (laid_all (Op.block 2 ∷ Op.block 0 ∷ [])) (gives "ijabcd")
    ∷ example (head 4) "abcdefgh" (laid_all (Op.block 2 ∷ [])) damaged
    ∷ example (head 4) "" (laid_all (Op.block 0 ∷ [])) damaged
    ∷ example (head 0xFFFFFFFF) ten (laid_all (Op.block 0 ∷ [])) (gives ten)
    -- nothing wraps: products of 2^64, sums past it
    ∷ example (head 0x80000000) ten (laid_all (Op.block 0x200000000 ∷ [])) damaged
    ∷ example (head 4) ten (laid_all (Op.blocks 0xFFFFFFFFFFFFFFFF 1 ∷ [])) damaged
    ∷ example (head 4) ten (laid_all (Op.blocks 0 0xFFFFFFFF ∷ [])) damaged
    -- hashes
    ∷ example (head 4) ten (laid_all (Op.hash (0xAA ∷ 0xBB ∷ []) ∷ Op.block 0 ∷ [])) (Patched.patched (ascii "abcd") (Some (span 3 2)))
    ∷ example (head 4) ten (laid_all (Op.block 0 ∷ Op.hash [] ∷ [])) (Patched.patched (ascii "abcd") (Some (span 12 0)))
    ∷ example (head 4) ten (laid_all (Op.hash [] ∷ Op.hash [] ∷ [])) damaged
    -- data, and deltas cut off
    ∷ example (head 4) ten [] (gives "")
    ∷ example (head 4) ten (laid_all (Op.bytes (ascii "new") ∷ [])) (gives "new")
    ∷ example (head 4) ten (laid_all (Op.bytes [] ∷ [])) (gives "")
    ∷ example (head 4) ten (0 ∷ replicate 7 0) damaged
    ∷ example (head 4) ten (1 ∷ 0 ∷ 0 ∷ 0 ∷ []) damaged
    ∷ example (head 4) ten (1 ∷ 255 ∷ 255 ∷ 255 ∷ 255 ∷ []) damaged
    ∷ example (head 4) ten (2 ∷ 0 ∷ []) damaged
    ∷ example (head 4) ten (3 ∷ replicate 11 0) damaged
    ∷ example (head 4) ten (4 ∷ []) damaged
    ∷ []

abbrev pub AllPatch : Type 0
AllPatch = map (λ (e : Example). patch_of e.signature (ascii e.old) e.delta) examples ≡ map (λ (e : Example). e.answer) examples

abbrev pub two_blocks : List ℕ
two_blocks = laid_all (Op.block 0 ∷ Op.block 1 ∷ [])

-- 9 comes after 16; what is needed is enough, and one less is not
pub record Rooms : Type 0 where
  pub damaged_first : (apply_of (head 4) (ascii ten) (two_blocks ++ 4 ∷ []) (replicate 3 0)).answer ≡ Err Refusal.Damaged
  pub short : (apply_of (head 4) (ascii ten) two_blocks (replicate 7 0)).answer ≡ Err Refusal.NoRoom
  pub enough : (apply_of (head 4) (ascii ten) two_blocks (replicate 8 0)).answer ≡ Ok (measured 8 None)
  pub behind : (apply_of (head 4) (ascii ten) (laid_all (Op.block 2 ∷ [])) (ascii "....")).buffer ≡ ascii "ij.."

pub record KittyReads : Type 0 where
  pub header : signature_of kitty_signature ≡ Ok (signature 2 2)
  pub first : entry_of kitty_signature 0 ≡ Ok (Some (record { index = 0; weak = weak_of (ascii "ab"); strong = 0xA873719C24D5735C }))
  pub second : entry_of kitty_signature 1 ≡ Ok (Some (record { index = 1; weak = weak_of (ascii "c"); strong = 0x8C40219A46B9F81B }))
  pub no_third : entry_of kitty_signature 2 ≡ Ok None

pub record Sums : Type 0 where
  pub empty : weak_of [] ≡ 0
  pub four : weak_of (ascii "abcd") ≡ 64225674
  pub moved : rolled_of 64225674 4 0x61 0x65 ≡ 64881038
  pub afresh : weak_of (ascii "bcde") ≡ 64881038

-- the order's own numbers
pub record Figures : Type 0 where
  pub most : limit ≡ 65536
  pub codes : map refusal_number (Refusal.TooLong ∷ Refusal.Damaged ∷ Refusal.NoRoom ∷ []) ≡ 17 ∷ 16 ∷ 9 ∷ []

abbrev pub DeltaExamples : Type 0
DeltaExamples = AllPatch × Rooms × KittyReads × Sums × Figures
