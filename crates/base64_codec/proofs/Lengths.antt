-- How long a text and its bytes are, and that decoding gives bytes.
use Prim.Native.Nat.{ℕ, ◌+◌, ◌*◌, ◌/◌, ◌%◌}
use mathlib.Core.Path.{◌≡◌, refl}
use mathlib.Core.Bool.{Bool, true, false, cond}
use mathlib.Core.List.{List, [], ◌∷◌}
use native.Mathlib.Omega.{arith}
use lib.ListN.{length}
use lib.Dec.{eqb}
use Rattle.octets.specs.Bytes.{Bytes}
use Rattle.base64_codec.specs.Alphabet.{pad, value_of}
use Rattle.base64_codec.specs.Decode.{verdict_of, byte1, byte2, byte3, group, bytes_of}
use Rattle.base64_codec.specs.Encode.{text_of}
use Rattle.std.specs.Prelude.{Ok}
use Rattle.base64_codec.proofs.Letters.{not-pad}
use Rattle.base64_codec.proofs.Groups.{Groups, none, full, pad1, pad2, groups-length, valid-groups}

-- four characters for each group of three bytes, and for a last group of one or two
pub length-text : (x : List ℕ) → length (text_of x) ≡ (length x + 2) / 3 * 4
unfolding text_of
length-text [] = refl
length-text (a ∷ []) = refl
length-text (a ∷ b ∷ []) = refl
length-text (a ∷ b ∷ c ∷ r) = omega (arith, length-text r)

-- three bytes for each four characters, but for the padding
length-groups : {t : List ℕ} {k : ℕ} → Groups t k → length (bytes_of t) + k ≡ length t / 4 * 3
unfolding bytes_of group
length-groups none = refl
length-groups (full {a} {b} {c} {d} ha hb hc hd g) = rw (not-pad c hc, not-pad d hd) (omega (arith, length-groups g))
length-groups (pad1 {a} {b} {c} ha hb hc z) = rw (not-pad c hc)
length-groups (pad2 ha hb z) = refl

-- so a valid text has whole groups, and its length and padding give the number of its bytes
pub length_valid : (t : List ℕ) (k : ℕ) → verdict_of t ≡ Ok k → (length t % 4 ≡ 0) × (length (bytes_of t) + k ≡ length t / 4 * 3)
length_valid t k e = let g = valid-groups t k e in (groups-length g, length-groups g)

-- decoding gives bytes, whatever the text
pub bytes_below : (t : List ℕ) → Bytes (bytes_of t)
unfolding bytes_of group
bytes_below [] = tt
bytes_below (a ∷ []) = tt
bytes_below (a ∷ b ∷ []) = tt
bytes_below (a ∷ b ∷ c ∷ []) = tt
bytes_below (a ∷ b ∷ c ∷ d ∷ r) = go (eqb c pad) (eqb d pad) (bytes_below r)
  where
    go : (x y : Bool) → Bytes (bytes_of r)
        → Bytes (byte1 (value_of a) (value_of b)
        ∷ cond x (bytes_of r) (byte2 (value_of b) (value_of c) ∷ cond y (bytes_of r) (byte3 (value_of c) (value_of d) ∷ bytes_of r)))
    go true y h = (omega arith, h)
    go false true h = (omega arith, (omega arith, h))
    go false false h = (omega arith, (omega arith, (omega arith, h)))
