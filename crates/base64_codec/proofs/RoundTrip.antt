-- Decoding undoes encoding, and encoding undoes decoding.
use Prim.Native.Nat.{ℕ, ◌+◌, ◌-◌, ◌*◌, ◌/◌, ◌%◌, ◌<◌}
use mathlib.Core.Path.{◌≡◌, refl, ◌∙◌, ap}
use mathlib.Core.Bool.{false}
use mathlib.Core.List.{List, [], ◌∷◌}
use native.Mathlib.Omega.{arith}
use lib.ListN.{length}
use lib.Dec.{eqb}
use Rattle.octets.specs.Bytes.{Bytes}
use Rattle.base64_codec.specs.Alphabet.{pad, value_of, letter_of}
use Rattle.base64_codec.specs.Decode.{verdict_of, byte1, byte2, byte3, group, bytes_of}
use Rattle.base64_codec.specs.Encode.{char1, char2, char3, char4, text_of}
use Rattle.std.specs.Prelude.{Ok}
use Rattle.base64_codec.proofs.Letters.{Letter, value-letter, letter-of, letter-value, not-pad}
use Rattle.base64_codec.proofs.Groups.{Groups, none, full, pad1, pad2, groups_valid, valid-groups}

-- ---- encoded, then decoded
-- how many bytes the last group lacks, for each of which a `=` stands
abbrev pub padding_of : List ℕ → ℕ
padding_of x = (length x + 2) / 3 * 3 - length x

text-groups : (x : List ℕ) → Bytes x → Groups (text_of x) (padding_of x)
unfolding text_of
text-groups [] h = none
text-groups (a ∷ []) h =
    pad2 (letter-of (a / 4) (omega arith)) (letter-of (a % 4 * 16 + 0 / 16) (omega arith))
    (omega (arith, value-letter (a % 4 * 16 + 0 / 16) (omega arith)))
text-groups (a ∷ b ∷ []) h =
    pad1 (letter-of (a / 4) (omega arith)) (letter-of (a % 4 * 16 + b / 16) (omega arith)) (letter-of (b % 16 * 4 + 0 / 64) (omega arith))
    (omega (arith, value-letter (b % 16 * 4 + 0 / 64) (omega arith)))
text-groups (a ∷ b ∷ c ∷ r) h =
    let e : padding_of (a ∷ b ∷ c ∷ r) ≡ padding_of r = omega arith in
    rw e (full (letter-of (a / 4) (omega arith)) (letter-of (a % 4 * 16 + b / 16) (omega arith))
    (letter-of (b % 16 * 4 + c / 64) (omega arith)) (letter-of (c % 64) (omega arith))
    (text-groups r h.1.1.1))

-- the text of some bytes is valid, with that much padding
pub valid-text : (x : List ℕ) → Bytes x → verdict_of (text_of x) ≡ Ok (padding_of x)
valid-text x h = groups_valid (text-groups x h)

byte1-back : (a b : ℕ) → a < 256 → b < 256 → byte1 (value_of (char1 a)) (value_of (char2 a b)) ≡ a
byte1-back a b h k = rw (value-letter (a / 4) (omega arith), value-letter (a % 4 * 16 + b / 16) (omega arith)) (omega arith)

byte2-back : (a b c : ℕ) → b < 256 → c < 256 → byte2 (value_of (char2 a b)) (value_of (char3 b c)) ≡ b
byte2-back a b c k l = rw (value-letter (a % 4 * 16 + b / 16) (omega arith), value-letter (b % 16 * 4 + c / 64) (omega arith)) (omega arith)

byte3-back : (b c : ℕ) → c < 256 → byte3 (value_of (char3 b c)) (value_of (char4 c)) ≡ c
byte3-back b c l = rw (value-letter (b % 16 * 4 + c / 64) (omega arith), value-letter (c % 64) (omega arith)) (omega arith)

char3-letter : (b c : ℕ) → c < 256 → eqb (char3 b c) pad ≡ false
char3-letter b c l = not-pad _ (letter-of (b % 16 * 4 + c / 64) (omega arith))

char4-letter : (c : ℕ) → eqb (char4 c) pad ≡ false
char4-letter c = not-pad _ (letter-of (c % 64) (omega arith))

-- and decodes to these bytes
pub bytes-text : (x : List ℕ) → Bytes x → bytes_of (text_of x) ≡ x
unfolding text_of bytes_of group
bytes-text [] h = refl
bytes-text (a ∷ []) h = rw (byte1-back a 0 (omega arith) (omega arith))
bytes-text (a ∷ b ∷ []) h =
    rw (char3-letter b 0 (omega arith), byte1-back a b (omega arith) (omega arith), byte2-back a b 0 (omega arith) (omega arith))
bytes-text (a ∷ b ∷ c ∷ r) h =
    rw (
      char3-letter b c (omega arith),
      char4-letter c,
      byte1-back a b (omega arith) (omega arith),
      byte2-back a b c (omega arith) (omega arith),
      byte3-back b c (omega arith),
      bytes-text r h.1.1.1,
    )

-- ---- decoded, then encoded
module _ (a b : ℕ) (ha : Letter a) (hb : Letter b) where
  char1-back : char1 (byte1 (value_of a) (value_of b)) ≡ a
  char1-back = ap letter_of (omega arith) ∙ letter-value a ha

  char2-back : (c : ℕ) → Letter c → char2 (byte1 (value_of a) (value_of b)) (byte2 (value_of b) (value_of c)) ≡ b
  char2-back c hc = ap letter_of (omega arith) ∙ letter-value b hb

  char2-last : value_of b % 16 ≡ 0 → char2 (byte1 (value_of a) (value_of b)) 0 ≡ b
  char2-last z = ap letter_of (omega arith) ∙ letter-value b hb

  char3-back : (d : ℕ) → Letter d → char3 (byte2 (value_of a) (value_of b)) (byte3 (value_of b) (value_of d)) ≡ b
  char3-back d hd = ap letter_of (omega arith) ∙ letter-value b hb

  char3-last : value_of b % 4 ≡ 0 → char3 (byte2 (value_of a) (value_of b)) 0 ≡ b
  char3-last z = ap letter_of (omega arith) ∙ letter-value b hb

  char4-back : char4 (byte3 (value_of a) (value_of b)) ≡ b
  char4-back = ap letter_of (omega arith) ∙ letter-value b hb

groups-text : {t : List ℕ} {k : ℕ} → Groups t k → text_of (bytes_of t) ≡ t
unfolding bytes_of text_of group
groups-text none = refl
groups-text (full {a} {b} {c} {d} ha hb hc hd g) =
    rw (not-pad c hc, not-pad d hd)
    (rw (char1-back a b ha hb, char2-back a b ha hb c hc, char3-back b c hb hc d hd, char4-back c d hc hd, groups-text g))
groups-text (pad1 {a} {b} {c} ha hb hc z) = rw (not-pad c hc, char1-back a b ha hb, char2-back a b ha hb c hc, char3-last b c hb hc z)
groups-text (pad2 {a} {b} ha hb z) = rw (char1-back a b ha hb, char2-last a b ha hb z)

-- a valid text is the text of its bytes
pub text-bytes : (t : List ℕ) (k : ℕ) → verdict_of t ≡ Ok k → text_of (bytes_of t) ≡ t
text-bytes t k e = groups-text (valid-groups t k e)
