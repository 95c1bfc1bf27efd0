-- The round trips of the calls, by the definitions that their contracts cite.
use Rattle.std.specs.Prelude.{ℕ, ◌+◌, ◌*◌, ◌/◌, ◌≤◌, ◌≡◌, Some, Ok, List, length, take, drop}
use Rattle.std.proofs.lemmas.List.Edits.{sets}
use Rattle.octets.specs.Bytes.{Bytes}
use Rattle.octets.specs.Outcome.{Outcome, outcome}
use Rattle.base64_codec.specs.Padding.{padded, unpadded, decode_with}
use Rattle.base64_codec.specs.Encode.{text_of, encode_of}
use Rattle.base64_codec.specs.declared.Padding.{Padding}

-- the length of the text of n bytes: four characters for each group of three, and for a last group of one or two
abbrev pub text_length : ℕ → ℕ
text_length n = (n + 2) / 3 * 4

-- the n bytes from place `at` on of the buffer that a call leaves
abbrev pub left : {A : Type 0} → Outcome A → ℕ → ℕ → List ℕ
left o at n = take n (drop at o.buffer)

-- RFC 4648, section 4, both ways, by either choice of padding: any bytes are encoded where their text has room, and that text decodes to
-- the same bytes
abbrev pub EncodedDecodes : Type 0
EncodedDecodes =
    (p : Padding) (x out into : List ℕ) (at to : ℕ) → Bytes x → at + text_length (length x) ≤ length out → to + length x ≤ length into
    → ((encode_of x out at).answer ≡ Some (at + text_length (length x)))
    × (decode_with p (left (encode_of x out at) at (text_length (length x))) into to ≡ outcome (Ok (length x)) (sets into to x))

-- "unused bits zero": the bytes of a text that decodes are encoded to it again, with the padding that it left out. So where padding is
-- required the text is the only one of its bytes, and where it is optional there is one more, without the padding: "all or none"
abbrev pub DecodedEncodes : Type 0
DecodedEncodes =
    (p : Padding) (t out into : List ℕ) (at to n : ℕ) → (decode_with p t out at).answer ≡ Ok n
    → to + length (padded p t) ≤ length into
    → encode_of (left (decode_with p t out at) at n) into to ≡ outcome (Some (to + length (padded p t))) (sets into to (padded p t))

-- "Padding is optional": the text of any bytes decodes to them without its padding too
abbrev pub UnpaddedDecodes : Type 0
UnpaddedDecodes =
    (x into : List ℕ) (to : ℕ) → Bytes x → to + length x ≤ length into
    → decode_with Padding.Optional (unpadded (text_of x)) into to ≡ outcome (Ok (length x)) (sets into to x)
