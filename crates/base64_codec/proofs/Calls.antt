-- The round trips of the calls, by either choice of padding: decoding undoes encoding, and encoding undoes decoding. What is strict is said
-- of the text with its padding.
use Prim.Native.Nat.{ℕ, ◌+◌, ◌≤◌}
use mathlib.Core.Path.{◌≡◌, refl, ap}
use mathlib.Core.Bool.{Bool, true, false}
use mathlib.Core.List.{List}
use native.Mathlib.Omega.{arith}
use lib.ListN.{length}
use lib.Seq.{sets}
use lib.Dec.{leb}
use borrow.Author.Tests.{le-leb, leb-true}
use Rattle.octets.specs.Bytes.{Bytes}
use Rattle.octets.specs.Outcome.{outcome}
use Rattle.octets.proofs.Stores.{part-stored}
use Rattle.base64_codec.specs.Decode.{verdict_of, bytes_of, decode_of}
use Rattle.base64_codec.specs.Encode.{text_of, encode_of}
use Rattle.base64_codec.specs.Padding.{padded, decode_with}
use Rattle.base64_codec.specs.Claims.{EncodedDecodes, DecodedEncodes, UnpaddedDecodes}
use Rattle.std.specs.Prelude.{Result, Ok, Err, Some}
use Rattle.base64_codec.specs.declared.Fault.{Fault}
use Rattle.base64_codec.proofs.Lengths.{length-text}
use Rattle.base64_codec.proofs.RoundTrip.{padding_of, valid-text, bytes-text, text-bytes}
use Rattle.base64_codec.proofs.Padded.{valid-padded, text-padded}

-- what `encode` and `decode` give where there is room
encode-room : (x out : List ℕ) (at : ℕ) → at + length (text_of x) ≤ length out
    → encode_of x out at ≡ outcome (Some (at + length (text_of x))) (sets out at (text_of x))
unfolding encode_of
encode-room x out at h = rw (le-leb _ _ h)

decode-room : (t out : List ℕ) (at k : ℕ) → verdict_of t ≡ Ok k → at + length (bytes_of t) ≤ length out
    → decode_of t out at ≡ outcome (Ok (length (bytes_of t))) (sets out at (bytes_of t))
unfolding decode_of
decode-room t out at k e h = rw (e, le-leb _ _ h)

-- the text of some bytes decodes to them
text-room : (x into : List ℕ) (to : ℕ) → Bytes x → to + length x ≤ length into
    → decode_of (text_of x) into to ≡ outcome (Ok (length x)) (sets into to x)
text-room x into to b h =
    let d = bytes-text x b in
    rw (decode-room (text_of x) into to (padding_of x) (valid-text x b) (omega (arith, ap length d)), d)

pub encode-decode : EncodedDecodes
unfolding decode_with
encode-decode p x out into at to b h k =
    let n = length-text x in
    rw (← n, encode-room x out at (omega arith)) (
      refl,
      rw (
        part-stored (text_of x) out at (omega arith),
        valid-padded p (text_of x) (padding_of x) (valid-text x b),
        text-room x into to b k,
      ),
    )

pub unpadded-decode : UnpaddedDecodes
unfolding decode_with
unpadded-decode x into to b h = rw (text-padded x b, text-room x into to b h)

-- a text that decodes is valid, and its bytes had room
decoded : (t out : List ℕ) (at n : ℕ) → (decode_of t out at).answer ≡ Ok n
    → (k : ℕ) × (verdict_of t ≡ Ok k) × (n ≡ length (bytes_of t)) × (at + length (bytes_of t) ≤ length out)
unfolding decode_of
decoded t out at n e = go (verdict_of t) refl (leb (at + length (bytes_of t)) (length out)) refl
  where
    go : (v : Result ℕ Fault) → verdict_of t ≡ v → (b : Bool) → leb (at + length (bytes_of t)) (length out) ≡ b
        → (k : ℕ) × (verdict_of t ≡ Ok k) × (n ≡ length (bytes_of t)) × (at + length (bytes_of t) ≤ length out)
    go (Ok k) ev true eb =
        let q : Ok (length (bytes_of t)) ≡ Ok n = rw (ev, eb) at e in
        (k, ev, cc, leb-true _ _ eb)
    go (Ok k) ev false eb = let z : ◌≡◌ {A = ℕ} 0 1 = cc (rw (ev, eb) at e) in absurd (omega arith)
    go (Err f) ev b eb = let z : ◌≡◌ {A = ℕ} 0 1 = cc (rw ev at e) in absurd (omega arith)

pub decode-encode : DecodedEncodes
unfolding decode_with
decode-encode p u out into at to n e h =
    let t = padded p u in
    let d = decoded t out at n e in
    let b = text-bytes t d.0 d.1 in
    rw (
      decode-room t out at d.0 d.1 d.3,
      d.2,
      part-stored (bytes_of t) out at d.3,
      encode-room (bytes_of t) into to (omega (arith, ap length b)),
      b,
    )
