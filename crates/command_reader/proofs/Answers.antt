-- What the code answers for a value is what is kept of it: what `decode` answered.
use Prim.Native.Nat.{ℕ, ◌+◌, ◌*◌, ◌≤◌}
use mathlib.Core.Path.{◌≡◌, refl}
use mathlib.Core.List.{List}
use native.Mathlib.Omega.{arith}
use lib.ListN.{length}
use borrow.Author.Tests.{le-leb}
use Rattle.std.specs.Prelude.{Result, Ok, Err}
use Rattle.octets.specs.Outcome.{Outcome}
use Rattle.base64_codec.specs.Decode.{verdict_of, bytes_of, decode_of, decoded_by}
use Rattle.base64_codec.specs.declared.Fault.{Fault}
use Rattle.base64_codec.specs.declared.DecodeError.{DecodeError}
use Rattle.base64_codec.proofs.Lengths.{length_valid}
use Rattle.command.specs.Keys.{Kind}
use Rattle.command.specs.Values.{decode_refusal, base64_read, value_read}
use Rattle.command.specs.Slots.{placed}
use Rattle.command.specs.Read.{Reader, kept_by}
use Rattle.command.specs.declared.Refusal.{Refusal}
use Rattle.command_reader.specs.Keeping.{kept_in, Keeps}
use Rattle.command_reader.specs.declared.values.Kept.{Kept}

-- what the code makes of an answer of `decode`
abbrev pub decoded_as : ℕ → Result ℕ DecodeError → Result Kept Refusal
decoded_as used (Ok n) = Ok (record { slot = placed (record { start = used; len = n }); stored = n })
decoded_as used (Err e) = Err (decode_refusal e)

-- where there is room, that is what is kept
pub decoded-kept : (v scratch : List ℕ) (used : ℕ) (o : Outcome (Result ℕ DecodeError)) → 4 * used + 3 * length v ≤ 4 * length scratch
    → o ≡ decode_of v scratch used
    → (at : ℕ) → Keeps Kind.base64 at v scratch used (decoded_as used o.answer) o.buffer
unfolding decode_of value_read
decoded-kept v scratch used o h e at n slots =
    rw e (go (verdict_of v) refl)
  where
    s : Reader
    s = record { slots = slots; scratch = scratch; used = used }

    go : (w : Result ℕ Fault) → verdict_of v ≡ w → let d = decoded_by w (bytes_of v) scratch used in
        kept_in n s d.buffer (decoded_as used d.answer) ≡ kept_by Kind.base64 n at s (base64_read w (bytes_of v))
    go (Ok k) q = rw (le-leb (used + length (bytes_of v)) (length scratch) (omega (arith, length_valid v k q)))
    go (Err f) q = refl
