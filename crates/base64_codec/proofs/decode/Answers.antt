use Prim.Native.Nat.{ℕ, ◌-◌, ◌*◌, ◌/◌}
use mathlib.Core.Path.{◌≡◌, sym, ◌∙◌}
use mathlib.Core.List.{List}
use native.Mathlib.Omega.{arith}
use lib.ListN.{length}
use borrow.Author.Tests.{leb-true}
use Rattle.base64_codec.specs.Decode.{verdict_of, bytes_of, decode_of}
use Rattle.std.specs.Prelude.{Ok}
use Rattle.std.proofs.lemmas.Result.{err_from_is_err_and}
use Rattle.base64_codec.proofs.Lengths.{length_valid}
use Rattle.base64_codec.proofs.Calls.{decode-encode}
use Rattle.base64_codec.proofs.decode.Goals as goal

-- so many bytes are asked for
size : (t : List ℕ) (n : ℕ) → verdict_of t ≡ Ok n → length (bytes_of t) ≡ length t / 4 * 3 - n
size t n e = omega (arith, length_valid t n e)

pub overflow_sub-n : goal.overflow_sub-n
overflow_sub-n c = omega (arith, length_valid _ _ (sym c.in_ok-padding.ensures))

pub returns-then-not-fits-clause-out_after : goal.returns-then-not-fits-clause-out_after
unfolding decode_of
returns-then-not-fits-clause-out_after c =
    let valid = sym c.in_ok-padding.ensures in
    rw (valid, size _ _ valid, ← c.fits.ensures, c.if-not-fits.true)

pub returns-then-not-fits-clause-decoded_encodes : goal.returns-then-not-fits-clause-decoded_encodes
returns-then-not-fits-clause-decoded_encodes c = decode-encode

pub fill-requires-clause-room : goal.fill-requires-clause-room
fill-requires-clause-room c = rw (size _ _ (sym c.in_ok-padding.ensures)) (leb-true _ _ (sym c.fits.ensures ∙ c.if-not-fits.false))

pub returns-clause-out_after : goal.returns-clause-out_after
unfolding decode_of
returns-clause-out_after c =
    let valid = sym c.in_ok-padding.ensures in
    rw (valid, size _ _ valid, ← c.fits.ensures, c.if-not-fits.false, c.fill.ensures)

pub returns-clause-decoded_encodes : goal.returns-clause-decoded_encodes
returns-clause-decoded_encodes c = decode-encode

pub returns-in_err-padding-clause-out_after : goal.returns-in_err-padding-clause-out_after
unfolding decode_of
returns-in_err-padding-clause-out_after c =
    let told = err_from_is_err_and c.from_residual.result c.from_residual.ensures.1 in
    rw (told.1, told.2, ← c.in_err-padding.ensures)

pub returns-in_err-padding-clause-decoded_encodes : goal.returns-in_err-padding-clause-decoded_encodes
returns-in_err-padding-clause-decoded_encodes c = decode-encode
