use Rattle.std.proofs.Common.{◌≡◌, ℕ, ◌*◌, List, length, sym, ◌∙◌, arith}
use Rattle.std.specs.Int.{div_ceil}
use borrow.Author.Tests.{leb-true}
use Rattle.base64_codec.specs.Encode.{text_of, encode_of}
use Rattle.base64_codec.proofs.Lengths.{length-text}
use Rattle.base64_codec.proofs.Calls.{encode-decode}
use Rattle.base64_codec.proofs.encode.Goals as goal

-- so many characters are asked for
size : (x : List ℕ) (n : ℕ) → n ≡ div_ceil (length x) 3 → length (text_of x) ≡ n * 4
size x n e = length-text x ∙ omega (arith, e)

pub returns-then-not-fits-clause-out_after : goal.returns-then-not-fits-clause-out_after
unfolding encode_of
returns-then-not-fits-clause-out_after c =
    rw (size c.args.«data».now _ c.div_ceil-n.ensures, ← c.fits.ensures, c.if-not-fits.true)

pub returns-then-not-fits-clause-encoded_decodes : goal.returns-then-not-fits-clause-encoded_decodes
returns-then-not-fits-clause-encoded_decodes c = encode-decode

-- past the test the text fits
pub fill-requires : goal.fill-requires
fill-requires c = rw (size c.args.«data».now _ c.div_ceil-n.ensures) (leb-true _ _ (sym c.fits.ensures ∙ c.if-not-fits.false))

pub returns-clause-out_after : goal.returns-clause-out_after
unfolding encode_of
returns-clause-out_after c =
    rw (size c.args.«data».now _ c.div_ceil-n.ensures, ← c.fits.ensures, c.if-not-fits.false, c.fill.ensures)

pub returns-clause-encoded_decodes : goal.returns-clause-encoded_decodes
returns-clause-encoded_decodes c = encode-decode
