use Prim.Native.Nat.{ℕ, ◌+◌, ◌-◌, ◌*◌, ◌/◌, ◌%◌}
use mathlib.Core.Path.{◌≡◌, sym, ◌∙◌}
use mathlib.Core.List.{List, ◌++◌}
use native.Mathlib.Omega.{arith}
use lib.ListN.{length}
use borrow.Author.Tests.{leb-true}
use Rattle.base64_codec.specs.Decode.{verdict_of, bytes_of, decode_of}
use Rattle.base64_codec.specs.Padding.{joined_verdict}
use Rattle.std.specs.Prelude.{Ok}
use Rattle.std.proofs.lemmas.Result.{err_from_is_err_and}
use Rattle.base64_codec.proofs.Halves.{verdict-joined, both_valid, size-first, size-last, size-both, sets-both}
use Rattle.base64_codec.proofs.lacking.in_two.Goals as goal

-- ---- where the two are valid together
module _
    (groups last : List ℕ) (whole : length groups % 4 ≡ 0) (four : length last ≡ 4) (padding : ℕ)
    (joint : joined_verdict (verdict_of groups) (verdict_of last) ≡ Ok padding) where
  first : verdict_of groups ≡ Ok 0
  first = (both_valid (verdict_of groups) (verdict_of last) padding joint).0

  second : verdict_of last ≡ Ok padding
  second = (both_valid (verdict_of groups) (verdict_of last) padding joint).1

  together : verdict_of (groups ++ last) ≡ Ok padding
  together = verdict-joined groups last whole four ∙ joint

  count-first : length (bytes_of groups) ≡ length groups / 4 * 3
  count-first = size-first groups last whole four padding first second

  count-last : length (bytes_of last) + padding ≡ 3
  count-last = size-last groups last whole four padding first second

  count : length (bytes_of (groups ++ last)) ≡ (length groups / 4 * 3 + 3) - padding
  count = size-both groups last whole four padding first second

pub overflow_sub-n : goal.overflow_sub-n
overflow_sub-n c =
    let joint = rw (c.check.ensures, c.check-2.ensures) at (sym c.in_ok-padding.ensures) in
    omega (arith, count-last _ _ c.requires c.told-last _ joint)

pub returns-then-not-fits : goal.returns-then-not-fits
unfolding decode_of
returns-then-not-fits c =
    let joint = rw (c.check.ensures, c.check-2.ensures) at (sym c.in_ok-padding.ensures) in
    rw (together _ _ c.requires c.told-last _ joint, count _ _ c.requires c.told-last _ joint, ← c.fits.ensures, c.if-not-fits.true)

-- past the test there is room for both
pub fill-requires-clause-room : goal.fill-requires-clause-room
fill-requires-clause-room c =
    let joint = rw (c.check.ensures, c.check-2.ensures) at (sym c.in_ok-padding.ensures) in
    let room = leb-true _ _ (sym c.fits.ensures ∙ c.if-not-fits.false) in
    omega (arith, count-first _ _ c.requires c.told-last _ joint, count-last _ _ c.requires c.told-last _ joint, room)

pub fill-requires-2-clause-room : goal.fill-requires-2-clause-room
fill-requires-2-clause-room c =
    let joint = rw (c.check.ensures, c.check-2.ensures) at (sym c.in_ok-padding.ensures) in
    let room = leb-true _ _ (sym c.fits.ensures ∙ c.if-not-fits.false) in
    omega (arith, count-last _ _ c.requires c.told-last _ joint, room)

pub returns : goal.returns
unfolding decode_of
returns c =
    let joint = rw (c.check.ensures, c.check-2.ensures) at (sym c.in_ok-padding.ensures) in
    rw (
      together _ _ c.requires c.told-last _ joint,
      count _ _ c.requires c.told-last _ joint,
      ← c.fits.ensures,
      c.if-not-fits.false,
      c.fill-2.ensures,
      c.fill.ensures,
      sets-both _ _ c.requires c.told-last _ (first _ _ c.requires c.told-last _ joint) (second _ _ c.requires c.told-last _ joint),
    )

pub returns-in_err-padding : goal.returns-in_err-padding
unfolding decode_of
returns-in_err-padding c =
    let told = err_from_is_err_and c.from_residual.result c.from_residual.ensures.1 in
    let fault = rw (c.check.ensures, c.check-2.ensures) at (sym c.in_err-padding.ensures) in
    rw (told.1, told.2, verdict-joined _ _ c.requires c.told-last, fault)
