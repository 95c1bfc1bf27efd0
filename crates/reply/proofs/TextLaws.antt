-- Texts made in an array: what `decimal::write` and `base64_codec::encode` store from its start on, up to where it ends.
use Prim.Native.Nat.{ℕ, ◌+◌, ◌≤◌}
use mathlib.Core.Path.{◌≡◌, refl, ◌∙◌, ap}
use mathlib.Core.Bool.{Bool, true, false, not, cond, ◌&&◌}
use mathlib.Core.List.{List, []}
use native.Mathlib.Omega.{arith}
use Rattle.std.proofs.Common.{lit≤}
use Rattle.std.specs.Prelude.{Option, Some, None, unwrap_or, Result, Ok, Err}
use Rattle.std.specs.Result.{result_unwrap_or}
use lib.ListN.{length, take}
use borrow.Author.Tests.{le-leb}
use Rattle.octets.specs.Outcome.{Outcome, outcome, stored_at}
use Rattle.octets.proofs.Stores.{part-stored}
use Rattle.base64_codec.specs.Encode as Base64
use Rattle.decimal.specs.Write.{width_of, text_of, negative_zero, out_of_range, writable, write_of}
use Rattle.decimal.specs.declared.Number.{Number}
use Rattle.decimal.specs.declared.WriteError.{WriteError}
use Rattle.decimal.specs.declared.WriteError.TheVariants.{NegativeZero, OutOfRange, NoRoom}
use Rattle.decimal.proofs.Widths.{width-least}
use Rattle.decimal.proofs.Digits.{length-fixed}
use Rattle.command.specs.Values.{count}
use Rattle.protocol.specs.Replies.{status_word}
use Rattle.protocol.specs.declared.Status.{Status}

-- a string stored at the start, where it fits, up to its end; for any kind of answer
module _ {A : Type 0} (end : A → ℕ) (done no_room : A) where
  at-start : (bs l : List ℕ) → end done ≡ 0 + length bs → length bs ≤ length l
      → (let o = stored_at done no_room bs l 0 in take (end o.answer) o.buffer) ≡ bs
  at-start bs l e h =
      let k : 0 + length bs ≤ length l = omega arith in
      let n : end done ≡ length bs = omega arith in
      rw (le-leb _ _ k, n) (part-stored bs l 0 k)

-- ---- digits
abbrev pub to_end : Outcome (Result ℕ WriteError) → List ℕ
to_end o = take (result_unwrap_or o.answer 0) o.buffer

-- none of a number that is refused
pub digits : (n : Number) (l : List ℕ) → length (text_of n) ≤ length l → to_end (write_of n l 0) ≡ cond (writable n) (text_of n) []
unfolding write_of writable
digits n l h = go (negative_zero n) (out_of_range n)
  where
    go : (z r : Bool)
        → to_end (cond z (outcome (Err NegativeZero) l) (cond r (outcome (Err OutOfRange) l)
        (stored_at (Ok (0 + length (text_of n))) (Err NoRoom) (text_of n) l 0)))
        ≡ cond (not z && not r) (text_of n) []
    go true r = refl
    go false true = refl
    go false false = at-start (λ r. result_unwrap_or r 0) (Ok (0 + length (text_of n))) (Err NoRoom) (text_of n) l refl h

-- those of a size have room in 20 bytes
pub digits-fit : (n : ℕ) → length (text_of (count n)) ≤ 20
unfolding text_of
digits-fit n = omega (arith, (width-least n).upto, length-fixed (width_of n) n)

-- ---- Base64
-- the longest word has eight bytes
pub word-least : (w : Status) → length (status_word w) ≤ 8
word-least Status.Ok = lit≤ tt
word-least Status.Started = lit≤ tt
word-least Status.Progress = lit≤ tt
word-least Status.Canceled = lit≤ tt
word-least Status.Eperm = lit≤ tt
word-least Status.Eio = lit≤ tt
word-least Status.Enoent = lit≤ tt
word-least Status.Enospc = lit≤ tt
word-least Status.Ebusy = lit≤ tt
word-least Status.Enotsup = lit≤ tt
word-least Status.Einval = lit≤ tt
word-least Status.Eexist = lit≤ tt
word-least Status.Emfile = lit≤ tt
word-least Status.Efbig = lit≤ tt

abbrev to_place : Outcome (Option ℕ) → List ℕ
to_place o = take (unwrap_or o.answer 0) o.buffer

pub encoded : (x l : List ℕ) (o : Outcome (Option ℕ)) → o ≡ Base64.encode_of x l 0 → length (Base64.text_of x) ≤ length l
    → to_place o ≡ Base64.text_of x
unfolding Base64.encode_of
encoded x l o e h =
    ap to_place e ∙ at-start (λ s. unwrap_or s 0) (Some (0 + length (Base64.text_of x))) None (Base64.text_of x) l refl h
