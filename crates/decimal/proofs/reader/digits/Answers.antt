use Rattle.std.proofs.Common.{◌≡◌, ℕ, ◌+◌, ◌-◌, ◌*◌, ◌<◌, ◌≤◌, List, None, length, get_or, drop}
use Rattle.std.proofs.Common.{sym, ◌∙◌, ap, ◌⊎◌, inl, inr, arith, add-one}
use borrow.Author.Tests.{lt-ltb, le-ltb}
use Rattle.octets.proofs.Lists.{drop_at, drop-end}
use Rattle.decimal.specs.Read.{digits_of}
use Rattle.decimal.proofs.Powers.{ten_le}
use Rattle.decimal.proofs.reader.digits.Goals as goal

module _ (t : List ℕ) (i a : ℕ) (h : i < length t) where
  -- a digit is passed
  digit-at : 48 ≤ get_or t i 0 → get_or t i 0 ≤ 57 → digits_of a (drop i t) ≡ digits_of (a * 10 + (get_or t i 0 - 48)) (drop (i + 1) t)
  unfolding digits_of
  digit-at l u = rw (drop_at t i h, le-ltb _ _ l, le-ltb _ _ u)

  -- another byte ends it
  other-at : (get_or t i 0 < 48) ⊎ (57 < get_or t i 0) → digits_of a (drop i t) ≡ None
  unfolding digits_of
  other-at (inl l) = rw (drop_at t i h, lt-ltb _ _ l)
  other-at (inr u) = rw (drop_at t i h, le-ltb (get_or t i 0) 48 (omega arith), lt-ltb _ _ u)

pub returns-then-not-is_ascii_digit : goal.returns-then-not-is_ascii_digit
returns-then-not-is_ascii_digit c =
    let l = c.loop-c in
    sym (other-at c.args.text.now l.c-index l.value (omega arith) c.if-not-is_ascii_digit.ensures.cases) ∙ l.invariant.1

-- fewer than 19 digits came before, so one more fits
pub overflow_mul-value : goal.overflow_mul-value
overflow_mul-value c = omega (arith, ten_le {i = c.loop-c.c-index} {j = 18} (omega arith))

pub overflow_add-value : goal.overflow_add-value
overflow_add-value c =
    let d = c.if-not-is_ascii_digit.ensures.cases in
    omega (arith, ten_le {i = c.loop-c.c-index} {j = 18} (omega arith))

pub loop-c-preserved : goal.loop-c-preserved
loop-c-preserved c =
    let l = c.loop-c in
    let d = c.if-not-is_ascii_digit.ensures.cases in
    let e = digit-at c.args.text.now l.c-index l.value (omega arith) d.0 d.1 in
    (rw add-one (omega arith), rw c.from.ensures (sym e ∙ l.invariant.1))

pub returns : goal.returns
unfolding digits_of
returns c =
    let l = c.loop-c in
    sym (ap (digits_of l.value) (drop-end c.args.text.now l.c-index (omega arith))) ∙ l.invariant.1
