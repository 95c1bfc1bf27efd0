use Rattle.std.proofs.Common.{ℕ, ◌≡◌, ◌<◌, ◌≤◌, Bool, true, false, List, Err, length, sym, ◌∙◌}
use borrow.Author.Tests.{lt-ltb, le-ltb}
use lib.Dec.{eqb}
use Rattle.decimal.specs.Limits.{most_digits}
use Rattle.decimal.specs.Read.{digits_of, digits_ranged, magnitude_of}
use Rattle.decimal.specs.declared.ParseError.TheVariants.{Malformed}
use Rattle.decimal.proofs.reader.magnitude.Goals as goal
use Rattle.decimal.proofs.reader.magnitude.Goals.{then-is_empty-via-then-is_empty, then-is_empty-via-else-is_empty+then-text-gt-DIGITS}

module _ (s : Bool) (t : List ℕ) where
  none-is : eqb (length t) 0 ≡ true → magnitude_of s t ≡ Err Malformed
  unfolding magnitude_of
  none-is e = rw e

  many-are : eqb (length t) 0 ≡ false → most_digits < length t → magnitude_of s t ≡ Err Malformed
  unfolding magnitude_of
  many-are e h = rw (e, lt-ltb _ _ h)

  few-are : eqb (length t) 0 ≡ false → length t ≤ most_digits → magnitude_of s t ≡ digits_ranged s (digits_of 0 t)
  unfolding magnitude_of
  few-are e h = rw (e, le-ltb _ _ h)

pub returns-then-is_empty : goal.returns-then-is_empty
returns-then-is_empty c =
    elim c.then-is_empty.branch [
      | then-is_empty-via-then-is_empty w ↦ sym (none-is _ _ (sym c.is_empty.ensures ∙ w.if-is_empty.true))
      | then-is_empty-via-else-is_empty+then-text-gt-DIGITS w ↦
          sym (many-are _ _ (sym c.is_empty.ensures ∙ w.if-is_empty.false) w.if-text-gt-DIGITS.true)
    ]

pub returns-in-Some : goal.returns-in-Some
returns-in-Some c =
    let e = few-are c.args.negative c.args.text.now (sym c.is_empty.ensures ∙ c.if-is_empty.false) c.if-text-gt-DIGITS.false in
    rw (c.ranged.ensures, e, ← c.digits.ensures, c.in-Some.is)

pub returns-in-None : goal.returns-in-None
returns-in-None c =
    let e = few-are c.args.negative c.args.text.now (sym c.is_empty.ensures ∙ c.if-is_empty.false) c.if-text-gt-DIGITS.false in
    rw (e, ← c.digits.ensures, c.in-None.is)
