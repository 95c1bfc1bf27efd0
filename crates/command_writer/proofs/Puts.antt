-- Strings put: none, one, and one after another.
use Prim.Native.Nat.{ℕ, ◌+◌}
use mathlib.Core.Path.{◌≡◌, refl, ◌∙◌, ap}
use mathlib.Core.Bool.{Bool, true, false, cond}
use mathlib.Core.List.{List, [], ◌++◌}
use native.Mathlib.Omega.{arith}
use lib.ListN.{length, length-append}
use lib.Seq.{sets, length-sets}
use lib.Dec.{leb, eqb}
use borrow.Author.Tests.{le-leb, leb-false}
use Rattle.std.specs.Prelude.{Result, Ok, Err}
use Rattle.octets.specs.Outcome.{outcome, stored_at}
use Rattle.octets.proofs.Stores.{sets-append}
use Rattle.command.specs.Values.{Shown, unshown, integer_shown}
use Rattle.command.specs.Write.{Checked, before}
use Rattle.command.specs.declared.Refusal.{Refusal}
use Rattle.decimal.specs.Write.{text_of, negative_zero, out_of_range, write_of}
use Rattle.decimal.specs.declared.Number.{Number}
use Rattle.decimal.specs.declared.WriteError.{WriteError}
use Rattle.decimal.specs.declared.WriteError.TheVariants.{NegativeZero, OutOfRange, NoRoom}
use Rattle.command_writer.specs.Stores.{spare, Put, PutOr}

pub put-none : (out : List ℕ) (at : ℕ) → Put [] out at at out
put-none out at = record { ends = omega arith; stores = λ h k. refl }

-- one that another crate stored, if it fits
pub put-stored : {A : Type 0} {a : A} {after : List ℕ} (done no_room : A) (t out : List ℕ) (at end : ℕ)
    → outcome a after ≡ stored_at done no_room t out at → spare end ≡ spare (at + length t) → Put t out at end after
put-stored done no_room t out at end e s =
    record { ends = s; stores = λ h k. ap (λ o. o.buffer) (rw (le-leb (at + length t) (length out) k) at e) }

-- one after another is the two at once
pub put_then : {x y l m n : List ℕ} {o p q : ℕ} → Put x l o p m → Put y m p q n → Put (x ++ y) l o q n
put_then {x} {y} {l} {m} {n} {o} {p} {q} f g =
    let s = length-append x y in
    record {
      ends = omega (arith, f.ends, g.ends);
      stores = λ h k.
          (let e : m ≡ sets l o x = f.stores (omega arith) (omega arith) in
          let i : p ≡ o + length x = omega (arith, f.ends) in
          let z : length m ≡ length l = ap length e ∙ simp length-sets in
          g.stores (omega arith) (omega arith) ∙ rw (e, i) (sets-append x y l o));
    }

-- ---- a number
-- what is answered, and its end, as it was stored or else as it was counted
abbrev pub number_told : Result ℕ WriteError → Result (Unit {0}) Refusal
number_told (Ok at) = Ok tt
number_told (Err NegativeZero) = Err Refusal.MalformedInteger
number_told (Err OutOfRange) = Err Refusal.OutOfRange
number_told (Err NoRoom) = Ok tt

abbrev pub end_told : Result ℕ WriteError → ℕ → ℕ
end_told (Ok at) end = at
end_told (Err e) end = end

pub put-number : (n : Number) (out after : List ℕ) (at end : ℕ) (w : Result ℕ WriteError) → outcome w after ≡ write_of n out at
    → spare end ≡ spare (at + length (text_of n))
    → PutOr (before (integer_shown n) Checked.fine) (text_of n) out at (number_told w) (end_told w end) after
unfolding write_of integer_shown
put-number n out after at end w e s =
    go (negative_zero n) (out_of_range n) (eqb n.magnitude 0) (leb (at + length (text_of n)) (length out)) refl e
  where
    -- left out or not, it is not refused
    fine : (y : Bool) → before (cond y Shown.left_out (Shown.text (text_of n))) Checked.fine ≡ Checked.fine
    fine true = refl
    fine false = refl

    go : (z x y f : Bool) → leb (at + length (text_of n)) (length out) ≡ f
        → outcome w after ≡ cond z (outcome (Err NegativeZero) out) (cond x (outcome (Err OutOfRange) out)
        (cond f (outcome (Ok (at + length (text_of n))) (sets out at (text_of n))) (outcome (Err NoRoom) out)))
        → PutOr (before (cond z (unshown Refusal.MalformedInteger) (cond x (unshown Refusal.OutOfRange)
        (cond y Shown.left_out (Shown.text (text_of n))))) Checked.fine) (text_of n) out at (number_told w) (end_told w end) after
    go true x y f ef q = rw (ap (λ o. o.answer) q)
    go false true y f ef q = rw (ap (λ o. o.answer) q)
    go false false y true ef q = rw (fine y, ap (λ o. o.answer) q) (refl, record { ends = refl; stores = λ h k. ap (λ o. o.buffer) q })
    go false false y false ef q =
        let over = leb-false (at + length (text_of n)) (length out) ef in
        rw (fine y, ap (λ o. o.answer) q) (refl, record { ends = s; stores = λ h k. absurd (omega (arith, over)) })
