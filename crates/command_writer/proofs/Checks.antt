-- Fields checked one after another, and what an answer tells of the check.
use Prim.Native.Nat.{ℕ}
use mathlib.Core.Path.{◌≡◌, refl}
use mathlib.Core.List.{List}
use native.Mathlib.Omega.{arith}
use Rattle.std.specs.Prelude.{Ok, Err}
use Rattle.command.specs.Values.{Shown}
use Rattle.command.specs.Refusals.{refusal_number}
use Rattle.command.specs.Write.{Checked, before}
use Rattle.command.specs.declared.Refusal.{Refusal}
use Rattle.command_writer.specs.Stores.{Put, PutOr}

-- a check after another
abbrev pub and_then : Checked → Checked → Checked
and_then Checked.fine c = c
and_then (Checked.fault n) c = Checked.fault n

pub before-is : (s : Shown) (c : Checked) → before s c ≡ and_then (before s Checked.fine) c
before-is Shown.left_out c = refl
before-is (Shown.text v) c = refl
before-is (Shown.refused n) c = refl

pub both-fine : (a c : Checked) → and_then a c ≡ Checked.fine → (a ≡ Checked.fine) × (c ≡ Checked.fine)
both-fine Checked.fine c e = (refl, e)
both-fine (Checked.fault n) c e = let z : ◌≡◌ {A = ℕ} 0 1 = cc in absurd (omega arith)

-- an answer tells what is at fault
pub put-fine : (c : Checked) (t out after : List ℕ) (at end : ℕ) → PutOr c t out at (Ok tt) end after
    → (c ≡ Checked.fine) × Put t out at end after
put-fine Checked.fine t out after at end p = (refl, p.1)
put-fine (Checked.fault n) t out after at end q = let z : ◌≡◌ {A = ℕ} 0 1 = cc in absurd (omega arith)

pub put-fault : (c : Checked) (t out after : List ℕ) (at end : ℕ) (r : Refusal) → PutOr c t out at (Err r) end after
    → c ≡ Checked.fault (refusal_number r)
put-fault Checked.fine t out after at end r p = let e = p.0 in let z : ◌≡◌ {A = ℕ} 0 1 = cc in absurd (omega arith)
put-fault (Checked.fault n) t out after at end r q = cc

-- of a draft that was refused, where it ends says nothing
pub any-end : (c : Checked) (t out after : List ℕ) (at end e : ℕ) (r : Refusal) → PutOr c t out at (Err r) end after
    → PutOr c t out at (Err r) e after
any-end Checked.fine t out after at end e r p = let q = p.0 in let z : ◌≡◌ {A = ℕ} 0 1 = cc in absurd (omega arith)
any-end (Checked.fault n) t out after at end e r q = q

-- what is fine is at no fault
pub no-fault : {A : Type 0} (c : Checked) (n : ℕ) → c ≡ Checked.fine → c ≡ Checked.fault n → A
no-fault c n e q = let z : ◌≡◌ {A = ℕ} 0 1 = cc in absurd (omega arith)
