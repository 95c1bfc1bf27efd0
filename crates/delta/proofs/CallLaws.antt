-- What a walk tells, as the calls answer it.
use Prim.Native.Nat.{ℕ, ◌≤◌, ◌<◌}
use mathlib.Core.Path.{◌≡◌, refl, ap, ◌∙◌}
use mathlib.Core.Bool.{Bool, true, false, cond, ◌||◌}
use mathlib.Core.List.{List}
use native.Mathlib.Omega.{arith}
use lib.ListN.{length}
use lib.Dec.{ltb}
use borrow.Author.Tests.{le-ltb, ltb-false}
use Rattle.octets.specs.Outcome.{outcome}
use Rattle.delta.specs.Read.{measured, limit, signature_of}
use Rattle.delta.specs.Patch.{NewFile}
use Rattle.delta.specs.Walk.{Makes, limited_to, answer_of}
use Rattle.delta.specs.Calls.{Patched, inputs_of, limited, measured_in, stored_in}
use Rattle.delta.specs.declared.Refusal.{Refusal}
use Rattle.delta.specs.declared.Signature.{Signature}
use Rattle.delta.proofs.HeaderLaws.{signed-read}
use Rattle.std.specs.Prelude.{Option, None, Result, Ok, Err}
use Rattle.delta.specs.declared.Span.{Span}
use Rattle.delta.specs.declared.Measured.{Measured}

-- ---- measuring
abbrev pub length_in : Result Measured Refusal → ℕ
length_in (Ok m) = m.length
length_in (Err why) = 0

abbrev pub hash_in : Result Measured Refusal → Option Span
hash_in (Ok m) = m.checksum
hash_in (Err why) = None

pub answered : (r : NewFile) (w : Result Measured Refusal) (a b : List ℕ) → Makes r a w b → answer_of w ≡ measured_in (limited r)
unfolding limited_to
answered NewFile.damaged w a b m = ap answer_of m
answered (NewFile.made bs h) w a b m = ap answer_of m.0 ∙ by (ltb limit (length bs))
  where
    by : (u : Bool)
        → cond u (Err Refusal.NoRoom) (Ok (measured (length bs) h))
        ≡ measured_in (cond u (Patched.refused Refusal.NoRoom) (Patched.patched bs h))
    by true = refl
    by false = refl

-- ---- storing
pub stored_made : (r : NewFile) (w : Result Measured Refusal) (out after : List ℕ) {m : Measured} → Ok m ≡ measured_in (limited r)
    → m.length ≤ length out → Makes r out w after → outcome w after ≡ stored_in (limited r) out
stored_made NewFile.damaged w out after e l h = let z : ◌≡◌ {A = ℕ} 0 1 = cc in absurd (omega arith)
stored_made (NewFile.made bs k) w out after {m} e l h = by (ltb limit (length bs)) e
  where
    by : (u : Bool) → let p = cond u (Patched.refused Refusal.NoRoom) (Patched.patched bs k) in
        Ok m ≡ measured_in p → outcome w after ≡ stored_in p out
    by true q = let z : ◌≡◌ {A = ℕ} 0 1 = cc in absurd (omega arith)
    by false q =
        let s : length bs ≡ m.length = cc in
        let f : length bs ≤ length out = omega arith in
        rw (h.0, le-ltb (length out) (length bs) f, h.1 f)

-- ---- inputs that were taken
pub inputs-signed : (s old d : List ℕ) {g : Signature} → inputs_of s old d ≡ Ok g → signature_of s ≡ Ok g
unfolding inputs_of
inputs-signed s old d {g} e = by (ltb limit (length old) || ltb limit (length d)) e
  where
    by : (u : Bool) → cond u (Err Refusal.TooLong) (signature_of s) ≡ Ok g → signature_of s ≡ Ok g
    by true e = let z : ◌≡◌ {A = ℕ} 0 1 = cc in absurd (omega arith)
    by false e = e

pub inputs_read : (s old d : List ℕ) {g : Signature} → inputs_of s old d ≡ Ok g
    → (0 < g.block_size) × (length old ≤ limit) × (length d ≤ limit)
unfolding inputs_of
inputs_read s old d {g} e = by (ltb limit (length old)) refl (ltb limit (length d)) refl e
  where
    by : (u : Bool) → ltb limit (length old) ≡ u → (v : Bool) → ltb limit (length d) ≡ v
        → cond (u || v) (Err Refusal.TooLong) (signature_of s) ≡ Ok g
        → (0 < g.block_size) × (length old ≤ limit) × (length d ≤ limit)
    by true p v q e = let z : ◌≡◌ {A = ℕ} 0 1 = cc in absurd (omega arith)
    by false p true q e = let z : ◌≡◌ {A = ℕ} 0 1 = cc in absurd (omega arith)
    by false p false q e = ((signed-read s e).some, ltb-false limit (length old) p, ltb-false limit (length d) q)
