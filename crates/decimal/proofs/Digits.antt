-- The last w digits of a number: stored, and read again.
use Prim.Native.Nat.{ℕ, zero, suc, ◌+◌, ◌-◌, ◌*◌, ◌/◌, ◌%◌, ◌^◌, ◌≤◌, ◌<◌}
use mathlib.Core.Path.{◌≡◌, refl, sym, ◌∙◌, ap}
use mathlib.Core.Bool.{Bool, true, false}
use mathlib.Core.List.{List, [], ◌∷◌, ◌++◌}
use native.Mathlib.Omega.{arith}
use native.Mathlib.Nat.{div-div-eq-div-mul, pow-suc, pow-succ', mod-lt}
use native.Mathlib.Numerals.{sub-one}
use lib.ListN.{length, set}
use lib.Seq.{sets}
use lib.Arith.{mod-mul}
use lib.Dec.{ltb, lit<}
use borrow.Author.Tests.{le-ltb, ltb-false}
use Rattle.std.specs.Prelude.{Some}
use Rattle.octets.proofs.Stores.{sets_last}
use Rattle.decimal.specs.Read.{digits_of}
use Rattle.decimal.specs.Write.{fixed}
use Rattle.decimal.specs.Claims.{FixedReads, ReadsFixed}
use Rattle.decimal.proofs.Powers.{ten_pos}

pub length-fixed : (w n : ℕ) → length (fixed w n) ≡ w
unfolding fixed
length-fixed zero n = refl
length-fixed (suc w) n = ap suc (length-fixed w n)

-- ---- stored
-- the last digit is the remainder, the others are those of the quotient
fixed-last : (w n : ℕ) → fixed (suc w) n ≡ fixed w (n / 10) ++ ((n % 10 + 48) ∷ [])
unfolding fixed
fixed-last zero n = ap (λ (d : ℕ). (d % 10 + 48) ∷ []) (omega arith)
fixed-last (suc w) n = rw (pow-succ' 10 w, ← (div-div-eq-div-mul n 10 (10 ^ w)), fixed-last w n)

-- so the last one may be stored first
pub store-last : (l : List ℕ) (i w n : ℕ) → 0 < w
    → sets (set l (i + (w - 1)) (n % 10 + 48)) i (fixed (w - 1) (n / 10)) ≡ sets l i (fixed w n)
store-last l i zero n h = absurd (omega arith)
store-last l i (suc w) n h =
    rw sub-one (ap (λ (k : ℕ). sets (set l (i + k) (n % 10 + 48)) i (fixed w (n / 10))) (sym (length-fixed w (n / 10)))
    ∙ sets_last (fixed w (n / 10)) l i (n % 10 + 48) ∙ ap (sets l i) (sym (fixed-last w n)))

-- ---- read
digits_cons : (a d : ℕ) (r : List ℕ) → d < 10 → digits_of a ((d + 48) ∷ r) ≡ digits_of (a * 10 + d) r
unfolding digits_of
digits_cons a d r h =
    rw (le-ltb (d + 48) 48 (omega arith), le-ltb 57 (d + 48) (omega arith)) (ap (λ (k : ℕ). digits_of (a * 10 + k) r) (omega arith))

pub read-fixed : FixedReads
unfolding fixed
read-fixed zero a n = unfold digits_of in ap Some (omega arith)
read-fixed (suc w) a n =
    digits_cons a (n / 10 ^ w % 10) (fixed w n) (mod-lt _ (lit< tt))
    ∙ read-fixed w (a * 10 + n / 10 ^ w % 10) n
    ∙ ap Some (rw (pow-succ' 10 w, mod-mul n {m = 10} {c = 10 ^ w} (lit< tt) (ten_pos w)) (omega arith))

-- what reads begins with a digit, and the others read after it
pub digits-first : (a c : ℕ) (r : List ℕ) (m : ℕ) → digits_of a (c ∷ r) ≡ Some m
    → (48 ≤ c) × (c ≤ 57) × (digits_of (a * 10 + (c - 48)) r ≡ Some m)
unfolding digits_of
digits-first a c r m e = go (ltb c 48) refl (ltb 57 c) refl
  where
    go : (x : Bool) → ltb c 48 ≡ x → (y : Bool) → ltb 57 c ≡ y → (48 ≤ c) × (c ≤ 57) × (digits_of (a * 10 + (c - 48)) r ≡ Some m)
    go true ex y ey = let z : ◌≡◌ {A = ℕ} 0 1 = cc (simp ex at e) in absurd (omega arith)
    go false ex true ey = let z : ◌≡◌ {A = ℕ} 0 1 = cc (simp (ex, ey) at e) in absurd (omega arith)
    go false ex false ey = (ltb-false _ _ ex, ltb-false _ _ ey, simp (ex, ey) at e)

pub fixed-read : ReadsFixed
unfolding fixed
fixed-read [] a m e = unfold digits_of in (let q : a ≡ m = cc in omega arith, refl)
fixed-read (c ∷ r) a m e =
    let d = digits-first a c r m e in
    let h = fixed-read r (a * 10 + (c - 48)) m d.2 in (
      rw (pow-suc 10 (length r), ← (div-div-eq-div-mul m (10 ^ length r) 10), h.0) (omega arith),
      rw (h.0, h.1) (ap (λ (x : ℕ). x ∷ r) (omega arith)),
    )
