-- The text of a number: its length, its bytes, and that it is canonical.
use Prim.Native.Nat.{ℕ, zero, suc, ◌+◌, ◌/◌, ◌%◌, ◌^◌, ◌≤◌, ◌<◌}
use mathlib.Core.Path.{◌≡◌, refl}
use mathlib.Core.Bool.{Bool, true, false, ◌&&◌}
use mathlib.Core.List.{List, [], ◌∷◌}
use mathlib.Core.Logic.{◌⊎◌, inl, inr, ⊎_elim}
use native.Mathlib.Omega.{arith}
use native.Mathlib.Nat.{div-lt_iff_lt-mul, le-div_iff_mul-le}
use lib.ListN.{length}
use lib.Dec.{eqb}
use borrow.Author.Tests.{eqb-false}
use Rattle.decimal.specs.Limits.{minus, limit}
use Rattle.decimal.specs.Write.{fixed, width_from, width_of, signed_text, text_of, writable}
use Rattle.decimal.specs.Canonical.{Canonical}
use Rattle.decimal.specs.Canonical as C
use Rattle.decimal.specs.declared.Number.{Number}
use Rattle.decimal.proofs.Powers.{ten_pos}
use Rattle.decimal.proofs.Widths.{width-least, width_top}
use Rattle.decimal.proofs.Digits.{length-fixed}
use Rattle.decimal.proofs.Writes.{limit_lt, writable-is}

-- ---- its length
signed-length : (s : Bool) (ds : List ℕ) → (length ds ≤ length (signed_text s ds)) × (length (signed_text s ds) ≤ suc (length ds))
signed-length true ds = (omega arith, omega arith)
signed-length false ds = (omega arith, omega arith)

-- 1 to 21 bytes
pub text-length : (n : Number) → (1 ≤ length (text_of n)) × (length (text_of n) ≤ 21)
unfolding text_of
text-length n =
    let w = width-least n.magnitude in
    let l = length-fixed (width_of n.magnitude) n.magnitude in
    let s = signed-length n.negative (fixed (width_of n.magnitude) n.magnitude) in
    (omega arith, omega arith)

-- ---- its bytes
-- each byte has the property
abbrev pub Each : (ℕ → Type 0) → List ℕ → Type 0
Each P [] = Unit {0}
Each P (c ∷ r) = P c × Each P r

pub each_map : {P Q : ℕ → Type 0} → ((c : ℕ) → P c → Q c) → (t : List ℕ) → Each P t → Each Q t
each_map f [] h = tt
each_map f (c ∷ r) h = (f c h.0, each_map f r h.1)

-- a digit or `-`
abbrev pub Numeral : ℕ → Type 0
Numeral c = (c ≡ minus) ⊎ ((48 ≤ c) × (c ≤ 57))

fixed-bytes : (w n : ℕ) → Each Numeral (fixed w n)
unfolding fixed
fixed-bytes zero n = tt
fixed-bytes (suc w) n = (inr (omega arith, omega arith), fixed-bytes w n)

signed-bytes : (s : Bool) (ds : List ℕ) → Each Numeral ds → Each Numeral (signed_text s ds)
signed-bytes true ds h = (inl refl, h)
signed-bytes false ds h = h

pub text-bytes : (n : Number) → Each Numeral (text_of n)
unfolding text_of
text-bytes n = signed-bytes n.negative _ (fixed-bytes (width_of n.magnitude) n.magnitude)

-- so each lies from `-` to `9`
pub text-between : (n : Number) → Each (λ c. (45 ≤ c) × (c ≤ 57)) (text_of n)
text-between n = each_map (λ c. ⊎_elim (λ e. (omega arith, omega arith)) (λ h. (omega arith, omega arith))) (text_of n) (text-bytes n)

-- ---- it is canonical
-- the first of a number's digits
first-digit : (k n : ℕ) → 10 ^ k ≤ n → n < 10 ^ suc k → (49 ≤ n / 10 ^ k % 10 + 48) × (n / 10 ^ k % 10 + 48 ≤ 57)
first-digit k n l u =
    let a = (le-div_iff_mul-le {x = 1} {y = n} (ten_pos k)).1 (omega arith) in
    let b = (div-lt_iff_lt-mul {x = n} {y = 10} (ten_pos k)).1 (omega arith) in
    (omega arith, omega arith)

canonical-digits : (s : Bool) (c : ℕ) (r : List ℕ) → 49 ≤ c → c ≤ 57 → Canonical (signed_text s (c ∷ r))
canonical-digits true c r l u = C.negative l u
canonical-digits false c r l u = C.positive l u

canonical-fixed : (s : Bool) (n : ℕ) → 1 ≤ n → n ≤ limit s → Canonical (signed_text s (fixed (width_of n) n))
canonical-fixed s n h b = go (width_of n) refl
  where
    go : (w : ℕ) → width_of n ≡ w → Canonical (signed_text s (fixed w n))
    go zero e = absurd (omega (arith, (width-least n).first))
    go (suc k) e =
        let d = first-digit k n (width_top k n e h) (rw e at ((width-least n).holds (omega (arith, limit_lt s)))) in
        unfold fixed in canonical-digits s _ (fixed k n) d.0 d.1

canonical-signed : (s : Bool) (n : ℕ) → (s && eqb n 0) ≡ false → n ≤ limit s → Canonical (signed_text s (fixed (width_of n) n))
canonical-signed true n z h = canonical-fixed true n (omega (arith, eqb-false n 0 z)) h
canonical-signed false zero z h = unfold fixed width_from in C.zero
canonical-signed false (suc k) z h = canonical-fixed false (suc k) (omega arith) h

-- each number that `write` takes has a canonical text
pub canonical-text : (n : Number) → writable n ≡ true → Canonical (text_of n)
unfolding text_of
canonical-text n e = let h = writable-is n e in canonical-signed n.negative n.magnitude h.0 h.1
