-- Whole groups and a last group after them: what the two are together, and their bytes.
use Prim.Native.Nat.{ℕ, suc, ◌+◌, ◌-◌, ◌*◌, ◌/◌, ◌%◌}
use mathlib.Core.Path.{◌≡◌, refl, sym, ◌∙◌, ap}
use mathlib.Core.Bool.{Bool, true, false, cond}
use mathlib.Core.List.{List, [], ◌∷◌, ◌++◌}
use native.Mathlib.Omega.{arith}
use lib.ListN.{length, length-append}
use lib.Seq.{sets}
use lib.Dec.{eqb}
use borrow.Author.Tests.{ne_eqb, eqb-true}
use Rattle.octets.proofs.Stores.{sets-append}
use Rattle.base64_codec.specs.Alphabet.{pad, value_of}
use Rattle.base64_codec.specs.Decode.{unused, ending, scan, verdict_of, byte1, byte2, byte3, group, bytes_of}
use Rattle.base64_codec.specs.Padding.{joined_verdict}
use Rattle.base64_codec.specs.declared.Fault.{Fault}
use Rattle.std.specs.Prelude.{Result, Ok, Err}
use Rattle.base64_codec.proofs.Lengths.{length_valid}

-- ---- the verdict
-- padding before more characters is at fault, and its unused bits are not looked at
unused-fault : (bits n : ℕ) (v : Result ℕ Fault) → joined_verdict (unused bits (suc n)) v ≡ Err Fault.Length
unused-fault bits n v = by (eqb bits 0)
  where
    by : (x : Bool) → joined_verdict (cond x (Ok (suc n)) (Err Fault.UnusedBits)) v ≡ Err Fault.Length
    by true = rw (ne_eqb (suc n) 0 (λ z. omega arith))
    by false = refl

ending_fault : (p : ℕ) (r : List ℕ) (v : Result ℕ Fault) → joined_verdict (ending p r) v ≡ Err Fault.Length
unfolding ending
ending_fault p [] v = unused-fault (p % 4) 0 v
ending_fault p (x ∷ []) v = by (eqb x pad)
  where
    by : (y : Bool) → joined_verdict (cond y (unused (p % 16) 2) (Err Fault.Length)) v ≡ Err Fault.Length
    by true = unused-fault (p % 16) 1 v
    by false = refl
ending_fault p (x ∷ y ∷ r) v = refl

module _ (a b c d : ℕ) where
  abbrev last : List ℕ
  last = a ∷ b ∷ c ∷ d ∷ []

  ending-long : (p : ℕ) (r : List ℕ) → ending p (r ++ last) ≡ Err Fault.Length
  unfolding ending
  ending-long p [] = refl
  ending-long p (x ∷ []) = refl
  ending-long p (x ∷ y ∷ r) = refl

  scan_halves : (p : ℕ) (h : List ℕ) → scan p (h ++ last) ≡ joined_verdict (scan p h) (scan 0 last)
  unfolding scan ending
  scan_halves p [] = refl
  scan_halves p (x ∷ h) = by (eqb (value_of x) 64) (eqb x pad) (scan_halves (value_of x) h)
    where
      by : (y z : Bool) → scan (value_of x) (h ++ last) ≡ joined_verdict (scan (value_of x) h) (scan 0 last)
          → cond y (cond z (ending p (h ++ last)) (Err Fault.Character)) (scan (value_of x) (h ++ last))
          ≡ joined_verdict (cond y (cond z (ending p h) (Err Fault.Character)) (scan (value_of x) h)) (scan 0 last)
      by true true ih = ending-long p h ∙ sym (ending_fault p h (scan 0 last))
      by true false ih = refl
      by false z ih = ih

  verdict_halves : (h : List ℕ) → length h % 4 ≡ 0 → verdict_of (h ++ last) ≡ joined_verdict (verdict_of h) (verdict_of last)
  unfolding verdict_of
  verdict_halves h e =
      let n : length (h ++ last) % 4 ≡ 0 = omega (arith, length-append h last) in
      rw (n, e) (scan_halves 0 h)

-- the same of any list of four
pub verdict-joined : (h g : List ℕ) → length h % 4 ≡ 0 → length g ≡ 4 → verdict_of (h ++ g) ≡ joined_verdict (verdict_of h) (verdict_of g)
verdict-joined h [] e n = absurd (omega arith)
verdict-joined h (a ∷ []) e n = absurd (omega arith)
verdict-joined h (a ∷ b ∷ []) e n = absurd (omega arith)
verdict-joined h (a ∷ b ∷ c ∷ []) e n = absurd (omega arith)
verdict-joined h (a ∷ b ∷ c ∷ d ∷ []) e n = verdict_halves a b c d h e
verdict-joined h (a ∷ b ∷ c ∷ d ∷ x ∷ g) e n = absurd (omega arith)

-- where they are valid together, each is, and the first has no padding
pub both_valid : (v w : Result ℕ Fault) (k : ℕ) → joined_verdict v w ≡ Ok k → (v ≡ Ok 0) × (w ≡ Ok k)
both_valid (Ok n) w k e = by (eqb n 0) refl e
  where
    by : (x : Bool) → eqb n 0 ≡ x → cond x w (Err Fault.Length) ≡ Ok k → (◌≡◌ {A = Result ℕ Fault} (Ok n) (Ok 0)) × (w ≡ Ok k)
    by true q e' = (ap Ok (eqb-true n 0 q), e')
    by false q e' = let z : ◌≡◌ {A = ℕ} 0 1 = cc in absurd (omega arith)
both_valid (Err Fault.Length) w k e = let z : ◌≡◌ {A = ℕ} 0 1 = cc in absurd (omega arith)
both_valid (Err Fault.Character) w k e = let z : ◌≡◌ {A = ℕ} 0 1 = cc in absurd (omega arith)
both_valid (Err Fault.UnusedBits) w k e = let z : ◌≡◌ {A = ℕ} 0 1 = cc in absurd (omega arith)

-- ---- the bytes
group-append : (a b c d : ℕ) (r s : List ℕ) → group a b c d (r ++ s) ≡ group a b c d r ++ s
unfolding group
group-append a b c d r s = by (eqb c pad) (eqb d pad)
  where
    by : (x y : Bool)
        → byte1 (value_of a) (value_of b)
        ∷ cond x (r ++ s) (byte2 (value_of b) (value_of c) ∷ cond y (r ++ s) (byte3 (value_of c) (value_of d) ∷ (r ++ s)))
        ≡ (byte1 (value_of a) (value_of b)
        ∷ cond x r (byte2 (value_of b) (value_of c) ∷ cond y r (byte3 (value_of c) (value_of d) ∷ r))) ++ s
    by true y = refl
    by false true = refl
    by false false = refl

pub bytes_halves : (h g : List ℕ) → length h % 4 ≡ 0 → bytes_of (h ++ g) ≡ bytes_of h ++ bytes_of g
unfolding bytes_of
bytes_halves [] g e = refl
bytes_halves (a ∷ []) g e = absurd (omega arith)
bytes_halves (a ∷ b ∷ []) g e = absurd (omega arith)
bytes_halves (a ∷ b ∷ c ∷ []) g e = absurd (omega arith)
bytes_halves (a ∷ b ∷ c ∷ d ∷ h) g e = rw (bytes_halves h g (omega arith)) (group-append a b c d (bytes_of h) (bytes_of g))

-- how many they are, and that they are stored one after the other
module _ (h g : List ℕ) (e : length h % 4 ≡ 0) (n : length g ≡ 4) (k : ℕ) (vh : verdict_of h ≡ Ok 0) (vg : verdict_of g ≡ Ok k) where
  pub size-first : length (bytes_of h) ≡ length h / 4 * 3
  size-first = omega (arith, (length_valid h 0 vh).1)

  pub size-last : length (bytes_of g) + k ≡ 3
  size-last = omega (arith, (length_valid g k vg).1)

  pub size-both : length (bytes_of (h ++ g)) ≡ (length h / 4 * 3 + 3) - k
  size-both = rw (bytes_halves h g e, length-append (bytes_of h) (bytes_of g)) (omega (arith, size-first, size-last))

  pub sets-both : (out : List ℕ) (at : ℕ)
      → sets (sets out at (bytes_of h)) (at + length h / 4 * 3) (bytes_of g) ≡ sets out at (bytes_of (h ++ g))
  sets-both out at = rw (← size-first, bytes_halves h g e) (sets-append (bytes_of h) (bytes_of g) out at)
