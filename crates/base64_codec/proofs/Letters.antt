-- The alphabet: each value below 64 has a character with that value, and each character is the one of its value.
use Prim.Native.Nat.{ℕ, ◌<◌, ◌≤◌}
use mathlib.Core.Path.{◌≡◌, refl, ap}
use mathlib.Core.Bool.{Bool, true, false, cond, ◌&&◌}
use native.Mathlib.Omega.{arith}
use lib.Dec.{ltb, eqb}
use borrow.Author.Tests.{ltb-true, ltb-false, eqb-true, ne_eqb, le-leb, lt-leb}
use Rattle.octets.proofs.Below.{both_test, at}
use Rattle.base64_codec.specs.Alphabet.{pad, value_of, letter_of}

-- a character of the alphabet
abbrev pub Letter : ℕ → Type 0
Letter c = value_of c < 64

-- ---- from a value to its character and back
value-tested : ℕ → Bool
value-tested v = eqb (value_of (letter_of v)) v

pub value-letter : (v : ℕ) → v < 64 → value_of (letter_of v) ≡ v
unfolding value-tested value_of letter_of
value-letter v h = eqb-true (value_of (letter_of v)) v (at 64 value-tested refl v h)

pub letter-of : (v : ℕ) → v < 64 → Letter (letter_of v)
letter-of v h = rw (value-letter v h) h

-- ---- from a character to its value and back
letter-tested : ℕ → Bool
letter-tested c = cond (eqb (value_of c) 64) true (ltb (value_of c) 64 && eqb (letter_of (value_of c)) c)

-- past `z` there is none
value-past : (c : ℕ) → 123 ≤ c → value_of c ≡ 64
unfolding value_of
value-past c h =
    rw (
      le-leb 65 c (omega arith),
      lt-leb c 90 (omega arith),
      le-leb 97 c (omega arith),
      lt-leb c 122 h,
      le-leb 48 c (omega arith),
      lt-leb c 57 (omega arith),
      ne_eqb c 43 (λ e. omega arith),
      ne_eqb c 47 (λ e. omega arith),
    )

tested : (c : ℕ) → (value_of c ≡ 64 → ⊥) → (Letter c) × (letter_of (value_of c) ≡ c)
tested c n = go (ltb c 123) refl
  where
    go : (b : Bool) → ltb c 123 ≡ b → (Letter c) × (letter_of (value_of c) ≡ c)
    go true e =
        let t : (ltb (value_of c) 64 && eqb (letter_of (value_of c)) c) ≡ true = unfold letter-tested in
        rw (ne_eqb _ _ n) at (at 123 letter-tested (unfold value_of letter_of in refl) c (ltb-true c 123 e)) in
        let b = both_test _ _ t in
        (ltb-true _ _ b.0, eqb-true _ _ b.1)
    go false e = absurd (n (value-past c (ltb-false c 123 e)))

pub is-letter : (c : ℕ) → (value_of c ≡ 64 → ⊥) → Letter c
is-letter c n = (tested c n).0

pub letter-value : (c : ℕ) → Letter c → letter_of (value_of c) ≡ c
letter-value c h = (tested c (λ e. omega arith)).1

-- `=` is none of them
pub value-pad : value_of pad ≡ 64
unfolding value_of
value-pad = refl

pub not-pad : (c : ℕ) → Letter c → eqb c pad ≡ false
not-pad c h = ne_eqb c pad (λ e. omega (arith, ap value_of e, value-pad))
