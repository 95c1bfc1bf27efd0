-- The definitions as the loops take them: what is left at a place, by the character or the group that stands there.
use Prim.Native.Nat.{ℕ, zero, suc, ◌+◌, ◌-◌, ◌≤◌, ◌<◌, ◌%◌}
use mathlib.Core.Path.{◌≡◌, refl, ◌∙◌, ap}
use mathlib.Core.Bool.{true, cond}
use mathlib.Core.List.{List, [], ◌∷◌, ◌++◌}
use native.Mathlib.Omega.{arith}
use native.Mathlib.Nat.{add-zero}
use lib.ListN.{length, get_or, take, drop}
use lib.Dec.{eqb}
use borrow.Author.Tests.{eq-eqb, ne_eqb, not-true}
use Rattle.octets.specs.Members.{every}
use Rattle.octets.proofs.Lists.{drop_at}
use Rattle.octets.proofs.Below.{both_test}
use Rattle.base64_codec.specs.Alphabet.{pad, value_of}
use Rattle.base64_codec.specs.Letters.{is_letter, value_before}
use Rattle.base64_codec.specs.Decode.{unused, ending, scan, byte1, byte2, byte3, group, bytes_of}
use Rattle.base64_codec.specs.Encode.{char1, char2, char3, char4, text_of}
use Rattle.base64_codec.specs.declared.Fault.TheVariants as Fault
use Rattle.std.specs.Prelude.{Err}

-- ---- the check, a character at a time
pub scan-at : (t : List ℕ) (i p : ℕ) → i < length t
    → scan p (drop i t)
    ≡ cond (eqb (value_of (get_or t i 0)) 64)
    (cond (eqb (get_or t i 0) pad) (ending p (drop (i + 1) t)) (Err Fault.Character))
    (scan (value_of (get_or t i 0)) (drop (i + 1) t))
unfolding scan
scan-at t i p h = rw (drop_at t i h)

-- n letters from place i on are passed
before-next : (t : List ℕ) (i : ℕ) → value_before t (i + 1) ≡ value_of (get_or t i 0)
before-next t i = let e : (i + 1) - 1 ≡ i = omega arith in rw (ne_eqb (i + 1) 0 (λ q. omega arith), e)

letter-past : (t : List ℕ) (i : ℕ) → i < length t → is_letter (get_or t i 0) ≡ true
    → scan (value_before t i) (drop i t) ≡ scan (value_before t (i + 1)) (drop (i + 1) t)
letter-past t i h e = scan-at t i (value_before t i) h ∙ rw (not-true (eqb (value_of (get_or t i 0)) 64) e, before-next t i)

pub letters-past : (n : ℕ) (t : List ℕ) (i : ℕ) → i + n ≤ length t → every is_letter (take n (drop i t)) ≡ true
    → scan (value_before t i) (drop i t) ≡ scan (value_before t (i + n)) (drop (i + n) t)
unfolding every
letters-past zero t i h e = rw add-zero
letters-past (suc n) t i h e =
    let h1 : i < length t = omega arith in
    let b = both_test (is_letter (get_or t i 0)) (every is_letter (take n (drop (i + 1) t))) (rw (drop_at t i h1) at e) in
    let s : (i + 1) + n ≡ i + suc n = omega arith in
    letter-past t i (omega arith) b.0 ∙ letters-past n t (i + 1) (omega arith) b.1 ∙ rw s

-- by what stands after the first `=`
pub ending-none : (p : ℕ) (r : List ℕ) → length r < 1 → ending p r ≡ unused (p % 4) 1
unfolding ending
ending-none p [] h = refl
ending-none p (c ∷ r) h = absurd (omega arith)

pub ending-one : (p : ℕ) (r : List ℕ) → 1 ≤ length r → length r < 2
    → ending p r ≡ cond (eqb (get_or r 0 0) pad) (unused (p % 16) 2) (Err Fault.Length)
unfolding ending
ending-one p [] h k = absurd (omega arith)
ending-one p (c ∷ []) h k = refl
ending-one p (c ∷ d ∷ r) h k = absurd (omega arith)

pub ending-more : (p : ℕ) (r : List ℕ) → 2 ≤ length r → ending p r ≡ Err Fault.Length
unfolding ending
ending-more p [] h = absurd (omega arith)
ending-more p (c ∷ []) h = absurd (omega arith)
ending-more p (c ∷ d ∷ r) h = refl

-- ---- groups
pub four-list : (g : List ℕ) → length g ≡ 4 → g ≡ get_or g 0 0 ∷ get_or g 1 0 ∷ get_or g 2 0 ∷ get_or g 3 0 ∷ []
four-list [] h = absurd (omega arith)
four-list (a ∷ []) h = absurd (omega arith)
four-list (a ∷ b ∷ []) h = absurd (omega arith)
four-list (a ∷ b ∷ c ∷ []) h = absurd (omega arith)
four-list (a ∷ b ∷ c ∷ d ∷ []) h = refl
four-list (a ∷ b ∷ c ∷ d ∷ e ∷ g) h = absurd (omega arith)

-- the bytes of a group
module _ (g : List ℕ) where
  abbrev pub first_byte : ℕ
  first_byte = byte1 (value_of (get_or g 0 0)) (value_of (get_or g 1 0))

  abbrev pub second-byte : ℕ
  second-byte = byte2 (value_of (get_or g 1 0)) (value_of (get_or g 2 0))

  abbrev pub third-byte : ℕ
  third-byte = byte3 (value_of (get_or g 2 0)) (value_of (get_or g 3 0))

-- they are one, two or three, by its padding
module _ (g : List ℕ) (h : length g ≡ 4) where
  bytes-group : bytes_of g ≡ group (get_or g 0 0) (get_or g 1 0) (get_or g 2 0) (get_or g 3 0) []
  unfolding bytes_of
  bytes-group = ap bytes_of (four-list g h)

  pub some_byte : 1 ≤ length (bytes_of g)
  unfolding group
  some_byte = omega (arith, ap length bytes-group)

  pub one_byte : get_or g 2 0 ≡ pad → bytes_of g ≡ first_byte g ∷ []
  unfolding group
  one_byte e = bytes-group ∙ rw (eq-eqb _ _ e)

  module _ (n : get_or g 2 0 ≡ pad → ⊥) where
    more_bytes : bytes_of g ≡ first_byte g ∷ second-byte g ∷ cond (eqb (get_or g 3 0) pad) [] (third-byte g ∷ [])
    unfolding group
    more_bytes = bytes-group ∙ rw (ne_eqb _ _ n)

    pub some_bytes : 2 ≤ length (bytes_of g)
    some_bytes = omega (arith, ap length more_bytes)

    pub two_bytes : get_or g 3 0 ≡ pad → bytes_of g ≡ first_byte g ∷ second-byte g ∷ []
    two_bytes e = more_bytes ∙ rw (eq-eqb _ _ e)

    pub three-bytes : (get_or g 3 0 ≡ pad → ⊥) → bytes_of g ≡ first_byte g ∷ second-byte g ∷ third-byte g ∷ []
    three-bytes e = more_bytes ∙ rw (ne_eqb _ _ e)

-- the text of a group of bytes and others after it, and of the last one or two
pub text-group : (g r : List ℕ) → length g ≡ 3
    → text_of (g ++ r)
    ≡ char1 (get_or g 0 0) ∷ char2 (get_or g 0 0) (get_or g 1 0) ∷ char3 (get_or g 1 0) (get_or g 2 0) ∷ char4 (get_or g 2 0) ∷ text_of r
unfolding text_of
text-group [] r h = absurd (omega arith)
text-group (a ∷ []) r h = absurd (omega arith)
text-group (a ∷ b ∷ []) r h = absurd (omega arith)
text-group (a ∷ b ∷ c ∷ []) r h = refl
text-group (a ∷ b ∷ c ∷ d ∷ g) r h = absurd (omega arith)

pub text-none : (s : List ℕ) → length s < 1 → text_of s ≡ []
unfolding text_of
text-none [] h = refl
text-none (a ∷ s) h = absurd (omega arith)

pub text-one : (s : List ℕ) → 1 ≤ length s → length s < 2 → text_of s ≡ char1 (get_or s 0 0) ∷ char2 (get_or s 0 0) 0 ∷ pad ∷ pad ∷ []
unfolding text_of
text-one [] h k = absurd (omega arith)
text-one (a ∷ []) h k = refl
text-one (a ∷ b ∷ s) h k = absurd (omega arith)

pub text-two : (s : List ℕ) → 2 ≤ length s → length s < 3
    → text_of s ≡ char1 (get_or s 0 0) ∷ char2 (get_or s 0 0) (get_or s 1 0) ∷ char3 (get_or s 1 0) 0 ∷ pad ∷ []
unfolding text_of
text-two [] h k = absurd (omega arith)
text-two (a ∷ []) h k = absurd (omega arith)
text-two (a ∷ b ∷ []) h k = refl
text-two (a ∷ b ∷ c ∷ s) h k = absurd (omega arith)
