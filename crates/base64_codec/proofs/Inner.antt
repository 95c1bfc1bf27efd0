-- Groups of letters: what `is_letter` tells, of each of a text and of a part, and that a group of them is three bytes.
use Rattle.std.proofs.Common.{◌≡◌, ℕ, true, List, [], ◌∷◌, ◌++◌, length, get_or, take, drop, refl, ap, arith}
use Rattle.std.specs.Prelude.{Ok}
use Rattle.std.proofs.lemmas.List.{take-append-drop}
use borrow.Author.Tests.{ne_eqb, eqb-false, not-true}
use lib.Dec.{eqb}
use Rattle.octets.specs.Members.{every}
use Rattle.octets.proofs.Below.{both_test}
use Rattle.base64_codec.specs.Alphabet.{pad, value_of}
use Rattle.base64_codec.specs.Letters.{is_letter}
use Rattle.base64_codec.specs.Decode.{verdict_of, bytes_of}
use Rattle.base64_codec.proofs.Letters.{Letter, is-letter, not-pad}
use Rattle.base64_codec.proofs.Groups.{Groups, none, full, pad1, pad2, valid-groups}
use Rattle.base64_codec.proofs.Turns.{four-list, three-bytes}

-- ---- each character of a text
is-told : (c : ℕ) → Letter c → is_letter c ≡ true
is-told c h = rw (ne_eqb (value_of c) 64 (λ e. omega arith))

told-is : (c : ℕ) → is_letter c ≡ true → Letter c
told-is c e = is-letter c (eqb-false (value_of c) 64 (not-true (eqb (value_of c) 64) e))

groups-letters : {t : List ℕ} {k : ℕ} → Groups t k → k ≡ 0 → every is_letter t ≡ true
unfolding every
groups-letters none e = refl
groups-letters (full {a} {b} {c} {d} ha hb hc hd g) e =
    rw (is-told a ha, is-told b hb, is-told c hc, is-told d hd) (groups-letters g e)
groups-letters (pad1 ha hb hc z) e = absurd (omega arith)
groups-letters (pad2 ha hb z) e = absurd (omega arith)

-- a valid text without padding has letters alone
pub valid-letters : (t : List ℕ) → verdict_of t ≡ Ok 0 → every is_letter t ≡ true
valid-letters t e = groups-letters (valid-groups t 0 e) refl

-- ---- parts
pub every-parts : (xs ys : List ℕ) → every is_letter (xs ++ ys) ≡ true → (every is_letter xs ≡ true) × (every is_letter ys ≡ true)
unfolding every
every-parts [] ys e = (refl, e)
every-parts (x ∷ xs) ys e =
    let b = both_test (is_letter x) (every is_letter (xs ++ ys)) e in
    let r = every-parts xs ys b.1 in
    (rw (b.0, r.0), r.1)

pub every-left : (t : List ℕ) (i : ℕ) → every is_letter t ≡ true → every is_letter (drop i t) ≡ true
every-left t i e =
    let s : every is_letter (take i t ++ drop i t) ≡ true = rw (take-append-drop i t) e in
    (every-parts (take i t) (drop i t) s).1

-- ---- a group
module _ (g : List ℕ) (h : length g ≡ 4) (e : every is_letter g ≡ true) where
  pub four-letters : (Letter (get_or g 0 0)) × (Letter (get_or g 1 0)) × (Letter (get_or g 2 0)) × (Letter (get_or g 3 0))
  unfolding every
  four-letters =
      let b = both_test _ _ (rw (four-list g h) at e) in
      let c = both_test _ _ b.1 in
      let d = both_test _ _ c.1 in
      (told-is _ b.0, told-is _ c.0, told-is _ d.0, told-is _ (both_test _ _ d.1).0)

  pub no-pad2 : get_or g 2 0 ≡ pad → ⊥
  no-pad2 q = eqb-false _ _ (not-pad _ four-letters.2) q

  pub no-pad3 : get_or g 3 0 ≡ pad → ⊥
  no-pad3 q = eqb-false _ _ (not-pad _ four-letters.3) q

  pub letters-length : length (bytes_of g) ≡ 3
  letters-length = ap length (three-bytes g h no-pad2 no-pad3)
