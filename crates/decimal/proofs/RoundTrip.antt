-- What is written reads as the same integer, and a canonical text that reads is written again as it was.
use Prim.Native.Nat.{ℕ, zero, suc, ◌+◌, ◌-◌, ◌*◌, ◌/◌, ◌%◌, ◌^◌, ◌≤◌, ◌<◌}
use mathlib.Core.Path.{◌≡◌, refl, ◌∙◌, ap}
use mathlib.Core.Bool.{Bool, true, false, cond, ◌&&◌}
use mathlib.Core.List.{List, ◌∷◌}
use native.Mathlib.Omega.{arith}
use native.Mathlib.Nat.{mod-eq_of_lt}
use lib.ListN.{length, drop}
use lib.Dec.{ltb, eqb}
use borrow.Author.Tests.{ne_eqb, le-ltb, le-leb, eqb-true, ltb-false}
use Rattle.std.specs.Prelude.{Option, Some, None, Ok, Err}
use Rattle.octets.specs.Slices.{starts_with}
use Rattle.octets.specs.Ascii.{ascii}
use Rattle.decimal.specs.Limits.{most_digits, limit}
use Rattle.decimal.specs.Read.{digits_of, signed, ranged_of, digits_ranged, magnitude_of, parse_of}
use Rattle.decimal.specs.Write.{fixed, width_from, width_of, signed_text, text_of, writable}
use Rattle.decimal.specs.Canonical.{Canonical}
use Rattle.decimal.specs.Canonical as C
use Rattle.decimal.specs.Claims.{WrittenReads, ReadWrites}
use Rattle.decimal.specs.declared.Number.{Number}
use Rattle.decimal.specs.declared.ParseError.TheVariants.{Malformed, OutOfRange}
use Rattle.decimal.proofs.Powers.{ten_pos, above-some, above-none}
use Rattle.decimal.proofs.Widths.{width-least, width-unique}
use Rattle.decimal.proofs.Digits.{length-fixed, read-fixed, digits-first, fixed-read}
use Rattle.decimal.proofs.Writes.{limit_lt, writable-is, write-stores}
use Rattle.decimal.proofs.Texts.{canonical-text}

-- ---- written, then read
-- the digits of a magnitude within the limit
read-magnitude : (s : Bool) (m : ℕ) → m ≤ limit s → magnitude_of s (fixed (width_of m) m) ≡ Ok (signed s m)
unfolding magnitude_of ranged_of
read-magnitude s m h =
    let w = width-least m in
    let b = limit_lt s in
    let l = length-fixed (width_of m) m in
    let u = w.least most_digits (omega arith) (omega arith) in
    let ds = fixed (width_of m) m in
    let v : digits_of 0 ds ≡ Some m = read-fixed (width_of m) 0 m ∙ ap Some (rw (mod-eq_of_lt (w.holds (omega arith))) (omega arith)) in
    rw (ne_eqb (length ds) 0 (λ e. omega arith), le-ltb most_digits (length ds) (omega arith), v, le-ltb (limit s) m h)

-- digits begin with no `-`
no_minus : (w n : ℕ) → parse_of (fixed w n) ≡ magnitude_of false (fixed w n)
unfolding fixed parse_of starts_with
no_minus zero n = refl
no_minus (suc w) n = rw (ne_eqb (n / 10 ^ w % 10 + 48) 45 (λ e. omega arith))

read-signed : (s : Bool) (m : ℕ) → (s && eqb m 0) ≡ false → m ≤ limit s
    → parse_of (signed_text s (fixed (width_of m) m)) ≡ Ok (record { negative = s; magnitude = m })
read-signed true m z h = unfold parse_of starts_with in read-magnitude true m h ∙ rw z
read-signed false m z h = no_minus (width_of m) m ∙ read-magnitude false m h

-- each number that `write` takes reads back as itself
pub read-written : (n : Number) → writable n ≡ true → parse_of (text_of n) ≡ Ok n
unfolding text_of
read-written n e = let h = writable-is n e in read-signed n.negative n.magnitude h.0 h.1

-- ---- read, then written
-- what a text of this sign that reads is: not too many digits, of a value within the limit
record Magnitude (s : Bool) (t : List ℕ) (n : Number) : Type 0 where
  value : ℕ
  short : length t ≤ most_digits
  digits : digits_of 0 t ≡ Some value
  within : value ≤ limit s
  same : n ≡ signed s value

magnitude-is : (s : Bool) (t : List ℕ) (n : Number) → magnitude_of s t ≡ Ok n → Magnitude s t n
unfolding magnitude_of ranged_of
magnitude-is s t n e = go (eqb (length t) 0) (ltb most_digits (length t)) refl (digits_of 0 t) refl e
  where
    ranged : (m : ℕ) → ltb most_digits (length t) ≡ false → digits_of 0 t ≡ Some m → (b : Bool) → ltb (limit s) m ≡ b
        → cond b (Err OutOfRange) (Ok (signed s m)) ≡ Ok n → Magnitude s t n
    ranged m el ed true eb q = let z : ◌≡◌ {A = ℕ} 0 1 = cc in absurd (omega arith)
    ranged m el ed false eb q = record { value = m; short = ltb-false _ _ el; digits = ed; within = ltb-false _ _ eb; same = cc }

    go : (x y : Bool) → ltb most_digits (length t) ≡ y → (d : Option ℕ) → digits_of 0 t ≡ d
        → cond x (Err Malformed) (cond y (Err Malformed) (digits_ranged s d)) ≡ Ok n → Magnitude s t n
    go true y ey d ed q = let z : ◌≡◌ {A = ℕ} 0 1 = cc in absurd (omega arith)
    go false true ey d ed q = let z : ◌≡◌ {A = ℕ} 0 1 = cc in absurd (omega arith)
    go false false ey None ed q = let z : ◌≡◌ {A = ℕ} 0 1 = cc in absurd (omega arith)
    go false false ey (Some m) ed q = ranged m ey ed (ltb (limit s) m) refl q

-- digits without leading zeros are those of their value, which is not 0
digits_are : (c : ℕ) (r : List ℕ) (m : ℕ) → 49 ≤ c → length r < 20
    → digits_of 0 (c ∷ r) ≡ Some m → (fixed (width_of m) m ≡ c ∷ r) × (1 ≤ m)
digits_are c r m h l e =
    let f = fixed-read (c ∷ r) 0 m e in
    let g = fixed-read r (0 * 10 + (c - 48)) m (digits-first 0 c r m e).2 in
    let top = above-some (length r) m (omega (arith, g.0)) in
    let w = width-unique (length r) m l top (above-none (suc (length r)) m f.0) in
    (rw w f.1, omega (arith, ten_pos (length r)))

signed_is : (s : Bool) (m : ℕ) → 1 ≤ m → signed s m ≡ record { negative = s; magnitude = m }
signed_is true m h = rw (ne_eqb m 0 (λ e. omega arith))
signed_is false m h = refl

write_again : (s : Bool) (c : ℕ) (r : List ℕ) (n : Number) → 49 ≤ c → magnitude_of s (c ∷ r) ≡ Ok n → text_of n ≡ signed_text s (c ∷ r)
unfolding text_of
write_again s c r n h e =
    let m = magnitude-is s (c ∷ r) n e in
    let d = digits_are c r m.value h (omega (arith, m.short)) m.digits in
    rw (m.same ∙ signed_is s m.value d.1, d.0)

-- each canonical text that reads is the text of what it reads as
pub written_read : {t : List ℕ} (n : Number) → Canonical t → parse_of t ≡ Ok n → text_of n ≡ t
unfolding parse_of starts_with
written_read n C.zero e =
    unfold magnitude_of digits_of ranged_of text_of fixed width_from in
    (let q : n ≡ record { negative = false; magnitude = 0 } = cc in rw q)
written_read n (C.positive {c} {r} l u) e = write_again false c r n l (rw (ne_eqb c 45 (λ q. omega arith)) at e)
written_read n (C.negative {c} {r} l u) e = write_again true c r n l e

-- ---- what reads can be written
-- a sign and a magnitude within its limit
signed-writable : (s : Bool) (m : ℕ) → m ≤ limit s → writable (signed s m) ≡ true
unfolding writable
signed-writable true m h = go (eqb m 0) refl
  where
    go : (b : Bool) → eqb m 0 ≡ b → writable (signed true m) ≡ true
    go true e = let z = eqb-true m 0 e in rw (e, le-ltb (limit false) m (omega arith))
    go false e = rw (e, le-ltb (limit true) m h)
signed-writable false m h = rw (le-ltb (limit false) m h)

-- `write` takes each number that a text reads as
pub parse-writable : (t : List ℕ) (n : Number) → parse_of t ≡ Ok n → writable n ≡ true
unfolding parse_of
parse-writable t n e = go (starts_with t (ascii "-")) e
  where
    accepted : (s : Bool) (ds : List ℕ) → magnitude_of s ds ≡ Ok n → writable n ≡ true
    accepted s ds q = let m = magnitude-is s ds n q in rw m.same (signed-writable s m.value m.within)

    go : (b : Bool) → cond b (magnitude_of true (drop 1 t)) (magnitude_of false t) ≡ Ok n → writable n ≡ true
    go true q = accepted true (drop 1 t) q
    go false q = accepted false t q

-- ---- the claims
pub written-reads : WrittenReads
written-reads n out at w h = (write-stores n out at w ∙ rw (le-leb _ _ h), canonical-text n w, read-written n w)

pub read-writes : ReadWrites
read-writes t n e = (parse-writable t n e, λ k. written_read n k e)
