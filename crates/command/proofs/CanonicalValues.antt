-- The canonical texts of values are exactly the texts that values of their kinds are written as.
use Prim.Native.Nat.{ℕ, ◌+◌, ◌-◌, ◌≤◌, ◌<◌}
use mathlib.Core.Path.{◌≡◌, refl, sym, ◌∙◌, ap}
use mathlib.Core.Bool.{Bool, true, false}
use mathlib.Core.List.{List, [], ◌∷◌}
use native.Mathlib.Omega.{arith}
use lib.ListN.{length, get_or}
use borrow.Author.Tests.{le-ltb, ltb-false}
use Rattle.std.specs.Prelude.{Result, Ok}
use Rattle.octets.specs.Ascii.{ascii}
use Rattle.octets.specs.Slices.{starts_with}
use Rattle.base64_codec.specs.Decode.{bytes_of}
use Rattle.base64_codec.proofs.Lengths.{bytes_below}
use Rattle.base64_codec.proofs.RoundTrip.{padding_of, valid-text, text-bytes}
use Rattle.decimal.specs.Read.{parse_of, magnitude_of, digits_of, ranged_of}
use Rattle.decimal.specs.Write as Decimal
use Rattle.decimal.specs.declared.Number.{Number}
use Rattle.decimal.specs.declared.ParseError.{ParseError}
use Rattle.decimal.proofs.RoundTrip as decimal
use Rattle.decimal.proofs.Texts.{canonical-text}
use Rattle.command.specs.Keys.{Kind}
use Rattle.command.specs.Values.{Value, count, over}
use Rattle.command.specs.Grammar.{CanonicalValue, a_word, a-string, an-integer, a-base64}
use Rattle.command.proofs.WrittenValues.{Spelled, writable-nought}

-- ---- a canonical text is what a value is written as
-- a value that is written as t
abbrev Spelling : Kind → List ℕ → Type 0
Spelling k t = (x : Value) × Spelled k x t

not-over : (short : Bool) (t : List ℕ) → (short ≡ true → length t ≤ 32) → over short t ≡ false
not-over true t h = le-ltb 32 (length t) (h refl)
not-over false t h = refl

pub value-spelled : {k : Kind} {t : List ℕ} → CanonicalValue k t → Spelling k t
value-spelled (a_word {unknown} {first} {ws} {aliases} {v} i h w z) =
    let s : first + i - first ≡ i = omega arith in
    let l : first + i - first < length ws = omega arith in
    let g : get_or ws (first + i - first) [] ≡ v = rw s w in
    (Value.number (count (first + i)), Spelled.word refl z l g)
value-spelled (a-string {short} {v = []} s l z) = absurd (z refl)
value-spelled (a-string {short} {v = x ∷ v} s l z) = (Value.bytes (x ∷ v), Spelled.string s (not-over short (x ∷ v) l))
value-spelled (an-integer {v} n p c z) =
    let w = decimal.parse-writable v n p in
    let e = decimal.written_read n c p in
    let o : Decimal.text_of (count 0) ≡ ascii "0" = unfold Decimal.text_of Decimal.fixed Decimal.width_from in refl in
    (Value.number n, Spelled.integer w (λ (q : n.magnitude ≡ 0). z (sym e ∙ ap Decimal.text_of (writable-nought n w q) ∙ o)) e)
value-spelled (a-base64 {v = []} padding d z) = absurd (z refl)
value-spelled (a-base64 {v = x ∷ v} padding d z) =
    (Value.bytes (bytes_of (x ∷ v)), Spelled.base64 (bytes_below (x ∷ v)) (text-bytes (x ∷ v) padding d))

-- ---- what a value is written as is canonical
-- a number other than 0 is not written `0`
zero-text : (n : Number) → Decimal.writable n ≡ true → Decimal.text_of n ≡ ascii "0" → n.magnitude ≡ 0
unfolding parse_of starts_with magnitude_of digits_of ranged_of
zero-text n w e =
    let p : ◌≡◌ {A = Result Number ParseError} (Ok (count 0)) (Ok n) = rw e at (decimal.read-written n w) in
    let q : count 0 ≡ n = cc in rw (← q)

pub spelled-canonical : {k : Kind} {v : Value} {t : List ℕ} → Spelled k v t → CanonicalValue k t
spelled-canonical (Spelled.word {unknown} {first} {ws} {aliases} {n} s z i e) =
    a_word (n.magnitude - first) i e (λ (q : first + (n.magnitude - first) ≡ 0). z (omega arith))
spelled-canonical (Spelled.string {short} {x} {v} s l) =
    a-string {short = short} s (λ (q : short ≡ true). ltb-false 32 (length (x ∷ v)) (rw q at l)) (λ q. omega (arith, ap length q))
spelled-canonical (Spelled.integer {n} {v} w z e) =
    an-integer n (rw e at (decimal.read-written n w)) (rw e at (canonical-text n w)) (λ (q : v ≡ ascii "0"). z (zero-text n w (e ∙ q)))
spelled-canonical (Spelled.base64 {b} h e) = a-base64 (padding_of b) (rw e at (valid-text b h)) (λ q. omega (arith, ap length q))
