-- The theorems and the grammar are not empty: a text that is read though not canonical, its command, the canonical text of that
-- command, a text for each refusal of a value, and texts that are not canonical because a value is not of its kind.
use Prim.Native.Nat.{ℕ}
use mathlib.Core.Path.{◌≡◌, refl}
use mathlib.Core.Bool.{Bool, true, false, not}
use mathlib.Core.List.{List, [], ◌∷◌, map}
use native.Mathlib.Omega.{arith}
use lib.ListN.{replicate}
use Rattle.octets.specs.Search.{index_of, index_after}
use Rattle.octets.specs.Ascii.{ascii}
use Rattle.octets.specs.Members.{every}
use Rattle.octets.specs.Slices.{equals, starts_with}
use Rattle.octets.specs.Split.{split, join, onto}
use Rattle.octets.proofs.Compare.{equals_refl}
use Rattle.base64_codec.specs.Alphabet.{value_of, letter_of}
use Rattle.base64_codec.specs.Decode.{verdict_of, bytes_of, scan, ending, group}
use Rattle.base64_codec.specs.Encode as Base64
use Rattle.decimal.specs.Read.{parse_of, magnitude_of, digits_of, ranged_of}
use Rattle.decimal.specs.Write as Decimal
use Rattle.command.specs.Keys.{place_in}
use Rattle.command.specs.Letters.{key_byte, safe_byte, text_byte}
use Rattle.command.specs.Values.{Value, count, alias_read, word_read, safe_read, value_read}
use Rattle.command.specs.Values.{word_shown, safe_shown, integer_shown, base64_shown, shown}
use Rattle.command.specs.Fields.{is_key, field_read, fields_read, text_read}
use Rattle.command.specs.Meaning.{Meaning, meaning_of}
use Rattle.command.specs.Canonical.{fields_of, canonical}
use Rattle.command.specs.Grammar.{CanonicalText}
use Rattle.command.specs.Write.{Answer, checked_of, write_of}
use Rattle.command.proofs.Every.{every_cons}
use Rattle.command.proofs.RoundTrip.{writes-canonical, read-written, canonized, canonized-means}

-- fields in another order, an unknown key, `finished`, a leading zero
abbrev loose : List ℕ
loose = ascii "5113;id=m;ac=finished;xx=1;d=AQID;sz=-012"

abbrev tight : List ℕ
tight = ascii "5113;ac=finish;id=m;sz=-12;d=AQID"

abbrev finish : List Value
finish =
    Value.number (count 6)
    ∷ Value.number (count 0)
    ∷ Value.number (count 0)
    ∷ Value.number (count 0)
    ∷ Value.bytes (ascii "m")
    ∷ Value.bytes []
    ∷ Value.bytes []
    ∷ Value.number (count 0)
    ∷ Value.number (count 0)
    ∷ Value.number (count 0)
    ∷ Value.number (record { negative = true; magnitude = 12 })
    ∷ Value.bytes []
    ∷ Value.bytes []
    ∷ Value.bytes []
    ∷ Value.bytes (1 ∷ 2 ∷ 3 ∷ [])
    ∷ []

-- a text for each refusal of a value; then a `q` that is no number, and a string that is too long besides
abbrev mistaken : List (List ℕ)
mistaken =
    ascii "5113;ac=Send;id=m"
    ∷ ascii "5113;ac=send;id=a b"
    ∷ ascii "5113;ac=send;id=m;sz=99999999999999999999"
    ∷ ascii "5113;ac=send;id=m;sz=9999999999999999999"
    ∷ ascii "5113;ac=send;id=m;d=A=!="
    ∷ ascii "5113;ac=send;id=m;d=!A=A"
    ∷ ascii "5113;ac=send;id=m;d=AR=="
    ∷ ascii "5113;ac=send;id=m;q=x"
    ∷ ascii "5113;ac=send;id=m;fid=012345678901234567890123456789012!"
    ∷ []

texts-read : (meaning_of loose ≡ Meaning.command finish)
    × (map meaning_of mistaken ≡ map Meaning.refused (61 ∷ 62 ∷ 63 ∷ 64 ∷ 65 ∷ 66 ∷ 67 ∷ 64 ∷ 62 ∷ []))
unfolding meaning_of text_read fields_read field_read is_key key_byte text_byte safe_byte every starts_with equals split onto
    index_of index_after place_in value_read word_read alias_read safe_read verdict_of scan ending bytes_of group value_of
    parse_of magnitude_of digits_of ranged_of
texts-read = (refl, refl)

finish-written : (canonical finish ≡ tight)
    × ((write_of finish (replicate 33 0)).answer ≡ Answer.written 33)
    × ((write_of finish (replicate 32 0)).answer ≡ Answer.refused 9)
unfolding write_of checked_of canonical fields_of shown word_shown safe_shown integer_shown base64_shown every safe_byte
    index_of index_after join split onto Base64.text_of letter_of Decimal.text_of Decimal.fixed Decimal.width_from
finish-written = (refl, refl, refl)

-- by the theorems
tight-canonical : CanonicalText tight
tight-canonical = rw finish-written.0 at (writes-canonical finish (replicate 33 0) 33 finish-written.1)

tight-read : meaning_of tight ≡ Meaning.command finish
tight-read = rw finish-written.0 at (read-written finish (replicate 33 0) 33 finish-written.1)

-- ---- not canonical
-- canonical text is read, and its command is written as this text
again : Meaning → List ℕ → Bool
again (Meaning.command c) t = equals (canonical c) t
again (Meaning.refused r) t = false

not-canonical : (t : List ℕ) → not (again (meaning_of t) t) ≡ true → CanonicalText t → ⊥
unfolding again
not-canonical t e h =
    let z = canonized t h in
    let q : not true ≡ true = rw (canonized-means z, z.text, equals_refl t) at e in
    let y : ◌≡◌ {A = ℕ} 0 1 = cc in
    omega arith

-- a value that is not of its kind: all of them, a safe string, 33 bytes, an integer, one past signed 64 bits, Base64, its unused bits, a
-- word. Then a value that is written otherwise: defaults, leading zeros, `-0`, `finished`. Then an unknown key, another order, no
-- action and no id.
abbrev strange : List (List ℕ)
strange =
    ascii "5113;id=!!!;sz=1x;d=*"
    ∷ ascii "5113;ac=send;id=!!!"
    ∷ ascii "5113;ac=send;id=m;fid=012345678901234567890123456789012"
    ∷ ascii "5113;ac=send;id=m;sz=1x"
    ∷ ascii "5113;ac=send;id=m;sz=9223372036854775808"
    ∷ ascii "5113;ac=send;id=m;d=*"
    ∷ ascii "5113;ac=send;id=m;d=AR=="
    ∷ ascii "5113;ac=send;zip=zlib;id=m"
    ∷ ascii "5113;ac=send;id=m;q=0"
    ∷ ascii "5113;ac=send;id=m;sz=0"
    ∷ ascii "5113;ac=send;id=m;d="
    ∷ ascii "5113;ac=send;id=m;sz=012"
    ∷ ascii "5113;ac=send;id=m;sz=-0"
    ∷ ascii "5113;ac=finished;id=m"
    ∷ ascii "5113;ac=send;id=m;xx=1"
    ∷ ascii "5113;id=m;ac=send"
    ∷ ascii "5113;id=m"
    ∷ ascii "5113;ac=send"
    ∷ []

abbrev NoneCanonical : List (List ℕ) → Type 0
NoneCanonical [] = Unit {0}
NoneCanonical (t ∷ ts) = (CanonicalText t → ⊥) × NoneCanonical ts

strange-tested : every (λ (t : List ℕ). not (again (meaning_of t) t)) strange ≡ true
unfolding again meaning_of text_read fields_read field_read is_key key_byte text_byte safe_byte every starts_with equals split onto
    index_of index_after
    place_in value_read word_read alias_read safe_read verdict_of scan ending bytes_of group value_of
    parse_of magnitude_of digits_of ranged_of
    canonical fields_of shown word_shown safe_shown integer_shown base64_shown join Base64.text_of letter_of
    Decimal.text_of Decimal.fixed Decimal.width_from
strange-tested = refl

none_of : (ts : List (List ℕ)) → every (λ (t : List ℕ). not (again (meaning_of t) t)) ts ≡ true → NoneCanonical ts
none_of [] e = tt
none_of (t ∷ ts) e = let h = every_cons _ t ts e in (not-canonical t h.0, none_of ts h.1)

strange_not : NoneCanonical strange
strange_not = none_of strange strange-tested
