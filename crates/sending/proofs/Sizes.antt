-- An `sz` that can be read is at most 2^63, and so no count that has stopped growing.
use Prim.Native.Nat.{ℕ, zero, suc, ◌+◌, ◌≤◌, ◌<◌, min}
use Rattle.std.specs.Prelude.{Option, Some, None, Result, Ok, Err}
use mathlib.Core.Path.{◌≡◌, refl, sym}
use mathlib.Core.Bool.{Bool, true, false, cond, ◌&&◌}
use mathlib.Core.List.{List, [], ◌∷◌}
use native.Mathlib.Omega.{arith}
use native.Mathlib.Decide.{ℕ_discrete}
use lib.ListN.{length, get_or, set, drop}
use lib.Seq.{get_or-set_same, get_or-set_other, set_out}
use lib.Dec.{ltb, leb, eqb}
use borrow.Author.Tests.{ltb-true, ltb-false, ne_eqb, leb-true, leb-false}
use Rattle.frames.specs.Stream.{text_limit}
use Rattle.octets.specs.Members.{every}
use Rattle.octets.specs.Ascii.{ascii}
use Rattle.octets.specs.Slices.{starts_with}
use Rattle.octets.specs.Split.{split}
use Rattle.decimal.specs.Limits.{most_digits, limit}
use Rattle.decimal.specs.Read.{digits_of, signed, ranged_of, digits_ranged, magnitude_of, parse_of}
use Rattle.decimal.specs.declared.Number.{Number}
use Rattle.decimal.specs.declared.ParseError.{ParseError}
use Rattle.command.specs.Keys.{Kind, Key, keys, kind_at, number_of}
use Rattle.command.specs.Letters.{text_byte}
use Rattle.command.specs.Values.{Value, Got, absent, integer_read, value_read}
use Rattle.command.specs.Fields.{Turn, and_then, is_key, equals_sign, key_of, value_of, field_read, fields_read, text_read}
use Rattle.command.specs.Meaning.{Field, stored, once, meant, blank, values_in, number_in, size_of, missing, Meaning, finished, meaning_of}
use Rattle.sending.specs.Transfers.{sent_limit}
use Rattle.sending.specs.Heeding.{is_count}

-- ---- an integer
abbrev Within : Result Number ParseError → Type 0
Within (Ok n) = n.magnitude < sent_limit
Within (Err e) = Unit {0}

ranged-within : (s : Bool) (m : ℕ) → Within (ranged_of s m)
unfolding ranged_of
ranged-within s m = go (ltb (limit s) m) refl
  where
    small : (s : Bool) → m ≤ limit s → (signed s m).magnitude < sent_limit
    small true h = omega arith
    small false h = omega arith

    go : (b : Bool) → ltb (limit s) m ≡ b → Within (cond b (Err ParseError.OutOfRange) (Ok (signed s m)))
    go true e = tt
    go false e = small s (ltb-false _ _ e)

digits-within : (s : Bool) (r : Option ℕ) → Within (digits_ranged s r)
digits-within s (Some m) = ranged-within s m
digits-within s None = tt

magnitude-within : (s : Bool) (t : List ℕ) → Within (magnitude_of s t)
unfolding magnitude_of
magnitude-within s t = go (eqb (length t) 0) (ltb most_digits (length t))
  where
    go : (a b : Bool) → Within (cond a (Err ParseError.Malformed) (cond b (Err ParseError.Malformed) (digits_ranged s (digits_of 0 t))))
    go true b = tt
    go false true = tt
    go false false = digits-within s (digits_of 0 t)

parse-within : (t : List ℕ) → Within (parse_of t)
unfolding parse_of
parse-within t = go (starts_with t (ascii "-"))
  where
    go : (b : Bool) → Within (cond b (magnitude_of true (drop 1 t)) (magnitude_of false t))
    go true = magnitude-within true (drop 1 t)
    go false = magnitude-within false t

-- ---- the field of `sz`
abbrev Fit : Field → Type 0
Fit Field.unseen = Unit {0}
Fit (Field.seen v) = (number_in v).magnitude < sent_limit

abbrev SizeFit : List Field → Type 0
SizeFit fs = Fit (get_or fs 10 Field.unseen)

abbrev On : Turn (List Field) → Type 0
On (Turn.on s) = SizeFit s
On (Turn.off r s) = Unit {0}

abbrev FitGot : Got → Type 0
FitGot (Got.got v) = (number_in v).magnitude < sent_limit
FitGot (Got.refused r) = Unit {0}

integer-fits : (p : Result Number ParseError) → Within p → FitGot (integer_read p)
integer-fits (Ok n) h = h
integer-fits (Err ParseError.Malformed) h = tt
integer-fits (Err ParseError.OutOfRange) h = tt

size_fits : (v : List ℕ) → FitGot (value_read (kind_at keys 10) v)
unfolding value_read
size_fits v = integer-fits (parse_of v) (parse-within v)

meant-on : (n at : ℕ) (v : List ℕ) (s : List Field) → SizeFit s → On (meant n at v s)
meant-on n at v s h = go (get_or s n Field.unseen)
  where
    put : (x : Value) → (n ≡ 10 → (number_in x).magnitude < sent_limit) → SizeFit (set s n (Field.seen x))
    put x f = by (ℕ_discrete 10 n) (ltb n (length s)) refl
      where
        by : Dec (10 ≡ n) → (b : Bool) → ltb n (length s) ≡ b → SizeFit (set s n (Field.seen x))
        by (no z) b e = rw (get_or-set_other s n 10 (Field.seen x) Field.unseen z) h
        by (yes z) true e =
            let l = ltb-true _ _ e in
            rw (z, get_or-set_same s n (Field.seen x) Field.unseen l) (f (sym z))
        by (yes z) false e =
            let l = ltb-false _ _ e in
            rw (set_out s n (Field.seen x) l) h

    new : (g : Got) → (n ≡ 10 → FitGot g) → On (stored n s g)
    new (Got.got x) f = put x f
    new (Got.refused r) f = tt

    go : (f : Field) → On (once f (stored n s (value_read (kind_at keys n) v)) s)
    go Field.unseen = new (value_read (kind_at keys n) v) (λ z. rw z (size_fits v))
    go (Field.seen x) = tt

field-on : (at : ℕ) (f : List ℕ) (s : List Field) → SizeFit s → On (field_read meant at f s)
unfolding field_read
field-on at f s h = go (ltb (equals_sign f) (length f) && is_key (key_of f)) (ltb (number_of keys (key_of f)) (length keys))
  where
    turn : Turn (List Field)
    turn = meant (number_of keys (key_of f)) (at + (equals_sign f + 1)) (value_of f) s

    go : (a b : Bool) → On (cond a (cond b turn (Turn.on s)) (Turn.off 4 s))
    go true true = meant-on (number_of keys (key_of f)) (at + (equals_sign f + 1)) (value_of f) s h
    go true false = h
    go false b = tt

fields-on : (at : ℕ) (fs : List (List ℕ)) (s : List Field) → SizeFit s → On (fields_read meant at fs s)
unfolding fields_read
fields-on at [] s h = h
fields-on at (f ∷ fs) s h = go (field_read meant at f s) (field-on at f s h) (λ s'. fields-on (at + length f + 1) fs s')
  where
    go : (x : Turn (List Field)) → On x → ((s' : List Field) → SizeFit s' → On (fields_read meant (at + length f + 1) fs s'))
        → On (and_then x (λ s'. fields_read meant (at + length f + 1) fs s'))
    go (Turn.on s) p more = more s p
    go (Turn.off r s) p more = tt

text-on : (t : List ℕ) → On (text_read meant t (blank keys))
unfolding text_read
text-on t = go (ltb text_limit (length t)) (every text_byte t) (starts_with t (ascii "5113;"))
  where
    go : (a b c : Bool) → On (cond a (Turn.off 1 (blank keys))
        (cond b (cond c (fields_read meant 5 (split 59 (drop 5 t)) (blank keys)) (Turn.off 4 (blank keys))) (Turn.off 3 (blank keys))))
    go true b c = tt
    go false false c = tt
    go false true false = tt
    go false true true = fields-on 5 (split 59 (drop 5 t)) (blank keys) tt

-- ---- the command
value-at : (ks : List Key) (s : List Field) (n : ℕ) → Fit (get_or s n Field.unseen)
    → (number_in (get_or (values_in ks s) n Value.outside)).magnitude < sent_limit
value-at [] s n h = omega arith
value-at (k ∷ ks) [] n h = omega arith
value-at (k ∷ ks) (Field.seen v ∷ s) zero h = h
value-at (k ∷ ks) (Field.unseen ∷ s) zero h = absent-small k.kind
  where
    absent-small : (x : Kind) → (number_in (absent x)).magnitude < sent_limit
    absent-small (Kind.word unknown first ws aliases) = omega arith
    absent-small (Kind.safe short) = omega arith
    absent-small Kind.integer = omega arith
    absent-small Kind.base64 = omega arith
value-at (k ∷ ks) (f ∷ s) (suc n) h = value-at ks s n h

pub size_small : (t : List ℕ) (d : List Value) → meaning_of t ≡ Meaning.command d → (size_of d).magnitude < sent_limit
unfolding meaning_of
size_small t d e = go (text_read meant t (blank keys)) (text-on t) e
  where
    by : (b : Bool) (v : List Value) → (size_of v).magnitude < sent_limit
        → cond b (Meaning.refused 7) (Meaning.command v) ≡ Meaning.command d
        → (size_of d).magnitude < sent_limit
    by true v h q = let z : ◌≡◌ {A = ℕ} 0 1 = cc in absurd (omega arith)
    by false v h q = let z : v ≡ d = cc in rw (← z) h

    go : (x : Turn (List Field)) → On x → finished x ≡ Meaning.command d → (size_of d).magnitude < sent_limit
    go (Turn.on s) h q = by (missing (values_in keys s)) (values_in keys s) (value-at keys s 10 h) q
    go (Turn.off r s) h q = let z : ◌≡◌ {A = ℕ} 0 1 = cc in absurd (omega arith)

-- so what is compared with a count is compared with the sum
pub count-or-sum : (z : Number) (sum : ℕ) → z.magnitude < sent_limit → is_count z (min sum sent_limit) ≡ is_count z sum
count-or-sum z sum h = go (leb sum sent_limit) refl
  where
    go : (b : Bool) → leb sum sent_limit ≡ b → is_count z (min sum sent_limit) ≡ is_count z sum
    go true e =
        let l : sum ≤ sent_limit = leb-true _ _ e in
        let q : min sum sent_limit ≡ sum = omega arith in
        rw q
    go false e =
        let l : sent_limit < sum = leb-false _ _ e in
        let q : min sum sent_limit ≡ sent_limit = omega arith in
        rw (q, ne_eqb z.magnitude sent_limit (λ r. omega arith), ne_eqb z.magnitude sum (λ r. omega arith))
