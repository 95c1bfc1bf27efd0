-- 0 is no refusal's number, so a row with 0 is outside a command.
use Prim.Native.Nat.{ℕ, ◌+◌, ◌<◌}
use mathlib.Core.Path.{◌≡◌}
use mathlib.Core.Bool.{◌&&◌}
use mathlib.Core.List.{List, [], ◌∷◌}
use native.Mathlib.Omega.{arith}
use lib.ListN.{length, get_or, drop}
use lib.Dec.{ltb}
use Rattle.std.specs.Prelude.{Result, Ok, Err}
use Rattle.octets.specs.Ascii.{ascii}
use Rattle.octets.specs.Members.{every}
use Rattle.octets.specs.Slices.{equals, starts_with}
use Rattle.octets.specs.Split.{split}
use Rattle.base64_codec.specs.Decode.{verdict_of, bytes_of}
use Rattle.base64_codec.specs.declared.Fault.{Fault}
use Rattle.decimal.specs.Read.{parse_of}
use Rattle.decimal.specs.declared.Number.{Number}
use Rattle.decimal.specs.declared.ParseError.{ParseError}
use Rattle.frames.specs.Stream.{text_limit}
use Rattle.command.specs.Refusals.{refusal_number}
use Rattle.command.specs.Keys.{Alias, Kind, place_in, keys, kind_at, number_of}
use Rattle.command.specs.Letters.{safe_byte, text_byte}
use Rattle.command.specs.Values.{Got, alias_read, word_read, over, safe_read}
use Rattle.command.specs.Values.{integer_refusal, integer_read, base64_refusal, base64_read, value_read}
use Rattle.command.specs.Fields.{Turn, and_then, is_key, equals_sign, key_of, value_of, field_read, fields_read, text_read}
use Rattle.command.specs.Meaning.{Field, stored, once, meant, blank, values_in, missing, Meaning, finished, meaning_of}
use Rattle.command.specs.declared.Refusal.{Refusal}
use Rattle.command.proofs.Cases.{by_test}

number-some : (r : Refusal) → 0 < refusal_number r
number-some Refusal.TextTooLong = omega arith
number-some Refusal.BadByte = omega arith
number-some Refusal.BadField = omega arith
number-some Refusal.Repeated = omega arith
number-some Refusal.UnknownWord = omega arith
number-some Refusal.UnsafeCharacter = omega arith
number-some Refusal.MalformedInteger = omega arith
number-some Refusal.OutOfRange = omega arith
number-some Refusal.Base64Length = omega arith
number-some Refusal.Base64Character = omega arith
number-some Refusal.UnusedBits = omega arith
number-some Refusal.Missing = omega arith
number-some Refusal.TooLong = omega arith
number-some Refusal.ShortBuffer = omega arith

-- ---- a value
abbrev GotSome : Got → Type 0
GotSome (Got.got v) = Unit {0}
GotSome (Got.refused n) = 0 < n

alias-some : (unknown : Refusal) (aliases : List Alias) (v : List ℕ) → GotSome (alias_read unknown aliases v)
unfolding alias_read
alias-some unknown [] v = number-some unknown
alias-some unknown (a ∷ more) v = by_test GotSome (equals v a.text) (λ _. tt) (λ _. alias-some unknown more v)

integer-some : (p : Result Number ParseError) → GotSome (integer_read p)
integer-some (Ok n) = tt
integer-some (Err error) = number-some (integer_refusal error)

base64-some : (w : Result ℕ Fault) (b : List ℕ) → GotSome (base64_read w b)
base64-some (Ok padding) b = tt
base64-some (Err fault) b = number-some (base64_refusal fault)

value-some : (k : Kind) (v : List ℕ) → GotSome (value_read k v)
unfolding value_read word_read safe_read
value-some (Kind.word unknown first ws aliases) v =
    by_test GotSome (ltb (place_in ws v) (length ws)) (λ _. tt) (λ _. alias-some unknown aliases v)
value-some (Kind.safe short) v =
    by_test GotSome (every safe_byte v) (λ _. by_test GotSome (over short v) (λ _. omega arith) (λ _. tt)) (λ _. omega arith)
value-some Kind.integer v = integer-some (parse_of v)
value-some Kind.base64 v = base64-some (verdict_of v) (bytes_of v)

-- ---- the fields
abbrev TurnSome : Turn (List Field) → Type 0
TurnSome (Turn.on s) = Unit {0}
TurnSome (Turn.off n s) = 0 < n

stored_some : (n : ℕ) (s : List Field) (g : Got) → GotSome g → TurnSome (stored n s g)
stored_some n s (Got.got v) h = tt
stored_some n s (Got.refused r) h = h

once-some : (f : Field) (t : Turn (List Field)) (s : List Field) → TurnSome t → TurnSome (once f t s)
once-some Field.unseen t s h = h
once-some (Field.seen v) t s h = omega arith

then_some : (t : Turn (List Field)) (k : List Field → Turn (List Field)) → TurnSome t → ((s : List Field) → TurnSome (k s))
    → TurnSome (and_then t k)
then_some (Turn.on s) k h more = more s
then_some (Turn.off r s) k h more = h

field-some : (at : ℕ) (f : List ℕ) (s : List Field) → TurnSome (field_read meant at f s)
unfolding field_read
field-some at f s =
    let n = number_of keys (key_of f) in
    let g = value_read (kind_at keys n) (value_of f) in
    by_test TurnSome (ltb (equals_sign f) (length f) && is_key (key_of f))
    (λ _. by_test TurnSome (ltb n (length keys))
    (λ _. once-some (get_or s n Field.unseen) (stored n s g) s (stored_some n s g (value-some (kind_at keys n) (value_of f)))) (λ _. tt))
    (λ _. omega arith)

fields-some : (at : ℕ) (fs : List (List ℕ)) (s : List Field) → TurnSome (fields_read meant at fs s)
unfolding fields_read
fields-some at [] s = tt
fields-some at (f ∷ fs) s =
    then_some (field_read meant at f s) (λ s'. fields_read meant (at + length f + 1) fs s') (field-some at f s)
    (λ s'. fields-some (at + length f + 1) fs s')

text-some : (t : List ℕ) (s : List Field) → TurnSome (text_read meant t s)
unfolding text_read
text-some t s =
    by_test TurnSome (ltb text_limit (length t)) (λ _. omega arith)
    (λ _. by_test TurnSome (every text_byte t)
    (λ _. by_test TurnSome (starts_with t (ascii "5113;")) (λ _. fields-some 5 (split 59 (drop 5 t)) s) (λ _. omega arith))
    (λ _. omega arith))

-- ---- a text
abbrev MeansSome : Meaning → Type 0
MeansSome (Meaning.command vs) = Unit {0}
MeansSome (Meaning.refused n) = 0 < n

finished-some : (t : Turn (List Field)) → TurnSome t → MeansSome (finished t)
finished-some (Turn.on s) h = by_test MeansSome (missing (values_in keys s)) (λ _. omega arith) (λ _. tt)
finished-some (Turn.off r s) h = h

pub refusal-some : (t : List ℕ) (n : ℕ) → meaning_of t ≡ Meaning.refused n → 0 < n
unfolding meaning_of
refusal-some t n e = rw e at (finished-some (text_read meant t (blank keys)) (text-some t (blank keys)))
