-- What the text of a value reads as, by its kind: the one place where the cases of `value_read` are told apart.
use Prim.Native.Nat.{ℕ, suc, ◌+◌, ◌*◌, ◌≤◌, ◌<◌, max}
use mathlib.Core.Path.{◌≡◌, refl}
use mathlib.Core.Bool.{Bool, true, false, not, ◌&&◌}
use mathlib.Core.List.{List, [], ◌∷◌}
use native.Mathlib.Omega.{arith}
use lib.ListN.{length}
use lib.Dec.{ltb, leb}
use borrow.Author.Tests.{ltb-true}
use Rattle.std.specs.Prelude.{Result, Ok, Err}
use Rattle.octets.specs.Members.{every}
use Rattle.octets.specs.Slices.{equals}
use Rattle.base64_codec.specs.Decode.{verdict_of, bytes_of}
use Rattle.base64_codec.specs.declared.Fault.{Fault}
use Rattle.base64_codec.proofs.Lengths.{length_valid}
use Rattle.decimal.specs.Read.{parse_of}
use Rattle.decimal.specs.declared.Number.{Number}
use Rattle.decimal.specs.declared.ParseError.{ParseError}
use Rattle.command.specs.Keys.{Alias, Kind, keys, place_in, kind_at}
use Rattle.command.specs.Letters.{safe_byte}
use Rattle.command.specs.Refusals.{refusal_number}
use Rattle.command.specs.Values.{Value, count, Got, refuses, alias_read, word_read, over, safe_read}
use Rattle.command.specs.Values.{integer_read, base64_refusal, base64_read, value_read}
use Rattle.command.specs.Read.{stored_for}
use Rattle.command.specs.declared.Refusal.{Refusal}
use Rattle.command.proofs.Cases.{by_test}
use Rattle.command.proofs.Names.{at_key}

-- the codes of a kind's words lie below this: `end` is where those that count on from the first end
abbrev pub codes_end : ℕ → List Alias → ℕ
codes_end end [] = end
codes_end end (a ∷ more) = max (suc a.code) (codes_end end more)

-- a refusal of a text is none of 9 to 12, which are the calls' own
abbrev pub of_text : ℕ → Bool
of_text n = not (leb 9 n && leb n 12)

-- an unknown word's refusal, if the kind has words, is one of a text
abbrev pub known : Kind → Bool
known (Kind.word unknown first ws aliases) = of_text (refusal_number unknown)
known (Kind.safe short) = true
known Kind.integer = true
known Kind.base64 = true

-- as that of each key is
pub keys-known : (n : ℕ) → known (kind_at keys n) ≡ true
keys-known n = at_key (λ k. known k.kind) (λ k. true) refl refl n

pub data Reads : Kind → List ℕ → Got → Type 0 where
  as-word : {unknown : Refusal} {first : ℕ} {ws : List (List ℕ)} {aliases : List Alias} {v : List ℕ} {c : ℕ}
      → c < codes_end (first + length ws) aliases → Reads (Kind.word unknown first ws aliases) v (Got.got (Value.number (count c)))
  as-string : {short : Bool} {v : List ℕ} → every safe_byte v ≡ true → over short v ≡ false
      → Reads (Kind.safe short) v (Got.got (Value.bytes v))
  as-integer : {v : List ℕ} {n : Number} → Reads Kind.integer v (Got.got (Value.number n))
  as_bytes : {v : List ℕ} {padding : ℕ} → verdict_of v ≡ Ok padding → Reads Kind.base64 v (Got.got (Value.bytes (bytes_of v)))
  refused : {k : Kind} {v : List ℕ} (r : Refusal) → (known k ≡ true → of_text (refusal_number r) ≡ true) → Reads k v (refuses r)

end_le : (end : ℕ) (aliases : List Alias) → end ≤ codes_end end aliases
end_le end [] = omega arith
end_le end (a ∷ more) = omega (arith, end_le end more)

module _ (unknown : Refusal) (first : ℕ) (ws : List (List ℕ)) (aliases : List Alias) (v : List ℕ) where
  abbrev ReadsWord : Got → Type 0
  ReadsWord g = Reads (Kind.word unknown first ws aliases) v g

  alias-reads : (more : List Alias) → codes_end (first + length ws) more ≤ codes_end (first + length ws) aliases
      → ReadsWord (alias_read unknown more v)
  unfolding alias_read
  alias-reads [] h = refused unknown (λ e. e)
  alias-reads (a ∷ more) h =
      let l : a.code < codes_end (first + length ws) aliases = omega arith in
      by_test ReadsWord (equals v a.text) (λ e. as-word l) (λ e. alias-reads more (omega arith))

  word-reads : ReadsWord (word_read unknown first ws aliases v)
  unfolding word_read
  word-reads =
      by_test ReadsWord (ltb (place_in ws v) (length ws))
      (λ e. as-word (below (ltb-true _ _ e))) (λ e. alias-reads aliases (omega arith))
    where
      below : place_in ws v < length ws → first + place_in ws v < codes_end (first + length ws) aliases
      below h = omega (arith, end_le (first + length ws) aliases)

of-base64 : (f : Fault) → of_text (refusal_number (base64_refusal f)) ≡ true
of-base64 Fault.Length = refl
of-base64 Fault.Character = refl
of-base64 Fault.UnusedBits = refl

pub reads : (k : Kind) (v : List ℕ) → Reads k v (value_read k v)
unfolding value_read safe_read
reads (Kind.word unknown first ws aliases) v = word-reads unknown first ws aliases v
reads (Kind.safe short) v =
    by_test R (every safe_byte v)
    (λ s. by_test R (over short v) (λ o. refused Refusal.TooLong (λ e. refl)) (λ o. as-string s o))
    (λ s. refused Refusal.UnsafeCharacter (λ e. refl))
  where
    R : Got → Type 0
    R = Reads (Kind.safe short) v
reads Kind.integer v = go (parse_of v)
  where
    go : (p : Result Number ParseError) → Reads Kind.integer v (integer_read p)
    go (Ok n) = as-integer
    go (Err ParseError.Malformed) = refused Refusal.MalformedInteger (λ e. refl)
    go (Err ParseError.OutOfRange) = refused Refusal.OutOfRange (λ e. refl)
reads Kind.base64 v = go (verdict_of v) refl
  where
    go : (x : Result ℕ Fault) → verdict_of v ≡ x → Reads Kind.base64 v (base64_read x (bytes_of v))
    go (Ok padding) e = as_bytes e
    go (Err fault) e = refused (base64_refusal fault) (λ q. of-base64 fault)

-- a value's bytes in the scratch are at most three for four of its text
pub stored-room : {k : Kind} {v : List ℕ} {x : Value} → Reads k v (Got.got x) → 4 * length (stored_for k x) ≤ 3 * length v
stored-room (as-word h) = omega arith
stored-room (as-string s o) = omega arith
stored-room as-integer = omega arith
stored-room (as_bytes {v} {padding} e) = omega (arith, (length_valid v padding e).1)
