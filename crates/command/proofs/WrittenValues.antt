-- A value and the text that it is written as, by kind: the text reads as the same value, and is calm.
use Prim.Native.Nat.{ℕ, ◌-◌, ◌<◌}
use mathlib.Core.Path.{◌≡◌, refl, sym, ◌∙◌, ap}
use mathlib.Core.Bool.{Bool, true, false, ◌&&◌}
use mathlib.Core.List.{List, [], ◌∷◌}
use native.Mathlib.Omega.{arith}
use lib.ListN.{length, get_or}
use lib.Dec.{ltb, eqb}
use borrow.Author.Tests.{eqb-true, eqb-false, ne_eqb, ltb-true, lt-ltb, le-ltb}
use Rattle.octets.specs.Bytes.{Bytes}
use Rattle.octets.specs.Members.{every}
use Rattle.base64_codec.specs.Decode.{bytes_of}
use Rattle.base64_codec.specs.Encode as Base64
use Rattle.base64_codec.proofs.Groups.{valid-groups}
use Rattle.base64_codec.proofs.RoundTrip.{padding_of, valid-text, bytes-text}
use Rattle.decimal.specs.Write as Decimal
use Rattle.decimal.specs.declared.Number.{Number}
use Rattle.decimal.proofs.RoundTrip as decimal
use Rattle.decimal.proofs.Writes.{writable-is}
use Rattle.command.specs.Keys.{Alias, Kind, place_in}
use Rattle.command.specs.Letters.{safe_byte, is_byte}
use Rattle.command.specs.Values.{Value, count, absent, Got, word_read, over, safe_read, value_read}
use Rattle.command.specs.Values.{Shown, text_or, word_shown, safe_shown, integer_shown, base64_shown, shown}
use Rattle.command.specs.declared.Refusal.{Refusal}
use Rattle.command.proofs.Cases.{by_test}
use Rattle.command.proofs.Every.{every_map, bytes-every, every-bytes}
use Rattle.command.proofs.Calm.{calm, safe-calm, integer-calm, groups-calm}
use Rattle.command.proofs.Table.{fit, fit_words}

-- ---- a value that is written as a text, by its kind
pub data Spelled : Kind → Value → List ℕ → Type 0 where
  word : {unknown : Refusal} {first : ℕ} {ws : List (List ℕ)} {aliases : List Alias} {n : Number} {v : List ℕ}
      → n.negative ≡ false → (n.magnitude ≡ 0 → ⊥) → n.magnitude - first < length ws → get_or ws (n.magnitude - first) [] ≡ v
      → Spelled (Kind.word unknown first ws aliases) (Value.number n) v
  string : {short : Bool} {x : ℕ} {v : List ℕ} → every safe_byte (x ∷ v) ≡ true → over short (x ∷ v) ≡ false
      → Spelled (Kind.safe short) (Value.bytes (x ∷ v)) (x ∷ v)
  integer : {n : Number} {v : List ℕ} → Decimal.writable n ≡ true → (n.magnitude ≡ 0 → ⊥) → Decimal.text_of n ≡ v
      → Spelled Kind.integer (Value.number n) v
  base64 : {b : List ℕ} {x : ℕ} {v : List ℕ} → Bytes b → Base64.text_of b ≡ x ∷ v → Spelled Kind.base64 (Value.bytes b) (x ∷ v)

-- what the writer finds a value to be
pub data Met (k : Kind) (v : Value) : Shown → Type 0 where
  out : v ≡ absent k → Met k v Shown.left_out
  there : {t : List ℕ} → Spelled k v t → Met k v (Shown.text t)
  refused : {r : ℕ} → Met k v (Shown.refused r)

-- a number without sign is a count
unsigned : (n : Number) → n.negative ≡ false → n ≡ count n.magnitude
unsigned n e = ap (λ (b : Bool). record { negative = b; magnitude = n.magnitude }) e

nought : (n : Number) → n.negative ≡ false → n.magnitude ≡ 0 → n ≡ count 0
nought n e z = unsigned n e ∙ ap count z

-- an integer of ours that is 0 has no sign
pub writable-nought : (n : Number) → Decimal.writable n ≡ true → n.magnitude ≡ 0 → n ≡ count 0
writable-nought n w z = go n.negative refl (rw z at (writable-is n w).0)
  where
    go : (x : Bool) → n.negative ≡ x → (x && true) ≡ false → n ≡ count 0
    go true e q = let y : ◌≡◌ {A = ℕ} 0 1 = cc in absurd (omega arith)
    go false e q = nought n e z

met-word : (unknown : Refusal) (first : ℕ) (ws : List (List ℕ)) (aliases : List Alias) (n : Number)
    → Met (Kind.word unknown first ws aliases) (Value.number n) (word_shown unknown first ws n)
unfolding word_shown
met-word unknown first ws aliases n =
    let M : Shown → Type 0 = Met (Kind.word unknown first ws aliases) (Value.number n) in
    by_test M n.negative (λ s. refused) (λ s.
    by_test M (eqb n.magnitude 0) (λ z. out (ap Value.number (nought n s (eqb-true _ _ z)))) (λ z.
    by_test M (ltb (n.magnitude - first) (length ws)) (λ i. there (word s (eqb-false _ _ z) (ltb-true _ _ i) refl)) (λ i. refused)))

met-string : (short : Bool) (b : List ℕ) → Met (Kind.safe short) (Value.bytes b) (safe_shown short b)
unfolding safe_shown
met-string short b =
    by_test M (every safe_byte b) (λ s. by_test M (over short b) (λ l. refused) (λ l. spelled b s l)) (λ s. refused)
  where
    M : Shown → Type 0
    M = Met (Kind.safe short) (Value.bytes b)

    spelled : (b : List ℕ) → every safe_byte b ≡ true → over short b ≡ false → Met (Kind.safe short) (Value.bytes b) (text_or b)
    spelled [] s l = out refl
    spelled (c ∷ b) s l = there (string s l)

met-integer : (n : Number) → Met Kind.integer (Value.number n) (integer_shown n)
unfolding integer_shown
met-integer n =
    let M : Shown → Type 0 = Met Kind.integer (Value.number n) in
    by_test M (Decimal.negative_zero n) (λ z. refused) (λ z.
    by_test M (Decimal.out_of_range n) (λ r. refused) (λ r.
    (let w : Decimal.writable n ≡ true = unfold Decimal.writable in rw (z, r) in
    by_test M (eqb n.magnitude 0) (λ o. out (ap Value.number (writable-nought n w (eqb-true _ _ o))))
    (λ o. there (integer w (eqb-false _ _ o) refl)))))

met-base64 : (b : List ℕ) → Met Kind.base64 (Value.bytes b) (base64_shown b)
unfolding base64_shown
met-base64 b =
    by_test (Met Kind.base64 (Value.bytes b)) (every is_byte b) (λ e. spelled (Base64.text_of b) refl (bytes-every b e)) (λ e. refused)
  where
    spelled : (t : List ℕ) → Base64.text_of b ≡ t → Bytes b → Met Kind.base64 (Value.bytes b) (text_or t)
    spelled [] e h = out (ap Value.bytes (sym (bytes-text b h) ∙ ap bytes_of e ∙ (unfold bytes_of in refl)))
    spelled (c ∷ t) e h = there (base64 h e)

pub met : (k : Kind) (v : Value) → Met k v (shown k v)
unfolding shown
met (Kind.word unknown first ws aliases) (Value.number n) = met-word unknown first ws aliases n
met (Kind.word unknown first ws aliases) (Value.bytes b) = refused
met (Kind.word unknown first ws aliases) Value.outside = refused
met (Kind.safe short) (Value.number n) = refused
met (Kind.safe short) (Value.bytes b) = met-string short b
met (Kind.safe short) Value.outside = refused
met Kind.integer (Value.number n) = met-integer n
met Kind.integer (Value.bytes b) = refused
met Kind.integer Value.outside = refused
met Kind.base64 (Value.number n) = refused
met Kind.base64 (Value.bytes b) = met-base64 b
met Kind.base64 Value.outside = refused

-- ---- such a value is written as that text
pub spelled-shown : {k : Kind} {v : Value} {t : List ℕ} → Spelled k v t → shown k v ≡ Shown.text t
unfolding shown word_shown safe_shown integer_shown base64_shown
spelled-shown (word {unknown} {first} {ws} {aliases} {n} s z i e) = rw (s, ne_eqb _ _ z, lt-ltb _ _ i, e)
spelled-shown (string s l) = rw (s, l)
spelled-shown (integer {n} w z e) = let h = writable-is n w in rw (h.0, le-ltb _ _ h.1, ne_eqb _ _ z, e)
spelled-shown (base64 {b} h e) = rw (every-bytes b h, e)

-- what absent means is left out
pub absent-shown : (k : Kind) → shown k (absent k) ≡ Shown.left_out
unfolding shown word_shown safe_shown integer_shown base64_shown every Base64.text_of
absent-shown (Kind.word unknown first ws aliases) = refl
absent-shown (Kind.safe true) = refl
absent-shown (Kind.safe false) = refl
absent-shown Kind.integer = refl
absent-shown Kind.base64 = refl

-- ---- written, then read
pub spelled-reads : {k : Kind} {v : Value} {t : List ℕ} → Spelled k v t → fit k ≡ true → value_read k t ≡ Got.got v
unfolding value_read word_read
spelled-reads (word {unknown} {first} {ws} {aliases} {n} {v} s z i e) f =
    let o = fit_words unknown first ws aliases f in
    let b = o.counted in
    let p : place_in ws v ≡ n.magnitude - first = ap (place_in ws) (sym e) ∙ o.found (n.magnitude - first) i in
    rw (p, lt-ltb (n.magnitude - first) (length ws) i)
    (ap (λ (m : Number). Got.got (Value.number m)) (ap count (omega arith) ∙ sym (unsigned n s)))
spelled-reads (string s l) f = unfold safe_read in rw (s, l)
spelled-reads (integer {n} w z e) f = rw (← e, decimal.read-written n w)
spelled-reads (base64 {b} h e) f = rw (← e, valid-text b h, bytes-text b h)

-- as a calm text
pub spelled-calm : {k : Kind} {v : Value} {t : List ℕ} → Spelled k v t → fit k ≡ true → every calm t ≡ true
spelled-calm (word {unknown} {first} {ws} {aliases} {n} s z i e) f =
    rw e at ((fit_words unknown first ws aliases f).quiet (n.magnitude - first) i)
spelled-calm (string {short} {x} {v} s l) f = every_map safe_byte calm safe-calm (x ∷ v) s
spelled-calm (integer {n} w z e) f = rw e at (integer-calm n)
spelled-calm (base64 {b} h e) f = rw e at (groups-calm (valid-groups (Base64.text_of b) (padding_of b) (valid-text b h)))
