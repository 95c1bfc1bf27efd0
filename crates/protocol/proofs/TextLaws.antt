-- What holds of every text that is read: a refusal is one of a text, and of a command the ids are safe strings of at most 32
-- bytes, that of the session not empty.
use Prim.Native.Nat.{ℕ, zero, suc, ◌+◌, ◌≤◌}
use mathlib.Core.Path.{◌≡◌, refl}
use mathlib.Core.Bool.{Bool, true, false, cond, ◌&&◌, ◌||◌}
use mathlib.Core.List.{List, [], ◌∷◌}
use native.Mathlib.Omega.{arith}
use lib.ListN.{length, get_or, drop}
use lib.Dec.{ltb, eqb}
use borrow.Author.Tests.{ltb-false, eqb-false}
use Rattle.frames.specs.Stream.{text_limit}
use Rattle.octets.specs.Members.{every}
use Rattle.octets.specs.Ascii.{ascii}
use Rattle.octets.specs.Slices.{starts_with}
use Rattle.octets.specs.Split.{split}
use Rattle.command.specs.Keys.{Kind, Key, keys, kind_at, number_of}
use Rattle.command.specs.Letters.{safe_byte, text_byte}
use Rattle.command.specs.Values.{Value, Got, value_read}
use Rattle.command.specs.Fields.{Turn, and_then, Step, is_key, equals_sign, key_of, value_of, field_read, fields_read, text_read}
use Rattle.command.specs.Meaning.{Field, stored, once, meant, blank, values_in, bytes_in, action_code, id_of, file_id_of}
use Rattle.command.specs.Meaning.{missing, Meaning, complete, finished, meaning_of}
use Rattle.command.proofs.ReadValues.{of_text, known, keys-known, Reads, as-word, as-string, as-integer, as_bytes, refused, reads}
use Rattle.protocol.specs.Sound.{IsId}
use Rattle.protocol.proofs.Laws.{set-any}

-- ---- a reading of which P holds step by step
-- the state after a turn has P, and a refusal is one of a text
data Turns {S : Type 0} (P : S → Type 0) : Turn S → Type 0 where
  on : {s : S} → P s → Turns P (Turn.on s)
  off : (r : ℕ) {s : S} → of_text r ≡ true → Turns P (Turn.off r s)

module _ {S : Type 0} (P : S → Type 0) (step : Step S) (keeps : (n at : ℕ) (v : List ℕ) (s : S) → P s → Turns P (step n at v s)) where
  field-turns : (at : ℕ) (f : List ℕ) (s : S) → P s → Turns P (field_read step at f s)
  unfolding field_read
  field-turns at f s h = go (ltb (equals_sign f) (length f) && is_key (key_of f)) (ltb (number_of keys (key_of f)) (length keys))
    where
      turn : Turn S
      turn = step (number_of keys (key_of f)) (at + (equals_sign f + 1)) (value_of f) s

      go : (a b : Bool) → Turns P (cond a (cond b turn (Turn.on s)) (Turn.off 4 s))
      go true true = keeps (number_of keys (key_of f)) (at + (equals_sign f + 1)) (value_of f) s h
      go true false = on h
      go false b = off 4 refl

  fields-turns : (at : ℕ) (fs : List (List ℕ)) (s : S) → P s → Turns P (fields_read step at fs s)
  unfolding fields_read
  fields-turns at [] s h = on h
  fields-turns at (f ∷ fs) s h = go (field-turns at f s h) (λ s'. fields-turns (at + length f + 1) fs s')
    where
      go : {x : Turn S} → Turns P x → ((s' : S) → P s' → Turns P (fields_read step (at + length f + 1) fs s'))
          → Turns P (and_then x (λ s'. fields_read step (at + length f + 1) fs s'))
      go (on {s} p) more = more s p
      go (off r l) more = off r l

  text-turns : (t : List ℕ) (s : S) → P s → Turns P (text_read step t s)
  unfolding text_read
  text-turns t s h = go (ltb text_limit (length t)) (every text_byte t) (starts_with t (ascii "5113;"))
    where
      turn : Turn S
      turn = fields_read step 5 (split 59 (drop 5 t)) s

      go : (a b c : Bool) → Turns P (cond a (Turn.off 1 s) (cond b (cond c turn (Turn.off 4 s)) (Turn.off 3 s)))
      go true b c = off 1 refl
      go false true true = fields-turns 5 (split 59 (drop 5 t)) s h
      go false true false = off 4 refl
      go false false c = off 3 refl

-- ---- values
-- of a safe string that has stood
abbrev Fit : Kind → Field → Type 0
Fit (Kind.word unknown first ws aliases) f = Unit {0}
Fit (Kind.safe short) Field.unseen = Unit {0}
Fit (Kind.safe short) (Field.seen v) = (every safe_byte (bytes_in v) ≡ true) × (short ≡ true → length (bytes_in v) ≤ 32)
Fit Kind.integer f = Unit {0}
Fit Kind.base64 f = Unit {0}

-- of what the text of a value reads as
abbrev FitGot : Kind → Got → Type 0
FitGot k (Got.got v) = Fit k (Field.seen v)
FitGot k (Got.refused r) = of_text r ≡ true

value-fits : {k : Kind} {v : List ℕ} {g : Got} → known k ≡ true → Reads k v g → FitGot k g
value-fits o (as-word h) = tt
value-fits o (as-string s l) = (s, λ e. ltb-false _ _ (rw e at l))
value-fits o as-integer = tt
value-fits o (as_bytes e) = tt
value-fits o (refused r l) = l o

-- ---- the fields
abbrev AllFit : List Field → Type 0
AllFit fs = (n : ℕ) → Fit (kind_at keys n) (get_or fs n Field.unseen)

unseen-fits : (k : Kind) → Fit k Field.unseen
unseen-fits (Kind.word unknown first ws aliases) = tt
unseen-fits (Kind.safe short) = tt
unseen-fits Kind.integer = tt
unseen-fits Kind.base64 = tt

blank-unseen : (ks : List Key) (n : ℕ) → get_or (blank ks) n Field.unseen ≡ Field.unseen
blank-unseen [] n = refl
blank-unseen (k ∷ ks) zero = refl
blank-unseen (k ∷ ks) (suc n) = blank-unseen ks n

meant-turns : (n at : ℕ) (v : List ℕ) (s : List Field) → AllFit s → Turns AllFit (meant n at v s)
meant-turns n at v s h = go (get_or s n Field.unseen)
  where
    new : (g : Got) → FitGot (kind_at keys n) g → Turns AllFit (stored n s g)
    new (Got.got x) f = on (λ i. set-any (λ (j : ℕ) (y : Field). Fit (kind_at keys j) y) s n (Field.seen x) Field.unseen f h i)
    new (Got.refused r) l = off r l

    go : (f : Field) → Turns AllFit (once f (stored n s (value_read (kind_at keys n) v)) s)
    go Field.unseen = new (value_read (kind_at keys n) v) (value-fits (keys-known n) (reads (kind_at keys n) v))
    go (Field.seen x) = off 5 refl

-- ---- the command
value-safe : (ks : List Key) (s : List Field) (n : ℕ) → ((i : ℕ) → Fit (kind_at ks i) (get_or s i Field.unseen))
    → kind_at ks n ≡ Kind.safe true
    → let v = bytes_in (get_or (values_in ks s) n Value.outside) in
    (every safe_byte v ≡ true) × (length v ≤ 32)
unfolding every
value-safe [] s n h e = (refl, omega arith)
value-safe (k ∷ ks) [] n h e = (refl, omega arith)
value-safe (k ∷ ks) (Field.unseen ∷ s) zero h e = rw e (refl, omega arith)
value-safe (k ∷ ks) (Field.seen v ∷ s) zero h e = let f = rw e at (h 0) in (f.0, f.1 refl)
value-safe (k ∷ ks) (f ∷ s) (suc n) h e = value-safe ks s n (λ i. h (suc i)) e

-- of a command that a text means
pub record Named (d : List Value) : Type 0 where
  pub acts : action_code d ≡ 0 → ⊥
  pub id : IsId (id_of d)
  pub file-safe : every safe_byte (file_id_of d) ≡ true
  pub file-short : length (file_id_of d) ≤ 32

complete-named : (s : List Field) (d : List Value) → AllFit s → complete (values_in keys s) ≡ Meaning.command d → Named d
complete-named s d h e = go (eqb (action_code v) 0) refl (eqb (length (id_of v)) 0) refl e
  where
    v : List Value
    v = values_in keys s

    go : (a : Bool) → eqb (action_code v) 0 ≡ a → (b : Bool) → eqb (length (id_of v)) 0 ≡ b
        → cond (a || b) (Meaning.refused 7) (Meaning.command v) ≡ Meaning.command d → Named d
    go true p b q w = let z : ◌≡◌ {A = ℕ} 0 1 = cc in absurd (omega arith)
    go false p true q w = let z : ◌≡◌ {A = ℕ} 0 1 = cc in absurd (omega arith)
    go false p false q w =
        let z : v ≡ d = cc in
        let i = value-safe keys s 4 h refl in
        let f = value-safe keys s 5 h refl in
        let n : length (id_of v) ≡ 0 → ⊥ = eqb-false _ _ q in
        rw (← z) (record {
          acts = eqb-false _ _ p;
          id = record { safe = i.0; some = omega arith; short = i.1 };
          file-safe = f.0;
          file-short = f.1;
        })

read-turns : (t : List ℕ) → Turns AllFit (text_read meant t (blank keys))
read-turns t = text-turns AllFit meant meant-turns t (blank keys) (λ n. rw (blank-unseen keys n) (unseen-fits (kind_at keys n)))

pub meaning-named : (t : List ℕ) (d : List Value) → meaning_of t ≡ Meaning.command d → Named d
unfolding meaning_of
meaning-named t d e = go (read-turns t) e
  where
    go : {x : Turn (List Field)} → Turns AllFit x → finished x ≡ Meaning.command d → Named d
    go (on {s} h) q = complete-named s d h q
    go (off r l) q = let z : ◌≡◌ {A = ℕ} 0 1 = cc in absurd (omega arith)

pub meaning-refusal : (t : List ℕ) (n : ℕ) → meaning_of t ≡ Meaning.refused n → of_text n ≡ true
unfolding meaning_of
meaning-refusal t n e = go (read-turns t) e
  where
    at-end : (b : Bool) (v : List Value) → cond b (Meaning.refused 7) (Meaning.command v) ≡ Meaning.refused n → of_text n ≡ true
    at-end true v q = let z : 7 ≡ n = cc in rw (← z)
    at-end false v q = let z : ◌≡◌ {A = ℕ} 0 1 = cc in absurd (omega arith)

    go : {x : Turn (List Field)} → Turns AllFit x → finished x ≡ Meaning.refused n → of_text n ≡ true
    go (on {s} h) q = at-end (missing (values_in keys s)) (values_in keys s) q
    go (off r l) q = let z : r ≡ n = cc in rw (← z) l
