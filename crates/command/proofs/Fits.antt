-- Fields and the values that they are, key by key. The grammar's fields are those of some values; the writer's are those of the
-- values that it takes.
use Prim.Native.Nat.{ℕ, zero, suc, ◌≤◌, ◌<◌}
use mathlib.Core.Path.{◌≡◌, refl, sym, ◌∙◌, ap}
use mathlib.Core.Bool.{Bool, true, false, not, ◌||◌, true≢false, false≢true}
use mathlib.Core.Logic.{◌⊎◌, inl, inr}
use mathlib.Core.List.{List, [], ◌∷◌, ◌++◌}
use native.Mathlib.Decide.{dec_lt}
use native.Mathlib.Omega.{arith}
use lib.ListN.{length, get_or, get_or-eq_default}
use lib.Dec.{eqb}
use borrow.Author.Tests.{ne_eqb, eqb-true, eqb-false}
use Rattle.octets.specs.Slices.{equals}
use Rattle.octets.proofs.Below.{at}
use Rattle.command.specs.Keys.{Alias, Kind, Key, key, keys, key_at, kind_at}
use Rattle.command.specs.Values.{Value, absent, Shown, shown}
use Rattle.command.specs.Meaning.{number_in, bytes_in, action_code, id_of, missing}
use Rattle.command.specs.Canonical.{field, fields_of}
use Rattle.command.specs.Grammar.{needed, CanonicalFields, no_more, left_out, there}
use Rattle.command.specs.Write.{Checked, before, checked_of}
use Rattle.command.specs.declared.Refusal.{Refusal}
use Rattle.command.proofs.Cases.{either_test, either_false}
use Rattle.command.proofs.WrittenValues.{Spelled, Met, met, spelled-shown, absent-shown}
use Rattle.command.proofs.WrittenValues as Written
use Rattle.command.proofs.CanonicalValues.{value-spelled, spelled-canonical}

-- each key has a value and its text; or what absent means, if it need not be there
pub data Fits : List Key → List Value → List (List ℕ) → Type 0 where
  none : Fits [] [] []
  out : {k : Key} {ks : List Key} {x : Value} {c : List Value} {fs : List (List ℕ)}
      → x ≡ absent k.kind → needed k ≡ false → Fits ks c fs → Fits (k ∷ ks) (x ∷ c) fs
  with-text : {k : Key} {ks : List Key} {x : Value} {c : List Value} {fs : List (List ℕ)} (v : List ℕ)
      → Spelled k.kind x v → Fits ks c fs → Fits (k ∷ ks) (x ∷ c) ((k.name ++ 61 ∷ v) ∷ fs)

-- ---- the grammar's fields
pub canonical-fits : {ks : List Key} {fs : List (List ℕ)} → CanonicalFields ks fs → (c : List Value) × Fits ks c fs
canonical-fits no_more = ([], none)
canonical-fits (left_out {k} n r) = let h = canonical-fits r in (absent k.kind ∷ h.0, out refl n h.1)
canonical-fits (there v s r) =
    let x = value-spelled s in
    let h = canonical-fits r in
    (x.0 ∷ h.0, with-text v x.1 h.1)

pub fits-canonical : {ks : List Key} {c : List Value} {fs : List (List ℕ)} → Fits ks c fs → CanonicalFields ks fs
fits-canonical none = no_more
fits-canonical (out e n r) = left_out n (fits-canonical r)
fits-canonical (with-text v s r) = there v (spelled-canonical s) (fits-canonical r)

-- ---- the writer's fields
pub fits-fields : {ks : List Key} {c : List Value} {fs : List (List ℕ)} → Fits ks c fs
    → (fields_of ks c ≡ fs) × (checked_of ks c ≡ Checked.fine)
unfolding fields_of checked_of
fits-fields none = (refl, refl)
fits-fields (out {k} e n r) = let h = fits-fields r in (rw (e, absent-shown k.kind) h.0, rw (e, absent-shown k.kind) h.1)
fits-fields (with-text v s r) = let h = fits-fields r in (rw (spelled-shown s, h.0), rw (spelled-shown s) h.1)

-- a key that must be there has more than what absent means
abbrev Given : List Key → List Value → Type 0
Given ks c = (i : ℕ) → needed (key_at ks i) ≡ true → get_or c i Value.outside ≡ absent (kind_at ks i) → ⊥

-- a fault is not fine
not-fine : {r : ℕ} {A : Type 0} → Checked.fault r ≡ Checked.fine → A
not-fine e = let z : ◌≡◌ {A = ℕ} 0 1 = cc in absurd (omega arith)

fields_fit : (ks : List Key) (c : List Value) → checked_of ks c ≡ Checked.fine → Given ks c → Fits ks c (fields_of ks c)
unfolding checked_of fields_of
fields_fit [] [] e g = none
fields_fit [] (v ∷ c) e g = not-fine e
fields_fit (k ∷ ks) [] e g = not-fine e
fields_fit (k ∷ ks) (v ∷ c) e g = go (shown k.kind v) (met k.kind v) e (λ q. fields_fit ks c q (λ i. g (suc i)))
  where
    unneeded : (b : Bool) → needed k ≡ b → v ≡ absent k.kind → needed k ≡ false
    unneeded true q a = absurd (g 0 q a)
    unneeded false q a = q

    go : (s : Shown) → Met k.kind v s → before s (checked_of ks c) ≡ Checked.fine
        → (checked_of ks c ≡ Checked.fine → Fits ks c (fields_of ks c)) → Fits (k ∷ ks) (v ∷ c) (field k.name s (fields_of ks c))
    go Shown.left_out (Written.out a) q ih = out a (unneeded (needed k) refl a) (ih q)
    go (Shown.text t) (Written.there s) q ih = with-text t s (ih q)
    go (Shown.refused r) Written.refused q ih = not-fine q

-- ---- "`ac` and a non-empty `id` must be there"
-- which the numbers 0 and 4 are, and no other
needed-at : (i : ℕ) → needed (key_at keys i) ≡ true → (i ≡ 0) ⊎ (i ≡ 4)
unfolding equals
needed-at i e = go (dec_lt i 15)
  where
    which : (eqb i 0 ≡ true) ⊎ (eqb i 4 ≡ true) → (i ≡ 0) ⊎ (i ≡ 4)
    which (inl q) = inl (eqb-true _ _ q)
    which (inr q) = inr (eqb-true _ _ q)

    go : Dec (i < 15) → (i ≡ 0) ⊎ (i ≡ 4)
    go (yes h) = which (either_test _ _ (rw e at (at 15 (λ j. (not (needed (key_at keys j)) || (eqb j 0 || eqb j 4))) refl i h)))
    go (no h) = let l : 15 ≤ i = omega arith in absurd (false≢true (rw (get_or-eq_default keys (key "" Kind.integer) l) at e))

-- what a command that lacks neither has
whole_is : (c : List Value) → missing c ≡ false → (action_code c ≡ 0 → ⊥) × (length (id_of c) ≡ 0 → ⊥)
whole_is c m = let h = either_false _ _ m in (eqb-false _ _ h.0, eqb-false _ _ h.1)

whole-given : (c : List Value) → missing c ≡ false → Given keys c
whole-given c m i e a = go (needed-at i e)
  where
    go : (i ≡ 0) ⊎ (i ≡ 4) → ⊥
    go (inl q) = (whole_is c m).0 (ap (λ (x : Value). (number_in x).magnitude) (rw q at a))
    go (inr q) = (whole_is c m).1 (ap (λ (x : Value). length (bytes_in x)) (rw q at a))

-- the fields of a command that the writer takes
pub taken-fits : (c : List Value) → checked_of keys c ≡ Checked.fine → missing c ≡ false → Fits keys c (fields_of keys c)
taken-fits c e m = fields_fit keys c e (whole-given c m)

-- the other way: fields that fit have both
spelled_at : {ks : List Key} {c : List Value} {fs : List (List ℕ)} → Fits ks c fs → (i : ℕ) → needed (key_at ks i) ≡ true
    → (v : List ℕ) × Spelled (kind_at ks i) (get_or c i Value.outside) v
unfolding equals
spelled_at none i e = absurd (false≢true e)
spelled_at (out a n r) zero e = absurd (false≢true (sym n ∙ e))
spelled_at (out a n r) (suc i) e = spelled_at r i e
spelled_at (with-text v s r) zero e = (v, s)
spelled_at (with-text v s r) (suc i) e = spelled_at r i e

word-there : {unknown : Refusal} {first : ℕ} {ws : List (List ℕ)} {aliases : List Alias} {x : Value} {v : List ℕ}
    → Spelled (Kind.word unknown first ws aliases) x v → (number_in x).magnitude ≡ 0 → ⊥
word-there (Written.word s z i e) = z

string-there : {short : Bool} {x : Value} {v : List ℕ} → Spelled (Kind.safe short) x v → length (bytes_in x) ≡ 0 → ⊥
string-there (Written.string s l) q = omega arith

pub fits_whole : {c : List Value} {fs : List (List ℕ)} → Fits keys c fs → missing c ≡ false
unfolding equals
fits_whole {c} f =
    rw (ne_eqb (action_code c) 0 (word-there (spelled_at f 0 refl).1), ne_eqb (length (id_of c)) 0 (string-there (spelled_at f 4 refl).1))

-- so that there is a field
pub some-field : {c : List Value} {fs : List (List ℕ)} → Fits keys c fs → (f : List ℕ) × (r : List (List ℕ)) × (fs ≡ f ∷ r)
unfolding equals
some-field (out a n r) = absurd (true≢false n)
some-field (with-text {fs} v s r) = (_, fs, refl)
