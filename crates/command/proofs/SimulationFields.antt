-- Two readings of one text: if two steps keep a relation between their states at each value of the text, the whole readings keep it, and
-- they refuse the same texts with the same numbers.
use Prim.Native.Nat.{ℕ, ◌+◌, ◌≤◌, ◌<◌}
use mathlib.Core.Path.{◌≡◌, refl, sym, ◌∙◌, ap}
use mathlib.Core.Bool.{Bool, true, false, cond, ◌&&◌}
use mathlib.Core.List.{List, [], ◌∷◌, ◌++◌, append-nil}
use native.Mathlib.Omega.{arith}
use lib.ListN.{length, drop, length-append, length-drop}
use lib.Seq.{drop-drop, drop-append-le, drop-append-add}
use lib.Dec.{ltb}
use borrow.Author.Tests.{ltb-true, ltb-false}
use Rattle.octets.specs.Members.{every}
use Rattle.octets.specs.Ascii.{ascii}
use Rattle.octets.specs.Slices.{starts_with}
use Rattle.octets.specs.Split.{split, join}
use Rattle.octets.proofs.Below.{both_test}
use Rattle.octets.proofs.Compare.{starts-sound}
use Rattle.octets.proofs.Splits.{join-split}
use Rattle.frames.specs.Stream.{text_limit}
use Rattle.command.specs.Keys.{keys, number_of}
use Rattle.command.specs.Letters.{text_byte}
use Rattle.command.specs.Fields.{Turn, and_then, Step, is_key, equals_sign, key_of, value_of, field_read, fields_read, text_read}

-- ---- where fields and values stand in a text
-- v stands in the text at a place
pub record At (t : List ℕ) (at : ℕ) (v : List ℕ) : Type 0 where
  pub rest : List ℕ
  pub cut : drop at t ≡ v ++ rest
  pub within : at + length v ≤ length t

-- fields stand one after another from a place on, with a byte between each two
data Stand (t : List ℕ) : ℕ → List (List ℕ) → Type 0 where
  none : {at : ℕ} → Stand t at []
  next : {at : ℕ} {f : List ℕ} {fs : List (List ℕ)} → At t at f → Stand t (at + length f + 1) fs → Stand t at (f ∷ fs)

stand : (t : List ℕ) (fs : List (List ℕ)) (at : ℕ) → at ≤ length t → drop at t ≡ join 59 fs → Stand t at fs
unfolding join
stand t [] at h e = none
stand t (f ∷ []) at h e =
    let w : at + length f ≤ length t = omega (arith, ap length e, length-drop at t) in
    next (record { rest = []; cut = e ∙ sym (append-nil f); within = w }) none
stand t (f ∷ g ∷ fs) at h e =
    let r : List ℕ = 59 ∷ join 59 (g ∷ fs) in
    let m : length (drop at t) ≡ length f + length r = ap length e ∙ length-append f r in
    let n : at + (length f + 1) ≡ at + length f + 1 = omega arith in
    let w : at + length f ≤ length t = omega (arith, length-drop at t) in
    next (record { rest = r; cut = e; within = w })
    (stand t (g ∷ fs) (at + length f + 1) (omega (arith, length-drop at t))
    (rw (← n, ← (drop-drop (length f + 1) at t), e) (drop-append-add f r 1)))

-- a field's value stands where the field does, past its key
value-at : (t : List ℕ) (at : ℕ) (f : List ℕ) (k : ℕ) → k ≤ length f → At t at f → At t (at + k) (drop k f)
value-at t at f k h a =
    record {
      rest = a.rest;
      cut = sym (drop-drop k at t) ∙ ap (drop k) a.cut ∙ drop-append-le k f a.rest h;
      within = omega (arith, length-drop k f, a.within);
    }

-- ---- two readings
-- both turns go on, or both refuse with the same number; the states are related
pub data Agree {S S' : Type 0} (R : S → S' → Type 0) : Turn S → Turn S' → Type 0 where
  on : {s : S} {s' : S'} → R s s' → Agree R (Turn.on s) (Turn.on s')
  off : {r : ℕ} {s : S} {s' : S'} → R s s' → Agree R (Turn.off r s) (Turn.off r s')

agree_test : {S S' : Type 0} {R : S → S' → Type 0} {x y : Turn S} {x' y' : Turn S'} (t : Bool)
    → (t ≡ true → Agree R x x') → (t ≡ false → Agree R y y') → Agree R (cond t x y) (cond t x' y')
agree_test true f g = f refl
agree_test false f g = g refl

-- R is what holds of two states when the text before a place is read; it goes on holding, and the steps keep it
pub record Related (t : List ℕ) {S S' : Type 0} (R : ℕ → S → S' → Type 0) (step : Step S) (step' : Step S') : Type 0 where
  pub later : {a b : ℕ} {s : S} {s' : S'} → a ≤ b → R a s s' → R b s s'
  pub steps : (n from at : ℕ) (v : List ℕ) {s : S} {s' : S'} → length t ≤ text_limit → n < length keys → from ≤ at → At t at v → R from s s'
      → Agree (R (at + length v)) (step n at v s) (step' n at v s')

module _ (t : List ℕ) {S S' : Type 0} {R : ℕ → S → S' → Type 0} {step : Step S} {step' : Step S'} (related : Related t R step step') where
  agree-later : {a b : ℕ} {x : Turn S} {y : Turn S'} → a ≤ b → Agree (R a) x y → Agree (R b) x y
  agree-later h (on r) = on (related.later h r)
  agree-later h (off r) = off (related.later h r)

  agree_then : {a b : ℕ} {x : Turn S} {y : Turn S'} {k : S → Turn S} {k' : S' → Turn S'} → a ≤ b → Agree (R a) x y
      → ((s : S) (s' : S') → R a s s' → Agree (R b) (k s) (k' s')) → Agree (R b) (and_then x k) (and_then y k')
  agree_then h (on {s} {s'} r) then = then s s' r
  agree_then h (off r) then = off (related.later h r)

  field-agree : (from at : ℕ) (f : List ℕ) {s : S} {s' : S'} → length t ≤ text_limit → from ≤ at → At t at f → R from s s'
      → Agree (R (at + length f)) (field_read step at f s) (field_read step' at f s')
  unfolding field_read
  field-agree from at f {s} {s'} short h a r =
      agree_test (ltb (equals_sign f) (length f) && is_key (key_of f)) (λ k.
      agree_test (ltb (number_of keys (key_of f)) (length keys)) (λ n. known (ltb-true _ _ (both_test _ _ k).0) (ltb-true _ _ n))
      (λ n. on (related.later (omega arith) r))) (λ k. off (related.later (omega arith) r))
    where
      known : equals_sign f < length f → number_of keys (key_of f) < length keys → let n = number_of keys (key_of f) in
          let v = at + (equals_sign f + 1) in Agree (R (at + length f)) (step n v (value_of f) s) (step' n v (value_of f) s')
      known l n =
          agree-later (omega (arith, length-drop (equals_sign f + 1) f))
          (related.steps (number_of keys (key_of f)) from (at + (equals_sign f + 1)) (value_of f) short n (omega arith)
          (value-at t at f (equals_sign f + 1) (omega arith) a) r)

  fields-agree : (from at : ℕ) (fs : List (List ℕ)) {s : S} {s' : S'} → length t ≤ text_limit → from ≤ at → from ≤ length t
      → Stand t at fs → R from s s'
      → Agree (R (length t)) (fields_read step at fs s) (fields_read step' at fs s')
  unfolding fields_read
  fields-agree from at [] short h l none r = on (related.later l r)
  fields-agree from at (f ∷ fs) short h l (next a more) r =
      agree_then a.within (field-agree from at f short h a r)
      (λ s s' q. fields-agree (at + length f) (at + length f + 1) fs short (omega arith) a.within more q)

  pub text-agree : {s : S} {s' : S'} → R 0 s s' → Agree (R (length t)) (text_read step t s) (text_read step' t s')
  unfolding text_read
  text-agree {s} {s'} r =
      agree_test (ltb text_limit (length t)) (λ l. off (related.later (omega arith) r)) (λ l.
      agree_test (every text_byte t) (λ b.
      agree_test (starts_with t (ascii "5113;")) (λ m.
      (let l5 : 5 ≤ length t = omega (arith, ap length (starts-sound t (ascii "5113;") m)) in
      fields-agree 5 5 (split 59 (drop 5 t)) (ltb-false _ _ l) (omega arith) l5
      (stand t (split 59 (drop 5 t)) 5 l5 (sym (join-split 59 (drop 5 t)))) (related.later (omega arith) r)))
      (λ m. off (related.later (omega arith) r))) (λ b. off (related.later (omega arith) r)))
