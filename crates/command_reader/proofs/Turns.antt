-- The field at a place of a text: its key, found in one pass over the key's bytes, and its value.
use Prim.Native.Nat.{ℕ, zero, suc, ◌+◌, ◌-◌, ◌≤◌, ◌<◌}
use mathlib.Core.Path.{◌≡◌, refl, sym, ◌∙◌, ap}
use mathlib.Core.Bool.{Bool, true, false, cond, not, ◌&&◌, and-false}
use mathlib.Core.List.{List, [], ◌∷◌}
use native.Mathlib.Omega.{arith}
use native.Mathlib.Decide.{dec_lt}
use native.Mathlib.Nat.{zero-sub, sub-zero, suc-sub-suc}
use lib.ListN.{length, get_or, take, drop, length-take, length-drop}
use lib.Seq.{take-nil, take-take, drop-drop, get_or-drop, get_or-take}
use lib.Dec.{ltb, eqb}
use borrow.Author.Tests.{lt-ltb, le-ltb, le-leb, lt-leb, ltb-true, not-true}
use Rattle.std.specs.Prelude.{Option, Ok}
use Rattle.octets.specs.Search.{index_of, index_after}
use Rattle.octets.specs.Members.{every}
use Rattle.octets.specs.Split.{split}
use Rattle.octets.proofs.Below.{both_test}
use Rattle.octets.proofs.Finds.{index-found}
use Rattle.octets.proofs.Cuts.{cut-within, cut-length, cut-last, cut-more}
use Rattle.command.specs.Classes.{run}
use Rattle.command.specs.Keys.{keys, number_of, within}
use Rattle.command.specs.Letters.{key_byte, text_byte}
use Rattle.command.specs.Fields.{Turn, and_then, is_key, known, field_read, fields_read}
use Rattle.command.specs.Read.{Reader, kept}
use Rattle.command.proofs.Calm.{calm, plain, key-plain}
use Rattle.command.proofs.Runs.{run_is}
use Rattle.command_reader.specs.States.{left, Names}

-- ---- a field, cut off what is left of a text
-- a key's byte is neither `;` nor `=`
key_apart : (x : ℕ) → key_byte x ≡ true → (eqb x 59 ≡ false) × (eqb x 61 ≡ false)
unfolding plain calm
key_apart x e =
    let p = both_test (calm x) _ (key-plain x e) in
    (not-true (eqb x 59) (both_test (text_byte x) (not (eqb x 59)) p.0).1, not-true (eqb x 61) p.1)

abbrev field_in : List ℕ → List ℕ
field_in l = take (index_of 59 l) l

-- where the bytes of a key end at a `=`
pub record Signed (l : List ℕ) (k : ℕ) : Type 0 where
  pub ends : index_of 59 l ≡ suc (k + index_of 59 (drop (suc k) l))
  pub sign : index_of 61 (field_in l) ≡ k
  pub letters : every key_byte (take k l) ≡ true

pub signed : (l : List ℕ) → run key_byte l < length l → get_or l (run key_byte l) 0 ≡ 61 → Signed l (run key_byte l)
unfolding run index_of index_after every
signed [] h e = absurd (omega arith)
signed (x ∷ r) h e = go (key_byte x) refl h e (signed r)
  where
    go : (b : Bool) → key_byte x ≡ b → let k = cond b (suc (run key_byte r)) 0 in
        k < suc (length r) → get_or (x ∷ r) k 0 ≡ 61
        → (run key_byte r < length r → get_or r (run key_byte r) 0 ≡ 61 → Signed r (run key_byte r)) → Signed (x ∷ r) k
    go true q l s ih =
        let n = key_apart x q in
        let i = ih (omega arith) s in
        record {
          ends = rw n.0 (omega (arith, i.ends));
          sign = rw (n.0, n.1) (ap suc i.sign);
          letters = rw q i.letters;
        }
    go false q l s ih = rw s (record { ends = omega arith; sign = refl; letters = refl })

-- where they do not, the field has no key before a `=`
abbrev keyed : List ℕ → Bool
keyed f = ltb (index_of 61 f) (length f) && every key_byte (take (index_of 61 f) f)

no-letter : key_byte 61 ≡ false
unfolding key_byte index_of index_after
no-letter = refl

unsigned : (l : List ℕ) → (run key_byte l < length l → get_or l (run key_byte l) 0 ≡ 61 → ⊥) → keyed (field_in l) ≡ false
unsigned l n = go (keyed (field_in l)) refl
  where
    go : (b : Bool) → keyed (field_in l) ≡ b → b ≡ false
    go false e = refl
    go true e =
        let f = field_in l in
        let k = index_of 61 f in
        let t = both_test (ltb k (length f)) _ e in
        let i : k < length f = ltb-true k (length f) t.0 in
        let m = length-take (index_of 59 l) l in
        let c : get_or l k 0 ≡ 61 = sym (get_or-take (index_of 59 l) l k 0 (omega arith)) ∙ index-found 61 f i in
        let q = rw (take-take k (index_of 59 l) l (omega arith)) at t.1 in
        let r : run key_byte l ≡ k = run_is key_byte l k (omega arith) q (rw c no-letter) in
        absurd (n (omega arith) (rw r c))

-- ---- the text from a place on: its first field, and then the others
module _ (t : List ℕ) (at end : ℕ) (h : at ≤ length t) (e : end ≡ at + index_of 59 (drop at t)) where
  left-next : (s : Reader) → left at t s ≡ and_then (field_read kept at (field_in (drop at t)) s) (λ (s' : Reader). left (end + 1) t s')
  unfolding left fields_read
  left-next s = rw (le-leb at (length t) h) (go (dec_lt end (length t)))
    where
      f : List ℕ
      f = take (end - at) (drop at t)

      same : f ≡ field_in (drop at t)
      same = let n : end - at ≡ index_of 59 (drop at t) = omega arith in rw n

      next : at + length f + 1 ≡ end + 1
      next = omega (arith, cut-length 59 t at end h e)

      go : Dec (end < length t) → fields_read kept at (split 59 (drop at t)) s
          ≡ and_then (field_read kept at (field_in (drop at t)) s) (λ (s' : Reader). left (end + 1) t s')
      go (yes l) =
          rw (cut-more 59 t at end h e (λ (q : end ≡ length t). omega arith), next, same, le-leb (end + 1) (length t) (omega arith))
      go (no l) =
          rw (cut-last 59 t at end h e (omega (arith, cut-within 59 t at end h e)), same, lt-leb (end + 1) (length t) (omega arith))

drop-take : (k n : ℕ) (l : List ℕ) → drop k (take n l) ≡ take (n - k) (drop k l)
drop-take zero n l = rw (sub-zero n)
drop-take (suc k) zero l = rw (zero-sub (suc k))
drop-take (suc k) (suc n) [] = sym (take-nil (suc n - suc k))
drop-take (suc k) (suc n) (x ∷ l) = rw (suc-sub-suc n k) (drop-take k n l)

-- the bytes of a key from `at` on end at `sign`
module _ (t : List ℕ) (at sign : ℕ) (h : at ≤ length t) (q : sign ≡ at + run key_byte (drop at t)) where
  abbrev l : List ℕ
  l = drop at t

  -- no key, or no `=` after it
  none : (ltb (index_of 61 (field_in l)) (length (field_in l)) && is_key (take (index_of 61 (field_in l)) (field_in l))) ≡ false
      → (s : Reader) → left at t s ≡ Turn.off 4 s
  unfolding field_read
  none e s = left-next t at (at + index_of 59 l) h refl s ∙ rw e

  bad : (a b c : Bool) → (a && c) ≡ false → (a && (b && c)) ≡ false
  bad true true c e = e
  bad true false c e = refl
  bad false b c e = refl

  pub unsigned-left : (sign < length t → get_or t sign 0 ≡ 61 → ⊥) → (s : Reader) → left at t s ≡ Turn.off 4 s
  unfolding is_key
  unsigned-left n =
      let f = field_in l in
      let k = take (index_of 61 f) f in
      let e = unsigned l (λ i e. n (omega (arith, length-drop at t)) (rw q (sym (get_or-drop at t (run key_byte l) 0) ∙ e))) in
      none (bad (ltb (index_of 61 f) (length f)) (ltb 0 (length k)) (every key_byte k) e)

  module _ (i : sign < length t) (e : get_or t sign 0 ≡ 61) where
    s61 : Signed l (run key_byte l)
    s61 = signed l (omega (arith, length-drop at t)) (get_or-drop at t (run key_byte l) 0 ∙ rw (← q) e)

    pub empty_left : sign ≡ at → (s : Reader) → left at t s ≡ Turn.off 4 s
    unfolding is_key
    empty_left z = let k : run key_byte l ≡ 0 = omega arith in none (rw (s61.sign, k) (and-false (ltb 0 (length (field_in l)))))

    module _ (some : at < sign) (end : ℕ) (g : end ≡ (sign + 1) + index_of 59 (drop (sign + 1) t)) where
      rest : drop (suc (run key_byte l)) l ≡ drop (sign + 1) t
      rest = let n : at + suc (run key_byte l) ≡ sign + 1 = omega arith in rw (drop-drop (suc (run key_byte l)) at t, n)

      ends : end ≡ at + index_of 59 l
      ends = omega (arith, rw rest at s61.ends)

      end-within : end ≤ length t
      end-within = cut-within 59 t (sign + 1) end (omega arith) g

      -- the key by which the field is known, and its value
      name : take (run key_byte l) (field_in l) ≡ take (sign - at) l
      name =
          let n : run key_byte l ≡ sign - at = omega arith in
          rw (take-take (run key_byte l) (index_of 59 l) l (omega (arith, s61.ends)), n)

      value : drop (run key_byte l + 1) (field_in l) ≡ take (end - (sign + 1)) (drop (sign + 1) t)
      value =
          let o : at + (run key_byte l + 1) ≡ sign + 1 = omega arith in
          let n : index_of 59 l - (run key_byte l + 1) ≡ end - (sign + 1) = omega (arith, ends) in
          drop-take (run key_byte l + 1) (index_of 59 l) l ∙ rw (drop-drop (run key_byte l + 1) at t, o, n)

      here : (s : Reader) → field_read kept at (field_in l) s
          ≡ known kept 15 (number_of keys (take (sign - at) l)) (sign + 1) (take (end - (sign + 1)) (drop (sign + 1) t)) s
      unfolding field_read is_key
      here s =
          let o : at + (run key_byte l + 1) ≡ sign + 1 = omega arith in
          let f : run key_byte l < length (field_in l) = omega (arith, ends, end-within, length-take (index_of 59 l) l, length-drop at t) in
          let z : 0 < length (take (sign - at) l) = omega (arith, length-take (sign - at) l, length-drop at t) in
          let k : every key_byte (take (sign - at) l) ≡ true =
          (let d : run key_byte l ≡ sign - at = omega arith in rw d at s61.letters) in
          rw (
            s61.sign,
            lt-ltb (run key_byte l) (length (field_in l)) f,
            name,
            lt-ltb 0 (length (take (sign - at) l)) z,
            k,
            o,
            value,
          )

      -- which is that of the key with its name, or of none
      pub field-named : (key : Option ℕ) → key ≡ within (length keys) (number_of keys (take (sign - at) l))
          → Names (Ok (record { key = key; from = sign + 1; end = end })) t at
      field-named key m = rw m (go (dec_lt n 15))
        where
          n : ℕ
          n = number_of keys (take (sign - at) l)

          go : Dec (n < 15) → Names (Ok (record { key = within 15 n; from = sign + 1; end = end })) t at
          go (yes k) =
              rw (lt-ltb n 15 k)
              (omega arith, omega arith, end-within, k, λ s. left-next t at end h ends s ∙ rw (here s, lt-ltb n 15 k))
          go (no k) =
              rw (le-ltb n 15 (omega arith))
              (omega arith, omega arith, end-within, tt, λ s. left-next t at end h ends s ∙ rw (here s, le-ltb n 15 (omega arith)))
