-- A field put, by what becomes of its value.
use Prim.Native.Nat.{ℕ, zero, suc, ◌+◌, ◌-◌, ◌<◌}
use mathlib.Core.Path.{◌≡◌, refl, sym, ◌∙◌, ap}
use mathlib.Core.Bool.{true, false}
use mathlib.Core.List.{List, [], ◌∷◌, ◌++◌}
use native.Mathlib.Omega.{arith}
use lib.ListN.{length, get_or, get_or-map, take, drop, length-take, length-drop}
use lib.Seq.{append_snoc}
use lib.Dec.{ltb, leb, eqb}
use borrow.Author.Tests.{lt-ltb, ltb-true, ne_eqb, eqb-true, leb-true}
use Rattle.std.specs.Prelude.{Result}
use Rattle.std.specs.Borrow.{Bor}
use Rattle.std.proofs.lemmas.List.{get_or_default, length-map}
use Rattle.octets.specs.Members.{every}
use Rattle.octets.specs.Slices.{part_of}
use Rattle.base64_codec.specs.Encode as Base64
use Rattle.base64_codec.proofs.Lengths.{length-text}
use Rattle.decimal.specs.Write.{text_of, negative_zero, out_of_range}
use Rattle.decimal.specs.declared.Number.{Number}
use Rattle.command.specs.Keys.{Kind}
use Rattle.command.specs.Letters.{is_byte}
use Rattle.command.specs.Rows.{texts_of, words_of}
use Rattle.command.specs.Values.{Value, Shown, unshown, text_or, word_shown, integer_shown, base64_shown, shown}
use Rattle.command.specs.Slots.{bytes_at}
use Rattle.command.specs.Write.{Checked, before}
use Rattle.command.specs.declared.Place.{Place}
use Rattle.command.specs.declared.words.Words.{Words}
use Rattle.command.specs.declared.Refusal.{Refusal}
use Rattle.command.proofs.Cases.{by_test}
use Rattle.command_writer.specs.Stores.{Put, PutOr}
use Rattle.command_writer.specs.Pieces.{piece}
use Rattle.command_writer.proofs.Puts.{put_then}

-- `;key=`, and then the value
pub field_put : (name v : List ℕ) {l m n : List ℕ} {o p q : ℕ} → Put (59 ∷ name ++ 61 ∷ []) l o p m → Put v m p q n
    → Put (59 ∷ name ++ 61 ∷ v) l o q n
field_put name v f g = rw (append_snoc name 61 v) at (put_then f g)

-- ---- strings
pub text-none : (s : List ℕ) → length s ≡ 0 → text_or s ≡ Shown.left_out
text-none [] h = refl
text-none (x ∷ s) h = absurd (omega arith)

pub text-some : (s : List ℕ) → (length s ≡ 0 → ⊥) → text_or s ≡ Shown.text s
text-some [] h = absurd (h refl)
text-some (x ∷ s) h = refl

module _ (l : List ℕ) (p : Place) where
  pub place-in : leb (p.start + p.len) (length l) ≡ true → bytes_at l p ≡ Value.bytes (part_of l p.start p.len)
  unfolding bytes_at part_of
  place-in h = rw h

  pub place_out : leb (p.start + p.len) (length l) ≡ false → bytes_at l p ≡ Value.outside
  unfolding bytes_at
  place_out h = rw h

-- what stands in a part of a slice are bytes
pub all-bytes : (l : List ℕ) (m n : ℕ) → ((i : ℕ) → get_or l i 0 < 256) → every is_byte (take n (drop m l)) ≡ true
unfolding every
all-bytes [] zero zero h = refl
all-bytes [] zero (suc n) h = refl
all-bytes [] (suc m) zero h = refl
all-bytes [] (suc m) (suc n) h = refl
all-bytes (x ∷ l) zero zero h = refl
all-bytes (x ∷ l) zero (suc n) h = rw (lt-ltb x 256 (h 0)) (all-bytes l zero n (λ i. h (suc i)))
all-bytes (x ∷ l) (suc m) n h = all-bytes l m n (λ i. h (suc i))

pub base64-some : (l : List ℕ) (p : Place) → ((i : ℕ) → get_or l i 0 < 256) → leb (p.start + p.len) (length l) ≡ true → (p.len ≡ 0 → ⊥)
    → shown Kind.base64 (bytes_at l p) ≡ Shown.text (Base64.text_of (part_of l p.start p.len))
unfolding shown base64_shown part_of
base64-some l p b h n =
    let t = take p.len (drop p.start l) in
    let within = leb-true (p.start + p.len) (length l) h in
    let size : length t ≡ p.len = omega (arith, within, length-take p.len (drop p.start l), length-drop p.start l) in
    rw (place-in l p h, h, all-bytes l p.start p.len b)
    (text-some (Base64.text_of t) (λ e. n (omega (arith, length-text t, size))))

-- ---- an integer that is not 0, put or refused
pub integer_put : (name : List ℕ) (n : Number) {l m : List ℕ} {o p : ℕ} (after : List ℕ) (q : ℕ) (r : Result (Unit {0}) Refusal)
    → 0 < n.magnitude
    → Put (59 ∷ name ++ 61 ∷ []) l o p m → PutOr (before (integer_shown n) Checked.fine) (text_of n) m p r q after
    → PutOr (before (integer_shown n) Checked.fine) (piece name (integer_shown n)) l o r q after
unfolding integer_shown
integer_put name n {l} {m} {o} {p} after q r h f =
    by_test Puts (negative_zero n) (λ z e. e) (λ z.
    by_test Puts (out_of_range n) (λ x e. e) (λ x.
    by_test Puts (eqb n.magnitude 0) (λ y. absurd (omega (arith, eqb-true n.magnitude 0 y)))
    (λ y e. (e.0, field_put name (text_of n) f e.1))))
  where
    Puts : Shown → Type 0
    Puts s = PutOr (before s Checked.fine) (text_of n) m p r q after → PutOr (before s Checked.fine) (piece name s) l o r q after

-- ---- the word of a code
module _ (w : Words) (n : Number) (s : n.negative ≡ false) (z : n.magnitude ≡ 0 → ⊥) (i : ℕ) (e : i ≡ n.magnitude - w.first) where
  pub word-unknown : false ≡ ltb i (length w.texts.now) → shown (words_of w) (Value.number n) ≡ unshown w.unknown
  unfolding shown word_shown
  word-unknown h = rw (s, ne_eqb _ _ z, length-map w.texts.now (λ (t : Bor (List ℕ)). t.now), ← e, ← h)

  pub word-put : (t : Bor (List ℕ)) → true ≡ ltb i (length w.texts.now) → t ≡ get_or w.texts.now i t
      → shown (words_of w) (Value.number n) ≡ Shown.text t.now
  unfolding shown word_shown
  word-put t h g =
      let l : i < length (texts_of w.texts.now) =
      omega (arith, ltb-true i (length w.texts.now) (sym h), length-map w.texts.now (λ (t : Bor (List ℕ)). t.now)) in
      let at : get_or (texts_of w.texts.now) i [] ≡ t.now =
      get_or_default (texts_of w.texts.now) i [] t.now l
      ∙ get_or-map (λ (t : Bor (List ℕ)). t.now) w.texts.now i t ∙ ap (λ (t : Bor (List ℕ)). t.now) (sym g) in
      rw (s, ne_eqb _ _ z, length-map w.texts.now (λ (t : Bor (List ℕ)). t.now), ← e, ← h, at)
