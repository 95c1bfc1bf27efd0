-- Laws of the table's rows, and of a text that is looked for among texts.
use Prim.Native.Nat.{ℕ, suc, ◌+◌, ◌<◌, ◌≤◌}
use mathlib.Core.Path.{◌≡◌, refl, sym, ◌∙◌}
use mathlib.Core.Bool.{Bool, true, false, cond}
use mathlib.Core.List.{List, [], ◌∷◌, map}
use native.Mathlib.Omega.{arith}
use lib.ListN.{length, get_or, get_or-map}
use lib.Dec.{ltb}
use borrow.Author.Tests.{lt-ltb, le-ltb, ltb-true, ltb-false}
use Rattle.std.specs.Prelude.{Option, Some, None, Ok, option_map}
use Rattle.std.specs.Option.{ok_or}
use Rattle.std.specs.Borrow.{Bor}
use Rattle.std.specs.Str.{bytes_eq}
use Rattle.std.specs.List.{find, position, position_or_len}
use Rattle.std.proofs.lemmas.List.{length-map}
use Rattle.std.proofs.lemmas.List.Recursion.{is_position_or_len}
use Rattle.octets.specs.Slices.{equals}
use Rattle.octets.proofs.Compare.{equals-pointwise}
use Rattle.command.specs.Keys.{Key, key, keys, key_at, within, place_in}
use Rattle.command.specs.Keys as Keys
use Rattle.command.specs.Rows.{texts_of, alias_of, words_of}
use Rattle.command.specs.Values.{Got, Value, count, code_got, alias_read, word_read, value_read}
use Rattle.command.specs.declared.words.Alias.{Alias}
use Rattle.command.specs.declared.words.Words.{Words}

-- ---- the keys, each by computing
-- what two lists have alike member by member, they have alike at every place
at_each : {A : Type 0} (f g : Key → A) (l : List Key) (d : Key) → map f l ≡ map g l → f d ≡ g d → (k : ℕ)
    → f (get_or l k d) ≡ g (get_or l k d)
at_each f g l d e n k = sym (get_or-map f l k d) ∙ rw (e, n) (get_or-map g l k d)

pub at_key : {A : Type 0} (f g : Key → A) → map f keys ≡ map g keys → f (key "" Keys.Kind.integer) ≡ g (key "" Keys.Kind.integer) → (k : ℕ)
    → f (key_at keys k) ≡ g (key_at keys k)
at_key f g e n k = at_each f g keys (key "" Keys.Kind.integer) e n k

-- ---- a text among texts
module _ {A : Type 0} (f : A → List ℕ) (v : List ℕ) where
  place-position : (xs : List A) → place_in (map f xs) v ≡ position_or_len (λ (x : A). bytes_eq v (f x)) xs
  unfolding place_in
  place-position =
      is_position_or_len (λ xs. place_in (map f xs) v) (λ (x : A). bytes_eq v (f x)) refl
      (λ x xs. rw (equals-pointwise v (f x)) (next (equals v (f x)) (place_in (map f xs) v)))
    where
      next : (b : Bool) (n : ℕ) → cond b 0 (suc n) ≡ cond b 0 (1 + n)
      next true n = refl
      next false n = omega arith

  -- what `position` answers, by `place_in`
  pub position-place : (xs : List A) → position (λ (x : A). bytes_eq v (f x)) xs ≡ within (length xs) (place_in (map f xs) v)
  position-place xs = rw (place-position xs)

-- ---- a place that is one, or none
pub within-some : (count n i : ℕ) → within count n ≡ Some i → (n < count) × (n ≡ i)
within-some count n i e = go (ltb n count) refl e
  where
    go : (b : Bool) → ltb n count ≡ b → cond b (Some n) None ≡ Some i → (n < count) × (n ≡ i)
    go true q e = (ltb-true n count q, cc)
    go false q e = cc

pub within-none : (count n : ℕ) → within count n ≡ None → count ≤ n
within-none count n e = go (ltb n count) refl e
  where
    go : (b : Bool) → ltb n count ≡ b → cond b (Some n) None ≡ None → count ≤ n
    go true q e = cc
    go false q e = ltb-false n count q

-- ---- the words of a key
module _ (w : Words) (v : List ℕ) where
  abbrev place : ℕ
  place = place_in (texts_of w.texts.now) v

  -- what `position` answers among them
  abbrev found : Option ℕ
  found = position (λ (t : Bor (List ℕ)). bytes_eq v t.now) w.texts.now

  pub word-code : (i : ℕ) → found ≡ Some i → code_got (Ok (w.first + i)) ≡ value_read (words_of w) v
  unfolding value_read word_read
  word-code i e =
      let at = position-place (λ (t : Bor (List ℕ)). t.now) v w.texts.now in
      let p = within-some (length w.texts.now) place i (sym at ∙ e) in
      let h : place < length (texts_of w.texts.now) = omega (arith, p.0, length-map w.texts.now (λ (t : Bor (List ℕ)). t.now)) in
      rw (lt-ltb place (length (texts_of w.texts.now)) h, p.1)

  -- what `find` answers among the aliases
  abbrev code_in : List Alias → Option ℕ
  code_in aliases = option_map (λ (a : Alias). a.code) (find (λ (a : Alias). bytes_eq v a.text.now) aliases)

  alias-code : (xs : List Alias) → alias_read w.unknown (map alias_of xs) v ≡ code_got (ok_or (code_in xs) w.unknown)
  unfolding alias_read
  alias-code [] = refl
  alias-code (a ∷ xs) = rw (equals-pointwise v a.text.now) (by (equals v a.text.now) (alias-code xs))
    where
      by : (b : Bool) → alias_read w.unknown (map alias_of xs) v ≡ code_got (ok_or (code_in xs) w.unknown)
          → cond b (Got.got (Value.number (count a.code))) (alias_read w.unknown (map alias_of xs) v)
          ≡ code_got (ok_or (option_map (λ (a : Alias). a.code) (cond b (Some a) (find (λ (a : Alias). bytes_eq v a.text.now) xs))) w.unknown)
      by true e = refl
      by false e = e

  pub no-word : found ≡ None → code_got (ok_or (code_in w.aliases.now) w.unknown) ≡ value_read (words_of w) v
  unfolding value_read word_read
  no-word e =
      let at = position-place (λ (t : Bor (List ℕ)). t.now) v w.texts.now in
      let h : length (texts_of w.texts.now) ≤ place =
      omega (arith, within-none (length w.texts.now) place (sym at ∙ e), length-map w.texts.now (λ (t : Bor (List ℕ)). t.now)) in
      rw (le-ltb place (length (texts_of w.texts.now)) h) (sym (alias-code w.aliases.now))
