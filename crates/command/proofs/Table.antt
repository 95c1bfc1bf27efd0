-- What the round trips need of the table of keys: each key is found by its name, and each kind's words are told apart. One test,
-- which the checker computes of `keys`; no theorem names a key.
use Prim.Native.Nat.{ℕ, suc, ◌≤◌, ◌<◌}
use mathlib.Core.Path.{◌≡◌, refl, ap}
use mathlib.Core.Bool.{Bool, true, ◌&&◌}
use mathlib.Core.List.{List, [], ◌∷◌}
use native.Mathlib.Omega.{arith}
use lib.ListN.{length, get_or, drop, length-drop}
use lib.Seq.{drop-cons}
use lib.Dec.{ltb, leb, eqb}
use borrow.Author.Tests.{eqb-true, leb-true}
use Rattle.octets.specs.Members.{every}
use Rattle.octets.specs.Split.{split, onto}
use Rattle.octets.specs.Slices.{equals}
use Rattle.octets.proofs.Below.{both_test, all, at}
use Rattle.command.specs.Keys.{Alias, Kind, Key, key, keys, place_in, number_of, key_at, kind_at}
use Rattle.command.specs.Letters.{key_byte, text_byte}
use Rattle.command.specs.Fields.{is_key}
use Rattle.command.specs.declared.Refusal.{Refusal}
use Rattle.command.proofs.Calm.{calm}

-- ---- the test
-- a word is first found where it stands, and is calm
unfoldable pub apart : List (List ℕ) → ℕ → Bool
apart ws i = eqb (place_in ws (get_or ws i [])) i && every calm (get_or ws i [])

-- of a kind of words: codes count from 0 or 1, and the words are told apart
unfoldable pub fit : Kind → Bool
fit (Kind.word unknown first ws aliases) = leb first 1 && all (length ws) (apart ws)
fit (Kind.safe short) = true
fit Kind.integer = true
fit Kind.base64 = true

-- what the test says of one
pub record Words (first : ℕ) (ws : List (List ℕ)) : Type 0 where
  pub counted : first ≤ 1
  pub found : (i : ℕ) → i < length ws → place_in ws (get_or ws i []) ≡ i
  pub quiet : (i : ℕ) → i < length ws → every calm (get_or ws i []) ≡ true

pub fit_words : (unknown : Refusal) (first : ℕ) (ws : List (List ℕ)) (aliases : List Alias)
    → fit (Kind.word unknown first ws aliases) ≡ true → Words first ws
unfolding fit apart
fit_words unknown first ws aliases e =
    let a = both_test (leb first 1) (all (length ws) (apart ws)) e in
    let w : (i : ℕ) → i < length ws → (eqb (place_in ws (get_or ws i [])) i ≡ true) × (every calm (get_or ws i []) ≡ true) =
    λ i h. both_test _ _ (at (length ws) (apart ws) a.1 i h) in
    record { counted = leb-true first 1 a.0; found = λ i h. eqb-true _ _ (w i h).0; quiet = λ i h. (w i h).1 }

-- of each key: its name finds its number and is a key's name, and its kind is fit
unfoldable named : ℕ → List Key → Bool
named n [] = true
named n (k ∷ ks) = eqb (number_of keys k.name) n && (is_key k.name && (fit k.kind && named (suc n) ks))

tested : named 0 keys ≡ true
unfolding named fit apart calm text_byte every is_key key_byte place_in equals split onto
tested = refl

-- ---- what it says of each key
pub record Named (n : ℕ) (k : Key) : Type 0 where
  pub found : number_of keys k.name ≡ n
  pub inside : n < length keys
  pub kinded : kind_at keys n ≡ k.kind
  pub letters : is_key k.name ≡ true
  pub fits : fit k.kind ≡ true

pub key-letters : (a : List ℕ) → is_key a ≡ true → every key_byte a ≡ true
unfolding is_key
key-letters a e = (both_test (ltb 0 (length a)) (every key_byte a) e).1

abbrev pub AllNamed : ℕ → List Key → Type 0
AllNamed n [] = Unit {0}
AllNamed n (k ∷ ks) = Named n k × AllNamed (suc n) ks

all_named : (n : ℕ) (ks : List Key) → drop n keys ≡ ks → named n ks ≡ true → AllNamed n ks
unfolding named
all_named n [] e t = tt
all_named n (k ∷ ks) e t =
    let l : n < length keys = omega (arith, length-drop n keys, ap length e) in
    let first = drop-cons keys n (key "" Kind.integer) l in
    let here : key_at keys n ≡ k = cc in
    let a = both_test _ _ t in
    let b = both_test _ _ a.1 in
    let c = both_test _ _ b.1 in (
      record { found = eqb-true _ _ a.0; inside = l; kinded = ap (λ (x : Key). x.kind) here; letters = b.0; fits = c.0 },
      all_named (suc n) ks (cc) c.1,
    )

pub table : AllNamed 0 keys
table = all_named 0 keys refl tested
