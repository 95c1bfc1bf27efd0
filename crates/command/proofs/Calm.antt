-- Calm bytes: 20 to 7E and no `;`. The keys and values that are written are calm; so the text that they make passes the byte
-- check, and divides into them again.
use Prim.Native.Nat.{ℕ, ◌≤◌, ◌<◌}
use mathlib.Core.Path.{◌≡◌, refl}
use mathlib.Core.Bool.{Bool, true, not, ◌&&◌, ◌||◌}
use mathlib.Core.Logic.{◌⊎◌, inl, inr}
use mathlib.Core.List.{List, [], ◌∷◌}
use native.Mathlib.Omega.{arith}
use lib.ListN.{length}
use lib.Dec.{leb, eqb}
use borrow.Author.Tests.{le-leb, leb-true, ne_eqb, eqb-false, not-true}
use Rattle.octets.specs.Search.{index_of}
use Rattle.octets.specs.Ascii.{ascii}
use Rattle.octets.specs.Members.{every}
use Rattle.octets.specs.Split.{split, join}
use Rattle.octets.proofs.Below.{both_test, at}
use Rattle.octets.proofs.Finds.{index_le, index-found}
use Rattle.octets.proofs.Splits.{Free, AllFree, split-join}
use Rattle.base64_codec.specs.Alphabet.{letter_of}
use Rattle.base64_codec.proofs.Letters.{Letter, letter-value}
use Rattle.base64_codec.proofs.Groups.{Groups, none, full, pad1, pad2}
use Rattle.decimal.specs.Write as Decimal
use Rattle.decimal.specs.declared.Number.{Number}
use Rattle.decimal.proofs.Texts.{text-between}
use Rattle.command.specs.Letters.{between, among, alphanumeric, key_byte, safe_byte, text_byte}
use Rattle.command.proofs.Cases.{either_test}
use Rattle.command.proofs.Every.{every_cons, every_map, every_append, every-at, each-every}

-- ---- calm, and plain: no `=` either
unfoldable pub calm : ℕ → Bool
calm c = text_byte c && not (eqb c 59)

unfoldable pub plain : ℕ → Bool
plain c = calm c && not (eqb c 61)

calm-is : (c : ℕ) → 32 ≤ c → c ≤ 126 → (c ≡ 59 → ⊥) → calm c ≡ true
unfolding calm text_byte
calm-is c l u n = rw (le-leb 32 c l, le-leb c 126 u, ne_eqb c 59 n)

plain-is : (c : ℕ) → 32 ≤ c → c ≤ 126 → (c ≡ 59 → ⊥) → (c ≡ 61 → ⊥) → plain c ≡ true
unfolding plain
plain-is c l u n m = rw (calm-is c l u n, ne_eqb c 61 m)

pub plain-calm : (c : ℕ) → plain c ≡ true → calm c ≡ true
unfolding plain
plain-calm c e = (both_test (calm c) _ e).0

calm-text : (c : ℕ) → calm c ≡ true → text_byte c ≡ true
unfolding calm
calm-text c e = (both_test (text_byte c) _ e).0

-- ---- what is calm
between_test : (l u c : ℕ) → between l u c ≡ true → (l ≤ c) × (c ≤ u)
between_test l u c e = let h = both_test (leb l c) (leb c u) e in (leb-true l c h.0, leb-true c u h.1)

-- one of some plain bytes
among-plain : (s : List ℕ) → every plain s ≡ true → (c : ℕ) → among s c ≡ true → plain c ≡ true
among-plain s p c e =
    let i : index_of c s < length s = omega (arith, index_le c s, eqb-false (index_of c s) (length s) (not-true _ e)) in
    rw (index-found c s i) at (every-at plain s (index_of c s) p i)

-- digits, letters and some plain bytes besides
class-plain : (s : List ℕ) → every plain s ≡ true → (c : ℕ) → (alphanumeric c || among s c) ≡ true → plain c ≡ true
class-plain s p c e = go (either_test (alphanumeric c) (among s c) e)
  where
    letter : (between 65 90 c ≡ true) ⊎ (between 97 122 c ≡ true) → plain c ≡ true
    letter (inl q) = let b = between_test 65 90 c q in plain-is c (omega arith) (omega arith) (λ r. omega arith) (λ r. omega arith)
    letter (inr q) = let b = between_test 97 122 c q in plain-is c (omega arith) (omega arith) (λ r. omega arith) (λ r. omega arith)

    digit : (between 48 57 c ≡ true) ⊎ ((between 65 90 c || between 97 122 c) ≡ true) → plain c ≡ true
    digit (inl q) = let b = between_test 48 57 c q in plain-is c (omega arith) (omega arith) (λ r. omega arith) (λ r. omega arith)
    digit (inr q) = letter (either_test _ _ q)

    go : (alphanumeric c ≡ true) ⊎ (among s c ≡ true) → plain c ≡ true
    go (inl q) = digit (either_test _ _ q)
    go (inr q) = among-plain s p c q

pub key-plain : (c : ℕ) → key_byte c ≡ true → plain c ≡ true
unfolding key_byte every plain calm text_byte
key-plain c e = class-plain (ascii "_") refl c e

pub safe-calm : (c : ℕ) → safe_byte c ≡ true → calm c ≡ true
unfolding safe_byte every plain calm text_byte
safe-calm c e = plain-calm c (class-plain (ascii "_:./@-") refl c e)

-- an integer's text
pub integer-calm : (n : Number) → every calm (Decimal.text_of n) ≡ true
integer-calm n = each-every calm (λ c h. calm-is c (omega arith) (omega arith) (λ q. omega arith)) (Decimal.text_of n) (text-between n)

-- a Base64 text
letter-tested : ℕ → Bool
letter-tested v = calm (letter_of v)

letter-calm : (c : ℕ) → Letter c → calm c ≡ true
unfolding letter-tested
letter-calm c h = rw (letter-value c h) at (at 64 letter-tested (unfold calm text_byte letter_of in refl) _ h)

pub groups-calm : {t : List ℕ} {k : ℕ} → Groups t k → every calm t ≡ true
unfolding every calm text_byte
groups-calm none = refl
groups-calm (full {a} {b} {c} {d} ha hb hc hd g) =
    rw (letter-calm a ha, letter-calm b hb, letter-calm c hc, letter-calm d hd) (groups-calm g)
groups-calm (pad1 {a} {b} {c} ha hb hc z) = rw (letter-calm a ha, letter-calm b hb, letter-calm c hc)
groups-calm (pad2 {a} {b} ha hb z) = rw (letter-calm a ha, letter-calm b hb)

-- ---- calm fields
-- no `;` stands in them
free : (t : List ℕ) → every calm t ≡ true → Free 59 t
unfolding calm
free [] h = tt
free (c ∷ t) h =
    let q = every_cons calm c t h in
    (eqb-false c 59 (not-true _ (both_test (text_byte c) _ q.0).1), free t q.1)

all-free : (fs : List (List ℕ)) → every (every calm) fs ≡ true → AllFree 59 fs
all-free [] h = tt
all-free (f ∷ fs) h = let q = every_cons (every calm) f fs h in (free f q.0, all-free fs q.1)

-- they make a text of 20 to 7E
pub join-text : (fs : List (List ℕ)) → every (every calm) fs ≡ true → every text_byte (join 59 fs) ≡ true
unfolding join
join-text [] h = unfold every in refl
join-text (f ∷ []) h = every_map calm text_byte calm-text f (every_cons (every calm) f [] h).0
join-text (f ∷ g ∷ fs) h =
    let q = every_cons (every calm) f (g ∷ fs) h in
    every_append text_byte f (59 ∷ join 59 (g ∷ fs)) (every_map calm text_byte calm-text f q.0)
    (every_append text_byte (59 ∷ []) (join 59 (g ∷ fs)) (unfold every text_byte in refl) (join-text (g ∷ fs) q.1))

-- which divides into them again
pub split-again : (f : List ℕ) (fs : List (List ℕ)) → every (every calm) (f ∷ fs) ≡ true → split 59 (join 59 (f ∷ fs)) ≡ f ∷ fs
split-again f fs h = split-join 59 f fs (all-free (f ∷ fs) h)
