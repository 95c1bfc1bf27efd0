-- The canonical text, piece by piece.
use Prim.Native.Nat.{ℕ, zero, suc, ◌<◌}
use mathlib.Core.Path.{◌≡◌, refl, sym, ◌∙◌, ap}
use mathlib.Core.List.{List, [], ◌∷◌, ◌++◌, append-nil}
use native.Mathlib.Omega.{arith}
use lib.ListN.{length, get_or}
use Rattle.octets.specs.Split.{join}
use Rattle.command.specs.Keys.{Key, keys, kind_at}
use Rattle.command.specs.Values.{Value, Shown, shown}
use Rattle.command.specs.Canonical.{field, fields_of, canonical}
use Rattle.command.specs.Write.{Checked, before, checked_of}
use Rattle.command_writer.specs.Pieces.{piece, pieces, whole}
use Rattle.command_writer.proofs.Checks.{before-is, both-fine}

-- ---- fields with `;` before each
abbrev tails : List (List ℕ) → List ℕ
tails [] = []
tails (f ∷ fs) = 59 ∷ f ++ tails fs

tails-join : (f : List ℕ) (fs : List (List ℕ)) → 59 ∷ join 59 (f ∷ fs) ≡ tails (f ∷ fs)
unfolding join
tails-join f [] = ap (λ (x : List ℕ). 59 ∷ x) (sym (append-nil f))
tails-join f (g ∷ fs) = ap (λ (x : List ℕ). 59 ∷ f ++ x) (tails-join g fs)

tails-pieces : (ks : List Key) (c : List Value) → tails (fields_of ks c) ≡ pieces ks c
unfolding fields_of pieces
tails-pieces [] c = refl
tails-pieces (k ∷ ks) [] = refl
tails-pieces (k ∷ ks) (v ∷ c) = go (shown k.kind v) (tails-pieces ks c)
  where
    go : (s : Shown) → tails (fields_of ks c) ≡ pieces ks c → tails (field k.name s (fields_of ks c)) ≡ piece k.name s ++ pieces ks c
    go Shown.left_out e = e
    go (Shown.text t) e = ap (λ (x : List ℕ). 59 ∷ (k.name ++ 61 ∷ t) ++ x) e
    go (Shown.refused r) e = e

-- ---- nothing at fault: no value is refused
fine-here : (s : Shown) (c : Checked) → before s c ≡ Checked.fine → (before s Checked.fine ≡ Checked.fine) × (c ≡ Checked.fine)
fine-here s c e = both-fine (before s Checked.fine) c (sym (before-is s c) ∙ e)

pub fine-at : (ks : List Key) (c : List Value) (i : ℕ) → i < length ks → checked_of ks c ≡ Checked.fine
    → before (shown (kind_at ks i) (get_or c i Value.outside)) Checked.fine ≡ Checked.fine
unfolding checked_of
fine-at [] c i h e = absurd (omega arith)
fine-at (k ∷ ks) [] i h e = let z : ◌≡◌ {A = ℕ} 0 1 = cc in absurd (omega arith)
fine-at (k ∷ ks) (v ∷ c) zero h e = (fine-here (shown k.kind v) (checked_of ks c) e).0
fine-at (k ∷ ks) (v ∷ c) (suc i) h e = fine-at ks c i (omega arith) (fine-here (shown k.kind v) (checked_of ks c) e).1

-- ---- with one field the `;` after 5113 is that of the first
first_field : (k : Key) (ks : List Key) (v : Value) (c : List Value) → before (shown k.kind v) Checked.fine ≡ Checked.fine
    → (shown k.kind v ≡ Shown.left_out → ⊥) → 59 ∷ join 59 (fields_of (k ∷ ks) (v ∷ c)) ≡ tails (fields_of (k ∷ ks) (v ∷ c))
unfolding fields_of
first_field k ks v c e n = go (shown k.kind v) e n
  where
    go : (s : Shown) → before s Checked.fine ≡ Checked.fine → (s ≡ Shown.left_out → ⊥)
        → 59 ∷ join 59 (field k.name s (fields_of ks c)) ≡ tails (field k.name s (fields_of ks c))
    go Shown.left_out e n = absurd (n refl)
    go (Shown.text t) e n = tails-join (k.name ++ 61 ∷ t) (fields_of ks c)
    go (Shown.refused r) e n = let z : ◌≡◌ {A = ℕ} 0 1 = cc in absurd (omega arith)

pub canonical-pieces : (v : Value) (c : List Value) → checked_of keys (v ∷ c) ≡ Checked.fine
    → (shown (kind_at keys 0) v ≡ Shown.left_out → ⊥) → canonical (v ∷ c) ≡ whole (v ∷ c)
unfolding canonical
canonical-pieces v c e n =
    ap (λ (x : List ℕ). 53 ∷ 49 ∷ 49 ∷ 51 ∷ x) (first_field _ _ v c (fine-at keys (v ∷ c) 0 (omega arith) e) n ∙ tails-pieces keys (v ∷ c))
