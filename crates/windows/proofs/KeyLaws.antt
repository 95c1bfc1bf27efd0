-- Pairs compared: `same_key` decides whether two are one.
use mathlib.Core.Path.{◌≡◌, refl, ap, sym, ◌∙◌}
use mathlib.Core.Bool.{Bool, true, false, ◌&&◌}
use mathlib.Core.List.{List}
use Prim.Native.Nat.{ℕ}
use native.Mathlib.Omega.{arith}
use Rattle.octets.specs.Slices.{equals}
use Rattle.octets.proofs.Compare.{equals_refl, equals-sound}
use Rattle.protocol.specs.Stretches.{Key}
use Rattle.windows.specs.Compare.{same_key}

-- what follows from a test, however it comes out
pub by_test : {P : Type 0} (t : Bool) → (t ≡ true → P) → (t ≡ false → P) → P
by_test true p q = p refl
by_test false p q = q refl

both : (t u : Bool) → (t && u) ≡ true → (t ≡ true) × (u ≡ true)
both true u e = (refl, e)
both false u e = let z : ◌≡◌ {A = ℕ} 0 1 = cc in absurd (omega arith)

pub key_refl : (k : Key) → same_key k k ≡ true
key_refl k = rw (equals_refl k.id, equals_refl k.file)

keys : {i i' f f' : List ℕ} → i ≡ i' → f ≡ f' → ◌≡◌ {A = Key} (record { id = i; file = f }) (record { id = i'; file = f' })
keys p q = cc

pub key-sound : (j k : Key) → same_key j k ≡ true → j ≡ k
key-sound j k e =
    let h = both (equals j.id k.id) (equals j.file k.file) e in
    keys (equals-sound j.id k.id h.0) (equals-sound j.file k.file h.1)

turned : (j k : Key) → same_key j k ≡ true → same_key k j ≡ true
turned j k e = ap (λ (i : Key). same_key k i) (key-sound j k e) ∙ key_refl k

pub key_sym : (j k : Key) → same_key j k ≡ same_key k j
key_sym j k =
    by_test (same_key j k) (λ e. e ∙ sym (turned j k e))
    (λ e. by_test (same_key k j) (λ f. turned k j f ∙ sym f) (λ f. e ∙ sym f))

-- one that is not j is not what j is
pub key-other : (i j k : Key) → same_key i j ≡ false → same_key j k ≡ true → same_key i k ≡ false
key-other i j k n e = ap (same_key i) (sym (key-sound j k e)) ∙ n
