-- Laws of `every`, the test of each member of a list.
use Prim.Native.Nat.{ℕ, zero, suc, ◌<◌}
use mathlib.Core.Path.{◌≡◌, refl}
use mathlib.Core.Bool.{Bool, true}
use mathlib.Core.List.{List, [], ◌∷◌, ◌++◌}
use native.Mathlib.Omega.{arith}
use lib.ListN.{length, get_or}
use borrow.Author.Tests.{ltb-true, lt-ltb}
use Rattle.octets.specs.Bytes.{Bytes}
use Rattle.octets.specs.Members.{every}
use Rattle.octets.proofs.Below.{both_test}
use Rattle.decimal.proofs.Texts.{Each}
use Rattle.command.specs.Letters.{is_byte}

pub every_cons : {A : Type 0} (f : A → Bool) (x : A) (xs : List A) → every f (x ∷ xs) ≡ true → (f x ≡ true) × (every f xs ≡ true)
unfolding every
every_cons f x xs e = both_test (f x) (every f xs) e

pub every_map : (f g : ℕ → Bool) → ((c : ℕ) → f c ≡ true → g c ≡ true) → (t : List ℕ) → every f t ≡ true → every g t ≡ true
unfolding every
every_map f g i [] e = refl
every_map f g i (c ∷ t) e = let h = every_cons f c t e in rw (i c h.0) (every_map f g i t h.1)

pub every_append : (f : ℕ → Bool) (a b : List ℕ) → every f a ≡ true → every f b ≡ true → every f (a ++ b) ≡ true
unfolding every
every_append f [] b h k = k
every_append f (c ∷ a) b h k = let q = every_cons f c a h in rw q.0 (every_append f a b q.1 k)

pub every-at : (f : ℕ → Bool) (s : List ℕ) (i : ℕ) → every f s ≡ true → i < length s → f (get_or s i 0) ≡ true
every-at f [] i e h = absurd (omega arith)
every-at f (c ∷ s) zero e h = (every_cons f c s e).0
every-at f (c ∷ s) (suc i) e h = every-at f s i (every_cons f c s e).1 (omega arith)

-- ---- a property of each byte, and the test of it
pub each-every : {P : ℕ → Type 0} (f : ℕ → Bool) → ((c : ℕ) → P c → f c ≡ true) → (t : List ℕ) → Each P t → every f t ≡ true
unfolding every
each-every f i [] h = refl
each-every f i (c ∷ t) h = rw (i c h.0) (each-every f i t h.1)

-- the writer tests that they are bytes, Base64's laws ask it
pub bytes-every : (b : List ℕ) → every is_byte b ≡ true → Bytes b
bytes-every [] e = tt
bytes-every (x ∷ b) e = let h = every_cons is_byte x b e in (ltb-true x 256 h.0, bytes-every b h.1)

pub every-bytes : (b : List ℕ) → Bytes b → every is_byte b ≡ true
unfolding every
every-bytes [] h = refl
every-bytes (x ∷ b) h = rw (lt-ltb x 256 h.0) (every-bytes b h.1)
