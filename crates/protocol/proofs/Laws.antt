-- Laws of finding, of stores into the table, and of ids, which the history theorem and the calls cite.
use Prim.Native.Nat.{ℕ, zero, suc, ◌≤◌, ◌<◌}
use mathlib.Core.Path.{◌≡◌, refl, sym, ◌∙◌}
use mathlib.Core.Bool.{Bool, true, false, ◌&&◌}
use mathlib.Core.List.{List, [], ◌∷◌, ◌++◌}
use native.Mathlib.Decide.{ℕ_discrete}
use native.Mathlib.Omega.{arith}
use lib.ListN.{length, get_or, set, take, replicate}
use lib.Seq.{get_or-set_same, get_or-set_other, take-take, take-append_seam}
use borrow.Author.Tests.{ne_eqb}
use Rattle.std.specs.Prelude.{Option, Some, None}
use Rattle.octets.specs.Slices.{equals}
use Rattle.octets.proofs.Below.{both_test}
use Rattle.octets.proofs.Compare.{equals_refl, equals-sound}
use Rattle.command.proofs.ReadValues.{of_text}
use Rattle.protocol.specs.Machine.{is_unfed}
use Rattle.protocol.specs.declared.Told.TheVariants as Told
use Rattle.protocol.specs.Sound.{Unique}
use Rattle.protocol.specs.Table.{zeros, padded, here_or, first, is_used}
use Rattle.protocol.specs.declared.FileState.{FileState}

-- ---- tests
pub no_way : {A : Type 0} → ◌≡◌ {A = Bool} true false → A
no_way e = let z : ◌≡◌ {A = ℕ} 0 1 = cc in absurd (omega arith)

-- the refusals of a text are told by a feed that took its bytes
pub text-taken : (n : ℕ) → of_text n ≡ true → is_unfed (Told.Refused n) ≡ false
text-taken n l = rw (ne_eqb n 9 (λ e. no_way (sym (rw e at l))), ne_eqb n 10 (λ e. no_way (sym (rw e at l))))

pub both_false : (a : Bool) → (a && false) ≡ false
both_false true = refl
both_false false = refl

pub equals-other : (a b : List ℕ) → (a ≡ b → ⊥) → equals a b ≡ false
equals-other a b h = go (equals a b) refl
  where
    go : (t : Bool) → equals a b ≡ t → equals a b ≡ false
    go true e = absurd (h (equals-sound a b e))
    go false e = e

pub equals-same : (a b : List ℕ) → a ≡ b → equals a b ≡ true
equals-same a b e = rw e (equals_refl b)

-- ---- the first member of which a test holds
module _ {A : Type 0} (p : A → Bool) (d : A) where
  pub first-at : (l : List A) (i : ℕ) → first p l ≡ Some i → (i < length l) × (p (get_or l i d) ≡ true)
  unfolding first
  first-at [] i e = let z : ◌≡◌ {A = ℕ} 0 1 = cc in absurd (omega arith)
  first-at (x ∷ xs) i e = go (p x) refl (first p xs) refl e (λ k. first-at xs k)
    where
      go : (b : Bool) → p x ≡ b → (f : Option ℕ) → first p xs ≡ f → here_or b f ≡ Some i
          → ((k : ℕ) → first p xs ≡ Some k → (k < length xs) × (p (get_or xs k d) ≡ true))
          → (i < suc (length xs)) × (p (get_or (x ∷ xs) i d) ≡ true)
      go true q f r s more =
          let z : 0 ≡ i = cc in
          rw (← z) (omega arith, q)
      go false q None r s more = let z : ◌≡◌ {A = ℕ} 0 1 = cc in absurd (omega arith)
      go false q (Some k) r s more =
          let z : suc k ≡ i = cc in
          let g = more k r in
          rw (← z) (omega arith, g.1)

  first-nowhere : p d ≡ false → (l : List A) → first p l ≡ None → (i : ℕ) → p (get_or l i d) ≡ false
  unfolding first
  first-nowhere h [] e i = h
  first-nowhere h (x ∷ xs) e i = go (p x) refl (first p xs) refl e (λ r. first-nowhere h xs r) i
    where
      go : (b : Bool) → p x ≡ b → (f : Option ℕ) → first p xs ≡ f → here_or b f ≡ None
          → (first p xs ≡ None → (i : ℕ) → p (get_or xs i d) ≡ false)
          → (i : ℕ) → p (get_or (x ∷ xs) i d) ≡ false
      go true q f r s more i = let z : ◌≡◌ {A = ℕ} 0 1 = cc in absurd (omega arith)
      go false q None r s more zero = q
      go false q None r s more (suc i) = more r i
      go false q (Some k) r s more i = let z : ◌≡◌ {A = ℕ} 0 1 = cc in absurd (omega arith)

-- the same for the first used member with an id
module _ {A : Type 0} (used : A → Bool) (key : A → List ℕ) (d : A) (l : List A) (k : List ℕ) where
  pub found_at : (i : ℕ) → first (λ (x : A). (used x && equals (key x) k)) l ≡ Some i
      → (i < length l) × (used (get_or l i d) ≡ true) × (key (get_or l i d) ≡ k)
  found_at i e =
      let f = first-at (λ (x : A). (used x && equals (key x) k)) d l i e in
      let b = both_test (used (get_or l i d)) (equals (key (get_or l i d)) k) f.1 in
      (f.0, b.0, equals-sound (key (get_or l i d)) k b.1)

  pub found_nowhere : used d ≡ false → first (λ (x : A). (used x && equals (key x) k)) l ≡ None
      → (i : ℕ) → used (get_or l i d) ≡ true → equals (key (get_or l i d)) k ≡ false
  found_nowhere n e i u =
      rw u at (first-nowhere (λ (x : A). (used x && equals (key x) k)) d (rw n) l e i)

-- ---- stores
-- what holds at each place after a store, by the place: of the new member there, and of the old ones at the other places
pub set_at : {A : Type 0} (P : ℕ → A → Type 0) (d : A) (l : List A) (i : ℕ) (a : A) → i < length l → P i a
    → ((j : ℕ) → (j ≡ i → ⊥) → P j (get_or l j d)) → (j : ℕ) → P j (get_or (set l i a) j d)
set_at P d l i a h here there j = go (ℕ_discrete j i)
  where
    go : Dec (j ≡ i) → P j (get_or (set l i a) j d)
    go (yes e) = rw (e, get_or-set_same l i a d h) here
    go (no n) = rw (get_or-set_other l i j a d n) (there j n)

pub set-each : {A : Type 0} (P : A → Type 0) (d : A) (l : List A) (i : ℕ) (a : A) → i < length l → P a
    → ((j : ℕ) → (j ≡ i → ⊥) → P (get_or l j d)) → (j : ℕ) → P (get_or (set l i a) j d)
set-each P = set_at (λ _. P)

-- the same of a store at any place, which may lie outside
pub set-any : {A : Type 0} (P : ℕ → A → Type 0) (l : List A) (i : ℕ) (a d : A) → P i a → ((j : ℕ) → P j (get_or l j d))
    → (j : ℕ) → P j (get_or (set l i a) j d)
set-any P [] i a d here there j = there j
set-any P (x ∷ xs) zero a d here there zero = here
set-any P (x ∷ xs) zero a d here there (suc j) = there (suc j)
set-any P (x ∷ xs) (suc i) a d here there zero = there zero
set-any P (x ∷ xs) (suc i) a d here there (suc j) = set-any (λ (n : ℕ). P (suc n)) xs i a d here (λ n. there (suc n)) j

pub set-unique : {A : Type 0} (used : A → Bool) (key : A → List ℕ) (d : A) (l : List A) (i : ℕ) (a : A) → i < length l → Unique used key d l
    → (used a ≡ true → (j : ℕ) → (j ≡ i → ⊥) → used (get_or l j d) ≡ true → key (get_or l j d) ≡ key a → ⊥)
    → Unique used key d (set l i a)
set-unique used key d l i a h un new j j' p q r = go (ℕ_discrete j i) (ℕ_discrete j' i)
  where
    go : Dec (j ≡ i) → Dec (j' ≡ i) → j ≡ j'
    go (yes e) (yes f) = e ∙ sym f
    go (yes e) (no n) =
        let x : get_or (set l i a) j d ≡ a = rw e (get_or-set_same l i a d h) in
        let y : get_or (set l i a) j' d ≡ get_or l j' d = get_or-set_other l i j' a d n in
        absurd (new (rw x at p) j' n (rw y at q) (sym (rw (x, y) at r)))
    go (no n) (yes f) =
        let x : get_or (set l i a) j' d ≡ a = rw f (get_or-set_same l i a d h) in
        let y : get_or (set l i a) j d ≡ get_or l j d = get_or-set_other l i j a d n in
        absurd (new (rw x at q) j n (rw y at p) (rw (x, y) at r))
    go (no n) (no n') =
        let x : get_or (set l i a) j d ≡ get_or l j d = get_or-set_other l i j a d n in
        let y : get_or (set l i a) j' d ≡ get_or l j' d = get_or-set_other l i j' a d n' in
        un j j' (rw x at p) (rw y at q) (rw (x, y) at r)

-- the others than one with the id have other ids
pub unique-other : {A : Type 0} (used : A → Bool) (key : A → List ℕ) (d : A) (l : List A) (i : ℕ) (k : List ℕ) → Unique used key d l
    → used (get_or l i d) ≡ true → key (get_or l i d) ≡ k → (j : ℕ) → (j ≡ i → ⊥)
    → used (get_or l j d) ≡ true → equals (key (get_or l j d)) k ≡ false
unique-other used key d l i k un u e j n v = equals-other (key (get_or l j d)) k (λ q. n (un j i v u (q ∙ sym e)))

-- of as many equal members, and of what stands past their end
pub replicate-each : {A : Type 0} (P : A → Type 0) {a d : A} → P a → P d → (n j : ℕ) → P (get_or (replicate n a) j d)
replicate-each P x y zero j = y
replicate-each P x y (suc n) zero = x
replicate-each P x y (suc n) (suc j) = replicate-each P x y n j

-- ---- ids
-- an id of at most 32 bytes comes back from its array
pub padded-id : (k : List ℕ) → length k ≤ 32 → take (length k) (padded k) ≡ k
padded-id k h = take-take (length k) 32 (k ++ zeros) h ∙ take-append_seam k zeros

-- ---- file states
-- past its opening
abbrev pub is_past : FileState → Bool
is_past FileState.Free = false
is_past FileState.Opening = false
is_past FileState.Started = true
is_past FileState.Done = true
is_past FileState.Failed = true
is_past FileState.Named = false

pub past-used : (g : FileState) → is_past g ≡ true → is_used g ≡ true
past-used FileState.Free e = no_way (sym e)
past-used FileState.Opening e = refl
past-used FileState.Started e = refl
past-used FileState.Done e = refl
past-used FileState.Failed e = refl
past-used FileState.Named e = refl
