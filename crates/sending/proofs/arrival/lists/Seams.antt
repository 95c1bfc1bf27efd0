-- Records that fill their room from the front: the used ones, at most one new one, and free ones. What stands, is stored and is found at
-- the place after the used ones.
use Prim.Native.Nat.{ℕ, zero, suc, ◌+◌, ◌-◌, ◌≤◌}
use mathlib.Core.Path.{◌≡◌, refl, ap}
use mathlib.Core.Bool.{Bool, true, false, not}
use mathlib.Core.List.{List, [], ◌∷◌, ◌++◌, append-nil}
use native.Mathlib.Omega.{arith}
use lib.ListN.{length, get_or, set, replicate}
use lib.Seq.{append_snoc, get_or_at, set_at}
use Rattle.std.specs.Prelude.{Some, None}
use Rattle.octets.specs.Members.{every}
use Rattle.command.proofs.Every.{every_cons}
use Rattle.protocol.specs.Table.{first, total}
use Rattle.sending.proofs.arrival.lists.Members.{not-true}

-- ---- what stands and is stored at the seam, the place i
-- free room with a record fewer
pub room-left : {A : Type 0} (m i : ℕ) (z : A) → suc i ≤ m → replicate (m - (i + 0)) z ≡ z ∷ replicate (m - (i + 1)) z
room-left m i z h =
    let e : m - (i + 0) ≡ suc (m - (i + 1)) = omega arith in
    ap (λ (n : ℕ). replicate n z) e

module _ {A : Type 0} (xs : List A) (i : ℕ) (l : length xs ≡ i) where
  -- the new record
  pub seam_getD : (y : A) (zs : List A) (d : A) → get_or ((xs ++ y ∷ []) ++ zs) i d ≡ y
  seam_getD y zs d = rw (append_snoc xs y zs) (get_or_at xs y zs d i l)

  pub seam_set : (y : A) (zs : List A) (a : A) → set ((xs ++ y ∷ []) ++ zs) i a ≡ (xs ++ a ∷ []) ++ zs
  seam_set y zs a = rw (append_snoc xs y zs, append_snoc xs a zs) (set_at xs y zs a i l)

  -- the first free one, whose place a new record takes
  pub free_getD : (m : ℕ) (z d : A) → suc i ≤ m → get_or ((xs ++ []) ++ replicate (m - (i + 0)) z) i d ≡ z
  free_getD m z d h = rw (append-nil xs, room-left m i z h) (get_or_at xs z (replicate (m - (i + 1)) z) d i l)

  pub free_set : (m : ℕ) (z a : A) → suc i ≤ m
      → set ((xs ++ []) ++ replicate (m - (i + 0)) z) i a ≡ (xs ++ a ∷ []) ++ replicate (m - (i + 1)) z
  free_set m z a h =
      rw (append-nil xs, room-left m i z h, append_snoc xs a (replicate (m - (i + 1)) z))
      (set_at xs z (replicate (m - (i + 1)) z) a i l)

-- ---- the first of which a test holds, which holds of none of the used ones
module _ {A : Type 0} (p : A → Bool) where
  none_free : (n : ℕ) (z : A) → p z ≡ false → first p (replicate n z) ≡ None
  unfolding first
  none_free zero z e = refl
  none_free (suc n) z e = rw (e, none_free n z e)

  none-past : (xs ys : List A) → every (λ (x : A). not (p x)) xs ≡ true → first p ys ≡ None
      → first p (xs ++ ys) ≡ None
  unfolding first
  none-past [] ys h e = e
  none-past (x ∷ xs) ys h e =
      let c = every_cons (λ (y : A). not (p y)) x xs h in
      rw (not-true (p x) c.0, none-past xs ys c.1 e)

  pub first_past : (xs : List A) (y : A) (ys : List A) → every (λ (x : A). not (p x)) xs ≡ true → p y ≡ true
      → first p (xs ++ y ∷ ys) ≡ Some (length xs)
  unfolding first
  first_past [] y ys h e = rw e
  first_past (x ∷ xs) y ys h e =
      let c = every_cons (λ (y : A). not (p y)) x xs h in
      rw (not-true (p x) c.0, first_past xs y ys c.1 e)

  module _ (xs : List A) (none : every (λ (x : A). not (p x)) xs ≡ true) where
    -- the new record; none, where it holds of no free one; and the first free one
    pub seam-first : (y : A) (zs : List A) → p y ≡ true → first p ((xs ++ y ∷ []) ++ zs) ≡ Some (length xs)
    seam-first y zs e = rw (append_snoc xs y zs) (first_past xs y zs none e)

    pub seam-none : (n : ℕ) (z : A) → p z ≡ false → first p ((xs ++ []) ++ replicate n z) ≡ None
    seam-none n z e = rw (append-nil xs) (none-past xs (replicate n z) none (none_free n z e))

    pub free-first : (m i : ℕ) (z : A) → suc i ≤ m → p z ≡ true
        → first p ((xs ++ []) ++ replicate (m - (i + 0)) z) ≡ Some (length xs)
    free-first m i z h e = rw (append-nil xs, room-left m i z h) (first_past xs z (replicate (m - (i + 1)) z) none e)

-- ---- a sum with one member more
pub total_snoc : {A : Type 0} (g : A → ℕ) (xs : List A) (y : A) → total g (xs ++ y ∷ []) ≡ total g xs + g y
total_snoc g [] y = omega arith
total_snoc g (x ∷ xs) y = omega (arith, total_snoc g xs y)
