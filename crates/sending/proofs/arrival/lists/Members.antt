-- Tests of every member of a list: of its parts, at a place, and of members made of others.
use Prim.Native.Nat.{ℕ, zero, suc}
use mathlib.Core.Path.{◌≡◌, refl, sym, ap, ◌∙◌}
use mathlib.Core.Bool.{Bool, true, false, not, not-not}
use mathlib.Core.List.{List, [], ◌∷◌, ◌++◌, map}
use lib.ListN.{get_or, replicate}
use Rattle.octets.specs.Members.{every}
use Rattle.command.proofs.Every.{every_cons}

pub not-true : (b : Bool) → not b ≡ true → b ≡ false
not-true b e = sym (not-not b) ∙ ap not e

module _ {A : Type 0} (p : A → Bool) where
  -- ---- in two parts
  pub every_append : (xs ys : List A) → every p xs ≡ true → every p ys ≡ true → every p (xs ++ ys) ≡ true
  unfolding every
  every_append [] ys e f = f
  every_append (x ∷ xs) ys e f = let b = every_cons p x xs e in rw b.0 (every_append xs ys b.1 f)

  pub every-last : (xs : List A) (x : A) → every p xs ≡ true → p x ≡ true → every p (xs ++ x ∷ []) ≡ true
  unfolding every
  every-last xs x e f = every_append xs (x ∷ []) e (rw f)

  pub every-parts : (xs ys : List A) → every p (xs ++ ys) ≡ true → (every p xs ≡ true) × (every p ys ≡ true)
  unfolding every
  every-parts [] ys e = (refl, e)
  every-parts (x ∷ xs) ys e =
      let b = every_cons p x (xs ++ ys) e in
      let c = every-parts xs ys b.1 in
      (rw b.0 c.0, c.1)

  -- ---- of members that all pass
  pub every_replicate : (z : A) → p z ≡ true → (n : ℕ) → every p (replicate n z) ≡ true
  unfolding every
  every_replicate z e zero = refl
  every_replicate z e (suc n) = rw e (every_replicate z e n)

  pub every-same : (xs : List A) → ((x : A) → p x ≡ true) → every p xs ≡ true
  unfolding every
  every-same [] h = refl
  every-same (x ∷ xs) h = rw (h x, every-same xs h)

  -- ---- so each passes, and the default with them
  pub every-at : (d : A) → p d ≡ true → (xs : List A) → every p xs ≡ true → (i : ℕ) → p (get_or xs i d) ≡ true
  every-at d h [] e i = h
  every-at d h (x ∷ xs) e zero = (every_cons p x xs e).0
  every-at d h (x ∷ xs) e (suc i) = every-at d h xs (every_cons p x xs e).1 i

-- members made of others
pub every-over : {A B : Type 0} (p : B → Bool) (f : A → B) (xs : List A) → every p (map f xs) ≡ every (λ (x : A). p (f x)) xs
unfolding every
every-over p f [] = refl
every-over p f (x ∷ xs) = rw (every-over p f xs)
