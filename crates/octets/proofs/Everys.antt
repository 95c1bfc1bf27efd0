-- A test of each member, as a loop makes it.
use Prim.Native.Nat.{ℕ, ◌+◌, ◌≤◌, ◌<◌}
use mathlib.Core.Path.{◌≡◌, refl}
use mathlib.Core.Bool.{Bool, true, false, ◌&&◌}
use mathlib.Core.List.{List, [], ◌∷◌}
use Rattle.std.specs.List.{list_all}
use lib.ListN.{length, get_or, drop}
use Rattle.octets.specs.Members.{every}
use Rattle.octets.proofs.Lists.{drop_at, drop-end}

module _ (f : ℕ → Bool) (s : List ℕ) (i : ℕ) where
  -- what is left at a place inside, and at the end
  pub every-at : i < length s → every f (drop i s) ≡ (f (get_or s i 0) && (every f (drop (i + 1) s)))
  unfolding every
  every-at h = rw (drop_at s i h)

  pub every-end : length s ≤ i → every f (drop i s) ≡ true
  unfolding every
  every-end h = rw (drop-end s i h)

  -- the same for a loop with no early way out, where b tells whether all so far passed
  pub every-turn : (b : Bool) → i < length s → (b && every f (drop i s)) ≡ ((b && f (get_or s i 0)) && (every f (drop (i + 1) s)))
  every-turn true h = every-at h
  every-turn false h = refl

  pub every-told : (b : Bool) → length s ≤ i → (b && every f (drop i s)) ≡ b
  every-told true h = every-end h
  every-told false h = refl

-- the library's `all` tests the same
pub every-all : {A : Type 0} (f : A → Bool) (xs : List A) → list_all f xs ≡ every f xs
unfolding every
every-all f [] = refl
every-all f (x ∷ xs) = rw (every-all f xs)
