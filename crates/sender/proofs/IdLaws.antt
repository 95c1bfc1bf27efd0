-- Ids in an array of 32 bytes, and two of them in a slice of 64.
use Prim.Native.Nat.{ℕ, ◌+◌, ◌≤◌, min}
use mathlib.Core.Path.{◌≡◌, refl, sym, ◌∙◌, ap}
use mathlib.Core.Bool.{Bool, true, false}
use mathlib.Core.List.{List}
use native.Mathlib.Omega.{arith}
use lib.ListN.{length, take, drop, replicate, length-replicate}
use lib.Seq.{sets, sets-eq, length-sets, take_all, take-take, take-append-le}
use lib.Dec.{leb}
use borrow.Author.Tests.{le-leb, leb-true, leb-false}
use Rattle.octets.specs.Slices.{copy_at}
use Rattle.octets.proofs.Stores.{part-stored, part-kept}
use Rattle.sender.specs.Places.{ids_of}

-- an array has no more than 32 bytes
pub take-least : (own : List ℕ) (n : ℕ) → length own ≡ 32 → take (min n 32) own ≡ take n own
take-least own n h = go (leb n 32) refl
  where
    go : (b : Bool) → leb n 32 ≡ b → take (min n 32) own ≡ take n own
    go true e =
        let l = leb-true n 32 e in
        let m : min n 32 ≡ n = omega arith in
        rw m
    go false e =
        let l = leb-false n 32 e in
        let m : min n 32 ≡ 32 = omega arith in
        rw (m, take_all 32 own (omega arith), take_all n own (omega arith))

module _ (own file : List ℕ) (h : length own ≡ 32) (l : length file ≤ 32) where
  abbrev zeros : List ℕ
  zeros = replicate 64 0

  ids-stored : ids_of own file ≡ sets (sets zeros 0 own) 32 file
  unfolding ids_of copy_at
  ids-stored =
      let z : length zeros ≡ 64 = length-replicate {A = ℕ} 64 0 in
      let m : length (sets zeros 0 own) ≡ 64 = length-sets zeros 0 own ∙ z in
      let first : (copy_at own zeros 0).buffer ≡ sets zeros 0 own = rw (le-leb (0 + length own) (length zeros) (omega arith)) in
      let second : (copy_at file (sets zeros 0 own) 32).buffer ≡ sets (sets zeros 0 own) 32 file =
      rw (le-leb (32 + length file) (length (sets zeros 0 own)) (omega arith)) in
      ap (λ (l : List ℕ). (copy_at file l 32).buffer) first ∙ second

  pub ids-length : length (ids_of own file) ≡ 64
  ids-length = rw (ids-stored, length-sets, length-sets) (length-replicate {A = ℕ} 64 0)

  -- the session's id stands first
  pub ids-own : (k : ℕ) → k ≤ 32 → take k (drop 0 (ids_of own file)) ≡ take k own
  ids-own k i =
      let z : length zeros ≡ 64 = length-replicate {A = ℕ} 64 0 in
      rw (ids-stored, part-kept file (sets zeros 0 own) 32 0 k (omega arith), sets-eq own zeros 0 (omega arith))
      (take-append-le k own _ (omega arith))

  -- and then the file's
  pub ids-file : (k : ℕ) → k ≤ length file → take k (drop 32 (ids_of own file)) ≡ take k file
  ids-file k i =
      let z : length (sets zeros 0 own) ≡ 64 = length-sets zeros 0 own ∙ length-replicate {A = ℕ} 64 0 in
      let s : take (length file) (drop 32 (ids_of own file)) ≡ file =
      rw ids-stored (part-stored file (sets zeros 0 own) 32 (omega arith)) in
      sym (take-take k (length file) (drop 32 (ids_of own file)) i) ∙ rw s
