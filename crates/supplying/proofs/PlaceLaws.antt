-- What stands at a place of a slice, and of one in which two strings stand.
use Prim.Native.Nat.{ℕ, ◌+◌, ◌≤◌, min, zero-le}
use mathlib.Core.Path.{◌≡◌, refl, sym, ◌∙◌, ap}
use mathlib.Core.Bool.{Bool, true, false}
use mathlib.Core.List.{List, []}
use native.Mathlib.Omega.{arith}
use lib.ListN.{length, take, drop, replicate, length-replicate}
use lib.Seq.{sets, sets-eq, length-sets, take_all, take-length, take-take, take-append-le}
use lib.Dec.{leb}
use borrow.Author.Tests.{le-leb, leb-true, leb-false}
use Rattle.octets.specs.Outcome.{Outcome}
use Rattle.octets.specs.Slices.{copy_at}
use Rattle.std.specs.Prelude.{Option}
use Rattle.octets.proofs.Stores.{part-stored, part-kept}
use Rattle.command.specs.Values.{Value}
use Rattle.command.specs.Slots.{bytes_at}
use Rattle.supplying.specs.Places.{up_to, from, both_in}

pub at_none : (l : List ℕ) → bytes_at l (up_to 0) ≡ Value.bytes []
unfolding bytes_at
at_none l = rw (le-leb 0 (length l) zero-le)

pub at_all : (l : List ℕ) → bytes_at l (up_to (length l)) ≡ Value.bytes l
unfolding bytes_at
at_all l = rw (le-leb (0 + length l) (length l) (omega arith), take-length)

-- an array of 32 bytes has no more
pub take-least : (own : List ℕ) (n : ℕ) → length own ≡ 32 → take (min n 32) own ≡ take n own
take-least own n h = go (leb n 32) refl
  where
    go : (b : Bool) → leb n 32 ≡ b → take (min n 32) own ≡ take n own
    go true e =
        let l = leb-true n 32 e in
        let m : min n 32 ≡ n = omega arith in
        rw m
    go false e =
        let l = leb-false n 32 e in
        let m : min n 32 ≡ 32 = omega arith in
        rw (m, take_all 32 own (omega arith), take_all n own (omega arith))

-- two strings that were copied one after the other
pub both-copied : (n at : ℕ) (first second : List ℕ) (o p : Outcome (Option ℕ)) → o ≡ copy_at first (replicate n 0) 0
    → p ≡ copy_at second o.buffer at → p.buffer ≡ both_in n at first second
unfolding both_in
both-copied n at first second o p e f =
    ap (λ (q : Outcome (Option ℕ)). q.buffer) f ∙ ap (λ (q : Outcome (Option ℕ)). (copy_at second q.buffer at).buffer) e

module _ (n at : ℕ) (first second : List ℕ) (h : length first ≤ at) (l : at + length second ≤ n) where
  abbrev zeros : List ℕ
  zeros = replicate n 0

  both_stored : both_in n at first second ≡ sets (sets zeros 0 first) at second
  unfolding both_in copy_at
  both_stored =
      let z : length zeros ≡ n = length-replicate {A = ℕ} n 0 in
      let m : length (sets zeros 0 first) ≡ n = length-sets zeros 0 first ∙ z in
      let one : (copy_at first zeros 0).buffer ≡ sets zeros 0 first = rw (le-leb (0 + length first) (length zeros) (omega arith)) in
      let two : (copy_at second (sets zeros 0 first) at).buffer ≡ sets (sets zeros 0 first) at second =
      rw (le-leb (at + length second) (length (sets zeros 0 first)) (omega arith)) in
      ap (λ (l : List ℕ). (copy_at second l at).buffer) one ∙ two

  both-length : length (both_in n at first second) ≡ n
  both-length = rw (both_stored, length-sets, length-sets) (length-replicate {A = ℕ} n 0)

  pub at_first : (k : ℕ) → k ≤ length first → bytes_at (both_in n at first second) (up_to k) ≡ Value.bytes (take k first)
  unfolding bytes_at
  at_first k i =
      let z : length zeros ≡ n = length-replicate {A = ℕ} n 0 in
      let m = both-length in
      let e : take k (drop 0 (both_in n at first second)) ≡ take k first =
      rw (both_stored, part-kept second (sets zeros 0 first) at 0 k (omega arith), sets-eq first zeros 0 (omega arith))
      (take-append-le k first _ i) in
      rw (le-leb (0 + k) (length (both_in n at first second)) (omega arith)) (ap (λ (b : List ℕ). Value.bytes b) e)

  pub at_second : (k : ℕ) → k ≤ length second → bytes_at (both_in n at first second) (from at k) ≡ Value.bytes (take k second)
  unfolding bytes_at
  at_second k i =
      let z : length (sets zeros 0 first) ≡ n = length-sets zeros 0 first ∙ length-replicate {A = ℕ} n 0 in
      let m = both-length in
      let s : take (length second) (drop at (both_in n at first second)) ≡ second =
      rw both_stored (part-stored second (sets zeros 0 first) at (omega arith)) in
      let e : take k (drop at (both_in n at first second)) ≡ take k second =
      sym (take-take k (length second) (drop at (both_in n at first second)) i) ∙ rw s in
      rw (le-leb (at + k) (length (both_in n at first second)) (omega arith)) (ap (λ (b : List ℕ). Value.bytes b) e)
