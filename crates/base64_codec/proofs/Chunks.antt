-- The groups of a text, as `as_chunks` lends them: what stands in a group, and what is left from it on.
use Rattle.std.proofs.Common.{◌≡◌, ℕ, zero, suc, ◌+◌, ◌*◌, ◌<◌, ◌≤◌, List, [], ◌++◌, length, get_or, take, drop, sym, ◌∙◌, ap, refl, arith}
use Rattle.std.proofs.Math.Nat.{mul-le-mul_right}
use Rattle.std.proofs.lemmas.List.{drop-drop, length-take-le, length-drop, take-append-drop}
use Rattle.std.specs.Simd.{first_chunks}

-- the group number k of m groups of n
pub chunk-at : (n m k : ℕ) (t : List ℕ) → k < m → get_or (first_chunks n m t) k [] ≡ take n (drop (k * n) t)
chunk-at n zero k t h = absurd (omega arith)
chunk-at n (suc m) zero t h = let z : 0 * n ≡ 0 = omega arith in rw z refl
chunk-at n (suc m) (suc k) t h =
    let e : n + k * n ≡ suc k * n = omega arith in
    chunk-at n m k (drop n t) (omega arith) ∙ ap (take n) (drop-drop (k * n) n t ∙ ap (λ (i : ℕ). drop i t) e)

-- what is left from it on: the group, and what is left from the next on
pub chunk-left : (n m k : ℕ) (t : List ℕ) → k < m → m * n ≤ length t
    → (length (get_or (first_chunks n m t) k []) ≡ n) × (drop (k * n) t ≡ get_or (first_chunks n m t) k [] ++ drop ((k + 1) * n) t)
chunk-left n m k t h b =
    let e : k * n + n ≡ (k + 1) * n = omega arith in
    let r : (k + 1) * n ≤ length t = omega (arith, mul-le-mul_right {m = k + 1} {n = m} n (omega arith)) in
    rw (chunk-at n m k t h) (
      length-take-le n (drop (k * n) t) (omega (arith, length-drop (k * n) t)),
      sym (take-append-drop n (drop (k * n) t))
          ∙ ap (λ (l : List ℕ). take n (drop (k * n) t) ++ l) (drop-drop n (k * n) t ∙ ap (λ (i : ℕ). drop i t) e),
    )
