-- An id copied over zeros is the id padded with zeros.
use Prim.Native.Nat.{ℕ, zero, suc, ◌≤◌, min}
use mathlib.Core.Path.{◌≡◌, refl, sym, ap}
use mathlib.Core.Bool.{Bool, true, false}
use mathlib.Core.List.{List, [], ◌∷◌, ◌++◌, append-nil}
use native.Mathlib.Omega.{arith}
use lib.ListN.{length, take, drop, replicate}
use lib.Seq.{take-append-le, take-length}
use lib.Dec.{leb}
use borrow.Author.Tests.{leb-true, leb-false}
use Rattle.protocol.specs.Table.{zeros, padded}

take-zeros : (n m : ℕ) → n ≤ m → replicate {A = ℕ} n 0 ≡ take n (replicate m 0)
take-zeros zero m h = refl
take-zeros (suc n) zero h = absurd (omega arith)
take-zeros (suc n) (suc m) h = ap (λ (l : List ℕ). 0 ∷ l) (take-zeros n m (omega arith))

over_zeros : (k : List ℕ) (n m : ℕ) → length k ≤ n → n ≤ m → k ++ drop (length k) (replicate n 0) ≡ take n (k ++ replicate m 0)
over_zeros [] n m h l = take-zeros n m l
over_zeros (x ∷ k) zero m h l = absurd (omega arith)
over_zeros (x ∷ k) (suc n) m h l = ap (λ (r : List ℕ). x ∷ r) (over_zeros k n m (omega arith) (omega arith))

copied : (k : List ℕ) → length k ≤ 32 → k ++ drop (length k) zeros ≡ padded k
copied k h = over_zeros k 32 32 h (omega arith)

-- only its first 32 bytes count
pub padded-is : (k : List ℕ) (n : ℕ) → n ≡ min (length k) 32 → take n k ++ drop n zeros ≡ padded k
padded-is k n e = go (leb (length k) 32) refl
  where
    go : (b : Bool) → leb (length k) 32 ≡ b → take n k ++ drop n zeros ≡ padded k
    go true t =
        let h = leb-true (length k) 32 t in
        let l : n ≡ length k = omega (arith, h) in
        rw (l, take-length k) (copied k h)
    go false f =
        let h = leb-false (length k) 32 f in
        let l : n ≡ 32 = omega (arith, h) in
        rw (l, append-nil) (sym (take-append-le 32 k zeros (omega (arith, h))))
