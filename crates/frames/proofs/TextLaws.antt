-- The text of a framing while a piece is read: how it grows with a byte, how long it is, and that the carry holds it afterwards.
use Prim.Native.Nat.{ℕ, ◌+◌, ◌-◌, ◌<◌, ◌≤◌, min}
use mathlib.Core.Path.{◌≡◌, refl, ◌∙◌}
use mathlib.Core.List.{List, [], ◌∷◌, ◌++◌, append-nil, append_assoc}
use mathlib.Core.Bool.{Bool, true, false, cond}
use native.Mathlib.Nat.{le_refl, le_of_lt, sub-le, min_comm, sub-zero}
use native.Mathlib.Omega.{arith}
use lib.ListN.{length, take, drop, length-append, length-take, length-drop}
use lib.Seq.{take-append-le, drop-append-le, take_all, take_at, take-take}
use lib.Dec.{leb}
use borrow.Author.Tests.{le-leb, lt-leb, leb-true, leb-false}
use Rattle.frames.specs.Stream.{text_limit}
use Rattle.frames.specs.Carry.{text_at, carry_of}
use Rattle.frames.proofs.Choices.{by_cond}
use Rattle.frames.proofs.CarryLaws.{take_min}

-- a text that ends within p is the same in a piece that begins with p
pub text-more : (c p q : List ℕ) (e n : ℕ) → e ≤ length p → text_at c (p ++ q) e n ≡ text_at c p e n
text-more c p q e n h = by (leb n e) refl
  where
    by : (t : Bool) → leb n e ≡ t
        → cond t (take n (drop (e - n) (p ++ q))) (take (n - e) c ++ take e (p ++ q))
        ≡ cond t (take n (drop (e - n) p)) (take (n - e) c ++ take e p)
    by true k =
        let l : n ≤ length (drop (e - n) p) = simp length-drop (omega (arith, leb-true n e k)) in
        rw (drop-append-le (e - n) p q (omega arith), take-append-le n (drop (e - n) p) q l)
    by false k = rw (take-append-le e p q h)

-- with one byte more of the piece it has one byte more
pub text-grows : (c p : List ℕ) (n b : ℕ) → text_at c (p ++ (b ∷ [])) (length p + 1) (n + 1) ≡ text_at c p (length p) n ++ (b ∷ [])
text-grows c p n b = by (leb n (length p)) refl
  where
    by : (t : Bool) → leb n (length p) ≡ t
        → text_at c (p ++ (b ∷ [])) (length p + 1) (n + 1)
        ≡ cond t (take n (drop (length p - n) p)) (take (n - length p) c ++ take (length p) p) ++ (b ∷ [])
    by true k =
        let h : n ≤ length p = leb-true n (length p) k in
        let e : (length p + 1) - (n + 1) ≡ length p - n = omega arith in
        let last : List ℕ = drop (length p - n) p in
        let l : length last ≤ n = simp length-drop (omega arith) in
        let m : length (last ++ (b ∷ [])) ≤ n + 1 = simp (length-append, length-drop) (omega arith) in
        rw (
          le-leb (n + 1) (length p + 1) (omega arith),
          e,
          drop-append-le (length p - n) p (b ∷ []) (sub-le (length p) n),
          take_all (n + 1) (last ++ (b ∷ [])) m,
          take_all n last l,
        )
    by false k =
        let h : length p < n = leb-false n (length p) k in
        let e : (n + 1) - (length p + 1) ≡ n - length p = omega arith in
        let m : length (p ++ (b ∷ [])) ≤ length p + 1 = simp length-append (omega arith) in
        rw (
          lt-leb (n + 1) (length p + 1) (omega arith),
          e,
          take_all (length p + 1) (p ++ (b ∷ [])) m,
          take_all (length p) p (le_refl (length p)),
          append_assoc,
        )

-- a byte more of a text that is cut at k bytes
pub take-grows : (k : ℕ) (t : List ℕ) (b : ℕ) → take k (take k t ++ (b ∷ [])) ≡ take k (t ++ (b ∷ []))
take-grows k t b = by (leb (length t) k) refl
  where
    by : (u : Bool) → leb (length t) k ≡ u → take k (take k t ++ (b ∷ [])) ≡ take k (t ++ (b ∷ []))
    by true q = rw (take_all k t (leb-true (length t) k q))
    by false q =
        let h : k < length t = leb-false (length t) k q in
        let l : k ≤ length (take k t) = simp length-take (omega arith) in
        rw (take-append-le k (take k t) (b ∷ []) l, take-append-le k t (b ∷ []) (le_of_lt h), take-take k k t (le_refl k))

-- it has as many bytes as were counted, up to 8,192
pub text-length : (c p : List ℕ) (e n : ℕ) → e ≤ length p → text_limit ≤ length c
    → length (take text_limit (text_at c p e n)) ≡ min n text_limit
text-length c p e n h k =
    by_cond (λ (t : List ℕ). length (take text_limit t) ≡ min n text_limit) (leb n e)
    (λ q. simp (length-take, length-drop) (omega (arith, leb-true n e q)))
    (λ q. simp (length-take, length-append) (omega (arith, leb-false n e q)))

-- the carry's first bytes are that text
pub carry-text : (c p : List ℕ) (e n : ℕ) → e ≤ length p → text_limit ≤ length c
    → take (min n text_limit) (carry_of c p e n) ≡ take text_limit (text_at c p e n)
unfolding carry_of
carry-text c p e n h k =
    let t = take text_limit (text_at c p e n) in
    take_at t (drop (length t) c) (min n text_limit) (text-length c p e n h k)

pub carry-length : (c p : List ℕ) (e n : ℕ) → e ≤ length p → text_limit ≤ length c → length (carry_of c p e n) ≡ length c
unfolding carry_of
carry-length c p e n h k =
    let t = take text_limit (text_at c p e n) in
    simp (length-append, length-drop) (omega (arith, text-length c p e n h k))

-- before the piece's first byte it is what the carry has
pub start-text : (c : List ℕ) (n : ℕ) → take text_limit (text_at c [] 0 n) ≡ take (min n text_limit) c
start-text c n =
    by_cond (λ (t : List ℕ). take text_limit t ≡ take (min n text_limit) c) (leb n 0)
    (λ e. let z : n ≡ 0 = omega (arith, leb-true n 0 e) in rw z)
    (λ e. rw (append-nil, sub-zero) (take_min text_limit n c ∙ rw (min_comm text_limit n)))
