-- The weak sum as a window grows and moves.
use Prim.Native.Nat.{ℕ, suc, ◌+◌, ◌-◌, ◌*◌, ◌/◌, ◌%◌, ◌<◌}
use mathlib.Core.Path.{◌≡◌, sym, ap, ◌∙◌}
use mathlib.Core.List.{List, [], ◌∷◌, ◌++◌}
use native.Mathlib.Omega.{arith}
use native.Mathlib.Nat.{add-mul, mul_right_comm, mod-add-div', add-mul-mod_self_right}
use lib.ListN.{length, length-append}
use Rattle.delta.specs.Weak.{sum_of, weighed_of, weak_of, rolled_low, rolled_of}

-- ---- a byte more
pub sum-last : (w : List ℕ) (y : ℕ) → sum_of (w ++ y ∷ []) ≡ sum_of w + y
unfolding sum_of
sum-last [] y = omega arith
sum-last (x ∷ w) y = omega (arith, sum-last w y)

pub weighed-last : (w : List ℕ) (y : ℕ) → weighed_of (w ++ y ∷ []) ≡ weighed_of w + sum_of w + y
unfolding weighed_of sum_of
weighed-last [] y = omega arith
weighed-last (x ∷ w) y =
    let n : suc (length (w ++ y ∷ [])) ≡ suc (length w) + 1 = omega (arith, length-append w (y ∷ [])) in
    rw (n, add-mul (suc (length w)) 1 x) (omega (arith, weighed-last w y))

-- ---- a window moved
mod_mul : (n x m : ℕ) → n % m * x % m ≡ n * x % m
mod_mul n x m =
    let e : n * x ≡ n % m * x + n / m * x * m =
    sym (ap (λ (k : ℕ). k * x) (mod-add-div' n m)) ∙ add-mul (n % m) (n / m * m) x
    ∙ ap (λ (k : ℕ). n % m * x + k) (mul_right_comm (n / m) m x) in
    rw e (sym (add-mul-mod_self_right (n % m * x) (n / m * x) m))

-- what is taken away was in it
taken_away : (p w : ℕ) → ((p + w) % 65536 + 65536 - p % 65536) % 65536 ≡ w % 65536
taken_away p w = omega arith

added : (u w z : ℕ) → u % 65536 ≡ w % 65536 → (u + z % 65536) % 65536 ≡ (w + z) % 65536
added u w z e = omega arith

pub rolls : (w : List ℕ) (x y : ℕ) → x < 256 → rolled_of (weak_of (x ∷ w)) (length (x ∷ w)) x y ≡ weak_of (w ++ y ∷ [])
unfolding rolled_of weak_of
rolls w x y h =
    let n = length (x ∷ w) in
    let s = sum_of (x ∷ w) % 65536 + 65536 * (weighed_of (x ∷ w) % 65536) in
    let low : s % 65536 ≡ (x + sum_of w) % 65536 = unfold sum_of in omega arith in
    let high : s / 65536 ≡ (n * x + weighed_of w) % 65536 = unfold weighed_of in omega arith in
    let a : rolled_low s x y ≡ (sum_of w + y) % 65536 = omega arith in
    let m : weighed_of w + sum_of w + y ≡ weighed_of w + (sum_of w + y) = omega arith in
    let p = n * x in
    rw (mod_mul n x 65536, a, high, sum-last w y, weighed-last w y, m)
    (ap (λ (b : ℕ). (sum_of w + y) % 65536 + 65536 * b)
    (added ((p + weighed_of w) % 65536 + 65536 - p % 65536) (weighed_of w) (sum_of w + y) (taken_away p (weighed_of w))))
