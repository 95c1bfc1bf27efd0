-- The searches over the rows: a turn of each loop, and its end.
use Prim.Native.Nat.{ℕ, ◌+◌, ◌-◌, ◌*◌, ◌≤◌, ◌<◌}
use mathlib.Core.Path.{◌≡◌}
use mathlib.Core.Bool.{true, false}
use native.Mathlib.Omega.{arith}
use lib.ListN.{length}
use borrow.Author.Tests.{eq-eqb, ne_eqb}
use Rattle.std.specs.Prelude.{Option, Some, None}
use Rattle.protocol.specs.Stretches.{Key}
use Rattle.windows.specs.Compare.{Start, starts_of}
use Rattle.windows.specs.Ranks.{count_of, nth}
use Rattle.windows.specs.Steps.{Side, starts_at, starts_from, start_at}
use Rattle.windows.proofs.RowsLeft.{no_row, count_at, nth-at}

module _ (s : Side) (row : ℕ) (k : Key) (n : ℕ) where
  abbrev at : ℕ
  at = row * 7

  next : at + 7 ≡ (row + 1) * 7
  next = omega arith

  -- ---- counting
  pub count_past : {x : ℕ} → at + 7 ≤ length s.numbers → starts_at s.recording s.numbers at k ≡ false
      → n + count_of k (starts_from s at) ≡ x → n + count_of k (starts_from s ((row + 1) * 7)) ≡ x
  count_past h e p = rw (count_at s at h k, e, next) at p

  pub count-here : {x : ℕ} → at + 7 ≤ length s.numbers → starts_at s.recording s.numbers at k ≡ true
      → n + count_of k (starts_from s at) ≡ x → (n + 1) + count_of k (starts_from s ((row + 1) * 7)) ≡ x
  count-here h e p = omega (arith, rw (count_at s at h k, e, next) at p)

  pub count-end : {x : ℕ} → length s.numbers - at < 7 → n + count_of k (starts_from s at) ≡ x → n ≡ x
  unfolding starts_of count_of
  count-end h p = omega (arith, rw (no_row s.recording s.parts s.numbers at h) at p)

  -- ---- the one with n others before it
  module _ {x : Option Start} where
    pub nth_past : at + 7 ≤ length s.numbers → starts_at s.recording s.numbers at k ≡ false
        → nth k n (starts_from s at) ≡ x → nth k n (starts_from s ((row + 1) * 7)) ≡ x
    nth_past h e p = rw (nth-at s at h k n, e, next) at p

    pub nth-later : at + 7 ≤ length s.numbers → starts_at s.recording s.numbers at k ≡ true → (n ≡ 0 → ⊥)
        → nth k n (starts_from s at) ≡ x → nth k (n - 1) (starts_from s ((row + 1) * 7)) ≡ x
    nth-later h e m p = rw (nth-at s at h k n, e, ne_eqb n 0 m, next) at p

    pub nth-found : at + 7 ≤ length s.numbers → starts_at s.recording s.numbers at k ≡ true → n ≡ 0
        → nth k n (starts_from s at) ≡ x → Some (start_at s at) ≡ x
    nth-found h e m p = rw (nth-at s at h k n, e, eq-eqb n 0 m) at p

    pub nth_end : length s.numbers - at < 7 → nth k n (starts_from s at) ≡ x → None ≡ x
    unfolding starts_of nth
    nth_end h p = rw (no_row s.recording s.parts s.numbers at h) at p
