-- Sequences of UTF-8, as a loop takes them one byte at a time.
use Prim.Native.Nat.{ℕ, zero, suc, ◌+◌, ◌-◌, ◌≤◌, ◌<◌}
use mathlib.Core.Path.{◌≡◌}
use mathlib.Core.Bool.{◌&&◌}
use mathlib.Core.List.{List}
use native.Mathlib.Omega.{arith}
use native.Mathlib.Numerals.{sub-one}
use lib.ListN.{length, get_or, drop}
use lib.Dec.{leb, eqb}
use borrow.Author.Tests.{ne_eqb}
use Rattle.octets.proofs.Lists.{drop_at, drop-end}
use Rattle.pathname.specs.Utf8.{rows, followers_in, begun, sequences}
use Rattle.pathname.specs.DueBytes.{ranges_of}

-- a first byte
pub first-at : (low high : ℕ) (s : List ℕ) (i : ℕ) → i < length s
    → sequences (ranges_of 0 low high) (drop i s) ≡ begun (followers_in rows (get_or s i 0)) (λ rs. sequences rs (drop (i + 1) s))
unfolding sequences ranges_of
first-at low high s i h = rw (drop_at s i h)

-- a byte that is due
pub next-at : (more low high : ℕ) (s : List ℕ) (i : ℕ) → 0 < more → i < length s → let b = get_or s i 0 in
    let after = sequences (ranges_of (more - 1) 0x80 0xBF) (drop (i + 1) s) in
    sequences (ranges_of more low high) (drop i s) ≡ ((leb low b && leb b high) && after)
unfolding sequences ranges_of
next-at zero low high s i p h = absurd (omega arith)
next-at (suc more) low high s i p h = rw (drop_at s i h, sub-one)

-- at the end no byte may be due
pub none-at : (more low high : ℕ) (s : List ℕ) (i : ℕ) → length s ≤ i → sequences (ranges_of more low high) (drop i s) ≡ eqb more 0
unfolding sequences ranges_of
none-at zero low high s i h = rw (drop-end s i h)
none-at (suc more) low high s i h = rw (drop-end s i h, ne_eqb (suc more) 0 (λ e. omega arith))
