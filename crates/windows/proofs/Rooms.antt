-- The examples of the list's room and of the longest recording hold, and wrong tests of them fail there.
use Prim.Native.Nat.{ℕ, zero, suc, ◌≤◌, ◌<◌}
use mathlib.Core.Path.{◌≡◌, refl, sym, ap, ◌∙◌}
use mathlib.Core.List.{List, [], ◌∷◌, ◌++◌}
use native.Mathlib.Omega.{arith}
use lib.ListN.{length, replicate, length-replicate}
use borrow.Author.Tests.{lt-ltb, le-ltb, le-leb}
use Rattle.octets.specs.Outcome.{Outcome, outcome}
use Rattle.frames.specs.Stream.{Mode, read_byte}
use Rattle.recordings.specs.Pieces.{outside_first, completed, cut, joined, pieces_of}
use Rattle.hearing.specs.Hearing.{sightings_from, heard_from}
use Rattle.windows.specs.Compare.{starts_of, only_seconds, compared, listed, compare_of}
use Rattle.std.specs.Prelude.{Result, Ok, Err}
use Rattle.recordings.specs.Refusals.{refusal_number}
use Rattle.recordings.specs.declared.Refusal.{Refusal}
use Rattle.windows.specs.Examples.{RoomsOf}
use Rattle.windows.specs.WrongComparers.{limiting_first, at_the_limit, room_in_rows}
use Rattle.windows.proofs.Computing.{examining}

-- ---- a recording of zeros, which is too long to compute with, has no command
none_first : (at : ℕ) (p : List ℕ) → sightings_from at (outside_first p []) ≡ []
unfolding sightings_from
none_first at [] = refl
none_first at (b ∷ p) = refl

none_in-zeros : (n at : ℕ) (p : List ℕ) → sightings_from at (joined p (cut Mode.outside (replicate n 0))) ≡ []
unfolding joined cut completed read_byte
none_in-zeros zero at p = none_first at (p ++ [])
none_in-zeros (suc n) at p = none_in-zeros n at (p ++ 0 ∷ [])

zeros-length : (n : ℕ) → length (replicate {A = ℕ} n 0) ≡ n
zeros-length n = length-replicate {A = ℕ} n 0

module _ (n : ℕ) where
  zeros-compared : n ≤ 65536 → compare_of (replicate n 0) [] [] ≡ outcome (Ok 0) []
  unfolding compare_of pieces_of joined cut sightings_from heard_from starts_of compared only_seconds listed
  zeros-compared l = rw (zeros-length n, le-ltb 65536 n l, none_in-zeros n 0 [])

  first_too-long : 65536 < n → compare_of (replicate n 0) [] [] ≡ outcome (Err Refusal.TooLong) []
  unfolding compare_of
  first_too-long l = rw (zeros-length n, lt-ltb 65536 n l)

  second_too-long : 65536 < n → compare_of [] (replicate n 0) [] ≡ outcome (Err Refusal.TooLong) []
  unfolding compare_of
  second_too-long l = rw (zeros-length n, lt-ltb 65536 n l)

  second-passed : limiting_first [] (replicate n 0) [] ≡ outcome (Ok 0) []
  unfolding pieces_of joined cut sightings_from heard_from starts_of compared only_seconds listed
  second-passed = rw (none_in-zeros n 0 [])

  limit-refused : 65536 ≤ n → at_the_limit (replicate n 0) [] [] ≡ outcome (Err Refusal.TooLong) []
  limit-refused l = rw (zeros-length n, le-leb 65536 n l)

pub rooms_hold : RoomsOf compare_of
unfolding examining compare_of
rooms_hold =
    record {
      enough = refl;
      short = refl;
      empty = refl;
      most = zeros-compared 65536 (omega arith);
      too_long = first_too-long 65537 (omega arith);
      second_too_long = second_too-long 65537 (omega arith);
    }

-- ---- the wrong tests
abbrev refusal : Outcome (Result ℕ Refusal) → ℕ
refusal o = go o.answer
  where
    go : Result ℕ Refusal → ℕ
    go (Ok n) = 0
    go (Err r) = refusal_number r

pub second-unlimited : RoomsOf limiting_first → ⊥
second-unlimited h =
    let z : ◌≡◌ {A = ℕ} 0 17 = ap refusal (sym (second-passed 65537) ∙ h.second_too_long) in absurd (omega arith)

pub limit-itself : RoomsOf at_the_limit → ⊥
limit-itself h =
    let z : ◌≡◌ {A = ℕ} 17 0 = ap refusal (sym (limit-refused 65536 (omega arith)) ∙ h.most) in absurd (omega arith)

pub rows_for-numbers : RoomsOf room_in_rows → ⊥
unfolding examining
rows_for-numbers h = let z : ◌≡◌ {A = ℕ} 0 9 = ap refusal h.short in absurd (omega arith)
