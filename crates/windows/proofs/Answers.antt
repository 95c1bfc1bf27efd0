-- What an answer of `hear`, into buffers with room for any recording, makes of the comparison.
use Prim.Native.Nat.{ℕ, ◌≤◌}
use mathlib.Core.Path.{◌≡◌, refl, sym, ap, ◌∙◌}
use mathlib.Core.Bool.{Bool, true, false, cond}
use mathlib.Core.List.{List}
use native.Mathlib.Omega.{arith}
use lib.ListN.{length, take, length-take}
use lib.Dec.{ltb}
use borrow.Author.Tests.{le-ltb}
use Rattle.octets.specs.Outcome.{outcome}
use Rattle.recordings.specs.Mend.{recording_limit}
use Rattle.hearing.specs.Hearing.{heard_in}
use Rattle.hearing.specs.Rows.{happenings_in}
use Rattle.hearing.specs.Calls.{Account, read_back, hear_of, Within}
use Rattle.std.specs.Prelude.{Result, Ok, Err}
use Rattle.recordings.specs.Refusals.{refusal_number}
use Rattle.recordings.specs.declared.Refusal.{Refusal}
use Rattle.windows.specs.Compare.{starts_of, Line, compare_of}
use Rattle.windows.specs.Steps.{Side, side, starts_in, Laid, lines_between, beside_of, listed_in}
use Rattle.windows.proofs.RankLaws.{ranked}

-- ---- with such buffers the length alone decides
module _ (xs : List ℕ) where
  abbrev decided : Bool → Account
  decided long = cond long (Account.refused 17) (Account.heard (heard_in xs))

  roomy : (numbers bytes : ℕ) → numbers ≡ recording_limit → bytes ≡ recording_limit
      → hear_of xs numbers bytes ≡ decided (ltb recording_limit (length xs))
  unfolding hear_of
  roomy numbers bytes e b = rw (le-ltb numbers recording_limit (omega arith), le-ltb bytes recording_limit (omega arith))

  -- it was heard whole, into so many numbers
  pub record Noted (n : ℕ) (events bytes : List ℕ) : Type 0 where
    pub short : ltb recording_limit (length xs) ≡ false
    pub heard : happenings_in xs bytes (take n events) ≡ heard_in xs
    pub within : n ≤ length events
    pub laid : Laid (side xs bytes (take n events)) recording_limit

  -- it is over the limit, and the refusal says so
  pub record Over (why : Refusal) : Type 0 where
    pub long : ltb recording_limit (length xs) ≡ true
    pub over : why ≡ Refusal.TooLong

  module _ (events bytes : List ℕ) (few : length events ≡ recording_limit) (fits : length bytes ≡ recording_limit)
      (r : Result ℕ Refusal) (answer : read_back r xs events bytes ≡ hear_of xs (length events) (length bytes)) where
    account : (s : Result ℕ Refusal) → r ≡ s → read_back s xs events bytes ≡ decided (ltb recording_limit (length xs))
    account s z =
        sym (ap (λ (q : Result ℕ Refusal). read_back q xs events bytes) z)
        ∙ answer
        ∙ roomy (length events) (length bytes) few fits

    account-noted : (n : ℕ) (long : Bool) → ltb recording_limit (length xs) ≡ long
        → Account.heard (happenings_in xs bytes (take n events)) ≡ decided long → Within (Ok n) events bytes → Noted n events bytes
    account-noted n true l h k = let z : ◌≡◌ {A = ℕ} 0 1 = cc in absurd (omega arith)
    account-noted n false l h k =
        record {
          short = l;
          heard = cc;
          within = k.0;
          laid = record { few = omega (arith, length-take n events); apart = k.1; fits = omega arith };
        }

    pub was-noted : (n : ℕ) → Within r events bytes → r ≡ Ok n → Noted n events bytes
    was-noted n within z = account-noted n (ltb recording_limit (length xs)) refl (account (Ok n) z) (rw z at within)

    account-refused : (why : Refusal) (long : Bool) → ltb recording_limit (length xs) ≡ long
        → Account.refused (refusal_number why) ≡ decided long → Over why
    account-refused Refusal.TooLong true l h = record { long = l; over = refl }
    account-refused Refusal.NoRoom true l h = let z : ◌≡◌ {A = ℕ} 9 17 = cc in absurd (omega arith)
    account-refused Refusal.TooLong false l h = let z : ◌≡◌ {A = ℕ} 0 1 = cc in absurd (omega arith)
    account-refused Refusal.NoRoom false l h = let z : ◌≡◌ {A = ℕ} 0 1 = cc in absurd (omega arith)

    pub was-refused : (why : Refusal) → r ≡ Err why → Over why
    was-refused why z = account-refused why (ltb recording_limit (length xs)) refl (account (Err why) z)

-- ---- the second's
module _ (first : Side) (ys list : List ℕ) where
  pub beside-listed : (n : ℕ) (events bytes : List ℕ) → Noted ys n events bytes
      → listed_in (lines_between first (side ys bytes (take n events))) list ≡ beside_of first ys list
  unfolding beside_of
  beside-listed n events bytes k =
      rw (k.short, k.heard) (ap (λ (ls : List Line). listed_in ls list) (sym (ranked (starts_in first) (starts_of (heard_in ys)))))

  pub beside-over : (why : Refusal) → Over ys why → outcome (Err why) list ≡ beside_of first ys list
  unfolding beside_of
  beside-over why o = rw (o.long, o.over)

-- ---- the first's
module _ (xs ys list : List ℕ) where
  pub first-noted : (n : ℕ) (events bytes : List ℕ) → Noted xs n events bytes
      → beside_of (side xs bytes (take n events)) ys list ≡ compare_of xs ys list
  unfolding beside_of compare_of listed_in
  first-noted n events bytes k = rw (k.short, k.heard)

  pub first-over : (why : Refusal) → Over xs why → outcome (Err why) list ≡ compare_of xs ys list
  unfolding compare_of
  first-over why o = rw (o.long, o.over)
