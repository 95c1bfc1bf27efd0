-- `Arrives` is not empty: two files in several pieces fit, and an exchange of them that is computed comes to rest; so it is whole.
use mathlib.Core.Path.{refl}
use mathlib.Core.Logic.{inl, inr}
use mathlib.Core.List.{List, [], ◌∷◌, ◌++◌}
use native.Mathlib.Omega.{arith}
use Rattle.octets.specs.Ascii.{ascii}
use Rattle.protocol.proofs.Refuting.{carry₀}
use Rattle.protocol.proofs.Starred.{computing}
use Rattle.sending.specs.Machine.{ours}
use Rattle.sending.specs.Plans.{File, Plan, FitFile, Fit}
use Rattle.sending.specs.Exchange.{Exchange, Turn, AtRest}
use Rattle.sending.specs.Arrives.{Arrives, Whole}
use Rattle.sending.proofs.arrival.examples.SmallPlans.{session, piece-fits}
use Rattle.sending.proofs.arrival.examples.Trying.{write, feed_only, hear_only, feed, hear, allow, done, tried, exchanging}

-- one without a size, in three pieces; and one with its size, in two
abbrev first : File
first = record { id = ascii "a"; name = ascii "/x"; size = 0; pieces = ascii "ab" ∷ [] ∷ []; last = ascii "c" }

abbrev second : File
second = record { id = ascii "b"; name = ascii "/y"; size = 3; pieces = ascii "d" ∷ []; last = ascii "ef" }

abbrev two_files : Plan
two_files = record { id = ascii "m"; files = first ∷ second ∷ [] }

first_fits : FitFile first
unfolding computing
first_fits =
    record {
      id = record { safe = refl; some = omega arith; short = omega arith };
      name = refl;
      pieces = (piece-fits (ascii "ab") refl (omega arith), (piece-fits [] refl (omega arith), tt));
      last = piece-fits (ascii "c") refl (omega arith);
      long = omega arith;
      size = inl refl;
    }

second_fits : FitFile second
unfolding computing
second_fits =
    record {
      id = record { safe = refl; some = omega arith; short = omega arith };
      name = refl;
      pieces = (piece-fits (ascii "d") refl (omega arith), tt);
      last = piece-fits (ascii "ef") refl (omega arith);
      long = omega arith;
      size = inr refl;
    }

two-fit : Fit two_files
unfolding computing
two-fit =
    record {
      id = session;
      few = omega arith;
      files = (first_fits, (second_fits, tt));
      differ = (refl, (refl, tt));
    }

-- send is fed and its reply heard in two cuts, and a done comes too early; then all the rest is written at once, before the first of it is
-- read, and every reply is heard at the end
abbrev answer : List Turn
answer = feed ∷ done ∷ []

abbrev turns : List Turn
turns =
    (write ∷ feed_only 9 ∷ done ∷ feed ∷ allow ∷ hear_only 20 ∷ hear ∷ [])
    ++ (write ∷ write ∷ write ∷ write ∷ write ∷ write ∷ write ∷ write ∷ [])
    ++ answer ++ answer ++ answer ++ answer ++ answer ++ answer ++ answer ++ answer
    ++ (hear ∷ hear ∷ hear ∷ hear ∷ hear ∷ hear ∷ hear ∷ [])

abbrev exchange : Exchange
exchange = tried ours two_files turns

two-rest : AtRest exchange
unfolding exchanging
two-rest = record { todo = refl; there = refl; back = refl; owed = refl }

-- so it is whole, by the theorem
two-whole : Arrives ours → Whole two_files exchange
two-whole right = (right two_files two-fit carry₀ carry₀ turns).whole two-rest
