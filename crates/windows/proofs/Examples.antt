-- The examples hold: each by computing the definitions.
use mathlib.Core.Path.{refl}
use Rattle.hearing.specs.Hearing.{heard_in}
use Rattle.windows.specs.Compare.{starts_of}
use Rattle.windows.specs.Examples.{ExamplesOf, CompareExamples}
use Rattle.windows.proofs.Computing.{examining}
use Rattle.windows.proofs.Rooms.{rooms_hold}

examples-shown : ExamplesOf (λ recording. starts_of (heard_in recording))
unfolding examining
examples-shown =
    record {
      noise = refl;
      directories = refl;
      early = refl;
      busy = refl;
      again = refl;
      up_to_next = refl;
      cuts = refl;
      twice = refl;
      too_big = refl;
      mixed = refl;
      inside = refl;
      shorter = refl;
      across_parts = refl;
      nothing = refl;
      empty = refl;
      ordered = refl;
      left_over = refl;
      receiving = refl;
      no_place = refl;
      in_first = refl;
      in_second = refl;
    }

pub examples_hold : CompareExamples
examples_hold = (examples-shown, rooms_hold)
