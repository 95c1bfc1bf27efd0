-- The examples hold, by computing the definitions.
use mathlib.Core.Path.{refl}
use Rattle.octets.specs.Slices.{starts_with}
use Rattle.frames.specs.Stream.{read_byte, stream}
use Rattle.frames.specs.Framings.{may_be}
use Rattle.frames.specs.Steps.{step_of, walk_from}
use Rattle.frames.specs.Carry.{held_of, carry_of}
use Rattle.frames.specs.Calls.{report_of}
use Rattle.frames.specs.DragDrop.{kept_after, MarkExamples}

pub examples_hold : MarkExamples
unfolding starts_with read_byte stream may_be step_of walk_from held_of carry_of report_of kept_after
examples_hold = record { texts = refl; one = refl; two = refl; cut = refl; ended = refl }
