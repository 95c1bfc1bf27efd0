use mathlib.Core.Path.{◌∙◌, sym}
use Rattle.octets.proofs.Tests.{tests}
use Rattle.frames.specs.Calls.{scan_of}
use Rattle.frames.proofs.CallLaws.{call-taken, consumes, refuses-short}
use Rattle.frames.proofs.Follows.{tells_the-stream}
use Rattle.frames.proofs.Cuts.{cuts}
use Rattle.frames.proofs.Framed.{stream-framed, stream-dragged}
use Rattle.frames.proofs.Examples.{examples_hold}
use Rattle.frames.proofs.scan.Goals as goal

pub returns-then-carry-lt-TEXT_LIMIT-clause-carry_after : goal.returns-then-carry-lt-TEXT_LIMIT-clause-carry_after
unfolding scan_of
returns-then-carry-lt-TEXT_LIMIT-clause-carry_after c = search tests

pub returns-then-carry-lt-TEXT_LIMIT-clause-tells_the_stream : goal.returns-then-carry-lt-TEXT_LIMIT-clause-tells_the_stream
returns-then-carry-lt-TEXT_LIMIT-clause-tells_the_stream c = (tells_the-stream, cuts, consumes, refuses-short, stream-framed)

pub returns-then-carry-lt-TEXT_LIMIT-clause-dragged_tells : goal.returns-then-carry-lt-TEXT_LIMIT-clause-dragged_tells
returns-then-carry-lt-TEXT_LIMIT-clause-dragged_tells c = (stream-dragged, examples_hold)

pub returns-clause-carry_after : goal.returns-clause-carry_after
returns-clause-carry_after c =
    let a = c.args in
    c.taken.ensures ∙ sym (call-taken a.framing a.piece.now a.carry.now c.if-carry-lt-TEXT_LIMIT.false)

pub returns-clause-tells_the_stream : goal.returns-clause-tells_the_stream
returns-clause-tells_the_stream c = (tells_the-stream, cuts, consumes, refuses-short, stream-framed)

pub returns-clause-dragged_tells : goal.returns-clause-dragged_tells
returns-clause-dragged_tells c = (stream-dragged, examples_hold)
