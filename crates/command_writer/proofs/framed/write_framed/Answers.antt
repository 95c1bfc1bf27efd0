use Prim.Native.Nat.{◌+◌}
use mathlib.Core.Path.{◌∙◌, ap}
use native.Mathlib.Omega.{arith}
use lib.ListN.{length}
use borrow.Author.Tests.{lt-ltb}
use Rattle.std.proofs.lemmas.Result.{err_from_is_err_and}
use Rattle.octets.specs.Outcome.{outcome}
use Rattle.command.specs.Slots.{values_of}
use Rattle.command.specs.Write.{Answer}
use Rattle.command.specs.Framed.{frame_room, framed_of}
use Rattle.command.proofs.Framed.{framed-then-read}
use Rattle.command_writer.proofs.Frames.{writes-framed, refuses-framed}
use Rattle.command_writer.proofs.framed.write_framed.Goals as goal

pub returns-then-out-lt-FRAME_ROOM-clause-out_after : goal.returns-then-out-lt-FRAME_ROOM-clause-out_after
unfolding framed_of
returns-then-out-lt-FRAME_ROOM-clause-out_after c = rw (lt-ltb (length c.args.out.now) frame_room (omega arith))

pub returns-then-out-lt-FRAME_ROOM-clause-framed_then_read : goal.returns-then-out-lt-FRAME_ROOM-clause-framed_then_read
returns-then-out-lt-FRAME_ROOM-clause-framed_then_read c = framed-then-read

pub returns-in_err-n-clause-out_after : goal.returns-in_err-n-clause-out_after
returns-in_err-n-clause-out_after c =
    let a = c.args in
    let vs = values_of a.command a.text.now a.scratch.now in
    let p = err_from_is_err_and c.from_residual.result c.from_residual.ensures.1 in
    rw (p.1, p.2) (refuses-framed vs a.out.now c.if-out-lt-FRAME_ROOM.false _ _ c.in_err-n.ensures.out_after)

pub returns-in_err-n-clause-framed_then_read : goal.returns-in_err-n-clause-framed_then_read
returns-in_err-n-clause-framed_then_read c = framed-then-read

pub enclose-requires : goal.enclose-requires
enclose-requires c =
    let a = c.args in
    let vs = values_of a.command a.text.now a.scratch.now in
    let written = writes-framed vs a.out.now c.if-out-lt-FRAME_ROOM.false _ _ c.in_ok-n.ensures.out_after in
    omega (arith, written.0)

pub overflow_add-result : goal.overflow_add-result
overflow_add-result c =
    let a = c.args in
    let vs = values_of a.command a.text.now a.scratch.now in
    let written = writes-framed vs a.out.now c.if-out-lt-FRAME_ROOM.false _ _ c.in_ok-n.ensures.out_after in
    omega (arith, written.0)

pub returns-clause-out_after : goal.returns-clause-out_after
returns-clause-out_after c =
    let a = c.args in
    let vs = values_of a.command a.text.now a.scratch.now in
    let written = writes-framed vs a.out.now c.if-out-lt-FRAME_ROOM.false _ _ c.in_ok-n.ensures.out_after in
    ap (outcome (Answer.written (c.in_ok-n.n + 4))) c.enclose.ensures ∙ written.1

pub returns-clause-framed_then_read : goal.returns-clause-framed_then_read
returns-clause-framed_then_read c = framed-then-read
