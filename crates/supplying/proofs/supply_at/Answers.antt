use borrow.Author.Tests.{lt-ltb, le-ltb}
use Rattle.command.specs.Framed.{frame_room}
use Rattle.supplying.specs.Supplied.{supplied_in}
use Rattle.supplying.proofs.supply_at.Goals as goal

pub returns-then-out-lt-FRAME_ROOM : goal.returns-then-out-lt-FRAME_ROOM
unfolding supplied_in
returns-then-out-lt-FRAME_ROOM c = rw (c.unsupplied.ensures, lt-ltb _ frame_room c.if-out-lt-FRAME_ROOM.true)

pub returns-then-is_over : goal.returns-then-is_over
unfolding supplied_in
returns-then-is_over c =
    rw (
      c.unsupplied-then-is_over.ensures,
      le-ltb _ frame_room c.if-out-lt-FRAME_ROOM.false,
      ← c.is_over.ensures,
      c.if-is_over.true,
    )

pub returns-in_default : goal.returns-in_default
unfolding supplied_in
returns-in_default c =
    rw (
      c.unsupplied-in_default.ensures,
      le-ltb _ frame_room c.if-out-lt-FRAME_ROOM.false,
      ← c.is_over.ensures,
      c.if-is_over.false,
      c.in_default.is,
    )

pub returns : goal.returns
unfolding supplied_in
returns c =
    rw (
      le-ltb _ frame_room c.if-out-lt-FRAME_ROOM.false,
      ← c.is_over.ensures,
      c.if-is_over.false,
      c.in-Some.is,
    )
    c.take.ensures
