use lib.ListN.{length}
use borrow.Author.Tests.{lt-ltb, le-ltb}
use Rattle.protocol.specs.Supplies.{home_room, framed_for}
use Rattle.supplying.proofs.HomeLaws.{long-home_as-written}
use Rattle.supplying.proofs.PlaceLaws.{both-copied}
use Rattle.supplying.proofs.ValueLaws.{home-values}
use Rattle.supplying.proofs.writers.write_home.Goals as goal

pub returns-then-path-gt-HOME_ROOM-clause-out_after : goal.returns-then-path-gt-HOME_ROOM-clause-out_after
unfolding framed_for
returns-then-path-gt-HOME_ROOM-clause-out_after c s =
    rw (lt-ltb home_room (length c.args.path.now) c.if-path-gt-HOME_ROOM.true)

pub returns-then-path-gt-HOME_ROOM-clause-long_home_as_written :
    goal.returns-then-path-gt-HOME_ROOM-clause-long_home_as_written
returns-then-path-gt-HOME_ROOM-clause-long_home_as_written c = long-home_as-written

pub returns-clause-out_after : goal.returns-clause-out_after
unfolding framed_for
returns-clause-out_after c s =
    let a = c.args in
    let l = c.if-path-gt-HOME_ROOM.false in
    rw (
      le-ltb home_room (length a.path.now) l,
      ← home-values a.id.now a.path.now l,
      ← c.home.ensures,
      ← both-copied 8192 2 _ _ _ _ c.copy_at.ensures c.copy_at-2.ensures,
    )
    c.write_framed.ensures.out_after

pub returns-clause-long_home_as_written : goal.returns-clause-long_home_as_written
returns-clause-long_home_as_written c = long-home_as-written
