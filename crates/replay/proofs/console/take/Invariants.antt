-- So far, all before the place is replayed, where the run is well.
use Rattle.std.proofs.Common.{length, ◌-◌}
use Rattle.replay.proofs.PieceLaws.{Going}
use Rattle.replay.proofs.console.take.Given as goal

abbrev pub invariant-loop-onward : goal.invariant-loop-onward
invariant-loop-onward l = Going l.piece l.fn.reply l.fn.before l.fn.carry l.onward l.receiver l.carry

abbrev pub decreases-loop-onward : goal.decreases-loop-onward
decreases-loop-onward l = length l.piece - l.onward.at
