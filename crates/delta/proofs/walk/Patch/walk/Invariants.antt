use Rattle.std.proofs.Common.{◌-◌, length}
use Rattle.delta.proofs.WalkLaws.{Walking}
use Rattle.delta.proofs.walk.Patch.walk.Given as goal

abbrev pub invariant-loop-tally : goal.invariant-loop-tally
invariant-loop-tally l = Walking l.self.size l.self.old.now l.self.delta.now l.initial.out l.tally l.out

abbrev pub decreases-loop-tally : goal.decreases-loop-tally
decreases-loop-tally l = length l.self.delta.now - l.tally.at
