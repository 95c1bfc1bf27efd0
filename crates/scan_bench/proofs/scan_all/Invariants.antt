use Rattle.std.proofs.Common.{◌-◌, ◌≤◌, length}
use Rattle.scan_bench.proofs.scan_all.Given as goal

abbrev pub invariant-loop-at : goal.invariant-loop-at
invariant-loop-at l = l.at ≤ length l.piece

abbrev pub decreases-loop-at : goal.decreases-loop-at
decreases-loop-at l = length l.piece - l.at
