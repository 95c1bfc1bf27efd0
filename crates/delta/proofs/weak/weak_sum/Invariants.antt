use Rattle.std.proofs.Common.{◌≡◌, ◌%◌, take}
use Rattle.delta.specs.Weak.{sum_of, weighed_of}
use Rattle.delta.proofs.weak.weak_sum.Given as goal

abbrev pub invariant-loop-byte : goal.invariant-loop-byte
invariant-loop-byte l = (l.a ≡ sum_of (take l.byte-index l.window) % 65536) × (l.b ≡ weighed_of (take l.byte-index l.window) % 65536)
