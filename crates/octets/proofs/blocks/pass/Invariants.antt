use Rattle.std.specs.Prelude.{◌≡◌, drop, ◌+◌, ◌≤◌, length}
use Rattle.octets.specs.Search.{index_of}
use Rattle.octets.proofs.blocks.pass.Given as goal

-- the blocks that are left begin at the place
abbrev pub invariant-loop-block : goal.invariant-loop-block
invariant-loop-block l = record {
  within : l.at ≤ length l.s;
  left : drop l.at l.s ≡ l.block-iterator.rest.now;
  size : l.block-iterator.size ≡ l.n;
  found : l.at + index_of l.b (drop l.at l.s) ≡ l.from + index_of l.b (drop l.from l.s);
}
