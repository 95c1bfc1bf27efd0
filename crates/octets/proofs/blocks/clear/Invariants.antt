use Rattle.std.specs.Prelude.{◌≡◌, false, cond, drop}
use Rattle.octets.specs.Slices.{lacks}
use Rattle.octets.proofs.blocks.clear.Given as goal

abbrev pub invariant-loop-x : goal.invariant-loop-x
invariant-loop-x l = lacks l.b l.s ≡ cond l.hit false (lacks l.b (drop l.x-index l.s))
