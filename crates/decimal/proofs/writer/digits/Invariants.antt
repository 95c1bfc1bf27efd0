use Rattle.std.proofs.Common.{◌≡◌}
use Rattle.std.proofs.lemmas.List.Edits.{sets}
use Rattle.decimal.specs.Write.{fixed}
use Rattle.decimal.proofs.writer.digits.Given as goal

abbrev pub invariant-loop-k : goal.invariant-loop-k
invariant-loop-k l = sets l.out l.at (fixed l.k l.rest) ≡ sets l.initial.out l.at (fixed l.w l.n)
