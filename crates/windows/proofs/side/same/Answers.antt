use Rattle.std.proofs.Common.{◌∙◌}
use Rattle.octets.proofs.Compare.{equals-pointwise}
use Rattle.windows.proofs.side.same.Goals as goal

pub returns : goal.returns
returns c = c.eq.ensures ∙ equals-pointwise c.args.a.now c.args.b.now
