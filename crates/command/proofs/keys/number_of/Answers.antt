use Rattle.octets.specs.Split.{split, onto}
use Rattle.command.specs.declared.keys.Row.{Row}
use Rattle.command.proofs.Names.{position-place}
use Rattle.command.proofs.keys.number_of.Goals as goal

pub returns : goal.returns
unfolding split onto
returns c = rw (c.row_of.ensures, position-place (λ (r : Row). r.0.now) c.args.name.now _)
