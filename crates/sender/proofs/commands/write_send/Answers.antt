use Rattle.sender.proofs.ValueLaws.{send-values}
use Rattle.sender.proofs.commands.write_send.Goals as goal

pub returns : goal.returns
returns c = rw (← send-values c.args.id.now, ← c.lone.ensures) c.write_framed.ensures.out_after
