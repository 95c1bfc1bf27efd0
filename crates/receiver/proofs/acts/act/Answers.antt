use Rattle.receiver.proofs.SaidLaws.{said-acts}
use Rattle.receiver.proofs.acts.act.Goals as goal

pub returns-in-Ok : goal.returns-in-Ok
returns-in-Ok c = rw (← said-acts _ _ _ _, ← c.in-Ok.ensures, c.obey.ensures)

pub returns-in-Err : goal.returns-in-Err
returns-in-Err c = rw (← said-acts _ _ _ _, ← c.in-Err.ensures, c.tell.ensures)
