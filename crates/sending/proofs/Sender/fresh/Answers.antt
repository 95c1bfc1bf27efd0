use mathlib.Core.Path.{refl}
use Rattle.sending.proofs.Examples.{examples-run}
use Rattle.sending.proofs.EveryCall.{every-sender}
use Rattle.sending.proofs.Cuts.{cuts-alike}
use Rattle.sending.proofs.Teeth.{teeth}
use Rattle.sending.proofs.LongIds.{long-id_as-written}
use Rattle.sending.proofs.arrival.exchange.GoesOn.{arrives}
use Rattle.sending.proofs.arrival.wrong.Teeth.{wrong-senders-fall}
use Rattle.sending.proofs.Sender.fresh.Goals as goal

pub returns : goal.returns
returns c = (refl, every-sender, cuts-alike, arrives, teeth, wrong-senders-fall arrives, long-id_as-written, examples-run)
