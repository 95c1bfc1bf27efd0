use mathlib.Core.Path.{refl}
-- the wrong machines first: they are checked in this order, and a statement that was loosened is told by the machine that it lets through
use Rattle.protocol.proofs.Teeth.{teeth}
use Rattle.protocol.proofs.SupplyTeeth.{serves-whole, supply-teeth}
use Rattle.protocol.proofs.isolation.Refuted.{sees-alike, leaks}
use Rattle.protocol.proofs.Demand.{every-history}
use Rattle.protocol.proofs.Cuts.{cuts-alike}
use Rattle.protocol.proofs.SoundCalls.{every-sound, every-count}
use Rattle.protocol.proofs.isolation.Runs.{isolated}
use Rattle.protocol.proofs.Starred.{starred_hold}
use Rattle.protocol.proofs.Receiver.fresh.Goals as goal

pub returns : goal.returns
returns c = (
  refl,
  every-history,
  cuts-alike,
  every-sound,
  every-count,
  teeth,
  serves-whole,
  supply-teeth,
  isolated,
  sees-alike,
  leaks,
  starred_hold,
)
