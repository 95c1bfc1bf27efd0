use native.Mathlib.Omega.{arith}
use Rattle.std.proofs.lemmas.Grind.{common_steps}
use Rattle.sending.specs.Calls.{guarded, writes, piece_of}
use Rattle.sender.specs.Gates.{gate_of}
use Rattle.sender.proofs.piece.Goals as goal

-- the definitions opened here, as GateLaws' equations have the search stop short
pub returns : goal.returns
unfolding piece_of guarded writes gate_of
returns c = grind (arith, common_steps)
