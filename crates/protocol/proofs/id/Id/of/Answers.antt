use Prim.Native.Nat.{ℕ}
use mathlib.Core.Path.{ap}
use mathlib.Core.List.{List}
use lib.ListN.{length}
use Rattle.protocol.specs.declared.id.Id.{Id}
use Rattle.protocol.proofs.PadLaws.{padded-is}
use Rattle.protocol.proofs.id.Id.of.Goals as goal

pub returns : goal.returns
returns c =
    let made : List ℕ → Id = λ bytes. record { bytes = bytes; len = length c.args.id.now } in
    rw c.copy_from_slice.ensures.after (ap made (padded-is c.args.id.now c.min-n.result c.min-n.ensures))
