-- What every call of an exchange keeps: none of them fails anything or supplies anything.
use Prim.Native.Nat.{ℕ}
use mathlib.Core.List.{List, []}
use Rattle.protocol.specs.Supplies.{Supply}
use Rattle.protocol.specs.Promises.{Sized, Promises}
use Rattle.protocol.specs.Machine.{ours}
use Rattle.protocol.specs.declared.Receiver.{Receiver}
use Rattle.protocol.specs.declared.Failure.TheVariants as Failure
use Rattle.protocol.proofs.Promises.{every_call}

pub promised : (r : Receiver) → Sized r.table → (piece carry scratch reply id : List ℕ)
    → Promises ours r piece carry scratch reply id Failure.Eio (Supply.home [] []) []
promised r z piece carry scratch reply id = every_call r z piece carry scratch reply id Failure.Eio (Supply.home [] []) []
