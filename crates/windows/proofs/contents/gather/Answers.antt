use Prim.Native.Nat.{◌+◌, ◌*◌}
use mathlib.Core.Path.{refl}
use native.Mathlib.Omega.{arith}
use lib.ListN.{length}
use Rattle.windows.proofs.RowsLeft.{apart_from}
use Rattle.windows.proofs.contents.gather.Goals as goal

pub gather_from-requires : goal.gather_from-requires
gather_from-requires c =
    let a = c.args in
    let laid = c.requires.1 in (
      omega arith,
      apart_from 0 (length a.side.bytes.now) a.side.events.now ((a.row + 1) * 7) (a.row + 1, refl) laid.apart,
      laid.fits,
    )
