use Prim.Native.Nat.{◌≤◌}
use mathlib.Core.Path.{◌≡◌}
use lib.ListN.{length, take, replicate}
use Rattle.protocol.specs.Table.{free_file}
use Rattle.sessions.proofs.places.emptied.Given as goal

abbrev pub invariant-loop-j : goal.invariant-loop-j
invariant-loop-j l = (l.j ≤ 32) × (length l.files ≡ 32) × (take l.j l.files ≡ replicate l.j free_file)
