use Prim.Native.Nat.{◌*◌}
use Rattle.windows.specs.Steps.{heard, key_of}
use Rattle.windows.proofs.ContentLaws.{Gathering}
use Rattle.windows.proofs.contents.gather_from.Given as goal

abbrev pub invariant-loop-row : goal.invariant-loop-row
invariant-loop-row l = Gathering (heard l.side) (key_of l.pair) (l.from * 7) l.initial.into (l.row * 7) l.n l.into
