use native.Mathlib.Omega.{arith}
use native.Mathlib.Nat.{add-zero}
use Rattle.octets.specs.Search.{index_of}
use Rattle.octets.proofs.Lists.{drop-end}
use Rattle.octets.proofs.find.Goals as goal

pub returns-then-from-s : goal.returns-then-from-s
unfolding index_of
returns-then-from-s c = let a = c.args in rw (drop-end a.s.now a.from (omega arith), add-zero)
