use Rattle.std.proofs.Common.{refl, add-one, arith}
use Rattle.std.proofs.Math.Nat.{pow-succ'}
use Rattle.decimal.specs.Write.{width_from}
use Rattle.decimal.proofs.Widths.{width-unique}
use Rattle.decimal.proofs.writer.width.Goals as goal

pub returns-then-n-eq0 : goal.returns-then-n-eq0
unfolding width_from
returns-then-n-eq0 c = rw c.if-n-eq0.true (refl, omega arith)

pub returns-else-n-eq0 : goal.returns-else-n-eq0
returns-else-n-eq0 c =
    let k = c.ilog10.result in
    let e = c.ilog10.ensures in
    let w = width-unique k c.args.n e.bound e.power_le (rw (pow-succ' 10 k) e.next_power_gt) in
    (rw (w, add-one), omega (arith, e.bound))
