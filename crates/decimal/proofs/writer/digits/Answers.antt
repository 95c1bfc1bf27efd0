use Rattle.std.proofs.Common.{◌≡◌, ◌∙◌, arith}
use Rattle.decimal.specs.Write.{fixed}
use Rattle.decimal.proofs.Digits.{store-last}
use Rattle.decimal.proofs.writer.digits.Goals as goal

pub loop-k-preserved : goal.loop-k-preserved
loop-k-preserved c =
    let l = c.loop-k in
    rw c.digit.ensures (store-last l.out c.args.at l.k l.rest (omega arith)) ∙ l.invariant

pub returns : goal.returns
unfolding fixed
returns c =
    let l = c.loop-k in
    let z : l.k ≡ 0 = omega arith in
    rw z at l.invariant
