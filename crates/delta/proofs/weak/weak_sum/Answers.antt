use Rattle.std.proofs.Common.{take, get_or, arith, add-one}
use Rattle.std.proofs.Math.Seq.{take-suc}
use Rattle.delta.proofs.WeakLaws.{sum-last, weighed-last}
use Rattle.delta.proofs.weak.weak_sum.Goals as goal

pub loop-byte-preserved : goal.loop-byte-preserved
loop-byte-preserved c =
    let l = c.loop-byte in
    let w = c.args.window.now in
    let i = l.byte-index in
    let y = get_or w i 0 in
    let h = c.loop-byte-test.true in
    let p = take i w in (
      rw (add-one, take-suc w i 0 h, sum-last p y) (omega (arith, c.from.ensures, l.invariant.0)),
      rw (add-one, take-suc w i 0 h, weighed-last p y) (omega (arith, c.from.ensures, l.invariant.0, l.invariant.1)),
    )
