use Prim.Native.Nat.{◌+◌, ◌*◌, ◌≤◌}
use mathlib.Core.Path.{sym, ◌∙◌}
use native.Mathlib.Omega.{arith}
use lib.ListN.{length}
use Rattle.windows.specs.Steps.{heard, key_of}
use Rattle.windows.proofs.SearchLaws.{count_past, count-here, count-end}
use Rattle.windows.proofs.matching.count.Goals as goal
use Rattle.windows.proofs.matching.count.Goals.{then-starts_pair, else-starts_pair}

pub loop-row-preserved : goal.loop-row-preserved
loop-row-preserved c =
    let l = c.loop-row in
    let s = heard c.args.side in
    let k = key_of c.args.pair in
    let h : l.row * 7 + 7 ≤ length c.args.side.events.now = omega arith in
    elim c.if-starts_pair.branch [
      | then-starts_pair w ↦ rw w.n-is
          (omega arith, count-here s l.row k l.n h (sym c.starts_pair.ensures ∙ w.if-starts_pair.true) l.invariant.1)
      | else-starts_pair w ↦ rw w.n-is
          (omega arith, count_past s l.row k l.n h (sym c.starts_pair.ensures ∙ w.if-starts_pair.false) l.invariant.1)
    ]

pub returns : goal.returns
returns c =
    let l = c.loop-row in
    count-end (heard c.args.side) l.row (key_of c.args.pair) l.n (omega arith) l.invariant.1
