use Prim.Native.Nat.{◌+◌, ◌*◌, ◌≤◌}
use mathlib.Core.Path.{sym, ◌∙◌}
use native.Mathlib.Omega.{arith}
use lib.ListN.{length}
use Rattle.windows.specs.Steps.{heard, key_of}
use Rattle.windows.proofs.SearchLaws.{nth_past, nth-later, nth-found, nth_end}
use Rattle.windows.proofs.matching.nth_start.Goals as goal
use Rattle.windows.proofs.matching.nth_start.Goals.{then-starts_pair+else-left-eq0, else-starts_pair}

pub returns-then-left-eq0 : goal.returns-then-left-eq0
returns-then-left-eq0 c =
    let l = c.loop-row in
    let h : l.row * 7 + 7 ≤ length c.args.side.events.now = omega arith in
    let e = sym c.starts_pair.ensures ∙ c.if-starts_pair.true in
    (h, nth-found (heard c.args.side) l.row (key_of c.args.pair) l.left h e c.if-left-eq0.true l.invariant)

pub loop-row-preserved : goal.loop-row-preserved
loop-row-preserved c =
    let l = c.loop-row in
    let s = heard c.args.side in
    let k = key_of c.args.pair in
    let h : l.row * 7 + 7 ≤ length c.args.side.events.now = omega arith in
    elim c.if-starts_pair.branch [
      | then-starts_pair+else-left-eq0 w ↦ rw w.left-is
          (nth-later s l.row k l.left h (sym c.starts_pair.ensures ∙ w.if-starts_pair.true) w.if-left-eq0.false l.invariant)
      | else-starts_pair w ↦ rw w.left-is
          (nth_past s l.row k l.left h (sym c.starts_pair.ensures ∙ w.if-starts_pair.false) l.invariant)
    ]

pub returns : goal.returns
returns c =
    let l = c.loop-row in
    (tt, nth_end (heard c.args.side) l.row (key_of c.args.pair) l.left (omega arith) l.invariant)
