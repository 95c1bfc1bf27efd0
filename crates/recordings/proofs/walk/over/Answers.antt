use native.Mathlib.Omega.{arith}
use Rattle.recordings.specs.Walk.{seen}
use Rattle.recordings.proofs.TurnLaws.{turned, start-walks, walked}
use Rattle.recordings.proofs.walk.over.Goals as goal

pub loop-tally-init : goal.loop-tally-init
loop-tally-init c = (start-walks c.args.recording.now c.args.output.now c.args.list.now, omega arith)

pub loop-tally-smaller : goal.loop-tally-smaller
loop-tally-smaller c =
    let a = c.args in
    let w = c.loop-tally in
    (turned a.recording.now a.output.now a.list.now w.tally w.output w.list (seen c.next-sight.result) w.invariant.0
    c.loop-tally-test.true c.next-sight.ensures c.turn-tally.ensures).1

pub loop-tally-preserved : goal.loop-tally-preserved
loop-tally-preserved c =
    let a = c.args in
    let w = c.loop-tally in (
      (turned a.recording.now a.output.now a.list.now w.tally w.output w.list (seen c.next-sight.result) w.invariant.0
          c.loop-tally-test.true c.next-sight.ensures c.turn-tally.ensures).0,
      omega arith,
    )

pub returns : goal.returns
returns c =
    let a = c.args in
    let w = c.loop-tally in
    rw (← c.outside.ensures) at
    (walked a.recording.now a.output.now a.list.now w.tally w.output w.list w.invariant.0 c.loop-tally-test.false)
