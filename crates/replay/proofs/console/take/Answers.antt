use Rattle.replay.proofs.PieceLaws.{going_on}
use Rattle.replay.proofs.console.take.Goals as goal

pub loop-onward-preserved : goal.loop-onward-preserved
loop-onward-preserved c =
    let a = c.args in
    let l = c.loop-onward in
    let t = c.turn-onward in
    going_on a.piece.now a.reply.now a.before a.carry.now l.onward t.result l.receiver t.new.receiver l.carry t.new.carry
    l.scratch t.new.scratch l.reply l.auto.reply l.invariant t.ensures.1.0 t.ensures.1.1
