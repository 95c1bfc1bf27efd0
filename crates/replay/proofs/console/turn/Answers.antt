use Rattle.std.proofs.Common.{length, arith, sym, ◌∙◌}
use Rattle.replay.proofs.Onwards.{fed-after, answered-after}
use Rattle.replay.proofs.ReplayLaws.{turned_on, turned_over}
use Rattle.replay.proofs.console.turn.Goals as goal

pub returns-in_default : goal.returns-in_default
returns-in_default c =
    let a = c.args in
    let f = c.feed-fed in
    let p = c.planned-plan in
    let fed = rw c.rest-left.ensures at f.ensures in (
      p.ensures.0,
      (
        turned_over a.receiver.now f.new.receiver f.result a.carry.now a.scratch.now a.reply.now f.new.carry f.new.scratch f.new.reply
            _ fed (sym p.ensures.1 ∙ c.in_default.is),
        fed-after a.receiver.now f.new.receiver f.result a.carry.now a.scratch.now a.reply.now f.new.carry f.new.scratch f.new.reply
            _ (length a.piece.now) a.onward p.result.onward fed p.ensures.2,
      ),
    )

pub returns : goal.returns
returns c =
    let a = c.args in
    let f = c.feed-fed in
    let p = c.planned-plan in
    let x = c.answer_for-answered in
    let len = length a.piece.now in
    let fed = rw c.rest-left.ensures at f.ensures in
    let called = rw c.rest-left.ensures at x.ensures in (
      omega (arith, p.ensures.0, c.finish.ensures.0),
      (
        turned_on a.receiver.now f.new.receiver x.new.receiver f.result x.result _ a.carry.now a.scratch.now a.reply.now f.new.carry
            x.new.carry f.new.scratch f.new.reply p.new.reply x.new.reply _ fed (sym p.ensures.1 ∙ c.in-Some.is) p.auto.reply called.0
            called.1,
        answered-after len _ a.onward p.result.onward c.finish.result
            (fed-after a.receiver.now f.new.receiver f.result a.carry.now a.scratch.now a.reply.now f.new.carry f.new.scratch
            f.new.reply _ len a.onward p.result.onward fed p.ensures.2)
            c.finish.ensures.1,
      ),
    )
