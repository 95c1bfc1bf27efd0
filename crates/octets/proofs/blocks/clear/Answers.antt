use Rattle.std.proofs.Common.{sym, ◌∙◌}
use Rattle.octets.proofs.Passes.{clear-turn, clear-end}
use Rattle.octets.proofs.blocks.clear.Goals as goal

pub loop-x-preserved : goal.loop-x-preserved
loop-x-preserved c =
    let l = c.loop-x in
    let a = c.args in
    l.invariant ∙ clear-turn a.b a.s.now l.x-index l.hit c.loop-x-test.true

pub returns : goal.returns
returns c =
    let l = c.loop-x in
    let a = c.args in
    sym (l.invariant ∙ clear-end a.b a.s.now l.x-index l.hit c.loop-x-test.false)
