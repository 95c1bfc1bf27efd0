use Rattle.std.proofs.Common.{sym, ◌∙◌}
use Rattle.octets.proofs.Passes.{block-past}
use Rattle.octets.proofs.blocks.pass.Goals as goal

pub loop-block-preserved : goal.loop-block-preserved
loop-block-preserved c =
    let a = c.args in
    let l = c.loop-block in
    let steps = c.in-Some.ensures.steps in
    let given = l.invariant.left ∙ steps.1.0 in
    let past = block-past a.b a.n l.at a.s.now c.in-Some.block.now _ l.invariant.within given (steps.1.1 ∙ l.invariant.size)
    (sym c.clear.ensures ∙ c.if-not-clear.false) in
    record { within = past.1; left = sym past.0; size = steps.0 ∙ l.invariant.size; found = past.2 ∙ l.invariant.found }
