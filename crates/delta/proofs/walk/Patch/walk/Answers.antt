use Rattle.std.proofs.Common.{arith}
use Rattle.std.proofs.lemmas.Result.{err_from_is_err_and}
use Rattle.delta.proofs.WalkLaws.{start-walks, turned_on, turned-off, no-step, walked}
use Rattle.delta.proofs.walk.Patch.walk.Goals as goal

pub loop-tally-init : goal.loop-tally-init
loop-tally-init c =
    let s = c.args.self.now in
    start-walks s.size s.old.now s.delta.now c.args.out.now

pub returns-in_err-step : goal.returns-in_err-step
returns-in_err-step c =
    let s = c.args.self.now in
    let l = c.loop-tally in
    let p = err_from_is_err_and c.from_residual.result c.from_residual.ensures.1 in
    rw (p.1, p.2)
    (no-step s.size s.old.now s.delta.now c.args.out.now l.tally l.out l.invariant c.loop-tally-test.true s.short_old s.short_delta
    c.next.ensures c.in_err-step.was)

pub returns-in_err-tally : goal.returns-in_err-tally
returns-in_err-tally c =
    let s = c.args.self.now in
    let l = c.loop-tally in
    let p = err_from_is_err_and c.from_residual-in_err-tally.result c.from_residual-in_err-tally.ensures.1 in
    rw (p.1, p.2)
    (turned-off s.size s.old.now s.delta.now c.args.out.now l.tally l.out l.invariant c.loop-tally-test.true s.short_old s.short_delta
    c.next.ensures c.in_ok-step.was c.turn.ensures c.in_err-tally.was)

pub loop-tally-smaller : goal.loop-tally-smaller
loop-tally-smaller c =
    let s = c.args.self.now in
    let l = c.loop-tally in
    let h =
    turned_on s.size s.old.now s.delta.now c.args.out.now l.tally l.out l.invariant c.loop-tally-test.true s.short_old s.short_delta
    c.next.ensures c.in_ok-step.was c.turn.ensures c.in_ok-tally.was in
    omega (arith, h.1, h.0.within)

pub loop-tally-preserved : goal.loop-tally-preserved
loop-tally-preserved c =
    let s = c.args.self.now in
    let l = c.loop-tally in
    (turned_on s.size s.old.now s.delta.now c.args.out.now l.tally l.out l.invariant c.loop-tally-test.true s.short_old s.short_delta
    c.next.ensures c.in_ok-step.was c.turn.ensures c.in_ok-tally.was).0

pub returns : goal.returns
returns c =
    let s = c.args.self.now in
    let l = c.loop-tally in
    walked s.size s.old.now s.delta.now c.args.out.now l.tally l.out l.invariant c.loop-tally-test.false
