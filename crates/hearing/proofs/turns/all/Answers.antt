use mathlib.Core.Path.{refl}
use native.Mathlib.Omega.{arith}
use borrow.Author.Rules.{rules}
use Rattle.hearing.proofs.HearLaws.{turned, heard-whole, start-hears}
use Rattle.hearing.proofs.turns.all.Goals as goal

pub loop-reached-init : goal.loop-reached-init
loop-reached-init c =
    let a = c.args in
    (λ h. start-hears a.recording.now h a.events.now a.bytes.now c.requires.1 c.requires.2, search rules, refl, refl)

pub turn-reached-requires : goal.turn-reached-requires
turn-reached-requires c =
    let k = c.loop-reached.invariant.0 c.requires.0 in
    (omega (arith, k.stored.few, k.within, c.requires.0), c.requires.0)

pub loop-reached-smaller : goal.loop-reached-smaller
loop-reached-smaller c =
    let w = c.loop-reached in
    (turned c.args.recording.now c.requires.0 w.reached w.events w.bytes (w.invariant.0 c.requires.0) w.scratch
    (omega (arith, w.invariant.1)) c.loop-reached-test.true c.turn-reached.ensures).1

pub loop-reached-preserved : goal.loop-reached-preserved
loop-reached-preserved c =
    let w = c.loop-reached in (
      λ h. (turned c.args.recording.now h w.reached w.events w.bytes (w.invariant.0 h) w.scratch
          (omega (arith, w.invariant.1)) c.loop-reached-test.true c.turn-reached.ensures).0,
      search rules,
      search rules,
      search rules,
    )

pub overflow_mul-result : goal.overflow_mul-result
overflow_mul-result c =
    let k = c.loop-reached.invariant.0 c.requires.0 in
    omega (arith, k.stored.few, k.within, c.requires.0)

pub returns : goal.returns
returns c =
    let w = c.loop-reached in
    heard-whole c.args.recording.now c.requires.0 w.reached w.events w.bytes (w.invariant.0 c.requires.0) c.loop-reached-test.false
