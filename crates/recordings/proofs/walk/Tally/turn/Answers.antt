use mathlib.Core.Path.{ap}
use native.Mathlib.Omega.{arith}
use Rattle.octets.specs.Outcome.{Outcome}
use Rattle.recordings.specs.declared.walk.Tally.{Tally}
use Rattle.recordings.proofs.TurnLaws.{outside-counts}
use Rattle.recordings.proofs.walk.Tally.turn.Goals as goal

pub kept-requires : goal.kept-requires
kept-requires c =
    let e = ap (λ (o : Outcome Tally). o.answer.kept) c.outside.ensures in
    (omega (arith, e, outside-counts c.args.self c.in-Kept.start c.args.list.now), c.requires.2)

pub faulty-requires : goal.faulty-requires
faulty-requires c =
    let e = ap (λ (o : Outcome Tally). o.answer.rows) c.outside-in-Faulty.ensures in
    omega (arith, e, outside-counts c.args.self c.in-Faulty.start c.args.list.now)
