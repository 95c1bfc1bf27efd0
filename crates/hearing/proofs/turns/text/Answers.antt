use Rattle.hearing.proofs.HearLaws.{near}
use Rattle.hearing.proofs.turns.text.Goals as goal

pub invariant_of-sighted : goal.invariant_of-sighted
invariant_of-sighted c =
    let a = c.args in
    let p = c.requires in
    record { near = near a.recording.now a.scratch.now _ a.start a.end p.1 p.2 p.3 c.read.ensures.scratch_after c.in-Ok.is }
