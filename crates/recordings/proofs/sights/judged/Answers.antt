use mathlib.Core.Path.{sym}
use Rattle.recordings.specs.Texts.{text_between}
use Rattle.recordings.proofs.Judged.{read-judged}
use Rattle.recordings.proofs.sights.judged.Goals as goal

pub returns-in-Ok : goal.returns-in-Ok
returns-in-Ok c =
    let a = c.args in
    sym (read-judged (text_between a.recording.now a.start a.end) a.scratch.now a.start a.end c.requires.2
    c.in-Ok.ensures.scratch_after)

pub returns-in-Err : goal.returns-in-Err
returns-in-Err c =
    let a = c.args in
    sym (read-judged (text_between a.recording.now a.start a.end) a.scratch.now a.start a.end c.requires.2
    c.in-Err.ensures.scratch_after)
