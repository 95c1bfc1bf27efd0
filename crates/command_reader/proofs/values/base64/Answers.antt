use Rattle.std.proofs.lemmas.Result.{err_from_is_err_and}
use Rattle.command_reader.proofs.Answers.{decoded-kept}
use Rattle.command_reader.proofs.values.base64.Goals as goal

-- whatever `decode` answered, the code keeps what is to be kept
pub returns-in_err-stored : goal.returns-in_err-stored
returns-in_err-stored c =
    let a = c.args in
    let p = err_from_is_err_and c.from_residual.result c.from_residual.ensures.1 in
    λ at n slots. rw (p.1, p.2)
    (decoded-kept a.v.now a.scratch.now a.used _ c.requires c.in_err-stored.ensures.out_after at n slots)

pub returns : goal.returns
returns c =
    let a = c.args in
    λ at n slots. rw c.placed-slot.ensures
    (decoded-kept a.v.now a.scratch.now a.used _ c.requires c.in_ok-stored.ensures.out_after at n slots)
