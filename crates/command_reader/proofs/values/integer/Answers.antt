use Rattle.std.proofs.lemmas.Result.{err_from_is_err_and}
use Rattle.command.specs.Values.{value_read}
use Rattle.command_reader.proofs.values.integer.Goals as goal

pub returns-in_err-number : goal.returns-in_err-number
unfolding value_read
returns-in_err-number c =
    let p = err_from_is_err_and c.from_residual.result c.from_residual.ensures.1 in
    λ at scratch used n slots. rw (p.1, p.2, ← c.in_err-number.ensures.value)

pub returns : goal.returns
unfolding value_read
returns c = λ at scratch used n slots. rw (c.plain.ensures, c.numbered.ensures, ← c.in_ok-number.ensures.value)
