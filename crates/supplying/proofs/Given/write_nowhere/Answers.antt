use Rattle.std.proofs.lemmas.Result.{err_from_is_err_and}
use Rattle.supplying.proofs.SupplyLaws.{framed_aside}
use Rattle.supplying.proofs.Given.write_nowhere.Goals as goal

pub returns : goal.returns
returns c out room = rw (framed_aside _ _ out room, ← c.in_ok-write.ensures)

pub returns-in_err-write : goal.returns-in_err-write
returns-in_err-write c out room =
    let p = err_from_is_err_and c.from_residual.result c.from_residual.ensures.1 in
    rw (framed_aside _ _ out room, ← c.in_err-write.ensures, p.1, p.2)
