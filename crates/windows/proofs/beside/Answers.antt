use mathlib.Core.Path.{◌∙◌}
use native.Mathlib.Omega.{arith}
use Rattle.std.proofs.lemmas.Result.{err_from_is_err_and}
use Rattle.windows.specs.Steps.{heard}
use Rattle.windows.proofs.Answers.{was-noted, was-refused, beside-listed, beside-over}
use Rattle.windows.proofs.beside.Goals as goal

pub returns : goal.returns
returns c =
    let s = c.args in
    let h = c.hear in
    let n = was-noted s.second.now h.new.events h.new.bytes (omega arith) (omega arith) h.result h.ensures.bytes_after c.in_ok-n.n
    h.ensures.within.0 c.in_ok-n.was in
    c.fitted.ensures ∙ beside-listed (heard s.first) s.second.now s.list.now _ _ _ n

pub returns-in_err-n : goal.returns-in_err-n
returns-in_err-n c =
    let s = c.args in
    let h = c.hear in
    let p = err_from_is_err_and c.from_residual.result c.from_residual.ensures.1 in
    let o = was-refused s.second.now h.new.events h.new.bytes (omega arith) (omega arith) h.result h.ensures.bytes_after _
    c.in_err-n.was in
    rw (p.1, p.2) (beside-over (heard s.first) s.second.now s.list.now _ o)
