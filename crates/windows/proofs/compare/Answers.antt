use mathlib.Core.Path.{◌∙◌}
use native.Mathlib.Omega.{arith}
use Rattle.std.proofs.lemmas.Result.{err_from_is_err_and}
use Rattle.hearing.specs.Hearing.{heard_in}
use Rattle.windows.specs.Compare.{starts_of, first_diff, compared}
use Rattle.windows.specs.Laws.{CompareLaws}
use Rattle.windows.specs.Examples.{CompareExamples}
use Rattle.windows.specs.WrongComparers.{CompareTeeth}
use Rattle.windows.specs.WrongHearers.{HearerTeeth}
use Rattle.windows.proofs.Answers.{was-noted, was-refused, first-noted, first-over}
use Rattle.windows.proofs.Every.{compare-laws}
use Rattle.windows.proofs.Teeth.{teeth}
use Rattle.windows.proofs.HearerTeeth.{hearer-teeth}
use Rattle.windows.proofs.Examples.{examples_hold}
use Rattle.windows.proofs.compare.Goals as goal

-- what the contract says of all recordings
claims : CompareLaws compared first_diff heard_in starts_of × CompareTeeth × HearerTeeth × CompareExamples
claims = (compare-laws, teeth, hearer-teeth, examples_hold)

pub returns-clause-list_after : goal.returns-clause-list_after
returns-clause-list_after c =
    let s = c.args in
    let h = c.hear in
    let n = was-noted s.first.now h.new.events h.new.bytes (omega arith) (omega arith) h.result h.ensures.bytes_after c.in_ok-n.n
    h.ensures.within.0 c.in_ok-n.was in
    c.beside.ensures ∙ first-noted s.first.now s.second.now s.list.now _ _ _ n

pub returns-clause-compare_laws : goal.returns-clause-compare_laws
returns-clause-compare_laws c = claims

pub returns-in_err-n-clause-list_after : goal.returns-in_err-n-clause-list_after
returns-in_err-n-clause-list_after c =
    let s = c.args in
    let h = c.hear in
    let p = err_from_is_err_and c.from_residual.result c.from_residual.ensures.1 in
    let o = was-refused s.first.now h.new.events h.new.bytes (omega arith) (omega arith) h.result h.ensures.bytes_after _
    c.in_err-n.was in
    rw (p.1, p.2) (first-over s.first.now s.second.now s.list.now _ o)

pub returns-in_err-n-clause-compare_laws : goal.returns-in_err-n-clause-compare_laws
returns-in_err-n-clause-compare_laws c = claims
