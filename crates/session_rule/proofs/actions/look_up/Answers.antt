use mathlib.Core.Path.{refl, sym, ◌∙◌}
use borrow.Author.Tests.{eq-eqb, ne_eqb}
use Rattle.protocol.specs.Actions.{kind_of, result_in}
use Rattle.session_rule.proofs.ActionLaws.{tabulated, entry}
use Rattle.session_rule.proofs.actions.look_up.Goals as goal

pub returns-then-code-eq0 : goal.returns-then-code-eq0
returns-then-code-eq0 c =
    let a = c.args in
    rw (eq-eqb _ _ (sym c.action_code-code.ensures.0 ∙ c.if-code-eq0.true)) at (entry tabulated refl a.state a.action)

pub returns : goal.returns
unfolding kind_of result_in
returns c =
    let code = c.action_code-code.ensures.0 in
    let a = c.args in
    rw (c.state_number.ensures.0, code)
    (rw (ne_eqb _ _ (λ e. c.if-code-eq0.false (code ∙ e))) at (entry _ refl a.state a.action))
