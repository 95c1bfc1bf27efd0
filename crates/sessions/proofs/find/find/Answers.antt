use mathlib.Core.Path.{sym, ◌∙◌}
use Rattle.std.proofs.Common.{rules, tests}
use Rattle.std.proofs.lemmas.Iterator.{YieldsList-from_slice}
use Rattle.std.proofs.lemmas.Iterator.Search.{position_from_yields_List}
use Rattle.protocol.specs.Table.{has_id}
use Rattle.session_rule.proofs.SearchLaws.{first_position}
use Rattle.sessions.proofs.find.find.Goals as goal

pub returns : goal.returns
returns c =
    let sessions = c.args.sessions.now in
    position_from_yields_List (has_id c.args.id.now) _ _ _ c.position.ensures.ran (YieldsList-from_slice sessions cc)
    (λ x b q k. search (rules, tests))
    ∙ sym (first_position (has_id c.args.id.now) sessions)
