use mathlib.Core.Path.{sym, ◌∙◌}
use Rattle.std.proofs.Common.{rules, tests}
use Rattle.std.proofs.lemmas.Iterator.{YieldsList-from_slice}
use Rattle.std.proofs.lemmas.Iterator.Search.{position_from_yields_List}
use Rattle.sending.specs.Transfers.{has_file_id}
use Rattle.session_rule.proofs.SearchLaws.{first_position}
use Rattle.sender_status.proofs.files.find_file.Goals as goal

pub returns : goal.returns
returns c =
    let files = c.args.transfer.files in
    position_from_yields_List (has_file_id c.args.id.now) _ _ _ c.position.ensures.ran (YieldsList-from_slice files cc)
    (λ x b q k. search (rules, tests))
    ∙ sym (first_position (has_file_id c.args.id.now) files)
