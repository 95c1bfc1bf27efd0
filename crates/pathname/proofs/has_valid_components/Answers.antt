use Rattle.std.proofs.Common.{rules, ◌≡◌, ◌∙◌}
use Rattle.std.specs.Prelude.{◌==◌}
use Rattle.std.specs.List.{slice_split, list_all}
use Rattle.std.proofs.lemmas.Iterator.Search.{all_from_yields_List}
use Rattle.std.proofs.lemmas.Iterator.Splits.{YieldsList-from_slice_split}
use Rattle.octets.proofs.Splits.{divides}
use Rattle.pathname.specs.Name.{valid_component}
use Rattle.pathname.proofs.Alone.{cuts-nowhere}
use Rattle.pathname.proofs.Components.{components}
use Rattle.pathname.proofs.has_valid_components.Goals as goal

pub returns-clause-value : goal.returns-clause-value
returns-clause-value c =
    let n = c.args.name.now in
    let r : c.all.result ≡ list_all valid_component (slice_split (λ b. b == 47) n) =
    all_from_yields_List valid_component c.all.new.self _ c.all.result c.all.ensures.ran
    (YieldsList-from_slice_split _ (λ b. b == 47) n c.split.ensures.rest c.split.ensures.done c.split.ensures.closure
    (λ x b q k. search rules))
    (λ x b q k. search rules)
    in
    r ∙ components n

pub returns-clause-divides : goal.returns-clause-divides
returns-clause-divides c = divides

pub returns-clause-cuts_characters_nowhere : goal.returns-clause-cuts_characters_nowhere
returns-clause-cuts_characters_nowhere c = cuts-nowhere
