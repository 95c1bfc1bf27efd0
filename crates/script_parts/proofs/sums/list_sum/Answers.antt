use Rattle.std.proofs.Common.{rules}
use Rattle.script_parts.specs.Sums.{in_front}
use Rattle.std.proofs.lemmas.Iterator.Consumers.{fold_from_yields_List}
use Rattle.std.proofs.lemmas.Iterator.Adapters.{YieldsList-from_rev_slice}
use Rattle.script_parts.proofs.SumLaws.{total-folded}
use Rattle.script_parts.proofs.sums.list_sum.Goals as goal

pub returns : goal.returns
returns c =
    let road = YieldsList-from_rev_slice c.args.list.now (cc) in
    let folds = fold_from_yields_List _ in_front _ _ c.fold-sums.ensures.ran road (λ a x b q k. search rules) in
    rw (c.from.ensures, folds) (total-folded c.args.list.now)
