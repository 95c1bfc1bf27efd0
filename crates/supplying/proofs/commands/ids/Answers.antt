use Rattle.supplying.proofs.PlaceLaws.{both-copied}
use Rattle.supplying.proofs.commands.ids.Goals as goal

pub returns-clause-ids : goal.returns-clause-ids
returns-clause-ids c =
    both-copied 64 32 _ _ _ _ c.copy_at.ensures c.copy_at-2.ensures
