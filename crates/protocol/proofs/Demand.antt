-- Demand 3, whole: the history theorem with the law of the closing reply.
use Rattle.protocol.specs.Machine.{ours}
use Rattle.protocol.specs.Claim.{EveryHistory}
use Rattle.protocol.specs.declared.Status.TheVariants as Status
use Rattle.protocol.proofs.StatusText.{status-means, status-length}
use Rattle.protocol.proofs.Every.{every}

pub every-history : EveryHistory ours
every-history =
    every (λ id file size a b c d e f g. (status-means id file size Status.Ok a b c d f g, status-length id file size Status.Ok c f g))
