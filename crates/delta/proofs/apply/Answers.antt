use Rattle.delta.specs.Laws.{DeltaLaws}
use Rattle.delta.specs.WrongPatchers.{DeltaTeeth}
use Rattle.delta.specs.Examples.{DeltaExamples}
use Rattle.delta.proofs.Every.{delta-laws}
use Rattle.delta.proofs.Examples.{examples_hold, teeth}
use Rattle.delta.proofs.apply.Goals as goal

-- what the contract says of every call
claims : DeltaLaws × DeltaTeeth × DeltaExamples
claims = (delta-laws, teeth, examples_hold)

pub returns-clause-delta_laws : goal.returns-clause-delta_laws
returns-clause-delta_laws c = claims

pub returns-in_err-size-clause-delta_laws : goal.returns-in_err-size-clause-delta_laws
returns-in_err-size-clause-delta_laws c = claims
