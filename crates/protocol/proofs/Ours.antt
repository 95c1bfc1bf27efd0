-- The claims' words of the receiver's own calls.
use Prim.Native.Nat.{ℕ}
use mathlib.Core.List.{List}
use Rattle.protocol.specs.Machine as Machine
use Rattle.protocol.specs.Machine.{ours, Call, World}
use Rattle.protocol.specs.Stretches.{Key}
use Rattle.protocol.specs.Claim as Claim
use Rattle.protocol.specs.Cuts as Cuts
use Rattle.protocol.specs.Cuts.{Output}

abbrev pub step : World → Call → World
step = Machine.step ours

abbrev pub Lent : World → Call → Type 0
Lent = Machine.Lent ours

abbrev pub ClosedWhole : World → List ℕ → Key → ℕ → ℕ → Type 0
ClosedWhole = Claim.ClosedWhole ours

abbrev pub TurnedDone : World → Call → Key → ℕ → ℕ → Type 0
TurnedDone = Claim.TurnedDone ours

abbrev pub Right : World → Call → Type 0
Right = Claim.Right ours

abbrev pub Everywhere : World → List Call → Type 0
Everywhere = Claim.Everywhere ours

abbrev pub given : World → Call → List Output
given = Cuts.given ours

abbrev pub all_given : World → List Call → List Output
all_given = Cuts.all_given ours

abbrev pub after : World → List Call → World
after = Cuts.after ours

abbrev pub AllLent : World → List Call → Type 0
AllLent = Cuts.AllLent ours
