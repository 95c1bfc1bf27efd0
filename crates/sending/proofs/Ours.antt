-- The claims' words of the sender's own calls.
use mathlib.Core.List.{List}
use Rattle.sending.specs.Machine.{ours}
use Rattle.sending.specs.Story as Story
use Rattle.sending.specs.Story.{Call, World}
use Rattle.sending.specs.Every as Every
use Rattle.sending.specs.Cuts as Cuts
use Rattle.sending.specs.Cuts.{Output}

abbrev pub step : World → Call → World
step = Story.step ours

abbrev pub Lent : World → Call → Type 0
Lent = Story.Lent ours

abbrev pub Right : World → Call → Type 0
Right = Every.Right ours

abbrev pub AllLent : World → List Call → Type 0
AllLent = Every.AllLent ours

abbrev pub AllRight : World → List Call → Type 0
AllRight = Every.AllRight ours

abbrev pub given : World → Call → List Output
given = Cuts.given ours

abbrev pub all_given : World → List Call → List Output
all_given = Cuts.all_given ours

abbrev pub after : World → List Call → World
after = Cuts.after ours
