use Rattle.command.specs.Values.{safe_read, value_read}
use Rattle.command_reader.proofs.values.safe.Goals as goal

pub returns-then-not-all : goal.returns-then-not-all
unfolding value_read safe_read
returns-then-not-all c = λ scratch used n slots. rw (← c.all.ensures, c.if-not-all.true)

pub returns-then-over : goal.returns-then-over
unfolding value_read safe_read
returns-then-over c =
    λ scratch used n slots. rw (← c.all.ensures, c.if-not-all.false, ← c.over.ensures, c.if-over.true)

pub returns : goal.returns
unfolding value_read safe_read
returns c =
    λ scratch used n slots. rw (c.plain.ensures, c.placed.ensures, ← c.all.ensures, c.if-not-all.false, ← c.over.ensures, c.if-over.false)
