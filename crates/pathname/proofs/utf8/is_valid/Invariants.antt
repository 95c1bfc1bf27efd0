use Rattle.std.specs.Prelude.{◌≡◌, drop}
use Rattle.pathname.specs.Utf8.{sequences, utf8}
use Rattle.pathname.specs.DueBytes.{due_of}
use Rattle.pathname.proofs.utf8.is_valid.Given as goal

abbrev pub invariant-loop-b : goal.invariant-loop-b
invariant-loop-b l = sequences (due_of l.due) (drop l.b-index l.s) ≡ utf8 l.s
