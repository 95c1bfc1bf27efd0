-- A closed command by what the reader answers of its text.
use Prim.Native.Nat.{ℕ, ◌≤◌}
use mathlib.Core.Path.{◌≡◌}
use mathlib.Core.List.{List}
use lib.ListN.{length}
use Rattle.octets.specs.Outcome.{Outcome}
use Rattle.command.specs.Meaning.{meaning_of}
use Rattle.command.specs.Read.{Answer, scratch_room, read_of, meaning_in}
use Rattle.command.proofs.Simulation.{read-means}
use Rattle.recordings.specs.Walk.{meant}

pub read-judged : {o : Outcome Answer} (t scratch : List ℕ) (start end : ℕ) → scratch_room ≤ length scratch → o ≡ read_of t scratch
    → meant (meaning_of t) start end ≡ meant (meaning_in t o) start end
read-judged t scratch start end room e = rw (← read-means t scratch room, ← e)
