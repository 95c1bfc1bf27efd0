use mathlib.Core.Bool.{◌&&◌}
use mathlib.Core.Path.{◌≡◌}
use lib.ListN.{drop}
use Rattle.octets.specs.Members.{every}
use Rattle.command.specs.Classes.{byte_of}
use Rattle.command.proofs.letters.all.Given as goal

abbrev pub invariant-loop-c : goal.invariant-loop-c
invariant-loop-c l = every (byte_of l.class) l.s ≡ (l.all && every (byte_of l.class) (drop l.c-index l.s))
