-- What the definitions of the calls that write open to, as equations: the refusals before the writer's, and a command in its frame.
use Prim.Native.Nat.{ℕ}
use Rattle.std.specs.Prelude.{Some, None}
use mathlib.Core.Path.{◌≡◌, refl}
use mathlib.Core.Bool.{Bool, cond}
use mathlib.Core.List.{List}
use lib.ListN.{length}
use lib.Dec.{ltb}
use Rattle.octets.specs.Outcome.{Outcome, outcome}
use Rattle.command.specs.Values.{Value}
use Rattle.command.specs.Framed.{frame_room, framed_of}
use Rattle.sending.specs.Calls.{unwritten, wrote_by, writes, guarded}
use Rattle.sending.specs.declared.Transfer.{Transfer}
use Rattle.sending.specs.declared.Sender.{Sender}
use Rattle.sending.specs.declared.Wrote.{Wrote}
use Rattle.sender.specs.Gates.{gate_of}

pub gate-is : (room : ℕ) (over ready : Bool) → gate_of room over ready
    ≡ cond (ltb room frame_room) (Some 9) (cond over (Some 17) (cond ready None (Some 18)))
unfolding gate_of
gate-is room over ready = refl

pub guarded-is : (s : Sender) (over ready : Bool) (out : List ℕ) (o : Outcome Wrote) → guarded s over ready out o
    ≡ cond (ltb (length out) frame_room) (outcome (unwritten s 9) out)
    (cond over (outcome (unwritten s 17) out) (cond ready o (outcome (unwritten s 18) out)))
unfolding guarded
guarded-is s over ready out o = refl

pub writes-is : (s : Sender) (t : Transfer) (vs : List Value) (out : List ℕ)
    → writes s t vs out ≡ outcome (wrote_by s t (framed_of vs out).answer) (framed_of vs out).buffer
unfolding writes
writes-is s t vs out = refl

pub ruleset calls = (gate-is, guarded-is, writes-is)
