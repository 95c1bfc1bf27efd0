-- What a call that writes does: nothing, or one command is written and the session goes on.
use Rattle.std.specs.Prelude.{Ok}
use Prim.Native.Nat.{ℕ, ◌≤◌}
use mathlib.Core.Path.{◌≡◌, refl}
use mathlib.Core.Bool.{Bool, true, false, cond}
use mathlib.Core.List.{List}
use lib.ListN.{length}
use lib.Dec.{ltb}
use borrow.Author.Tests.{ltb-false}
use Rattle.octets.specs.Outcome.{outcome}
use Rattle.command.specs.Values.{Value}
use Rattle.command.specs.Write.{Answer}
use Rattle.command.specs.Framed.{frame_room, framed_of}
use Rattle.protocol.specs.Table.{id_room}
use Rattle.sending.specs.Transfers.{id_of, begun}
use Rattle.sending.specs.Commands.{file_values}
use Rattle.sending.specs.Calls.{with_transfer, unwritten, wrote_by, writes, guarded, is_taken, is_idle, long_refusal, file_writes, file_of}
use Rattle.sending.specs.declared.Transfer.{Transfer}
use Rattle.sending.specs.declared.Sender.{Sender}
use Rattle.sending.specs.declared.Wrote.{Wrote}

pub data Way (s : Sender) (t : Transfer) (vs : List Value) (over ready : Bool) (out : List ℕ) : Wrote → Type 0 where
  refused : (n : ℕ) → Way s t vs over ready out (unwritten s n)
  written : (n : ℕ) → over ≡ false → ready ≡ true → (framed_of vs out).answer ≡ Answer.written n
      → Way s t vs over ready out (record { sender = with_transfer s t; writing = Ok n })

module _ (s : Sender) (t : Transfer) (vs : List Value) (out : List ℕ) where
  writes-way : (over ready : Bool) → over ≡ false → ready ≡ true → Way s t vs over ready out (writes s t vs out).answer
  unfolding writes
  writes-way over ready o r = go (framed_of vs out).answer refl
    where
      go : (a : Answer) → (framed_of vs out).answer ≡ a → Way s t vs over ready out (wrote_by s t a)
      go (Answer.written n) e = Way.written n o r e
      go (Answer.refused n) e = Way.refused n

  pub call-way : (over ready : Bool) → Way s t vs over ready out (guarded s over ready out (writes s t vs out)).answer
  unfolding guarded
  call-way over ready = go (ltb (length out) frame_room) over refl ready refl
    where
      go : (short v : Bool) → over ≡ v → (r : Bool) → ready ≡ r
          → Way s t vs over ready out (cond short (outcome (unwritten s 9) out)
          (cond v (outcome (unwritten s 17) out) (cond r (writes s t vs out) (outcome (unwritten s 18) out)))).answer
      go true v o r q = Way.refused 9
      go false true o r q = Way.refused 17
      go false false o false q = Way.refused 18
      go false false o true q = writes-way over ready o q

-- a file, whose id has at most 32 bytes if it is written
pub data FileWay (s : Sender) (id name : List ℕ) (size : ℕ) (out : List ℕ) : Wrote → Type 0 where
  refused : (n : ℕ) → FileWay s id name size out (unwritten s n)
  written : (n : ℕ) → length id ≤ id_room → is_taken s.transfer id ≡ false → is_idle s.transfer ≡ true
      → FileWay s id name size out (record { sender = with_transfer s (begun s.transfer id); writing = Ok n })

pub file-way : (s : Sender) (id name : List ℕ) (size : ℕ) (out : List ℕ) → FileWay s id name size out (file_of s id name size out).answer
unfolding file_of file_writes guarded
file-way s id name size out =
    go (ltb (length out) frame_room) (is_taken t id) refl (is_idle t) refl (ltb id_room (length id)) refl
  where
    t : Transfer
    t = s.transfer

    vs : List Value
    vs = file_values (id_of t) id name size

    by_way : {w : Wrote} → length id ≤ id_room → Way s (begun t id) vs (is_taken t id) (is_idle t) out w → FileWay s id name size out w
    by_way l (Way.refused n) = FileWay.refused n
    by_way l (Way.written n o r e) = FileWay.written n l o r

    go : (short v : Bool) → is_taken t id ≡ v → (r : Bool) → is_idle t ≡ r → (long : Bool) → ltb id_room (length id) ≡ long
        → FileWay s id name size out (cond short (outcome (unwritten s 9) out)
        (cond v (outcome (unwritten s 17) out)
        (cond r (cond long (outcome (unwritten s (long_refusal id)) out) (writes s (begun t id) vs out)) (outcome (unwritten s 18) out)))
        ).answer
    go true v o r q long l = FileWay.refused 9
    go false true o r q long l = FileWay.refused 17
    go false false o false q long l = FileWay.refused 18
    go false false o true q true l = FileWay.refused (long_refusal id)
    go false false o true q false l = by_way (ltb-false _ _ l) (writes-way s (begun t id) vs out (is_taken t id) (is_idle t) o q)
