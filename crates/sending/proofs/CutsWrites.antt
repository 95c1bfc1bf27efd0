-- What a call that writes gives, and the session after it, do not depend on what its buffer held before, nor on how long it is, where it
-- has 8,196 bytes.
use Prim.Native.Nat.{ℕ, ◌≤◌}
use mathlib.Core.Path.{◌≡◌, refl}
use mathlib.Core.Bool.{Bool, true, false, cond}
use mathlib.Core.List.{List, [], ◌∷◌}
use native.Mathlib.Omega.{arith}
use lib.ListN.{length, length-replicate}
use lib.Dec.{ltb}
use borrow.Author.Tests.{le-ltb, ltb-false}
use Rattle.octets.specs.Outcome.{Outcome, outcome}
use Rattle.frames.specs.Stream as Stream
use Rattle.command.specs.Values.{Value}
use Rattle.command.specs.Write.{Answer}
use Rattle.command.specs.Framed.{frame_room, framed_of}
use Rattle.protocol.specs.Table.{id_room}
use Rattle.protocol.proofs.Frames.{written_same, written-same-bytes}
use Rattle.sending.specs.Transfers.{id_of, begun}
use Rattle.sending.specs.Commands.{file_values}
use Rattle.sending.specs.Calls.{unwritten, wrote_by, writes, guarded, long_refusal, file_writes}
use Rattle.sending.specs.Cuts.{Move, is_report_move, answering, answer_of}
use Rattle.sending.specs.declared.Transfer.{Transfer}
use Rattle.sending.specs.declared.Sender.{Sender}
use Rattle.sending.specs.declared.Wrote.{Wrote}
use Rattle.sending.proofs.CutsRun.{bare, room, move_by, move, Moves, none, one}

-- ---- a call, with two senders of the same session and two buffers
pub record Alike (m : Move) (o o' : Outcome Wrote) : Type 0 where
  pub given : answering m o.answer o.buffer ≡ answering m o'.answer o'.buffer
  pub transfer : o.answer.sender.transfer ≡ o'.answer.sender.transfer

module _ (m : Move) (s : Sender) (out : List ℕ) (enough : frame_room ≤ length out) where
  abbrev t : Transfer
  t = s.transfer

  room-enough : frame_room ≤ length room
  unfolding room
  room-enough = rw (length-replicate {A = ℕ} frame_room 0) (omega arith)

  pub writes-alike : (t' : Transfer) (c : List Value) → Alike m (writes s t' c out) (writes (bare t) t' c room)
  unfolding writes
  writes-alike t' c =
      let e = written_same c out room enough room-enough in
      rw e (go (framed_of c room).answer e refl)
    where
      go : (x : Answer) → (framed_of c out).answer ≡ x → (framed_of c room).answer ≡ x
          → Alike m (outcome (wrote_by s t' x) (framed_of c out).buffer) (outcome (wrote_by (bare t) t' x) (framed_of c room).buffer)
      go (Answer.refused n) e f = record { given = refl; transfer = refl }
      go (Answer.written n) e f = record { given = rw (written-same-bytes c out room n e f); transfer = refl }

  pub file-alike : (id name : List ℕ) (size : ℕ) → Alike m (file_writes s id name size out) (file_writes (bare t) id name size room)
  unfolding file_writes
  file-alike id name size = go (ltb id_room (length id))
    where
      vs : List Value
      vs = file_values (id_of t) id name size

      go : (b : Bool) → Alike m (cond b (outcome (unwritten s (long_refusal id)) out) (writes s (begun t id) vs out))
          (cond b (outcome (unwritten (bare t) (long_refusal id)) room) (writes (bare t) (begun t id) vs room))
      go true = record { given = refl; transfer = refl }
      go false = writes-alike (begun t id) vs

  guarded-alike : (over ready : Bool) (o o' : Outcome Wrote) → Alike m o o'
      → Alike m (guarded s over ready out o) (guarded (bare t) over ready room o')
  unfolding guarded
  guarded-alike over ready o o' a = rw (le-ltb _ _ enough, le-ltb _ _ room-enough) (go over ready)
    where
      go : (v r : Bool) → Alike m (cond v (outcome (unwritten s 17) out) (cond r o (outcome (unwritten s 18) out)))
          (cond v (outcome (unwritten (bare t) 17) room) (cond r o' (outcome (unwritten (bare t) 18) room)))
      go true r = record { given = refl; transfer = refl }
      go false true = a
      go false false = record { given = refl; transfer = refl }

-- ---- a call is its move
pub call-moves : (m : Move) → is_report_move m ≡ false → (s : Sender) (out : List ℕ) (over ready : Bool) (o o' : Outcome Wrote)
    → (frame_room ≤ length out → Alike m o o')
    → ((ds : List Stream.Told) → move s.transfer m ds ≡ move_by m (guarded (bare s.transfer) over ready room o') ds)
    → let a = guarded s over ready out o in Moves s.transfer a.answer.sender.transfer (answer_of m out a) []
unfolding guarded
call-moves m c s out over ready o o' alike e = go (ltb (length out) frame_room) refl
  where
    a : Outcome Wrote
    a = guarded s over ready out o

    go : (b : Bool) → ltb (length out) frame_room ≡ b
        → Moves s.transfer a.answer.sender.transfer (cond b [] (answering m a.answer a.buffer ∷ [])) []
    go true q = rw q (none refl)
    go false q =
        let long : frame_room ≤ length out = ltb-false _ _ q in
        let k = guarded-alike m s out long over ready o o' (alike long) in
        rw (k.given, k.transfer) (one (move_by m (guarded (bare s.transfer) over ready room o') []).output [] (rw c) e)
