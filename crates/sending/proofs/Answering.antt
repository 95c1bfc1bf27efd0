-- A call that writes answers what is to be answered.
use Rattle.std.specs.Prelude.{Ok, Err}
use Prim.Native.Nat.{ℕ, ◌≤◌}
use mathlib.Core.Path.{◌≡◌, refl, sym, ap}
use mathlib.Core.Bool.{Bool, true, false, cond}
use mathlib.Core.List.{List}
use native.Mathlib.Omega.{arith}
use lib.ListN.{length, take}
use lib.Dec.{ltb}
use borrow.Author.Tests.{ltb-true, ltb-false}
use Rattle.octets.specs.Members.{every}
use Rattle.octets.specs.Outcome.{Outcome, outcome}
use Rattle.command.specs.Letters.{safe_byte}
use Rattle.command.specs.Values.{Value}
use Rattle.command.specs.Canonical.{canonical}
use Rattle.command.specs.Write.{Answer}
use Rattle.command.specs.Framed.{frame_room, framed_of}
use Rattle.command.proofs.Framed.{written-framed}
use Rattle.protocol.specs.Table.{id_room}
use Rattle.sending.specs.Transfers.{id_of, begun}
use Rattle.sending.specs.Commands.{file_values}
use Rattle.sending.specs.Calls.{unwritten, wrote_by, writes, guarded, long_refusal, file_writes}
use Rattle.sending.specs.Every.{answer_by, Frame, Answers}
use Rattle.sending.specs.declared.Transfer.{Transfer}
use Rattle.sending.specs.declared.Sender.{Sender}
use Rattle.sending.specs.declared.Wrote.{Wrote}
use Rattle.sending.proofs.LongIds.{long-id_as-written}

not_written : {A : Type 0} {r n : ℕ} → Err r ≡ Ok n → A
not_written e = let z : ◌≡◌ {A = ℕ} 0 1 = cc in absurd (omega arith)

not-refused : {A : Type 0} {r n : ℕ} → Ok n ≡ Err r → A
not-refused e = let z : ◌≡◌ {A = ℕ} 0 1 = cc in absurd (omega arith)

-- ---- where nothing is in the way: what the writer says
abbrev pub Writes : Sender → List Value → (out : List ℕ) → Outcome Wrote → Type 0
Writes s c out o = (outcome (answer_by o.answer.writing) o.buffer ≡ framed_of c out)
    × ((n : ℕ) → o.answer.writing ≡ Err n → o.answer.sender ≡ s)
    × ((n : ℕ) → o.answer.writing ≡ Ok n → Frame c (take n o.buffer))

pub writes-right : (s : Sender) (t : Transfer) (c : List Value) (out : List ℕ) → Writes s c out (writes s t c out)
unfolding writes
writes-right s t c out = go (framed_of c out).answer refl
  where
    whole : (a : Answer) → (framed_of c out).answer ≡ a → outcome a (framed_of c out).buffer ≡ framed_of c out
    whole a e = ap (λ (x : Answer). outcome x (framed_of c out).buffer) (sym e)

    go : (a : Answer) → (framed_of c out).answer ≡ a → Writes s c out (outcome (wrote_by s t a) (framed_of c out).buffer)
    go (Answer.written n) e = (
      whole (Answer.written n) e,
      (λ k q. not-refused q),
      (λ k q.
          let z : n ≡ k = cc in
          let w = written-framed c out n e in
          record { text = canonical c; framing = rw (← z) w.stands; means = w.means }),
    )
    go (Answer.refused n) e = (whole (Answer.refused n) e, (λ k q. refl), (λ k q. not_written q))

-- a file, also one whose id is too long
pub file-right : (s : Sender) (id name : List ℕ) (size : ℕ) (out : List ℕ) → frame_room ≤ length out
    → every safe_byte (id_of s.transfer) ≡ true → length (id_of s.transfer) ≤ id_room
    → Writes s (file_values (id_of s.transfer) id name size) out (file_writes s id name size out)
unfolding file_writes
file-right s id name size out room safe short = go (ltb id_room (length id)) refl
  where
    t : Transfer
    t = s.transfer

    vs : List Value
    vs = file_values (id_of t) id name size

    go : (b : Bool) → ltb id_room (length id) ≡ b
        → Writes s vs out (cond b (outcome (unwritten s (long_refusal id)) out) (writes s (begun t id) vs out))
    go true q = (
      sym (long-id_as-written (id_of t) id name size out safe short (ltb-true _ _ q) room),
      (λ k e. refl),
      (λ k e. not_written e),
    )
    go false q = writes-right s (begun t id) vs out

-- ---- behind the refusals 9, 17 and 18
pub guarded-right : (s : Sender) (over ready : Bool) (c : List Value) (out : List ℕ) (o : Outcome Wrote)
    → (ready ≡ true → frame_room ≤ length out → Writes s c out o) → Answers s over ready c out (guarded s over ready out o)
unfolding guarded
guarded-right s over ready c out o right = go (ltb (length out) frame_room) refl over ready refl
  where
    go : (short : Bool) → ltb (length out) frame_room ≡ short → (v r : Bool) → ready ≡ r
        → Answers s v r c out (cond short (outcome (unwritten s 9) out)
        (cond v (outcome (unwritten s 17) out) (cond r o (outcome (unwritten s 18) out))))
    go true l v r q = record { answer = rw l; kept = λ n e. refl; reads = λ n e. not_written e }
    go false l true r q = record { answer = rw l; kept = λ n e. refl; reads = λ n e. not_written e }
    go false l false false q = record { answer = rw l; kept = λ n e. refl; reads = λ n e. not_written e }
    go false l false true q =
        let w = right q (ltb-false _ _ l) in
        record { answer = rw l w.0; kept = w.1; reads = w.2 }
