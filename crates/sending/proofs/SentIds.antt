-- A send that is written has a safe id of at most 32 bytes.
use Prim.Native.Nat.{ℕ, ◌≤◌}
use mathlib.Core.Path.{◌≡◌, refl}
use mathlib.Core.Bool.{Bool, true, false, cond}
use mathlib.Core.List.{List}
use native.Mathlib.Omega.{arith}
use lib.ListN.{length}
use lib.Dec.{ltb}
use borrow.Author.Tests.{ltb-false}
use Rattle.octets.specs.Members.{every}
use Rattle.octets.specs.Outcome.{outcome}
use Rattle.octets.specs.Split.{split, onto}
use Rattle.command.specs.Letters.{safe_byte}
use Rattle.command.specs.Keys.{Kind, keys}
use Rattle.command.specs.Values.{Value, unshown, text_or, word_shown, safe_shown, shown}
use Rattle.command.specs.Write.{Checked, before, checked_of, Answer, write_of}
use Rattle.command.specs.Framed.{frame_room, framed_by, framed_of}
use Rattle.command.specs.declared.Refusal.TheVariants as Refusal
use Rattle.command.proofs.Accepted.{writes-accepted}
use Rattle.protocol.specs.Table.{id_room}
use Rattle.sending.specs.Commands.{send_values}

-- what the writer checks first of a send is its id
pub record SafeId (id : List ℕ) : Type 0 where
  pub safe : every safe_byte id ≡ true
  pub short : length id ≤ id_room

checked-id : (id : List ℕ) (rest : Checked) → before (shown (Kind.safe true) (Value.bytes id)) rest ≡ Checked.fine → SafeId id
unfolding shown safe_shown
checked-id id rest e = go (every safe_byte id) refl (ltb id_room (length id)) refl e
  where
    go : (s : Bool) → every safe_byte id ≡ s → (l : Bool) → ltb id_room (length id) ≡ l
        → before (cond s (cond l (unshown Refusal.TooLong) (text_or id)) (unshown Refusal.UnsafeCharacter)) rest ≡ Checked.fine → SafeId id
    go true p false q e = record { safe = p; short = ltb-false _ _ q }
    go true p true q e = let z : ◌≡◌ {A = ℕ} 0 1 = cc in absurd (omega arith)
    go false p l q e = let z : ◌≡◌ {A = ℕ} 0 1 = cc in absurd (omega arith)

checked-send : (id : List ℕ) → checked_of keys (send_values id) ≡ Checked.fine → SafeId id
unfolding checked_of word_shown split onto shown
checked-send id e = go _ e
  where
    go : (rest : Checked) → before (shown (Kind.safe true) (Value.bytes id)) rest ≡ Checked.fine → SafeId id
    go rest q = checked-id id rest q

pub sent-id : (id out : List ℕ) (n : ℕ) → (framed_of (send_values id) out).answer ≡ Answer.written n → SafeId id
unfolding framed_of
sent-id id out n e = go (ltb (length out) frame_room) (write_of (send_values id) out).answer refl e
  where
    go : (b : Bool) (a : Answer) → (write_of (send_values id) out).answer ≡ a
        → (cond b (outcome (Answer.refused 9) out) (framed_by a (send_values id) out)).answer ≡ Answer.written n → SafeId id
    go true a w q = let z : ◌≡◌ {A = ℕ} 0 1 = cc in absurd (omega arith)
    go false (Answer.refused r) w q = let z : ◌≡◌ {A = ℕ} 0 1 = cc in absurd (omega arith)
    go false (Answer.written k) w q = checked-send id (writes-accepted (send_values id) out k w).kinds
