-- What holds of every command that was read, so that its users need not test it again.
use Prim.Native.Nat.{ℕ, ◌+◌, ◌≤◌}
use mathlib.Core.Path.{◌≡◌}
use mathlib.Core.Bool.{◌||◌}
use mathlib.Core.List.{List}
use native.Mathlib.Omega.{arith}
use lib.ListN.{length}
use lib.Dec.{ltb, eqb, lit<}
use borrow.Author.Tests.{ltb-false}
use Rattle.octets.specs.Outcome.{Outcome}
use Rattle.octets.specs.Split.{onto, split}
use Rattle.command.specs.Fields.{Turn}
use Rattle.command.specs.Meaning.{Field}
use Rattle.command.specs.Slots.{action_code, command_of}
use Rattle.command.specs.Read as Read
use Rattle.command.specs.Read.{Reader, scratch_room, Answer, read_of}
use Rattle.command.specs.declared.Command.{Command}
use Rattle.command.proofs.Cases.{by_test}
use Rattle.command.proofs.SimulationFields.{Agree, on, off}
use Rattle.command.proofs.SimulationSlots.{each_at, word_slot, bytes_slot}
use Rattle.command.proofs.Simulation.{Alike, read-agree}

-- the payload stands in the scratch, which has room for it, and quiet is "0, 1, 2"
pub record Held (scratch : List ℕ) (c : Command) : Type 0 where
  pub payload-in : c.payload.start + c.payload.len ≤ scratch_room
  pub quiet_le : c.quiet ≤ 2
  pub room : scratch_room ≤ length scratch

-- a refusal is no command
not-read : {A : Type 0} {n : ℕ} {c : Command} → Answer.refused n ≡ Answer.read c → A
not-read e = let z : ◌≡◌ {A = ℕ} 0 1 = cc in absurd (omega arith)

finished-held : {t scratch : List ℕ} {at : ℕ} {x : Turn Reader} {y : Turn (List Field)} (c : Command) → scratch_room ≤ length scratch
    → Agree (Alike t scratch at) x y → (Read.finished x).answer ≡ Answer.read c → Held scratch c
unfolding command_of split onto
finished-held {t} {scratch} c enough (on {s} r) =
    let command = command_of s.slots in
    by_test (λ (a : Answer). a ≡ Answer.read c → Held scratch c) (eqb (action_code command.action) 0 || eqb command.id.len 0)
    (λ e. not-read)
    (λ e (w : Answer.read command ≡ Answer.read c).
    (let z : command ≡ c = cc in
    rw (← z) (record {
      payload-in = omega (arith, r.fits, bytes_slot (each_at 14 (lit< tt) r.each));
      quiet_le = omega (arith, (word_slot (lit< tt) (each_at 7 (lit< tt) r.each)).1);
      room = enough;
    })))
finished-held c enough (off r) = not-read

-- every command that was read is so
pub read_held : (t scratch : List ℕ) (c : Command) → (read_of t scratch).answer ≡ Answer.read c → Held scratch c
unfolding read_of
read_held t scratch c =
    by_test (λ (o : Outcome Answer). o.answer ≡ Answer.read c → Held scratch c) (ltb (length scratch) scratch_room)
    (λ e. not-read) (λ e. finished-held c (ltb-false _ _ e) (read-agree t scratch (ltb-false _ _ e)))
