-- What reading a text answers does not depend on what the scratch held before; nor do the bytes of the command's places there.
use Prim.Native.Nat.{ℕ, ◌+◌, ◌≤◌}
use mathlib.Core.Path.{◌≡◌, refl, sym, ap, ◌∙◌}
use mathlib.Core.Bool.{Bool, true, false, cond}
use mathlib.Core.List.{List}
use lib.ListN.{length, get_or, set}
use borrow.Author.Tests.{le-ltb}
use Rattle.std.specs.Prelude.{Option, Some, is_some}
use Rattle.octets.specs.Outcome.{Outcome, outcome}
use Rattle.command.specs.Keys.{keys, Kind, kind_at}
use Rattle.command.specs.Values.{Value, Got, value_read}
use Rattle.command.specs.Fields.{Turn, text_read}
use Rattle.command.specs.Meaning.{Meaning, meaning_of, bytes_in}
use Rattle.command.specs.Slots.{free, slots_of, values_of}
use Rattle.command.specs.Read.{scratch_room, Reader, stored_for, slot_for, kept_by, kept, begun, Answer, finished, read_of, meaning_in}
use Rattle.command.specs.declared.Slot.{Slot}
use Rattle.command.specs.declared.Command.{Command}
use Rattle.command.proofs.ReadValues.{of_text}
use Rattle.command.proofs.SimulationFields.{Agree, on, off, text-agree}
use Rattle.command.proofs.Simulation.{read-means}
use Rattle.protocol.specs.Sessions.{string_in}
use Rattle.protocol.proofs.TextLaws.{meaning-refusal}
use Rattle.protocol.proofs.Means.{string-means}

-- ---- the answer
-- two readers with different scratches
record Same (s s' : Reader) : Type 0 where
  slots : s.slots ≡ s'.slots
  used : s.used ≡ s'.used

same_by : (k : Kind) (n at : ℕ) {s s' : Reader} (g : Got) → Same s s' → Agree Same (kept_by k n at s g) (kept_by k n at s' g)
same_by k n at {s} {s'} (Got.got v) r =
    let e : set s.slots n (Some (slot_for k at s.used v)) ≡ set s'.slots n (Some (slot_for k at s'.used v)) = rw (r.slots, r.used) in
    let u : s.used + length (stored_for k v) ≡ s'.used + length (stored_for k v) = rw r.used in
    on (record { slots = e; used = u })
same_by k n at (Got.refused x) r = off r

same_kept : (n at : ℕ) (v : List ℕ) {s s' : Reader} → Same s s' → Agree Same (kept n at v s) (kept n at v s')
unfolding kept
same_kept n at v {s} {s'} r = go (stood s.slots) (stood s'.slots) (ap stood r.slots)
  where
    stood : List (Option Slot) → Bool
    stood l = is_some (get_or l n free)

    turn : Bool → Reader → Turn Reader
    turn b s = cond b (Turn.off 5 s) (kept_by (kind_at keys n) n at s (value_read (kind_at keys n) v))

    go : (b b' : Bool) → b ≡ b' → Agree Same (turn b s) (turn b' s')
    go true b' e = rw (← e) (off r)
    go false b' e = rw (← e) (same_by (kind_at keys n) n at (value_read (kind_at keys n) v) r)

same_read : (t scratch scratch' : List ℕ) → Agree Same (text_read kept t (begun scratch)) (text_read kept t (begun scratch'))
same_read t scratch scratch' =
    text-agree t {R = λ (at : ℕ). Same} (record { later = λ h r. r; steps = λ n from at v h l i a r. same_kept n at v r })
    (record { slots = refl; used = refl })

finished-same : {x y : Turn Reader} → Agree Same x y → (finished x).answer ≡ (finished y).answer
finished-same (on r) = rw r.slots
finished-same (off r) = refl

read_same : (t scratch scratch' : List ℕ) → scratch_room ≤ length scratch → scratch_room ≤ length scratch'
    → (read_of t scratch).answer ≡ (read_of t scratch').answer
unfolding read_of
read_same t scratch scratch' h h' = rw (le-ltb _ _ h, le-ltb _ _ h') (finished-same (same_read t scratch scratch'))

-- ---- the command
-- of one command and two scratches: its values are the same, and so are its name, its status and its payload
pub record SameCommand (t : List ℕ) (c : Command) (after after' : List ℕ) : Type 0 where
  pub values : values_of c t after ≡ values_of c t after'
  pub name : string_in after c.name ≡ string_in after' c.name
  pub status : string_in after c.status ≡ string_in after' c.status
  pub payload : string_in after c.payload ≡ string_in after' c.payload

same-command : (t after after' : List ℕ) (c : Command) → values_of c t after ≡ values_of c t after' → SameCommand t c after after'
unfolding values_of slots_of
same-command t after after' c e =
    let value : ℕ → List Value → List ℕ = λ n v. bytes_in (get_or v n Value.outside) in
    record {
      values = e;
      name = string-means after c.name ∙ ap (value 11) e ∙ sym (string-means after' c.name);
      status = string-means after c.status ∙ ap (value 12) e ∙ sym (string-means after' c.status);
      payload = string-means after c.payload ∙ ap (value 14) e ∙ sym (string-means after' c.payload);
    }

-- two readings of one text: the same refusal, which is one of a text, or the same command
pub data SameReading (t : List ℕ) : Outcome Answer → Outcome Answer → Type 0 where
  refused : (n : ℕ) (after after' : List ℕ) → of_text n ≡ true
      → SameReading t (outcome (Answer.refused n) after) (outcome (Answer.refused n) after')
  read : (c : Command) (after after' : List ℕ) → SameCommand t c after after'
      → SameReading t (outcome (Answer.read c) after) (outcome (Answer.read c) after')

pub same-reading : (t scratch scratch' : List ℕ) → scratch_room ≤ length scratch → scratch_room ≤ length scratch'
    → SameReading t (read_of t scratch) (read_of t scratch')
same-reading t scratch scratch' h h' =
    go (read_of t scratch).answer (read_of t scratch').answer (read_same t scratch scratch' h h')
    (read-means t scratch h) (read-means t scratch' h')
  where
    after : List ℕ
    after = (read_of t scratch).buffer

    after' : List ℕ
    after' = (read_of t scratch').buffer

    go : (a a' : Answer) → a ≡ a' → meaning_in t (outcome a after) ≡ meaning_of t → meaning_in t (outcome a' after') ≡ meaning_of t
        → SameReading t (outcome a after) (outcome a' after')
    go (Answer.refused n) a' e m m' = rw (← e) (refused n after after' (meaning-refusal t n (sym m)))
    go (Answer.read c) a' e m m' =
        let v : Meaning.command (values_of c t after) ≡ Meaning.command (values_of c t after') = m ∙ sym (rw (← e) at m') in
        rw (← e) (read c after after' (same-command t after after' c (cc)))
