-- A value that was read and the slot that keeps it: what the slot's place and number give is the value, also after later stores.
use Prim.Native.Nat.{ℕ, ◌+◌, ◌≤◌}
use mathlib.Core.Path.{◌≡◌, refl, ◌∙◌}
use mathlib.Core.List.{List, []}
use native.Mathlib.Omega.{arith}
use lib.ListN.{length, take, drop}
use lib.Seq.{sets, take-append_seam}
use borrow.Author.Tests.{le-leb}
use Rattle.std.specs.Prelude.{Option, Some}
use Rattle.octets.proofs.Stores.{part-stored, part-kept}
use Rattle.base64_codec.specs.Decode.{bytes_of}
use Rattle.command.specs.Keys.{Kind, Key}
use Rattle.command.specs.Values.{Value, absent, Got}
use Rattle.command.specs.Meaning.{Field, value_in}
use Rattle.command.specs.Slots.{free, held, bytes_at, value_at}
use Rattle.command.specs.Read.{stored_for, slot_for}
use Rattle.command.specs.declared.Slot.{Slot}
use Rattle.command.proofs.ReadValues.{Reads, as-word, as-string, as-integer, as_bytes}
use Rattle.command.proofs.SimulationFields.{At}

-- ---- parts of a buffer
bytes-at : (l : List ℕ) (at : ℕ) (v : List ℕ) → at + length v ≤ length l → take (length v) (drop at l) ≡ v
    → bytes_at l (record { start = at; len = length v }) ≡ Value.bytes v
unfolding bytes_at
bytes-at l at v h e = rw (le-leb _ _ h, e)

-- ---- a key's slot and its field
-- both without a value; or the field has the value of a text that stands at a place, and the slot that place, or the place of the
-- value's bytes among those of the scratch that are used
pub data Holds (t scratch : List ℕ) (used : ℕ) (k : Key) : Option Slot → Field → Type 0 where
  empty : Holds t scratch used k free Field.unseen
  full : (at from : ℕ) (v : List ℕ) {x : Value} → At t at v → Reads k.kind v (Got.got x) → from + length (stored_for k.kind x) ≤ used
      → take (length (stored_for k.kind x)) (drop from scratch) ≡ stored_for k.kind x
      → Holds t scratch used k (Some (slot_for k.kind at from x)) (Field.seen x)

-- a store after the used bytes takes nothing away
pub holds_later : {t scratch : List ℕ} {used : ℕ} {k : Key} {s : Option Slot} {f : Field} (b : List ℕ) → Holds t scratch used k s f
    → Holds t (sets scratch used b) (used + length b) k s f
holds_later b empty = empty
holds_later {t} {scratch} {used} {k} b (full at from v {x} a r w e) =
    full at from v a r (omega arith) (part-kept b scratch used from (length (stored_for k.kind x)) w ∙ e)

-- the value read, its bytes stored after the used ones
pub holds-new : {t : List ℕ} {at : ℕ} {v : List ℕ} {x : Value} (k : Key) (scratch : List ℕ) (used : ℕ) → At t at v
    → Reads k.kind v (Got.got x) → let b = stored_for k.kind x in used + length b ≤ length scratch
    → Holds t (sets scratch used b) (used + length b) k (Some (slot_for k.kind at used x)) (Field.seen x)
holds-new {t} {at} {v} {x} k scratch used a r h = full at used v a r (omega arith) (part-stored (stored_for k.kind x) scratch used h)

-- ---- what the slot gives
module _ (t scratch : List ℕ) (used : ℕ) (room : used ≤ length scratch) where
  empty-value : (k : Kind) → value_at k (held free) t scratch ≡ absent k
  empty-value (Kind.word unknown first ws aliases) = refl
  empty-value (Kind.safe short) = bytes-at t 0 [] (omega arith) refl
  empty-value Kind.integer = refl
  empty-value Kind.base64 = bytes-at scratch 0 [] (omega arith) refl

  full-value : {k : Kind} {v : List ℕ} {x : Value} (at from : ℕ) → At t at v → Reads k v (Got.got x) → from + length (stored_for k x) ≤ used
      → take (length (stored_for k x)) (drop from scratch) ≡ stored_for k x → value_at k (slot_for k at from x) t scratch ≡ x
  full-value at from a (as-word h) w e = refl
  full-value at from a (as-string {short} {v} s o) w e = bytes-at t at v a.within (rw a.cut (take-append_seam v a.rest))
  full-value at from a as-integer w e = refl
  full-value at from a (as_bytes {v} h) w e = bytes-at scratch from (bytes_of v) (omega arith) e

  pub holds-value : {k : Key} {s : Option Slot} {f : Field} → Holds t scratch used k s f → value_at k.kind (held s) t scratch ≡ value_in k f
  holds-value {k} empty = empty-value k.kind
  holds-value (full at from v a r w e) = full-value at from a r w e
