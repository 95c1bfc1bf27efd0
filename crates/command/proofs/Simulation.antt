-- The reader with places and the abstract reader agree on every text: what `read_of` answers, taken with the text and the scratch
-- afterwards, is what the text means, refusals included.
use Prim.Native.Nat.{ℕ, ◌+◌, ◌*◌, ◌≤◌}
use mathlib.Core.Path.{◌≡◌, refl, ◌∙◌, ap}
use mathlib.Core.Bool.{Bool, true, false, cond, ◌||◌}
use mathlib.Core.List.{List}
use native.Mathlib.Omega.{arith}
use lib.ListN.{length, drop, length-take, length-drop}
use lib.Seq.{length-sets}
use lib.Dec.{ltb, eqb, lit<}
use borrow.Author.Tests.{le-ltb, le-leb, ltb-false}
use Rattle.std.specs.Prelude.{Option, is_some}
use Rattle.octets.specs.Outcome.{Outcome, outcome}
use Rattle.frames.specs.Stream.{text_limit}
use Rattle.command.specs.Keys.{keys, key_at, kind_at}
use Rattle.command.specs.Values.{Got, value_read}
use Rattle.command.specs.Fields.{Turn, text_read}
use Rattle.command.specs.Meaning as Meaning
use Rattle.command.specs.Meaning.{Field, stored, once, meant, blank, bytes_in, Meaning, meaning_of}
use Rattle.command.specs.Slots.{action_code, slots_of, command_of, bytes_at, values_of}
use Rattle.command.specs.Read as Read
use Rattle.command.specs.Read.{Reader, scratch_room, stored_for, kept_by, kept, begun, Answer, read_of, meaning_in, ReadMeans}
use Rattle.command.specs.declared.Place.{Place}
use Rattle.command.specs.declared.Slot.{Slot}
use Rattle.command.specs.declared.Command.{Command}
use Rattle.command.proofs.Cases.{by_test}
use Rattle.command.proofs.SimulationFields.{At, Agree, on, off, Related, text-agree}
use Rattle.command.proofs.ReadValues.{Reads, reads, stored-room}
use Rattle.command.proofs.SimulationValues.{Holds, empty, full, holds_later, holds-new}
use Rattle.command.proofs.SimulationSlots.{Each, each_at, each_set, each-blank, each_map, string_slot, command-values}

-- ---- the two readers, value by value
module _ (t scratch : List ℕ) where
  -- what holds of the two states when the text before a place is read: four characters gave at most three bytes, so that a value's
  -- bytes always have room, and each slot holds its field
  pub record Alike (at : ℕ) (s : Reader) (fs : List Field) : Type 0 where
    pub few : 4 * s.used ≤ 3 * at
    pub fits : s.used ≤ scratch_room
    pub size : length s.scratch ≡ length scratch
    pub each : Each (Holds t s.scratch s.used) keys s.slots fs

  alike-later : {a b : ℕ} {s : Reader} {fs : List Field} → a ≤ b → Alike a s fs → Alike b s fs
  alike-later h r = record { few = omega (arith, r.few); fits = r.fits; size = r.size; each = r.each }

  module _ (enough : scratch_room ≤ length scratch) (short : length t ≤ text_limit)
      (n from at : ℕ) (v : List ℕ) (h : from ≤ at) (a : At t at v) where
    kept-agree : {s : Reader} {fs : List Field} (g : Got) → Alike from s fs → Reads (kind_at keys n) v g
        → Agree (Alike (at + length v)) (kept_by (kind_at keys n) n at s g) (stored n fs g)
    kept-agree {s} {fs} (Got.got x) r d =
        let b = stored_for (kind_at keys n) x in
        let few : 4 * (s.used + length b) ≤ 3 * (at + length v) = omega (arith, r.few, stored-room d) in
        let fits : s.used + length b ≤ scratch_room = omega (arith, a.within) in
        let room : s.used + length b ≤ length s.scratch = omega (arith, r.size) in
        on (record {
          few = few;
          fits = fits;
          size = length-sets s.scratch s.used b ∙ r.size;
          each = each_set n (each_map (λ k sl f q. holds_later b q) r.each) (holds-new (key_at keys n) s.scratch s.used a d room);
        })
    kept-agree (Got.refused m) r d = off (alike-later (omega arith) r)

    once-agree : {s : Reader} {fs : List Field} {sl : Option Slot} {f : Field} {x : Turn Reader} {y : Turn (List Field)}
        → Alike from s fs → Agree (Alike (at + length v)) x y → Holds t s.scratch s.used (key_at keys n) sl f
        → Agree (Alike (at + length v)) (cond (is_some sl) (Turn.off 5 s) x) (once f y fs)
    once-agree r g empty = g
    once-agree r g (full _ _ _ _ _ _ _) = off (alike-later (omega arith) r)

  related : scratch_room ≤ length scratch → Related t Alike kept meant
  unfolding kept
  related enough =
      record {
        later = alike-later;
        steps = λ n from at v short l h a r.
            (let agree = kept-agree enough short n from at v h a (value_read (kind_at keys n) v) r (reads (kind_at keys n) v) in
            once-agree enough short n from at v h a r agree (each_at n l r.each));
      }

  pub read-agree : scratch_room ≤ length scratch
      → Agree (Alike (length t)) (text_read kept t (begun scratch)) (text_read meant t (blank keys))
  read-agree enough =
      text-agree t (related enough) (record { few = omega arith; fits = omega arith; size = refl; each = each-blank (λ k. empty) keys })

-- ---- the end of the text
-- a place within a buffer gives as many bytes as it says
bytes-length : (l : List ℕ) (p : Place) → p.start + p.len ≤ length l → length (bytes_in (bytes_at l p)) ≡ p.len
unfolding bytes_at
bytes-length l p h = rw (le-leb _ _ h) (omega (arith, length-take p.len (drop p.start l), length-drop p.start l))

-- what is missing of a command is missing of its values
complete-means : (t scratch : List ℕ) (c : Command) → c.id.start + c.id.len ≤ length t
    → meaning_in t (outcome (Read.complete c) scratch) ≡ Meaning.complete (values_of c t scratch)
unfolding values_of slots_of
complete-means t scratch c h = rw (bytes-length t c.id h) (go (eqb (action_code c.action) 0 || eqb c.id.len 0))
  where
    go : (b : Bool) → meaning_in t (outcome (cond b (Answer.refused 7) (Answer.read c)) scratch)
        ≡ cond b (Meaning.refused 7) (Meaning.command (values_of c t scratch))
    go true = refl
    go false = refl

finished-means : {t scratch : List ℕ} {at : ℕ} {x : Turn Reader} {y : Turn (List Field)} → scratch_room ≤ length scratch
    → Agree (Alike t scratch at) x y
    → meaning_in t (Read.finished x) ≡ Meaning.finished y
unfolding command_of
finished-means {t} enough (on {s} r) =
    complete-means t s.scratch (command_of s.slots) (string_slot (each_at 4 (lit< tt) r.each))
    ∙ ap Meaning.complete (command-values t s.scratch s.used (omega (arith, r.fits, r.size)) r.each)
finished-means enough (off r) = refl

-- of a text and a scratch that has room, the answer, with the text and the scratch afterwards, is what the text means
pub read-means : ReadMeans
unfolding read_of meaning_of
read-means t scratch enough = rw (le-ltb _ _ enough) (finished-means enough (read-agree t scratch enough))

-- the scratch keeps its length
pub read_length : (t scratch : List ℕ) → length (read_of t scratch).buffer ≡ length scratch
unfolding read_of
read_length t scratch =
    by_test (λ (o : Outcome Answer). length o.buffer ≡ length scratch) (ltb (length scratch) scratch_room)
    (λ e. refl) (λ e. ends (read-agree t scratch (ltb-false _ _ e)))
  where
    ends : {x : Turn Reader} {y : Turn (List Field)} → Agree (Alike t scratch (length t)) x y
        → length (Read.finished x).buffer ≡ length scratch
    ends (on r) = r.size
    ends (off r) = r.size
