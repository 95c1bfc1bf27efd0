-- A command as it is kept, with its text and the scratch, and the command of the history that it is: what the session rule uses of them
-- agrees.
use Prim.Native.Nat.{ℕ, ◌+◌, ◌≤◌}
use mathlib.Core.Path.{◌≡◌, refl, sym, ap, ◌∙◌}
use mathlib.Core.Bool.{Bool, true, false, cond}
use mathlib.Core.List.{List, []}
use native.Mathlib.Omega.{arith}
use lib.ListN.{length, take, drop, length-take, length-drop}
use lib.Dec.{leb}
use borrow.Author.Tests.{le-leb}
use Rattle.octets.specs.Slices.{part_of}
use Rattle.command.specs.Values.{Value}
use Rattle.command.specs.Meaning.{Meaning, meaning_of, bytes_in, id_of, file_id_of, size_of, data_of, action_code, file_type_code}
use Rattle.command.specs.Slots.{slots_of, bytes_at, values_of}
use Rattle.command.specs.Slots as Slots
use Rattle.command.specs.Read.{scratch_room, Answer, read_of}
use Rattle.command.specs.declared.Place.{Place}
use Rattle.command.specs.declared.Action.{Action}
use Rattle.command.specs.declared.Command.{Command as PlacedCommand}
use Rattle.command.proofs.ReadValues.{of_text}
use Rattle.command.proofs.Simulation.{read-means, read_length}
use Rattle.command.proofs.SimulationHeld.{Held, read_held}
use Rattle.protocol.specs.Sessions.{string_in, id_in, file_id_in}
use Rattle.protocol.proofs.TextLaws.{Named, meaning-named, meaning-refusal}

-- the command c, read from the text with that scratch afterwards, is the command d
pub record Means (c : PlacedCommand) (text scratch : List ℕ) (d : List Value) : Type 0 where
  pub named : Named d
  pub action : action_code d ≡ Slots.action_code c.action
  pub file_type : file_type_code d ≡ Slots.file_type_code c.file_type
  pub id : id_in c text ≡ id_of d
  pub file : file_id_in c text ≡ file_id_of d
  pub size : c.size ≡ size_of d
  pub part : string_in scratch c.payload ≡ data_of d
  pub long : c.payload.len ≡ length (data_of d)
  pub quiet : c.quiet ≤ 2  -- "0, 1, 2"
  pub values : d ≡ values_of c text scratch

-- the code of its action
pub acts_as : {c : PlacedCommand} {text scratch : List ℕ} {d : List Value} → Means c text scratch d → (a : Action) → c.action ≡ a
    → action_code d ≡ Slots.action_code a
acts_as means a e = means.action ∙ ap Slots.action_code e

-- a string at a place, as the rule and as the meaning take it
pub string-means : (l : List ℕ) (p : Place) → string_in l p ≡ bytes_in (bytes_at l p)
unfolding part_of bytes_at
string-means l p = go (leb (p.start + p.len) (length l))
  where
    part : List ℕ
    part = take p.len (drop p.start l)

    go : (b : Bool) → cond b part [] ≡ bytes_in (cond b (Value.bytes part) Value.outside)
    go true = refl
    go false = refl

string-length : (l : List ℕ) (p : Place) → p.start + p.len ≤ length l → length (string_in l p) ≡ p.len
unfolding part_of
string-length l p h = rw (le-leb _ _ h) (omega (arith, length-take p.len (drop p.start l), length-drop p.start l))

values_mean : (c : PlacedCommand) (text scratch : List ℕ) → Named (values_of c text scratch)
    → c.payload.start + c.payload.len ≤ length scratch → c.quiet ≤ 2 → Means c text scratch (values_of c text scratch)
unfolding values_of slots_of
values_mean c text scratch n h quiet =
    record {
      named = n;
      action = refl;
      file_type = refl;
      id = string-means text c.id;
      file = string-means text c.file_id;
      size = refl;
      part = string-means scratch c.payload;
      long = sym (string-length scratch c.payload h) ∙ ap length (string-means scratch c.payload);
      quiet = quiet;
      values = refl;
    }

-- ---- a text that is read
-- what reading answers and what the text means
pub data Read (text scratch : List ℕ) : Answer → Meaning → Type 0 where
  command : {c : PlacedCommand} {d : List Value} → Means c text scratch d → Read text scratch (Answer.read c) (Meaning.command d)
  refused : {n : ℕ} → of_text n ≡ true → Read text scratch (Answer.refused n) (Meaning.refused n)

pub text-read : (text scratch : List ℕ) → scratch_room ≤ length scratch
    → Read text (read_of text scratch).buffer (read_of text scratch).answer (meaning_of text)
text-read text scratch enough = go (read_of text scratch).answer refl
  where
    after : List ℕ
    after = (read_of text scratch).buffer

    go : (a : Answer) → (read_of text scratch).answer ≡ a → Read text after a (meaning_of text)
    go (Answer.read c) e =
        let m : Meaning.command (values_of c text after) ≡ meaning_of text = rw e at (read-means text scratch enough) in
        let s : Held scratch c = read_held text scratch c e in
        let h : c.payload.start + c.payload.len ≤ length after = omega (arith, s.payload-in, read_length text scratch) in
        rw (← m) (command (values_mean c text after (meaning-named text _ (sym m)) h s.quiet_le))
    go (Answer.refused n) e =
        let m : Meaning.refused n ≡ meaning_of text = rw e at (read-means text scratch enough) in
        rw (← m) (refused (meaning-refusal text n (sym m)))
