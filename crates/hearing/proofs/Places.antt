-- Where a command's ids stand: inside its text, and so in the recording where the text stands there.
use Prim.Native.Nat.{ℕ, ◌+◌, ◌-◌, ◌≤◌}
use mathlib.Core.Path.{◌≡◌, refl, sym, ap, ◌∙◌}
use mathlib.Core.Bool.{Bool, true, false, cond, ◌||◌}
use mathlib.Core.List.{List, [], ◌++◌}
use native.Mathlib.Omega.{arith}
use lib.ListN.{length, take, drop, length-append, length-drop, take-append-drop}
use lib.Seq.{drop-drop, take-append-le, drop-append-le}
use lib.Dec.{ltb, leb, eqb, lit<}
use borrow.Author.Tests.{le-leb, ltb-false, leb-false}
use Rattle.octets.specs.Outcome.{Outcome}
use Rattle.octets.specs.Split.{onto, split}
use Rattle.octets.specs.Slices.{part_of}
use Rattle.command.specs.Fields.{Turn}
use Rattle.command.specs.Meaning.{Field}
use Rattle.command.specs.Slots.{action_code, command_of}
use Rattle.command.specs.Read as Read
use Rattle.command.specs.Read.{Reader, scratch_room, Answer, read_of}
use Rattle.command.specs.declared.Command.{Command}
use Rattle.command.proofs.Cases.{by_test}
use Rattle.command.proofs.SimulationFields.{Agree, on, off}
use Rattle.command.proofs.SimulationSlots.{each_at, string_slot}
use Rattle.command.proofs.Simulation.{Alike, read-agree}
use Rattle.protocol.specs.Sessions.{id_in, file_id_in}

-- ---- inside the text
pub record Placed (text : List ℕ) (c : Command) : Type 0 where
  pub id : c.id.start + c.id.len ≤ length text
  pub file : c.file_id.start + c.file_id.len ≤ length text

not-read : {A : Type 0} {n : ℕ} {c : Command} → Answer.refused n ≡ Answer.read c → A
not-read e = let z : ◌≡◌ {A = ℕ} 0 1 = cc in absurd (omega arith)

finished-placed : {t scratch : List ℕ} {at : ℕ} {x : Turn Reader} {y : Turn (List Field)} (c : Command)
    → Agree (Alike t scratch at) x y → (Read.finished x).answer ≡ Answer.read c → Placed t c
unfolding command_of split onto
finished-placed {t} {scratch} c (on {s} r) =
    let command = command_of s.slots in
    by_test (λ (a : Answer). a ≡ Answer.read c → Placed t c) (eqb (action_code command.action) 0 || eqb command.id.len 0)
    (λ e. not-read)
    (λ e (w : Answer.read command ≡ Answer.read c).
    (let z : command ≡ c = cc in
    rw (← z) (record { id = string_slot (each_at 4 (lit< tt) r.each); file = string_slot (each_at 5 (lit< tt) r.each) })))
finished-placed c (off r) = not-read

-- of every command that was read
pub read-placed : (text scratch : List ℕ) (c : Command) → (read_of text scratch).answer ≡ Answer.read c → Placed text c
unfolding read_of
read-placed t scratch c =
    by_test (λ (o : Outcome Answer). o.answer ≡ Answer.read c → Placed t c) (ltb (length scratch) scratch_room)
    (λ e. not-read) (λ e. finished-placed c (read-agree t scratch (ltb-false _ _ e)))

-- ---- in the recording
-- the text stands in it from a place on
pub record Stands (recording : List ℕ) (start : ℕ) (text : List ℕ) : Type 0 where
  pub rest : List ℕ
  pub parts : drop start recording ≡ text ++ rest

-- as the code lends it
pub lent-stands : (recording : List ℕ) (start n : ℕ) → Stands recording start (take n (drop start recording))
lent-stands recording start n =
    let l = drop start recording in record { rest = drop n l; parts = sym (take-append-drop n l) }

-- a part of the text is a part of the recording
pub part-place : {recording : List ℕ} {start : ℕ} {text : List ℕ} → Stands recording start text → (s n : ℕ) → s + n ≤ length text
    → part_of recording (start + s) n ≡ part_of text s n
unfolding part_of
part-place {recording} {start} {text} h s n l = rw (le-leb _ _ l) (go (leb (start + s + n) (length recording)) refl)
  where
    long : length recording - start ≡ length text + length h.rest
    long = sym (length-drop start recording) ∙ ap length h.parts ∙ length-append text h.rest

    rest_of : take n (drop (start + s) recording) ≡ take n (drop s text)
    rest_of =
        ap (take n) (sym (drop-drop s start recording) ∙ ap (drop s) h.parts ∙ drop-append-le s text h.rest (omega arith))
        ∙ take-append-le n (drop s text) h.rest (omega (arith, length-drop s text))

    none : n ≡ 0 → [] ≡ take n (drop s text)
    none e = rw e

    go : (b : Bool) → leb (start + s + n) (length recording) ≡ b → cond b (take n (drop (start + s) recording)) [] ≡ take n (drop s text)
    go true e = rest_of
    go false e = none (omega (arith, long, leb-false (start + s + n) (length recording) e))

pub id-place : {recording : List ℕ} {start : ℕ} {text : List ℕ} (c : Command) → Stands recording start text → Placed text c
    → part_of recording (start + c.id.start) c.id.len ≡ id_in c text
id-place c h p = part-place h c.id.start c.id.len p.id

pub file-place : {recording : List ℕ} {start : ℕ} {text : List ℕ} (c : Command) → Stands recording start text → Placed text c
    → part_of recording (start + c.file_id.start) c.file_id.len ≡ file_id_in c text
file-place c h p = part-place h c.file_id.start c.file_id.len p.file
