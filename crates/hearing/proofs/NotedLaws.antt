-- What is noted of a command is what the console hears of it.
use Prim.Native.Nat.{ℕ, ◌+◌, ◌≤◌}
use mathlib.Core.Path.{◌≡◌, refl, sym, ◌∙◌}
use mathlib.Core.Bool.{Bool, true, false, cond, ◌||◌}
use mathlib.Core.List.{List, [], ◌∷◌, ◌++◌, append-nil}
use native.Mathlib.Omega.{arith}
use lib.ListN.{length, drop, length-take}
use lib.Dec.{ltb, leb, eqb, lit<}
use borrow.Author.Tests.{le-leb, ltb-false}
use Rattle.octets.specs.Outcome.{Outcome, outcome}
use Rattle.octets.specs.Split.{onto, split}
use Rattle.octets.specs.Slices.{part_of, copy_at}
use Rattle.frames.proofs.Choices.{by_cond}
use Rattle.command.specs.Fields.{Turn}
use Rattle.command.specs.Meaning.{Field}
use Rattle.command.specs.Slots.{action_code, command_of}
use Rattle.command.specs.Read as Read
use Rattle.command.specs.Read.{Reader, scratch_room, Answer, read_of}
use Rattle.command.specs.declared.Command.{Command}
use Rattle.command.proofs.Cases.{by_test}
use Rattle.command.proofs.SimulationFields.{Agree, on, off}
use Rattle.command.proofs.SimulationSlots.{each_at, bytes_slot}
use Rattle.command.proofs.Simulation.{Alike, read-agree}
use Rattle.protocol.specs.Sessions.{string_in}
use Rattle.protocol.specs.declared.Due.{Due}
use Rattle.protocol.specs.declared.Told.{Told}
use Rattle.protocol.proofs.Laws.{no_way}
use Rattle.protocol.proofs.Tellings.{is_plain, Tells, tells, asks}
use Rattle.recordings.specs.Mend.{recording_limit}
use Rattle.hearing.specs.Hearing.{Sighting, Happening, key_of, place_of, is_regular, heard_told}
use Rattle.hearing.specs.Steps.{Noted, noted, with_row, start_noted, part_noted, ask_noted, told_noted}
use Rattle.hearing.proofs.Places.{Placed, Stands, id-place, file-place}
use Rattle.hearing.proofs.RowLaws.{part-there, Stored, stored-later, row-stored}

-- ---- a part is shorter than its command's text
not-read : {A : Type 0} {n : ℕ} {c : Command} → Answer.refused n ≡ Answer.read c → A
not-read e = let z : ◌≡◌ {A = ℕ} 0 1 = cc in absurd (omega arith)

finished-payload : {t scratch : List ℕ} {x : Turn Reader} {y : Turn (List Field)} (c : Command) → Agree (Alike t scratch (length t)) x y
    → (Read.finished x).answer ≡ Answer.read c → c.payload.len ≤ length t
unfolding command_of split onto
finished-payload {t} {scratch} c (on {s} r) =
    let command = command_of s.slots in
    by_test (λ (a : Answer). a ≡ Answer.read c → c.payload.len ≤ length t)
    (eqb (action_code command.action) 0 || eqb command.id.len 0)
    (λ e. not-read)
    (λ e (w : Answer.read command ≡ Answer.read c).
    (let z : command ≡ c = cc in
    let p = bytes_slot (each_at 14 (lit< tt) r.each) in
    rw (← z) (omega (arith, p, r.few))))
finished-payload c (off r) = not-read

pub read-payload : (t scratch : List ℕ) (c : Command) → (read_of t scratch).answer ≡ Answer.read c → c.payload.len ≤ length t
unfolding read_of
read-payload t scratch c =
    by_test (λ (o : Outcome Answer). o.answer ≡ Answer.read c → c.payload.len ≤ length t) (ltb (length scratch) scratch_room)
    (λ e. not-read) (λ e. finished-payload c (read-agree t scratch (ltb-false _ _ e)))

part-short : (l : List ℕ) (p n : ℕ) → length (part_of l p n) ≤ n
unfolding part_of
part-short l p n =
    by_cond (λ (x : List ℕ). length x ≤ n) (leb (p + n) (length l)) (λ _. omega (arith, length-take n (drop p l))) (λ _. omega arith)

-- ---- what the console hears does not depend on what else the scratch holds
plain-heard : (x : Sighting) (c : Command) (scratch : List ℕ) (w : Told) → is_plain w ≡ true → heard_told x c scratch w ≡ []
plain-heard x c scratch Told.Nothing e = refl
plain-heard x c scratch (Told.Refused n) e = refl
plain-heard x c scratch Told.Ignored e = refl
plain-heard x c scratch Told.DragDrop e = refl
plain-heard x c scratch Told.Asked e = refl
plain-heard x c scratch Told.Naming e = refl
plain-heard x c scratch Told.Path e = refl
plain-heard x c scratch Told.LastPath e = refl
plain-heard x c scratch (Told.Ask a) e = no_way (sym e)
plain-heard x c scratch (Told.Status w) e = refl
plain-heard x c scratch Told.Withdrawn e = refl
plain-heard x c scratch Told.Discarded e = refl
plain-heard x c scratch Told.Committed e = refl

pub heard-same : (x : Sighting) (c : Command) (scratch scratch' : List ℕ) {w : Told}
    → string_in scratch c.payload ≡ string_in scratch' c.payload → Tells c.payload w
    → heard_told x c scratch w ≡ heard_told x c scratch' w
heard-same x c scratch scratch' {w} e (tells h) = plain-heard x c scratch w h ∙ sym (plain-heard x c scratch' w h)
heard-same x c scratch scratch' e (asks (Due.OpenFile j)) = refl
heard-same x c scratch scratch' e (asks (Due.OpenDirectory j)) = refl
heard-same x c scratch scratch' e (asks (Due.Write j n)) = rw e
heard-same x c scratch scratch' e (asks (Due.WriteLast j n)) = rw e
heard-same x c scratch scratch' e (asks Due.Commit) = refl
heard-same x c scratch scratch' e (asks Due.Request) = refl

-- ---- noted
plain-noted : (c : Command) (from rows : ℕ) (scratch events bytes : List ℕ) (w : Told) → is_plain w ≡ true
    → told_noted w c from scratch rows events bytes ≡ noted rows events bytes
unfolding told_noted
plain-noted c from rows scratch events bytes Told.Nothing e = refl
plain-noted c from rows scratch events bytes (Told.Refused n) e = refl
plain-noted c from rows scratch events bytes Told.Ignored e = refl
plain-noted c from rows scratch events bytes Told.DragDrop e = refl
plain-noted c from rows scratch events bytes Told.Asked e = refl
plain-noted c from rows scratch events bytes Told.Naming e = refl
plain-noted c from rows scratch events bytes Told.Path e = refl
plain-noted c from rows scratch events bytes Told.LastPath e = refl
plain-noted c from rows scratch events bytes (Told.Ask a) e = no_way (sym e)
plain-noted c from rows scratch events bytes (Told.Status w) e = refl
plain-noted c from rows scratch events bytes Told.Withdrawn e = refl
plain-noted c from rows scratch events bytes Told.Discarded e = refl
plain-noted c from rows scratch events bytes Told.Committed e = refl

module _ (xs t : List ℕ) (at rows from end : ℕ) (events bytes scratch : List ℕ) (c : Command) (hs : List Happening)
    (s : Stored xs at rows events bytes hs) (stands : Stands xs from t) (placed : Placed t c) (payload : c.payload.len ≤ length t)
    (after : at ≤ from) (short : from + length t ≤ end) (long : at + 7 ≤ end) (fits : end ≤ recording_limit) where
  abbrev x : Sighting
  x = record { start = from; text = t }

  abbrev Then : Noted → List Happening → Type 0
  Then k more = Stored xs end k.rows k.events k.bytes (hs ++ more)

  still : Then (noted rows events bytes) []
  still = rw (append-nil hs) (stored-later xs (omega arith) s)

  start-then : let o = start_noted c from rows events in
      Then (noted o.answer o.buffer bytes) (cond (is_regular c.file_type) (Happening.starts (key_of t c) (place_of from c) ∷ []) [])
  unfolding start_noted
  start-then = go (is_regular c.file_type)
    where
      go : (u : Bool) → let o = cond u (outcome (rows + 1) (with_row events rows 1 from c 0)) (outcome rows events) in
          Then (noted o.answer o.buffer bytes) (cond u (Happening.starts (key_of t c) (place_of from c) ∷ []) [])
      go true =
          row-stored xs at rows 1 from end events bytes [] c hs s after (omega arith) long fits
          (Happening.starts (key_of t c) (place_of from c)) (rw (id-place c stands placed, file-place c stands placed))
      go false = still

  part_then : Then (part_noted c.payload c from scratch rows events bytes)
      (Happening.hands (key_of t c) (string_in scratch c.payload) ∷ [])
  unfolding part_noted copy_at
  part_then =
      let part = string_in scratch c.payload in
      let less : from + length part ≤ end = omega (arith, part-short scratch c.payload.start c.payload.len) in
      let room : from + length part ≤ length bytes = omega (arith, s.bytes_room) in
      rw (le-leb (from + length part) (length bytes) room)
      (row-stored xs at rows 0 from end events bytes part c hs s after less long fits (Happening.hands (key_of t c) part)
      (rw (id-place c stands placed, file-place c stands placed, part-there part bytes from room)))

  pub told-stored : {w : Told} → Tells c.payload w → Then (told_noted w c from scratch rows events bytes) (heard_told x c scratch w)
  unfolding told_noted ask_noted
  told-stored {w} (tells e) = rw (plain-noted c from rows scratch events bytes w e, plain-heard x c scratch w e) still
  told-stored (asks (Due.OpenFile j)) = start-then
  told-stored (asks (Due.OpenDirectory j)) = start-then
  told-stored (asks (Due.Write j n)) = part_then
  told-stored (asks (Due.WriteLast j n)) = part_then
  told-stored (asks Due.Commit) = still
  told-stored (asks Due.Request) = still
