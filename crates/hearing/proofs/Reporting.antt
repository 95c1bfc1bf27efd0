-- What is heard of a report is what the marks of its feed, and of the console's answer, have happening.
use Prim.Native.Nat.{ℕ, ◌≤◌}
use mathlib.Core.Path.{◌≡◌, refl, sym, ap, ◌∙◌}
use mathlib.Core.Bool.{Bool, true, false, cond}
use mathlib.Core.List.{List, [], ◌∷◌, ◌++◌, append-nil, map}
use lib.ListN.{length}
use lib.Dec.{eqb, lit≤}
use Rattle.std.specs.Prelude.{Option, Some, None}
use Rattle.octets.specs.Outcome.{Outcome, outcome}
use Rattle.frames.specs.Stream.{Told, is_drag_drop}
use Rattle.frames.specs.Follows.{told_of}
use Rattle.frames.specs.declared.Report.{Report}
use Rattle.command.specs.Meaning.{Meaning, meaning_of}
use Rattle.command.specs.Slots as Slots
use Rattle.command.specs.Read.{scratch_room, Answer, read_of}
use Rattle.command.specs.declared.FileType.{FileType}
use Rattle.command.specs.declared.Command.{Command}
use Rattle.protocol.specs.Change.{ask_of}
use Rattle.protocol.specs.Sessions.{string_in, id_in, settle_done}
use Rattle.protocol.specs.Calls.{Acted, acted, unread, read_act, report_act}
use Rattle.protocol.specs.History.{hearing, Mark, Question, read_mark, told_marks, hearing_mark, last_ask}
use Rattle.protocol.specs.History as History
use Rattle.protocol.specs.Stretches.{Key}
use Rattle.protocol.specs.Machine.{is_refused}
use Rattle.protocol.specs.Promises.{Sized}
use Rattle.protocol.specs.declared.Due.{Due}
use Rattle.protocol.specs.declared.Table.{Table}
use Rattle.protocol.specs.declared.Told.{Told as Telling}
use Rattle.protocol.specs.declared.Stepped.{Stepped}
use Rattle.protocol.proofs.Laws.{no_way}
use Rattle.protocol.proofs.Means.{Means, Read, text-read}
use Rattle.protocol.proofs.Means as Means
use Rattle.protocol.proofs.Tellings.{is_plain, plain, Tells}
use Rattle.protocol.proofs.Tellings as Tellings
use Rattle.protocol.proofs.Sizes.{obey-sized}
use Rattle.protocol.proofs.CutsReading.{SameReading, same-reading}
use Rattle.protocol.proofs.CutsReading as CutsReading
use Rattle.protocol.proofs.CutsSteps.{act-same}
use Rattle.protocol.proofs.CutsRun.{zeros}
use Rattle.hearing.specs.Hearing.{Sighting, Happening, is_regular, key_of, place_of, heard_ask, heard_told, answered_by, table_after}
use Rattle.hearing.specs.Laws.{nowhere, bare, key_in, happened_by, happened_in}
use Rattle.hearing.proofs.Texts.{hears_of, hears, leaves}
use Rattle.hearing.proofs.Asking.{Rests, AskedBy, Obeys, tells, asks, obeys, done-settles, allow-rests}

-- ---- what was told, and its answer
-- what happens when the console answers it, by the ask told last
abbrev pub happened_told : Telling → Question → List Happening
happened_told w q = go (hearing w [])
  where
    go : Option History.Heard → List Happening
    go None = []
    go (Some a) = happened_by q

-- done is taken where an ask was told
abbrev pub Takes : Table → Telling → Type 0
Takes t w = go (hearing w [])
  where
    go : Option History.Heard → Type 0
    go None = Unit {0}
    go (Some a) = is_refused (settle_done t).told ≡ false

-- from a table and marks, the bytes told ds: it left t' and told w, with an id in the text and a part in the scratch
pub record Reported (t : Table) (m : List Mark) (ds : List Told) (t' : Table) (w : Telling) (id scratch : List ℕ) : Type 0 where
  pub table : answered_by t' id w ≡ leaves t ds
  pub rests : Rests (answered_by t' id w)
  pub takes : Takes t' w
  pub happens : let m' = hearing_mark (hearing w scratch) (told_marks ds m) in
      happened_in m' ++ happened_told w (last_ask m') ≡ happened_in m ++ hears t ds

abbrev pub Reports : Table → List Mark → List Told → List ℕ → Acted → Type 0
Reports t m ds text a = Reported t m ds a.step.table a.step.told (id_in a.command text) a.scratch

-- ---- something plain
-- it is heard as nothing, and its answer leaves nothing owed
record Plainly (x : Sighting) (c : Command) (w : Telling) : Type 0 where
  heard : (scratch : List ℕ) → heard_told x c scratch w ≡ []
  rests : (t : Table) (id : List ℕ) → Rests t → Rests (answered_by t id w)

plainly : (x : Sighting) (c : Command) (w : Telling) → is_plain w ≡ true → Plainly x c w
plainly x c Telling.Nothing e = record { heard = λ _. refl; rests = λ t id h. h }
plainly x c (Telling.Refused n) e = no_way (sym e)
plainly x c Telling.Ignored e = record { heard = λ _. refl; rests = λ t id h. h }
plainly x c Telling.DragDrop e = record { heard = λ _. refl; rests = λ t id h. h }
plainly x c Telling.Asked e = record { heard = λ _. refl; rests = λ t id h. allow-rests t h id }
plainly x c Telling.Naming e = record { heard = λ _. refl; rests = λ t id h. h }
plainly x c Telling.Path e = record { heard = λ _. refl; rests = λ t id h. h }
plainly x c Telling.LastPath e = record { heard = λ _. refl; rests = λ t id h. allow-rests t h id }
plainly x c (Telling.Ask a) e = no_way (sym e)
plainly x c (Telling.Status w) e = record { heard = λ _. refl; rests = λ t id h. h }
plainly x c Telling.Withdrawn e = record { heard = λ _. refl; rests = λ t id h. h }
plainly x c Telling.Discarded e = record { heard = λ _. refl; rests = λ t id h. h }
plainly x c Telling.Committed e = record { heard = λ _. refl; rests = λ t id h. h }

-- ---- what the scratch held before does not matter
abbrev at : List ℕ → Sighting
at text = record { start = 0; text = text }

told_same : {w : Telling} (text : List ℕ) (c : Command) (scratch scratch' : List ℕ)
    → string_in scratch c.payload ≡ string_in scratch' c.payload → Tells c.payload w
    → heard_told (at text) c scratch w ≡ heard_told (at text) c scratch' w
told_same {w} text c scratch scratch' e (Tellings.tells p) =
    let h = (plainly (at text) c w p).heard in h scratch ∙ sym (h scratch')
told_same text c scratch scratch' e (Tellings.asks (Due.OpenFile j)) = refl
told_same text c scratch scratch' e (Tellings.asks (Due.OpenDirectory j)) = refl
told_same text c scratch scratch' e (Tellings.asks (Due.Write j n)) = rw e
told_same text c scratch scratch' e (Tellings.asks (Due.WriteLast j n)) = rw e
told_same text c scratch scratch' e (Tellings.asks Due.Commit) = refl
told_same text c scratch scratch' e (Tellings.asks Due.Request) = refl

record SameHeard (text : List ℕ) (a a' : Acted) : Type 0 where
  heard : hears_of text a ≡ hears_of text a'
  table : table_after text a ≡ table_after text a'

same-heard : (t : Table) → Sized t → (text : List ℕ) {o o' : Outcome Answer} → SameReading text o o'
    → SameHeard text (read_act t text o) (read_act t text o')
same-heard t z text (CutsReading.refused n after after' l) = record { heard = refl; table = refl }
same-heard t z text (CutsReading.read c after after' s) =
    let e = (act-same t z text (CutsReading.read c after after' s)).step in
    let w = (obey-sized t z c text after).told in
    record {
      heard =
          ap (map bare) (told_same text c after after' s.payload w)
          ∙ ap (λ (y : Stepped). map bare (heard_told (at text) c after' y.told)) e;
      table = ap (λ (y : Stepped). answered_by y.table (id_in c text) y.told) e;
    }

-- ---- an ask
module _ {c : Command} {text scratch : List ℕ} {d : History.Command} (means : Means c text scratch d) where
  -- a start is heard of a regular file's command
  open-happens : Slots.action_code c.action ≡ 3
      → happened_by (Question.asks d History.Heard.opens)
      ≡ map bare (cond (is_regular c.file_type) (Happening.starts (key_of text c) (place_of 0 c) ∷ []) [])
  open-happens e = rw (means.action, e, means.file_type, means.id, means.file) (go c.file_type)
    where
      key : Key
      key = key_in d

      go : (g : FileType) → cond (eqb (Slots.file_type_code g) 0) (Happening.starts key nowhere ∷ []) []
          ≡ map bare (cond (is_regular g) (Happening.starts key (place_of 0 c) ∷ []) [])
      go FileType.Regular = refl
      go FileType.Directory = refl
      go FileType.Symlink = refl
      go FileType.Link = refl

  ask-happens : (due : Due) → AskedBy c due → let a = ask_of c.payload due in
      happened_by (Question.asks d (History.heard_ask a scratch)) ≡ map bare (heard_ask (at text) c scratch a)
  ask-happens (Due.OpenFile j) e = open-happens (ap Slots.action_code e)
  ask-happens (Due.OpenDirectory j) e = open-happens (ap Slots.action_code e)
  ask-happens (Due.Write j n) e = rw (means.id, means.file)
  ask-happens (Due.WriteLast j n) e = rw (means.id, means.file)
  ask-happens Due.Commit e = refl
  ask-happens Due.Request e = absurd e

-- ---- a text
-- of what was done for a text that means v: the answer's table, and what happens
record ReadIn (m : List Mark) (text : List ℕ) (v : Meaning) (a : Acted) : Type 0 where
  rests : Rests (table_after text a)
  takes : Takes a.step.table a.step.told
  happens : let m' = hearing_mark (hearing a.step.told a.scratch) (read_mark v m) in
      happened_in m' ++ happened_told a.step.told (last_ask m') ≡ happened_in m ++ hears_of text a

command-in : (m : List Mark) {c : Command} {text scratch : List ℕ} {d : History.Command} {s : Stepped} → Means c text scratch d
    → Obeys c s → ReadIn m text (Meaning.command d) (acted s c scratch)
command-in m {c} {text} {scratch} means (tells {ss} {w} {r} e h) =
    let p = plainly (at text) c w e in
    record {
      rests = p.rests _ (id_in c text) (record { owed = refl; unserved = h });
      takes = rw ((plain w e).silent []) tt;
      happens = rw ((plain w e).silent scratch, (plain w e).silent [], p.heard scratch);
    }
command-in m {c} {text} {scratch} means (asks {ss} {r} i due a h) =
    let k = done-settles ss h i c due a in
    record { rests = k.rests; takes = k.taken; happens = rw (ask-happens means due a) }

module _ {t : Table} (h : Rests t) (z : Sized t) (m : List Mark) (text scratch : List ℕ) where
  text_in_lem : scratch_room ≤ length scratch → ReadIn m text (meaning_of text) (read_act t text (read_of text scratch))
  text_in_lem enough = go (read_of text scratch).answer (text-read text scratch enough)
    where
      after : List ℕ
      after = (read_of text scratch).buffer

      go : (a : Answer) {v : Meaning} → Read text after a v → ReadIn m text v (read_act t text (outcome a after))
      go (Answer.read c) (Means.command means) = command-in m means (obeys h c text after)
      go (Answer.refused n) (Means.refused l) = record { rests = h; takes = tt; happens = refl }

  text-reported : scratch_room ≤ length scratch → Reports t m (Told.command text ∷ []) text (read_act t text (read_of text scratch))
  unfolding hears leaves
  text-reported enough =
      let x = text_in_lem enough in
      let same = same-heard t z text (same-reading text scratch zeros enough (lit≤ tt)) in
      record {
        table = same.table;
        rests = x.rests;
        takes = x.takes;
        happens = x.happens ∙ rw (same.heard, append-nil);
      }

  -- one of drag and drop is told and not read
  any-reported : scratch_room ≤ length scratch → (d : Bool)
      → Reports t m (cond d (Told.drag_drop text) (Told.command text) ∷ []) text
      (cond d (unread t Telling.DragDrop scratch) (read_act t text (read_of text scratch)))
  unfolding hears leaves
  any-reported enough true = record { table = refl; rests = h; takes = tt; happens = refl }
  any-reported enough false = text-reported enough

  pub report-reported : scratch_room ≤ length scratch → (k : Report) → (k ≡ Report.ShortCarry → ⊥)
      → Reports t m (told_of k text) text (report_act t k text scratch)
  unfolding hears leaves
  report-reported enough Report.Nothing n = record { table = refl; rests = h; takes = tt; happens = refl }
  report-reported enough (Report.InPiece start len) n = any-reported enough (is_drag_drop text)
  report-reported enough (Report.InCarry len) n = any-reported enough (is_drag_drop text)
  report-reported enough Report.TooLong n = record { table = refl; rests = h; takes = tt; happens = refl }
  report-reported enough Report.Abandoned n = record { table = refl; rests = h; takes = tt; happens = refl }
  report-reported enough Report.ShortCarry n = absurd (n refl)
