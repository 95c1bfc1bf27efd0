-- What the functions under `hear` answer: what is noted of a command, one turn over a recording, and the whole hearing.
use Rattle.std.specs.Prelude.{ℕ, ◌+◌, ◌*◌, ◌≤◌, ◌≡◌, cond, List, [], ◌∷◌, length, take, leb}
use Rattle.std.proofs.lemmas.List.Edits.{sets}
use Rattle.octets.specs.Outcome.{Outcome, outcome}
use Rattle.octets.specs.Slices.{part_of, copy_at}
use Rattle.command.specs.Read.{Answer, read_of}
use Rattle.command.specs.declared.Command.{Command}
use Rattle.command.specs.declared.Place.{Place}
use Rattle.protocol.specs.Sessions.{id_in, obey_of}
use Rattle.protocol.specs.declared.Ask.{Ask}
use Rattle.protocol.specs.declared.Told.{Told}
use Rattle.recordings.specs.Mend.{recording_limit}
use Rattle.recordings.specs.Texts.{text_between}
use Rattle.recordings.specs.declared.texts.TextSight.{TextSight}
use Rattle.hearing.specs.Hearing.{is_regular, answered_by, heard_in}
use Rattle.hearing.specs.Rows.{happenings_in, Apart}
use Rattle.hearing.specs.declared.turns.Reached.{Reached}

-- ---- what is noted
-- how many rows there are, with the numbers and the bytes
pub record Noted : Type 0 where
  pub rows : ℕ
  pub events : List ℕ
  pub bytes : List ℕ

abbrev pub noted : ℕ → List ℕ → List ℕ → Noted
noted n events bytes = record { rows = n; events = events; bytes = bytes }

-- sums of a text's place and a place in it are no large numbers
abbrev pub Near : ℕ → Command → Type 0
Near from c = (from ≤ recording_limit) × (c.id.start ≤ recording_limit) × (c.file_id.start ≤ recording_limit)

-- a row of a command whose text starts at a place; its part stands there in the bytes
abbrev pub row_of : (kind from : ℕ) → Command → (len : ℕ) → List ℕ
row_of kind from c len =
    kind
    ∷ (from + c.id.start)
    ∷ c.id.len
    ∷ (from + c.file_id.start)
    ∷ c.file_id.len
    ∷ from
    ∷ len
    ∷ []

-- a row where it fits, and else the numbers as before
unfoldable pub with_row : List ℕ → (row kind from : ℕ) → Command → (len : ℕ) → List ℕ
with_row events row kind from c len =
    cond (leb (row * 7 + 7) (length events)) (sets events (row * 7) (row_of kind from c len)) events

unfoldable pub start_noted : Command → (from rows : ℕ) → List ℕ → Outcome ℕ
start_noted c from rows events =
    cond (is_regular c.file_type) (outcome (rows + 1) (with_row events rows 1 from c 0)) (outcome rows events)

unfoldable pub part_noted : Place → Command → ℕ → List ℕ → ℕ → List ℕ → List ℕ → Noted
part_noted p c from scratch rows events bytes =
    let part = part_of scratch p.start p.len in
    noted (rows + 1) (with_row events rows 0 from c (length part)) (copy_at part bytes from).buffer

unfoldable pub ask_noted : Ask → Command → ℕ → List ℕ → ℕ → List ℕ → List ℕ → Noted
ask_noted Ask.Open c from scratch rows events bytes =
    let o = start_noted c from rows events in
    noted o.answer o.buffer bytes
ask_noted (Ask.Write p) c from scratch rows events bytes = part_noted p c from scratch rows events bytes
ask_noted (Ask.WriteLast p) c from scratch rows events bytes = part_noted p c from scratch rows events bytes
ask_noted Ask.Commit c from scratch rows events bytes = noted rows events bytes
ask_noted Ask.Request c from scratch rows events bytes = noted rows events bytes

unfoldable pub told_noted : Told → Command → ℕ → List ℕ → ℕ → List ℕ → List ℕ → Noted
told_noted Told.Nothing c from scratch rows events bytes = noted rows events bytes
told_noted (Told.Refused n) c from scratch rows events bytes = noted rows events bytes
told_noted Told.Ignored c from scratch rows events bytes = noted rows events bytes
told_noted Told.DragDrop c from scratch rows events bytes = noted rows events bytes
told_noted Told.Asked c from scratch rows events bytes = noted rows events bytes
told_noted Told.Naming c from scratch rows events bytes = noted rows events bytes
told_noted Told.Path c from scratch rows events bytes = noted rows events bytes
told_noted Told.LastPath c from scratch rows events bytes = noted rows events bytes
told_noted (Told.Ask a) c from scratch rows events bytes = ask_noted a c from scratch rows events bytes
told_noted (Told.Status w) c from scratch rows events bytes = noted rows events bytes
told_noted Told.Withdrawn c from scratch rows events bytes = noted rows events bytes
told_noted Told.Discarded c from scratch rows events bytes = noted rows events bytes
told_noted Told.Committed c from scratch rows events bytes = noted rows events bytes

-- ---- one turn
pub record Course : Type 0 where
  pub reached : Reached
  pub events : List ℕ
  pub bytes : List ℕ

abbrev pub course : Reached → List ℕ → List ℕ → Course
course r events bytes = record { reached = r; events = events; bytes = bytes }

-- nothing happens up to a place
abbrev pub past : Reached → ℕ → List ℕ → List ℕ → Course
past r to events bytes = course (record { at = to; rows = r.rows; table = r.table }) events bytes

unfoldable pub command_turn : Reached → Command → (from end : ℕ) → (text scratch events bytes : List ℕ) → Course
command_turn r c from end text scratch events bytes =
    let s = obey_of r.table c text scratch in
    let k = told_noted s.told c from scratch r.rows events bytes in
    course (record { at = end; rows = k.rows; table = answered_by s.table (id_in c text) s.told }) k.events k.bytes

-- by what reading the text answers, given the scratch afterwards
abbrev pub answer_turn : Reached → (from end : ℕ) → (text scratch events bytes : List ℕ) → Answer → Course
answer_turn r from end text scratch events bytes (Answer.read c) = command_turn r c from end text scratch events bytes
answer_turn r from end text scratch events bytes (Answer.refused n) = past r end events bytes

unfoldable pub text_turn : Reached → (start end : ℕ) → (recording scratch events bytes : List ℕ) → Course
text_turn r start end xs scratch events bytes =
    let t = text_between xs start end in
    let o = read_of t scratch in
    answer_turn r (start + 2) end t o.buffer events bytes o.answer

unfoldable pub turn_of : TextSight → Reached → (recording scratch events bytes : List ℕ) → Course
turn_of (TextSight.Outside to) r xs scratch events bytes = past r to events bytes
turn_of (TextSight.Text start end) r xs scratch events bytes = text_turn r start end xs scratch events bytes
turn_of (TextSight.Abandoned start end) r xs scratch events bytes = past r end events bytes

-- ---- the whole hearing
-- the first n numbers are the rows of what is heard; the parts lie apart in the bytes
pub record AllHeard (xs : List ℕ) (n : ℕ) (events bytes : List ℕ) : Type 0 where
  pub few : n ≤ length xs
  pub within : n ≤ length events
  pub heard : happenings_in xs bytes (take n events) ≡ heard_in xs
  pub apart : Apart 0 (length bytes) (take n events)
