-- What the functions under `compare` answer: what a row gives, one turn of the walk over the rows, and lines stored.
use Rattle.std.specs.Prelude.{ℕ, ◌+◌, ◌*◌, ◌≤◌, ◌≡◌, Bool, false, cond, List, [], ◌++◌, length, take, drop, get_or, leb, ltb, eqb}
use Rattle.std.specs.Prelude.{Option, Some, None, Result, Ok, Err}
use Rattle.std.proofs.lemmas.List.Edits.{sets}
use Rattle.octets.specs.Outcome.{Outcome, outcome}
use Rattle.octets.specs.Slices.{part_of}
use Rattle.protocol.specs.Stretches.{Key}
use Rattle.recordings.specs.Mend.{recording_limit}
use Rattle.hearing.specs.Hearing.{Place, heard_in}
use Rattle.windows.specs.Compare.{contents_of, starts_of, same_key, Start, Verdict, against}
use Rattle.windows.specs.Compare.{Line, compared, numbers_of, listed}
use Rattle.windows.specs.Ranks.{count_of, nth, first_lines, second_lines}
use Rattle.hearing.specs.Rows.{happenings_in, Apart}
use Rattle.hearing.specs.declared.row.Row.{Row}
use Rattle.recordings.specs.declared.Refusal.{Refusal}
use Rattle.windows.specs.declared.line.Judgement.{Judgement}
use Rattle.windows.specs.declared.line.Line.{Line as WrittenLine}
use Rattle.windows.specs.declared.side.Pair.{Pair}
use Rattle.windows.specs.declared.side.Side.{Side as LentSide}

-- a recording as it was heard
pub record Side : Type 0 where
  pub recording : List ℕ
  pub parts : List ℕ
  pub numbers : List ℕ

abbrev pub side : (recording parts numbers : List ℕ) → Side
side recording parts numbers = record { recording = recording; parts = parts; numbers = numbers }

abbrev pub heard : LentSide → Side
heard s = side s.recording.now s.bytes.now s.events.now

abbrev pub heard_before : Side → ℕ → Side
heard_before s at = side s.recording s.parts (take at s.numbers)

-- what is left of its starts from a place on
abbrev pub starts_from : Side → ℕ → List Start
starts_from s at = starts_of (happenings_in s.recording s.parts (drop at s.numbers))

abbrev pub starts_in : Side → List Start
starts_in s = starts_of (happenings_in s.recording s.parts s.numbers)

-- it has few rows, its parts lie one after another, and there is room for all of them joined
pub record Laid (s : Side) (room : ℕ) : Type 0 where
  pub few : length s.numbers ≤ recording_limit
  pub apart : Apart 0 (length s.parts) s.numbers
  pub fits : length s.parts ≤ room

-- ---- the row at a place
abbrev pub key_with : (id file : List ℕ) → Key
key_with id file = record { id = id; file = file }

abbrev pub key_of : Pair → Key
key_of p = key_with p.id.now p.file.now

abbrev pub id_at : (recording numbers : List ℕ) → ℕ → List ℕ
id_at recording numbers at = part_of recording (get_or numbers (at + 1) 0) (get_or numbers (at + 2) 0)

abbrev pub file_at : (recording numbers : List ℕ) → ℕ → List ℕ
file_at recording numbers at = part_of recording (get_or numbers (at + 3) 0) (get_or numbers (at + 4) 0)

abbrev pub key_at : (recording numbers : List ℕ) → ℕ → Key
key_at recording numbers at = key_with (id_at recording numbers at) (file_at recording numbers at)

-- whether it is a start of a pair
abbrev pub starts_at : (recording numbers : List ℕ) → ℕ → Key → Bool
starts_at recording numbers at k = cond (eqb (get_or numbers at 0) 0) false (same_key k (key_at recording numbers at))

abbrev pub place_at : (numbers : List ℕ) → ℕ → Place
place_at numbers at =
    record {
      id = get_or numbers (at + 1) 0;
      id_len = get_or numbers (at + 2) 0;
      file = get_or numbers (at + 3) 0;
      file_len = get_or numbers (at + 4) 0;
    }

-- the start of a pair that stands there, if it is one
abbrev pub start_at : Side → ℕ → Start
start_at s at =
    let key = key_at s.recording s.numbers at in
    record {
      key = key;
      place = place_at s.numbers at;
      contents = contents_of key (happenings_in s.recording s.parts (drop (at + 7) s.numbers));
    }

-- a row that was looked for, by how many rows stand before it
abbrev pub found_at : Side → Option ℕ → Option Start
found_at s None = None
found_at s (Some row) = Some (start_at s (row * 7))

abbrev pub IsRow : Side → Option ℕ → Type 0
IsRow s None = Unit {0}
IsRow s (Some row) = row * 7 + 7 ≤ length s.numbers

-- ---- the line of a row
-- how many starts of its pair stand before it
abbrev pub rank_at : Side → ℕ → ℕ
rank_at s at = count_of (key_at s.recording s.numbers at) (starts_of (happenings_in s.recording s.parts (take at s.numbers)))

abbrev pub partner_of : (first second : Side) → ℕ → Option Start
partner_of first second at = nth (key_at first.recording first.numbers at) (rank_at first at) (starts_in second)

abbrev pub first_line : (first second : Side) → ℕ → Line
first_line first second at = record { verdict = against (start_at first at) (partner_of first second at); start = start_at first at }

-- whether only the second has it
abbrev pub is_left : (first second : Side) → ℕ → Bool
is_left first second at = leb (count_of (key_at second.recording second.numbers at) (starts_in first)) (rank_at second at)

abbrev pub second_line : Side → ℕ → Line
second_line second at = record { verdict = Verdict.only_second; start = start_at second at }

abbrev pub judged : Verdict → Judgement
judged Verdict.only_first = Judgement.OnlyFirst
judged Verdict.only_second = Judgement.OnlySecond
judged Verdict.same = Judgement.Same
judged (Verdict.different n) = Judgement.Different n

-- ---- lines stored
abbrev pub line_with : Judgement → Row → WrittenLine
line_with j r = record { found = j; id = r.id; file_id = r.file_id }

-- a line where it fits, and else the list as before
unfoldable pub with_line : List ℕ → ℕ → Line → List ℕ
with_line list row line = cond (leb (row * 6 + 6) (length list)) (sets list (row * 6) (numbers_of line)) list

-- past a row: the number of lines, and the list
unfoldable pub first_row : (first second : Side) → ℕ → (list : List ℕ) → ℕ → Outcome ℕ
first_row first second at list row =
    cond (eqb (get_or first.numbers at 0) 0) (outcome row list) (outcome (row + 1) (with_line list row (first_line first second at)))

unfoldable pub second_row : (first second : Side) → ℕ → (list : List ℕ) → ℕ → Outcome ℕ
second_row first second at list row =
    cond (eqb (get_or second.numbers at 0) 0) (outcome row list)
    (cond (is_left first second at) (outcome (row + 1) (with_line list row (second_line second at))) (outcome row list))

-- lines are stored from a row on: their number is right in any case, and a list with room for them holds them
pub record Writes (lines : List Line) (row₀ : ℕ) (list₀ : List ℕ) (row : ℕ) (list : List ℕ) : Type 0 where
  pub rows : row ≡ row₀ + length lines
  pub size : length list ≡ length list₀
  pub stored : row * 6 ≤ length list₀ → list ≡ sets list₀ (row₀ * 6) (listed lines)

-- the lines of both
abbrev pub lines_between : (first second : Side) → List Line
lines_between first second =
    first_lines [] (starts_in first) (starts_in second) ++ second_lines [] (starts_in second) (starts_in first)

-- "no room for the list: 9; nothing written"
unfoldable pub listed_in : List Line → (list : List ℕ) → Outcome (Result ℕ Refusal)
listed_in lines list =
    cond (ltb (length list) (length (listed lines))) (outcome (Err Refusal.NoRoom) list)
    (outcome (Ok (length lines)) (sets list 0 (listed lines)))

-- the second's refusal, or the lines of both, once the first was heard
unfoldable pub beside_of : (first : Side) (second list : List ℕ) → Outcome (Result ℕ Refusal)
beside_of first ys list =
    cond (ltb recording_limit (length ys)) (outcome (Err Refusal.TooLong) list)
    (listed_in (compared (starts_in first) (starts_of (heard_in ys))) list)
