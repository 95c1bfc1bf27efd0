-- What the functions under `mend` answer: what stands next in a recording, one turn of the walk over it, and the whole walk.
use Rattle.std.specs.Prelude.{ℕ, ◌+◌, ◌-◌, ◌*◌, ◌≤◌, ◌≡◌, cond, List, [], ◌∷◌, length, take, drop, get_or, ltb, leb, eqb}
use Rattle.std.specs.Prelude.{Option, Some, None}
use Rattle.std.proofs.lemmas.List.Edits.{sets}
use Rattle.octets.specs.Search.{index_of}
use Rattle.octets.specs.Outcome.{Outcome, outcome}
use Rattle.octets.specs.Slices.{part_of, copy_at}
use Rattle.frames.specs.Stream.{is_command}
use Rattle.command.specs.Meaning.{Meaning, meaning_of}
use Rattle.recordings.specs.Pieces.{pieces_of, dropped, mended_of, list_of}
use Rattle.command.specs.Refusals as Refusals
use Rattle.recordings.specs.declared.sights.Sight.{Sight}
use Rattle.recordings.specs.declared.sights.Fault.{Fault}
use Rattle.recordings.specs.declared.walk.Tally.{Tally}

-- ---- what stands next from a place outside texts
-- bytes outside a command up to a place; or, from a place up to another, a frame to keep, or a command that is refused with a number
pub data Seen : Type 0 where
  outside : ℕ → Seen
  keeps : ℕ → ℕ → Seen
  refuses : ℕ → ℕ → ℕ → Seen

abbrev pub fault_number : Fault → ℕ
fault_number Fault.Abandoned = 2
fault_number (Fault.Refused r) = Refusals.refusal_number r

-- the code's sight, a fault by its number
abbrev pub seen : Sight → Seen
seen (Sight.Outside to) = Seen.outside to
seen (Sight.Kept start end) = Seen.keeps start end
seen (Sight.Faulty start end fault) = Seen.refuses start end (fault_number fault)

-- where the next 1B stands; the end where there is none
abbrev pub next_escape : List ℕ → ℕ → ℕ
next_escape xs at = at + index_of 0x1B (drop at xs)

abbrev pub meant : Meaning → ℕ → ℕ → Seen
meant (Meaning.command vs) start end = Seen.keeps start end
meant (Meaning.refused n) start end = Seen.refuses start end n

-- a text with its closer, and one without; its piece lies from a place up to another
unfoldable pub closed_of : List ℕ → ℕ → ℕ → Seen
closed_of t start end = cond (is_command t) (meant (meaning_of t) start end) (Seen.outside end)

unfoldable pub abandoned_of : List ℕ → ℕ → ℕ → Seen
abandoned_of t start end = cond (is_command t) (Seen.refuses start end 2) (Seen.outside end)

-- the text whose opener is at place `start`: it ends at the next 1B, as the byte after that says
unfoldable pub text_at : List ℕ → ℕ → ℕ → Seen
text_at xs start end =
    let t = take (end - (start + 2)) (drop (start + 2) xs) in
    cond (leb (end + 2) (length xs))
    (cond (eqb (get_or xs (end + 1) 0) 0x5C) (closed_of t start (end + 2)) (abandoned_of t start end))
    (Seen.outside (length xs))

-- after the next 1B: an opener's, or one outside texts; nothing ends a text that is open at the end
unfoldable pub escape_at : List ℕ → ℕ → Seen
escape_at xs i =
    cond (leb (i + 2) (length xs))
    (cond (eqb (get_or xs (i + 1) 0) 0x5D) (text_at xs i (next_escape xs (i + 2))) (Seen.outside (i + 1)))
    (Seen.outside (length xs))

-- ---- one turn
-- why a stretch is dropped, as the list has it: 0 outside a command
abbrev pub why_number : Option Fault → ℕ
why_number None = 0
why_number (Some fault) = fault_number fault

-- a row of the list where it fits, and else the list as before
unfoldable pub with_row : List ℕ → ℕ → ℕ → ℕ → ℕ → List ℕ
with_row list row start len why = cond (leb (row * 3 + 3) (length list)) (sets list (row * 3) (start ∷ len ∷ why ∷ [])) list

abbrev pub tallied : ℕ → ℕ → ℕ → Tally
tallied to kept rows = record { at = to; mark = to; kept = kept; rows = rows }

-- the stretch outside a command from the mark up to a place, if it is not empty
unfoldable pub outside_to : Tally → ℕ → List ℕ → Outcome Tally
outside_to t to list =
    cond (ltb t.mark to)
    (outcome (tallied to t.kept (t.rows + 1)) (with_row list t.rows t.mark (to - t.mark) 0))
    (outcome (tallied to t.kept t.rows) list)

-- a refused stretch, from the mark up to a place
unfoldable pub refused_to : Tally → ℕ → ℕ → List ℕ → Outcome Tally
refused_to t to why list = outcome (tallied to t.kept (t.rows + 1)) (with_row list t.rows t.mark (to - t.mark) why)

-- a frame that is kept, from the mark up to a place, stored where it fits
unfoldable pub kept_to : Tally → ℕ → List ℕ → List ℕ → Outcome Tally
kept_to t to xs out =
    let f = part_of xs t.mark (to - t.mark) in
    outcome (tallied to (t.kept + length f) t.rows) (copy_at f out t.kept).buffer

pub record Walk : Type 0 where
  pub tally : Tally
  pub output : List ℕ
  pub list : List ℕ

abbrev pub walk : Tally → List ℕ → List ℕ → Walk
walk t out list = record { tally = t; output = out; list = list }

unfoldable pub turn_of : Seen → Tally → List ℕ → List ℕ → List ℕ → Walk
turn_of (Seen.outside to) t xs out list = walk (record { at = to; mark = t.mark; kept = t.kept; rows = t.rows }) out list
turn_of (Seen.keeps start end) t xs out list =
    let before = outside_to t start list in
    let frame = kept_to before.answer end xs out in
    walk frame.answer frame.buffer before.buffer
turn_of (Seen.refuses start end why) t xs out list =
    let before = outside_to t start list in
    let stretch = refused_to before.answer end why before.buffer in
    walk stretch.answer out stretch.buffer

-- ---- the whole walk
-- the tally is right in any case; a buffer with room for its part holds it
pub record Walked (xs out list : List ℕ) (w : Walk) : Type 0 where
  pub kept : w.tally.kept ≡ length (mended_of xs)
  pub rows : w.tally.rows ≡ dropped (pieces_of xs)
  pub stored : length (mended_of xs) ≤ length out → w.output ≡ sets out 0 (mended_of xs)
  pub listed : length (list_of xs) ≤ length list → w.list ≡ sets list 0 (list_of xs)
