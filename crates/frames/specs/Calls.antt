-- One call on a piece with a carry: its answer and the carry afterwards; and the text of its report.
use Rattle.std.specs.Prelude.{cond, ℕ, ◌-◌, List, [], length, ltb, leb}
use Rattle.octets.specs.Outcome.{Outcome, outcome}
use Rattle.octets.specs.Slices.{part_of}
use Rattle.frames.specs.Stream.{text_limit}
use Rattle.frames.specs.Framings.{capped_of}
use Rattle.frames.specs.Steps.{framing_after, end_of, walk_from}
use Rattle.frames.specs.Carry.{held_of, left_of}
use Rattle.frames.specs.declared.Framing.{Framing}
use Rattle.frames.specs.declared.step.Event.{Event}
use Rattle.frames.specs.declared.step.Event.TheVariants.{On, Closed, Abandoned}
use Rattle.frames.specs.declared.walk.Walked.{Walked}
use Rattle.frames.specs.declared.Report.{Report}
use Rattle.frames.specs.declared.Scanned.{Scanned}

-- document 01's number of the refusal that a report is, 0 for none
abbrev pub refusal_number : Report → ℕ
refusal_number Report.Nothing = 0
refusal_number (Report.InPiece start n) = 0
refusal_number (Report.InCarry n) = 0
refusal_number Report.TooLong = 1
refusal_number Report.Abandoned = 2
refusal_number Report.ShortCarry = 9

-- the place of a command text of n bytes that is closed at byte u: "a part of the piece if its text and its closer lie wholly in
-- that piece, otherwise .. a part of the carry"
abbrev pub place_of : ℕ → ℕ → Report
place_of u n = cond (leb n (end_of u)) (Report.InPiece (end_of u - n) n) (Report.InCarry n)

-- what is reported at byte u
unfoldable pub report_of : Event → ℕ → Report
report_of (On g) u = Report.Nothing
report_of (Closed n) u = cond (leb n text_limit) (place_of u n) Report.TooLong
report_of (Abandoned n g) u = Report.Abandoned

-- the answer for a walk
abbrev pub scanned_of : Walked → Scanned
scanned_of w = record { consumed = w.used; framing = capped_of (framing_after w.event); report = report_of w.event w.used }

-- a call that is not refused, given its walk
abbrev pub walked_call : Walked → List ℕ → List ℕ → Outcome Scanned
walked_call w xs c = outcome (scanned_of w) (left_of c xs (held_of w.event w.used))

abbrev pub taken_of : Framing → List ℕ → List ℕ → Outcome Scanned
taken_of f xs c = walked_call (walk_from (capped_of f) 0 xs) xs c

-- one call on the piece xs with the carry c. Refusal 9: "nothing consumed, all memory as before".
unfoldable pub scan_of : Framing → List ℕ → List ℕ → Outcome Scanned
scan_of f xs c =
    cond (ltb (length c) text_limit)
    (outcome (record { consumed = 0; framing = f; report = Report.ShortCarry }) c)
    (taken_of f xs c)

-- the text of a report, given the piece xs and the carry c of its call; "where the report's place passes the end of that buffer, it
-- is empty"
unfoldable pub text_of : List ℕ → List ℕ → Report → List ℕ
text_of xs c Report.Nothing = []
text_of xs c (Report.InPiece start n) = part_of xs start n
text_of xs c (Report.InCarry n) = part_of c 0 n
text_of xs c Report.TooLong = []
text_of xs c Report.Abandoned = []
text_of xs c Report.ShortCarry = []
