-- A line of the list as the code has it, and the six numbers that it is written as and read from.
use Rattle.std.specs.Prelude.{ℕ, ◌≡◌, cond, List, [], ◌∷◌, get_or, eqb}
use Rattle.hearing.specs.Rows.{place}
use Rattle.windows.specs.declared.line.Judgement.{Judgement}
use Rattle.windows.specs.declared.line.Line.{Line}

abbrev pub judgement_number : Judgement → ℕ
judgement_number Judgement.OnlyFirst = 1
judgement_number Judgement.OnlySecond = 2
judgement_number Judgement.Same = 3
judgement_number (Judgement.Different n) = 4

abbrev pub judgement_offset : Judgement → ℕ
judgement_offset Judgement.OnlyFirst = 0
judgement_offset Judgement.OnlySecond = 0
judgement_offset Judgement.Same = 0
judgement_offset (Judgement.Different n) = n

abbrev pub line_numbers : Line → List ℕ
line_numbers l =
    judgement_number l.found
    ∷ judgement_offset l.found
    ∷ l.id.start
    ∷ l.id.len
    ∷ l.file_id.start
    ∷ l.file_id.len
    ∷ []

-- ---- read
abbrev pub judgement_of : (number offset : ℕ) → Judgement
judgement_of number offset =
    cond (eqb number 1) Judgement.OnlyFirst
    (cond (eqb number 2) Judgement.OnlySecond
    (cond (eqb number 3) Judgement.Same (Judgement.Different offset)))

abbrev pub line_in : (numbers : List ℕ) → Line
line_in numbers =
    record {
      found = judgement_of (get_or numbers 0 0) (get_or numbers 1 0);
      id = place (get_or numbers 2 0) (get_or numbers 3 0);
      file_id = place (get_or numbers 4 0) (get_or numbers 5 0);
    }

-- what a line is written as is read as that line
abbrev pub WrittenReads : Type 0
WrittenReads = (l : Line) → line_in (line_numbers l) ≡ l
