-- Wrong hearers, each with one error. A law that held of one of them would be worth nothing; `HearerTeeth` says which law is false of it.
use Rattle.std.specs.Prelude.{ℕ, cond, ◌&&◌, ◌||◌, List, [], ◌∷◌, ◌++◌, eqb, Option, Some, None}
use Rattle.command.specs.Slots.{action_code}
use Rattle.protocol.specs.Table.{empty_table}
use Rattle.protocol.specs.Sessions.{string_in}
use Rattle.protocol.specs.Calls.{Acted}
use Rattle.protocol.specs.History.{Heard, hearing}
use Rattle.protocol.specs.declared.Table.{Table}
use Rattle.hearing.specs.Hearing.{Sighting, sightings_from, sightings_in, Happening, key_of, place_of, is_regular}
use Rattle.hearing.specs.Hearing.{act_of, heard_by, table_after}
use Rattle.hearing.specs.Laws.{Hearer, NamesPairs, MendedAlike, ReplayHears}
use Rattle.windows.specs.Laws.{MendedSame}
use Rattle.windows.specs.Compare.{compared}
use Rattle.recordings.specs.Pieces.{Piece, pieces_of}

-- a hearer by what it hears of each command, with the console's answers as they are
unfoldable pub hearing_by : (Sighting → Acted → List Happening) → Table → List Sighting → List Happening
hearing_by ear t [] = []
hearing_by ear t (x ∷ xs) = let a = act_of t x.text in ear x a ++ hearing_by ear (table_after x.text a) xs

abbrev pub with : (Sighting → Acted → List Happening) → Hearer
with ear xs = hearing_by ear empty_table (sightings_in xs)

abbrev pub start_of : Sighting → Acted → List Happening
start_of x a = Happening.starts (key_of x.text a.command) (place_of x.start a.command) ∷ []

abbrev pub part_of : Sighting → Acted → List ℕ → List Happening
part_of x a b = Happening.hands (key_of x.text a.command) b ∷ []

-- directories are taken for starts
abbrev pub every_open : Hearer
every_open = with (λ (x : Sighting) (a : Acted). ear x a (hearing a.step.told a.scratch))
  where
    ear : Sighting → Acted → Option Heard → List Happening
    ear x a None = []
    ear x a (Some Heard.opens) = start_of x a
    ear x a (Some (Heard.writes b)) = part_of x a b
    ear x a (Some (Heard.writes_last b)) = part_of x a b
    ear x a (Some Heard.commits) = []
    ear x a (Some Heard.requests) = []

-- starts are taken from the file commands read, parts from the data commands read, instead of from the asks told
abbrev pub files_read : Hearer
files_read =
    with (λ (x : Sighting) (a : Acted).
    cond (eqb (action_code a.command.action) 3 && is_regular a.command.file_type) (start_of x a) (heard_by x a))

abbrev pub data_read : Hearer
data_read =
    with (λ (x : Sighting) (a : Acted).
    cond (eqb (action_code a.command.action) 4 || eqb (action_code a.command.action) 5)
    (part_of x a (string_in a.scratch a.command.payload)) (heard_by x a))

-- nothing is heard
abbrev pub deaf : Hearer
deaf xs = []

-- what stands outside of commands is heard too
abbrev pub noise_too : Hearer
noise_too xs = Happening.hands (record { id = []; file = [] }) xs ∷ []

-- the places are those in the text instead of those in the recording
abbrev pub places_in_text : Hearer
places_in_text = with (λ (x : Sighting) (a : Acted). heard_by (record { start = 0; text = x.text }) a)

-- a refused text ends the recording
abbrev pub up_to_refused : Hearer
up_to_refused xs = hearing_by heard_by empty_table (sightings_from 0 (up_to (pieces_of xs)))
  where
    up_to : List Piece → List Piece
    up_to [] = []
    up_to (Piece.outside bs ∷ ps) = Piece.outside bs ∷ up_to ps
    up_to (Piece.kept f ∷ ps) = Piece.kept f ∷ up_to ps
    up_to (Piece.refused n bs ∷ ps) = []

pub record HearerTeeth : Type 0 where
  pub directories : ReplayHears every_open → ⊥
  pub files_not_started : ReplayHears files_read → ⊥
  pub data_not_asked : ReplayHears data_read → ⊥
  pub nothing_heard : ReplayHears deaf → ⊥
  pub noise_heard : MendedAlike noise_too → ⊥
  pub noise_ends : MendedAlike up_to_refused → ⊥
  pub noise_differs : MendedSame compared up_to_refused → ⊥
  pub elsewhere : NamesPairs places_in_text → ⊥
