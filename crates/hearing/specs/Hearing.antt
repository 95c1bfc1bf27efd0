-- One recording as the console of `replay` hears it: which files start, and which parts are handed over.
use Rattle.std.specs.Prelude.{ℕ, ◌+◌, Bool, true, false, cond, List, [], ◌∷◌, ◌++◌, length, replicate}
use Rattle.octets.specs.Slices.{part_of}
use Rattle.command.specs.Read.{scratch_room, read_of}
use Rattle.command.specs.declared.Command.{Command}
use Rattle.command.specs.declared.FileType.{FileType}
use Rattle.protocol.specs.Table.{empty_table}
use Rattle.protocol.specs.Sessions.{id_in, file_id_in, settle_done, decided_of}
use Rattle.protocol.specs.Calls.{Acted, read_act}
use Rattle.protocol.specs.Stretches.{Key}
use Rattle.protocol.specs.declared.Table.{Table}
use Rattle.protocol.specs.declared.Ask.{Ask}
use Rattle.protocol.specs.declared.Told.{Told}
use Rattle.protocol.specs.declared.Decision.TheVariants as Decision
use Rattle.recordings.specs.Pieces.{Piece, pieces_of}
use Rattle.recordings.specs.Laws.{text_in}

-- ---- the commands of a recording
-- where a command's text starts, and the text
pub record Sighting : Type 0 where
  pub start : ℕ
  pub text : List ℕ

-- those that read without refusal, with their places: order 9's kept frames. "Refused texts do nothing", nor does what is outside.
unfoldable pub sightings_from : ℕ → List Piece → List Sighting
sightings_from at [] = []
sightings_from at (Piece.outside bs ∷ ps) = sightings_from (at + length bs) ps
sightings_from at (Piece.kept f ∷ ps) = record { start = at + 2; text = text_in f } ∷ sightings_from (at + length f) ps
sightings_from at (Piece.refused n bs ∷ ps) = sightings_from (at + length bs) ps

abbrev pub sightings_in : List ℕ → List Sighting
sightings_in recording = sightings_from 0 (pieces_of recording)

-- ---- what the console hears
-- where a session's id and a file's id stand in a recording
pub record Place : Type 0 where
  pub id : ℕ
  pub id_len : ℕ
  pub file : ℕ
  pub file_len : ℕ

-- "A regular file starts when the open for its file command is answered done"; "A write asked hands over its part"
pub data Happening : Type 0 where
  starts : Key → Place → Happening
  hands : Key → List ℕ → Happening

abbrev pub key_of : List ℕ → Command → Key
key_of text c = record { id = id_in c text; file = file_id_in c text }

abbrev pub place_of : ℕ → Command → Place
place_of start c =
    record {
      id = start + c.id.start;
      id_len = c.id.len;
      file = start + c.file_id.start;
      file_len = c.file_id.len;
    }

-- a directory has no start
abbrev pub is_regular : FileType → Bool
is_regular FileType.Regular = true
is_regular FileType.Directory = false
is_regular FileType.Symlink = false
is_regular FileType.Link = false

-- by what is asked for a command, whose ids stand in the text and whose part in the scratch
abbrev pub heard_ask : Sighting → Command → List ℕ → Ask → List Happening
heard_ask x c scratch Ask.Open = cond (is_regular c.file_type) (Happening.starts (key_of x.text c) (place_of x.start c) ∷ []) []
heard_ask x c scratch (Ask.Write p) = Happening.hands (key_of x.text c) (part_of scratch p.start p.len) ∷ []
heard_ask x c scratch (Ask.WriteLast p) = Happening.hands (key_of x.text c) (part_of scratch p.start p.len) ∷ []
heard_ask x c scratch Ask.Commit = []
heard_ask x c scratch Ask.Request = []

abbrev pub heard_told : Sighting → Command → List ℕ → Told → List Happening
heard_told x c scratch Told.Nothing = []
heard_told x c scratch (Told.Refused n) = []
heard_told x c scratch Told.Ignored = []
heard_told x c scratch Told.DragDrop = []
heard_told x c scratch Told.Asked = []
heard_told x c scratch Told.Naming = []
heard_told x c scratch Told.Path = []
heard_told x c scratch Told.LastPath = []
heard_told x c scratch (Told.Ask a) = heard_ask x c scratch a
heard_told x c scratch (Told.Status w) = []
heard_told x c scratch Told.Withdrawn = []
heard_told x c scratch Told.Discarded = []
heard_told x c scratch Told.Committed = []

-- "with the console answers as the replay program gives them": a session that waits is allowed, an ask is answered done
abbrev pub answered_by : Table → List ℕ → Told → Table
answered_by t id Told.Nothing = t
answered_by t id (Told.Refused n) = t
answered_by t id Told.Ignored = t
answered_by t id Told.DragDrop = t
answered_by t id Told.Asked = (decided_of t Decision.Allow id).table
answered_by t id Told.Naming = t
answered_by t id Told.Path = t
answered_by t id Told.LastPath = (decided_of t Decision.Allow id).table
answered_by t id (Told.Ask a) = (settle_done t).table
answered_by t id (Told.Status w) = t
answered_by t id Told.Withdrawn = t
answered_by t id Told.Discarded = t
answered_by t id Told.Committed = t

-- ---- one command after another
-- what a feed of the text does; what the scratch held before does not matter
abbrev pub act_of : Table → List ℕ → Acted
act_of t text = read_act t text (read_of text (replicate scratch_room 0))

abbrev pub heard_by : Sighting → Acted → List Happening
heard_by x a = heard_told x a.command a.scratch a.step.told

abbrev pub table_after : List ℕ → Acted → Table
table_after text a = answered_by a.step.table (id_in a.command text) a.step.told

unfoldable pub heard_from : Table → List Sighting → List Happening
heard_from t [] = []
heard_from t (x ∷ xs) = let a = act_of t x.text in heard_by x a ++ heard_from (table_after x.text a) xs

-- "Each is read by its own fresh receiver"
abbrev pub heard_in : List ℕ → List Happening
heard_in recording = heard_from empty_table (sightings_in recording)
