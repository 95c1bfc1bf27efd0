-- The laws of hearing a recording, each of any hearer, so that it can be refuted of a wrong one.
use Rattle.std.specs.Prelude.{ℕ, ◌≡◌, true, false, cond, ◌&&◌, List, [], ◌∷◌, ◌++◌, map}
use Rattle.octets.specs.Slices.{part_of}
use Rattle.command.specs.Meaning.{id_of, file_id_of}
use Rattle.protocol.specs.History.{Command, Heard, Question, Mark, bytes_of, marks_of}
use Rattle.protocol.specs.Stretches.{Key, is_file, is_regular}
use Rattle.protocol.specs.Machine.{start}
use Rattle.protocol.specs.Replay.{Turn, replayed, Answerable}
use Rattle.recordings.specs.Pieces.{mended_of}
use Rattle.hearing.specs.Hearing.{Place, Happening}

abbrev pub Hearer : Type 0
Hearer = List ℕ → List Happening

-- places apart
abbrev pub nowhere : Place
nowhere = record { id = 0; id_len = 0; file = 0; file_len = 0 }

abbrev pub bare : Happening → Happening
bare (Happening.starts k p) = Happening.starts k nowhere
bare (Happening.hands k b) = Happening.hands k b

-- "So a row names its pair by bytes that the caller already has"
abbrev pub Named : List ℕ → Happening → Type 0
Named xs (Happening.starts k p) = (part_of xs p.id p.id_len ≡ k.id) × (part_of xs p.file p.file_len ≡ k.file)
Named xs (Happening.hands k b) = Unit {0}

abbrev pub AllNamed : List ℕ → List Happening → Type 0
AllNamed xs [] = Unit {0}
AllNamed xs (h ∷ hs) = Named xs h × AllNamed xs hs

abbrev pub NamesPairs : Hearer → Type 0
NamesPairs h = (xs : List ℕ) → AllNamed xs (h xs)

-- noise does not show: a recording and its mended form are heard alike
abbrev pub MendedAlike : Hearer → Type 0
MendedAlike h = (xs : List ℕ) → map bare (h (mended_of xs)) ≡ map bare (h xs)

-- ---- what is heard is what demand 3's history has
abbrev pub key_in : Command → Key
key_in c = record { id = id_of c; file = file_id_of c }

-- an ask that was answered done: "A regular file starts when the open for its file command is answered done"
abbrev pub happened_by : Question → List Happening
happened_by Question.none = []
happened_by (Question.asks c Heard.opens) = cond (is_file c && is_regular c) (Happening.starts (key_in c) nowhere ∷ []) []
happened_by (Question.asks c (Heard.writes p)) = Happening.hands (key_in c) p ∷ []
happened_by (Question.asks c (Heard.writes_last p)) = Happening.hands (key_in c) p ∷ []
happened_by (Question.asks c Heard.commits) = []
happened_by (Question.asks c Heard.requests) = []

-- the marks are newest first
abbrev pub happened_in : List Mark → List Happening
happened_in [] = []
happened_in (Mark.read c ∷ m) = happened_in m
happened_in (Mark.asked a ∷ m) = happened_in m
happened_in (Mark.allow i ∷ m) = happened_in m
happened_in (Mark.drop i ∷ m) = happened_in m
happened_in (Mark.answer false q ∷ m) = happened_in m
happened_in (Mark.answer true q ∷ m) = happened_in m ++ happened_by q
happened_in (Mark.wrote p bs ∷ m) = happened_in m

-- "with the console answers as the replay program gives them": from a fresh receiver and any first carry, whatever pieces and buffers
-- the replay has
abbrev pub ReplayHears : Hearer → Type 0
ReplayHears h = (carry : List ℕ) (turns : List Turn) → Answerable turns → let history = (replayed (start carry) turns).history in
    happened_in (marks_of history) ≡ map bare (h (bytes_of history))

-- and no other hearer, places apart, is heard so
abbrev pub OneHearer : Hearer → Type 0
OneHearer h = (g : Hearer) → ReplayHears g → (xs : List ℕ) → map bare (g xs) ≡ map bare (h xs)
