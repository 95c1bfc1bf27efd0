-- Wrong menders, most made by changing the pieces of ours, each with one error. A law that held of one of them would be worth nothing;
-- `MendTeeth` says that the laws are false of them.
use Rattle.std.specs.Prelude.{◌-◌, List, [], ◌∷◌, ◌++◌, length, take, drop}
use Rattle.frames.specs.Stream.{Mode}
use Rattle.recordings.specs.Pieces.{Piece, cut, outside_first, joined, pieces_of}
use Rattle.recordings.specs.Laws.{Mender, Covers, ListsTheRest, SameCommands, DropsNothingTwice, Settles, Reports, FewRows}

abbrev pub each : (Piece → List Piece) → List Piece → List Piece
each f [] = []
each f (p ∷ ps) = f p ++ each f ps

-- what stands outside is neither kept nor listed
abbrev pub forgetting : Mender
forgetting xs = each forgets (pieces_of xs)
  where
    forgets : Piece → List Piece
    forgets (Piece.outside bs) = []
    forgets (Piece.kept f) = Piece.kept f ∷ []
    forgets (Piece.refused n bs) = Piece.refused n bs ∷ []

-- everything is dropped, and everything is kept
abbrev pub dropping_all : Mender
dropping_all xs = outside_first xs []

abbrev pub keeping_all : Mender
keeping_all xs = Piece.kept xs ∷ []

-- a frame is kept without its opener
abbrev pub openerless : Mender
openerless xs = each opens (pieces_of xs)
  where
    opens : Piece → List Piece
    opens (Piece.outside bs) = Piece.outside bs ∷ []
    opens (Piece.kept f) = Piece.outside (take 2 f) ∷ Piece.kept (drop 2 f) ∷ []
    opens (Piece.refused n bs) = Piece.refused n bs ∷ []

-- the first frame is dropped
abbrev pub first_dropped : Mender
first_dropped xs = go (pieces_of xs)
  where
    go : List Piece → List Piece
    go [] = []
    go (Piece.outside bs ∷ ps) = Piece.outside bs ∷ go ps
    go (Piece.kept f ∷ ps) = Piece.outside f ∷ ps
    go (Piece.refused n bs ∷ ps) = Piece.refused n bs ∷ go ps

-- stretches outside a command are not joined
abbrev pub unjoined : Mender
unjoined xs = cut Mode.outside xs

-- a stretch of refusal 2 has the 1B that abandons it
abbrev pub escape_too : Mender
escape_too xs = go (pieces_of xs)
  where
    go : List Piece → List Piece
    go [] = []
    go (Piece.outside bs ∷ ps) = Piece.outside bs ∷ go ps
    go (Piece.kept f ∷ ps) = Piece.kept f ∷ go ps
    go (Piece.refused n bs ∷ []) = Piece.refused n bs ∷ []
    go (Piece.refused n bs ∷ Piece.outside cs ∷ ps) = Piece.refused n (bs ++ take 1 cs) ∷ Piece.outside (drop 1 cs) ∷ go ps
    go (Piece.refused n bs ∷ Piece.kept f ∷ ps) = Piece.refused n bs ∷ Piece.kept f ∷ go ps
    go (Piece.refused n bs ∷ Piece.refused k cs ∷ ps) = Piece.refused n bs ∷ Piece.refused k cs ∷ go ps

-- a refused frame's stretch lacks its closer
abbrev pub closerless : Mender
closerless xs = each closes (pieces_of xs)
  where
    closes : Piece → List Piece
    closes (Piece.outside bs) = Piece.outside bs ∷ []
    closes (Piece.kept f) = Piece.kept f ∷ []
    closes (Piece.refused n bs) = Piece.refused n (take (length bs - 2) bs) ∷ Piece.outside (drop (length bs - 2) bs) ∷ []

-- refused commands are listed as outside
abbrev pub hiding : Mender
hiding xs = joined [] (each hides (pieces_of xs))
  where
    hides : Piece → List Piece
    hides (Piece.outside bs) = Piece.outside bs ∷ []
    hides (Piece.kept f) = Piece.kept f ∷ []
    hides (Piece.refused n bs) = Piece.outside bs ∷ []

-- what is unfinished at the end is listed as refusal 2
abbrev pub impatient : Mender
impatient xs = go (pieces_of xs)
  where
    go : List Piece → List Piece
    go [] = []
    go (Piece.outside bs ∷ []) = Piece.refused 2 bs ∷ []
    go (Piece.outside bs ∷ p ∷ ps) = Piece.outside bs ∷ go (p ∷ ps)
    go (Piece.kept f ∷ ps) = Piece.kept f ∷ go ps
    go (Piece.refused n bs ∷ ps) = Piece.refused n bs ∷ go ps

pub record MendTeeth : Type 0 where
  pub bytes_forgotten : Covers forgetting → ⊥
  pub rows_forgotten : ListsTheRest forgetting → ⊥
  pub all_dropped : SameCommands dropping_all → ⊥
  pub all_kept : SameCommands keeping_all → ⊥
  pub without_opener : SameCommands openerless → ⊥
  pub fewer_each_time : DropsNothingTwice first_dropped → ⊥
  pub not_joined : Settles unjoined → ⊥
  pub with_its_escape : Settles escape_too → ⊥
  pub without_its_closer : Settles closerless → ⊥
  pub refused_hidden : Reports hiding → ⊥
  pub unfinished_refused : Reports impatient → ⊥
  pub many_rows : FewRows unjoined → ⊥
