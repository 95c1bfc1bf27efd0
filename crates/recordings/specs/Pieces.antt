-- A recording cut into pieces: what of it is kept, what is dropped, and why.
use Rattle.std.specs.Prelude.{ℕ, suc, ◌+◌, cond, List, [], ◌∷◌, ◌++◌, length, eqb}
use Rattle.frames.specs.Stream.{Mode, is_command, read_byte, framed}
use Rattle.command.specs.Meaning.{Meaning, meaning_of}

-- bytes outside a command; a command frame that is kept; a command that is refused, with the refusal's number
pub data Piece : Type 0 where
  outside : List ℕ → Piece
  kept : List ℕ → Piece
  refused : ℕ → List ℕ → Piece

-- ---- a text
abbrev pub opened : List ℕ → List ℕ
opened t = 0x1B ∷ 0x5D ∷ t

-- "every command frame that reads without refusal" is kept
abbrev pub by_meaning : Meaning → List ℕ → Piece
by_meaning (Meaning.command vs) f = Piece.kept f
by_meaning (Meaning.refused n) f = Piece.refused n f

-- a text that was closed, with its opener and its closer
abbrev pub closed_piece : List ℕ → Piece
closed_piece t = cond (is_command t) (by_meaning (meaning_of t) (framed t)) (Piece.outside (framed t))

-- "A stretch of refusal 2 runs from its opener up to, not with, the 1B that abandons it"; an over-long text too gives 2
abbrev pub abandoned_piece : List ℕ → Piece
abandoned_piece t = cond (is_command t) (Piece.refused 2 (opened t)) (Piece.outside (opened t))

-- ---- the bytes one after another, in document 01's modes
-- the byte after a 1B that closes nothing: 5D opens a text with it; a 1B leaves it outside; any other byte is outside with it
abbrev pub after_escape : ℕ → List Piece
after_escape b = cond (eqb b 0x5D) [] (cond (eqb b 0x1B) (Piece.outside (0x1B ∷ []) ∷ []) (Piece.outside (0x1B ∷ b ∷ []) ∷ []))

-- the pieces that a byte completes
unfoldable pub completed : Mode → ℕ → List Piece
completed Mode.outside b = cond (eqb b 0x1B) [] (Piece.outside (b ∷ []) ∷ [])
completed Mode.escape b = after_escape b
completed (Mode.inside t) b = []
completed (Mode.inside_escape t) b = cond (eqb b 0x5C) (closed_piece t ∷ []) (abandoned_piece t ∷ after_escape b)

-- the bytes that were read and are in no piece yet
abbrev pub held : Mode → List ℕ
held Mode.outside = []
held Mode.escape = 0x1B ∷ []
held (Mode.inside t) = opened t
held (Mode.inside_escape t) = opened (t ++ 0x1B ∷ [])

-- "a command unfinished at the end counts as outside"
unfoldable pub cut : Mode → List ℕ → List Piece
cut m [] = Piece.outside (held m) ∷ []
cut m (b ∷ bs) = completed m b ++ cut (read_byte m b).1 bs

-- ---- joined
abbrev pub outside_first : List ℕ → List Piece → List Piece
outside_first [] ps = ps
outside_first (b ∷ bs) ps = Piece.outside (b ∷ bs) ∷ ps

-- "Neighbouring stretches outside a command are joined, others not"; p is what stands outside just before
unfoldable pub joined : List ℕ → List Piece → List Piece
joined p [] = outside_first p []
joined p (Piece.outside bs ∷ ps) = joined (p ++ bs) ps
joined p (Piece.kept f ∷ ps) = outside_first p (Piece.kept f ∷ joined [] ps)
joined p (Piece.refused n bs ∷ ps) = outside_first p (Piece.refused n bs ∷ joined [] ps)

-- the pieces of a recording, of which p stands before and is outside
abbrev pub pieces_after : List ℕ → List ℕ → List Piece
pieces_after p xs = joined p (cut Mode.outside xs)

unfoldable pub pieces_of : List ℕ → List Piece
pieces_of xs = pieces_after [] xs

-- ---- what is made of pieces
abbrev pub bytes_in : Piece → List ℕ
bytes_in (Piece.outside bs) = bs
bytes_in (Piece.kept f) = f
bytes_in (Piece.refused n bs) = bs

unfoldable pub bytes_of : List Piece → List ℕ
bytes_of [] = []
bytes_of (p ∷ ps) = bytes_in p ++ bytes_of ps

-- "it copies unchanged and in order every command frame that reads without refusal, drops the rest"
unfoldable pub kept_bytes : List Piece → List ℕ
kept_bytes [] = []
kept_bytes (Piece.outside bs ∷ ps) = kept_bytes ps
kept_bytes (Piece.kept f ∷ ps) = f ++ kept_bytes ps
kept_bytes (Piece.refused n bs ∷ ps) = kept_bytes ps

-- "lists each dropped stretch with start, length and why (outside a command, or the refusal number)": three numbers a row; 0 for
-- outside
unfoldable pub rows_from : ℕ → List Piece → List ℕ
rows_from at [] = []
rows_from at (Piece.outside bs ∷ ps) = at ∷ length bs ∷ 0 ∷ rows_from (at + length bs) ps
rows_from at (Piece.kept f ∷ ps) = rows_from (at + length f) ps
rows_from at (Piece.refused n bs ∷ ps) = at ∷ length bs ∷ n ∷ rows_from (at + length bs) ps

-- how many rows
unfoldable pub dropped : List Piece → ℕ
dropped [] = 0
dropped (Piece.outside bs ∷ ps) = suc (dropped ps)
dropped (Piece.kept f ∷ ps) = dropped ps
dropped (Piece.refused n bs ∷ ps) = suc (dropped ps)

-- ---- a recording mended
abbrev pub mended_of : List ℕ → List ℕ
mended_of xs = kept_bytes (pieces_of xs)

abbrev pub list_of : List ℕ → List ℕ
list_of xs = rows_from 0 (pieces_of xs)
