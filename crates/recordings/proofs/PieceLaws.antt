-- What is made of pieces: one list of them after another, and joined.
use Prim.Native.Nat.{ℕ, ◌+◌, ◌*◌}
use mathlib.Core.Path.{◌≡◌, refl, sym, ◌∙◌}
use mathlib.Core.List.{List, [], ◌∷◌, ◌++◌, append_assoc}
use native.Mathlib.Omega.{arith}
use lib.ListN.{length}
use Rattle.recordings.specs.Pieces.{Piece, outside_first, joined, bytes_in, bytes_of, kept_bytes, rows_from, dropped}
use Rattle.recordings.specs.Laws.{verdicts}

-- ---- one list after another
pub bytes-append : (ps qs : List Piece) → bytes_of (ps ++ qs) ≡ bytes_of ps ++ bytes_of qs
unfolding bytes_of
bytes-append [] qs = refl
bytes-append (p ∷ ps) qs = rw (bytes-append ps qs) (sym (append_assoc (bytes_in p) (bytes_of ps) (bytes_of qs)))

pub kept_append : (ps qs : List Piece) → kept_bytes (ps ++ qs) ≡ kept_bytes ps ++ kept_bytes qs
unfolding kept_bytes
kept_append [] qs = refl
kept_append (Piece.outside bs ∷ ps) qs = kept_append ps qs
kept_append (Piece.kept f ∷ ps) qs = rw (kept_append ps qs) (sym (append_assoc f (kept_bytes ps) (kept_bytes qs)))
kept_append (Piece.refused n bs ∷ ps) qs = kept_append ps qs

pub verdicts-append : (ps qs : List Piece) → verdicts (ps ++ qs) ≡ verdicts ps ++ verdicts qs
unfolding verdicts
verdicts-append [] qs = refl
verdicts-append (Piece.outside bs ∷ ps) qs = verdicts-append ps qs
verdicts-append (Piece.kept f ∷ ps) qs = rw (verdicts-append ps qs)
verdicts-append (Piece.refused n bs ∷ ps) qs = rw (verdicts-append ps qs)

-- ---- joined
pub first-bytes : (p : List ℕ) (ps : List Piece) → bytes_of (outside_first p ps) ≡ p ++ bytes_of ps
unfolding bytes_of
first-bytes [] ps = refl
first-bytes (b ∷ p) ps = refl

pub joined_bytes : (p : List ℕ) (ps : List Piece) → bytes_of (joined p ps) ≡ p ++ bytes_of ps
unfolding joined bytes_of
joined_bytes p [] = first-bytes p []
joined_bytes p (Piece.outside bs ∷ ps) = joined_bytes (p ++ bs) ps ∙ append_assoc p bs (bytes_of ps)
joined_bytes p (Piece.kept f ∷ ps) = first-bytes p (Piece.kept f ∷ joined [] ps) ∙ rw (joined_bytes [] ps)
joined_bytes p (Piece.refused n bs ∷ ps) = first-bytes p (Piece.refused n bs ∷ joined [] ps) ∙ rw (joined_bytes [] ps)

first-kept : (p : List ℕ) (ps : List Piece) → kept_bytes (outside_first p ps) ≡ kept_bytes ps
unfolding kept_bytes
first-kept [] ps = refl
first-kept (b ∷ p) ps = refl

pub joined-kept : (p : List ℕ) (ps : List Piece) → kept_bytes (joined p ps) ≡ kept_bytes ps
unfolding joined kept_bytes
joined-kept p [] = first-kept p []
joined-kept p (Piece.outside bs ∷ ps) = joined-kept (p ++ bs) ps
joined-kept p (Piece.kept f ∷ ps) = first-kept p (Piece.kept f ∷ joined [] ps) ∙ rw (joined-kept [] ps)
joined-kept p (Piece.refused n bs ∷ ps) = first-kept p (Piece.refused n bs ∷ joined [] ps) ∙ joined-kept [] ps

first-verdicts : (p : List ℕ) (ps : List Piece) → verdicts (outside_first p ps) ≡ verdicts ps
unfolding verdicts
first-verdicts [] ps = refl
first-verdicts (b ∷ p) ps = refl

pub joined-verdicts : (p : List ℕ) (ps : List Piece) → verdicts (joined p ps) ≡ verdicts ps
unfolding joined verdicts
joined-verdicts p [] = first-verdicts p []
joined-verdicts p (Piece.outside bs ∷ ps) = joined-verdicts (p ++ bs) ps
joined-verdicts p (Piece.kept f ∷ ps) = first-verdicts p (Piece.kept f ∷ joined [] ps) ∙ rw (joined-verdicts [] ps)
joined-verdicts p (Piece.refused n bs ∷ ps) = first-verdicts p (Piece.refused n bs ∷ joined [] ps) ∙ rw (joined-verdicts [] ps)

-- ---- three numbers a row
pub rows-length : (at : ℕ) (ps : List Piece) → length (rows_from at ps) ≡ 3 * dropped ps
unfolding rows_from dropped
rows-length at [] = refl
rows-length at (Piece.outside bs ∷ ps) = omega (arith, rows-length (at + length bs) ps)
rows-length at (Piece.kept f ∷ ps) = rows-length (at + length f) ps
rows-length at (Piece.refused n bs ∷ ps) = omega (arith, rows-length (at + length bs) ps)
