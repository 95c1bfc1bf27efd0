-- The cut, byte by byte: it loses no byte, and tells what document 01's frames tell of commands.
use Prim.Native.Nat.{ℕ, ◌<◌}
use mathlib.Core.Path.{◌≡◌, refl, sym, ◌∙◌}
use mathlib.Core.Bool.{Bool, true, false, cond, ◌||◌}
use mathlib.Core.List.{List, [], ◌∷◌, ◌++◌, append_assoc, map}
use mathlib.Core.List.{map-append}
use lib.ListN.{length}
use lib.Dec.{eqb, leb}
use lib.Seq.{append_snoc}
use borrow.Author.Tests.{lt-ltb, eqb-true, leb-false}
use Rattle.frames.specs.Stream.{Mode, Told, is_command, is_drag_drop, text_tells, text_limit, closed_tells, abandoned_tells}
use Rattle.frames.specs.Stream.{read_byte, framed}
use Rattle.frames.specs.Stream.{after_escape as mode_after}
use Rattle.frames.proofs.Choices.{by_cond}
use Rattle.frames.proofs.Marks.{not_drag}
use Rattle.command.specs.Fields.{text_read}
use Rattle.command.specs.Meaning.{Meaning, meaning_of}
use Rattle.recordings.specs.Pieces.{Piece, opened, by_meaning, closed_piece, abandoned_piece, after_escape, completed, held, cut}
use Rattle.recordings.specs.Pieces.{pieces_of, bytes_in, bytes_of}
use Rattle.recordings.specs.Laws.{Covers, Reports, number_of, verdict, verdicts, of_command, commands_told}
use Rattle.recordings.proofs.PieceLaws.{bytes-append, verdicts-append, joined_bytes, joined-verdicts}

-- ---- the bytes
closed-bytes : (t : List ℕ) → bytes_in (closed_piece t) ≡ framed t
closed-bytes t = by_cond (λ p. bytes_in p ≡ framed t) (is_command t) (λ _. by (meaning_of t)) (λ _. refl)
  where
    by : (m : Meaning) → bytes_in (by_meaning m (framed t)) ≡ framed t
    by (Meaning.command vs) = refl
    by (Meaning.refused n) = refl

abandoned-bytes : (t : List ℕ) → bytes_in (abandoned_piece t) ≡ opened t
abandoned-bytes t = by_cond (λ p. bytes_in p ≡ opened t) (is_command t) (λ _. refl) (λ _. refl)

pub escape-bytes : (b : ℕ) → bytes_of (after_escape b) ++ held (mode_after b) ≡ 0x1B ∷ b ∷ []
unfolding bytes_of
escape-bytes b = by (eqb b 0x5D) refl (eqb b 0x1B) refl
  where
    by : (u : Bool) → eqb b 0x5D ≡ u → (v : Bool) → eqb b 0x1B ≡ v
        → bytes_of (cond u [] (cond v (Piece.outside (0x1B ∷ []) ∷ []) (Piece.outside (0x1B ∷ b ∷ []) ∷ [])))
        ++ held (cond u (Mode.inside []) (cond v Mode.escape Mode.outside)) ≡ 0x1B ∷ b ∷ []
    by true e v q = rw (eqb-true b 0x5D e)
    by false e true q = rw (eqb-true b 0x1B q)
    by false e false q = refl

completed-bytes : (m : Mode) (b : ℕ) → bytes_of (completed m b) ++ held (read_byte m b).1 ≡ held m ++ (b ∷ [])
unfolding completed read_byte bytes_of
completed-bytes Mode.outside b = by (eqb b 0x1B) refl
  where
    by : (u : Bool) → eqb b 0x1B ≡ u
        → bytes_of (cond u [] (Piece.outside (b ∷ []) ∷ [])) ++ held (cond u Mode.escape Mode.outside) ≡ b ∷ []
    by true e = rw (eqb-true b 0x1B e)
    by false e = refl
completed-bytes Mode.escape b = escape-bytes b
completed-bytes (Mode.inside t) b = by (eqb b 0x1B) refl
  where
    by : (u : Bool) → eqb b 0x1B ≡ u
        → held (cond u (Mode.inside_escape t) (Mode.inside (t ++ (b ∷ [])))) ≡ opened (t ++ (b ∷ []))
    by true e = rw (eqb-true b 0x1B e)
    by false e = refl
completed-bytes (Mode.inside_escape t) b = by (eqb b 0x5C) refl
  where
    by : (u : Bool) → eqb b 0x5C ≡ u
        → bytes_of (cond u (closed_piece t ∷ []) (abandoned_piece t ∷ after_escape b))
        ++ held (cond {A = List Told × Mode} u (closed_tells t, Mode.outside) (abandoned_tells t, mode_after b)).1
        ≡ opened ((t ++ 0x1B ∷ []) ++ (b ∷ []))
    by true e = rw (closed-bytes t, eqb-true b 0x5C e) (simp append_assoc)
    by false e =
        rw (abandoned-bytes t, append_assoc (opened t) (bytes_of (after_escape b)) (held (mode_after b)), escape-bytes b)
        (simp append_assoc)

pub cut-bytes : (m : Mode) (xs : List ℕ) → bytes_of (cut m xs) ≡ held m ++ xs
unfolding cut bytes_of
cut-bytes m [] = refl
cut-bytes m (b ∷ bs) =
    bytes-append (completed m b) (cut (read_byte m b).1 bs)
    ∙ rw (cut-bytes (read_byte m b).1 bs, ← append_assoc (bytes_of (completed m b)) (held (read_byte m b).1) bs, completed-bytes m b)
    (append_snoc (held m) b bs)

pub covers : Covers pieces_of
unfolding pieces_of
covers xs = joined_bytes [] (cut Mode.outside xs) ∙ cut-bytes Mode.outside xs

-- ---- the reports
-- a text that is too long is refused with 1, as the frames tell it
pub long-means : (t : List ℕ) → text_limit < length t → meaning_of t ≡ Meaning.refused 1
unfolding meaning_of text_read
long-means t h = rw (lt-ltb text_limit (length t) h)

closed-verdicts : (t : List ℕ) → verdicts (closed_piece t ∷ []) ≡ map verdict (cond (is_command t) (closed_tells t) [])
unfolding verdicts
closed-verdicts t = by (is_command t) refl
  where
    meant : (m : Meaning) → verdicts (by_meaning m (framed t) ∷ []) ≡ number_of m ∷ []
    meant (Meaning.command vs) = refl
    meant (Meaning.refused n) = refl

    long : (v : Bool) → leb (length t) text_limit ≡ v → number_of (meaning_of t) ≡ verdict (cond v (Told.command t) Told.too_long)
    long true e = refl
    long false e = rw (long-means t (leb-false (length t) text_limit e))

    by : (u : Bool) → is_command t ≡ u → verdicts (cond u (by_meaning (meaning_of t) (framed t)) (Piece.outside (framed t)) ∷ [])
        ≡ map verdict (cond u (cond (u || is_drag_drop t) (cond (leb (length t) text_limit) (text_tells t) Told.too_long ∷ []) []) [])
    by true c = rw (not_drag t c) (meant (meaning_of t) ∙ rw (long (leb (length t) text_limit) refl))
    by false c = refl

escape-verdicts : (b : ℕ) → verdicts (after_escape b) ≡ []
unfolding verdicts
escape-verdicts b =
    let Q : List Piece → Type 0 = λ ps. verdicts ps ≡ [] in
    by_cond Q (eqb b 0x5D) (λ _. refl) (λ _. by_cond Q (eqb b 0x1B) (λ _. refl) (λ _. refl))

abandoned-verdicts : (t : List ℕ) (ps : List Piece) → verdicts ps ≡ []
    → verdicts (abandoned_piece t ∷ ps) ≡ map verdict (cond (is_command t) (abandoned_tells t) [])
unfolding verdicts
abandoned-verdicts t ps e = by (is_command t)
  where
    by : (u : Bool) → verdicts (cond u (Piece.refused 2 (opened t)) (Piece.outside (opened t)) ∷ ps)
        ≡ map verdict (cond u (cond (u || is_drag_drop t) (Told.abandoned ∷ []) []) [])
    by true = rw e
    by false = e

completed-verdicts : (m : Mode) (b : ℕ) → verdicts (completed m b) ≡ map verdict (of_command m (read_byte m b).0)
unfolding completed read_byte verdicts
completed-verdicts Mode.outside b = by_cond (λ ps. verdicts ps ≡ []) (eqb b 0x1B) (λ _. refl) (λ _. refl)
completed-verdicts Mode.escape b = escape-verdicts b
completed-verdicts (Mode.inside t) b = refl
completed-verdicts (Mode.inside_escape t) b = by (eqb b 0x5C)
  where
    by : (u : Bool) → verdicts (cond u (closed_piece t ∷ []) (abandoned_piece t ∷ after_escape b))
        ≡ map verdict (cond (is_command t)
        (cond {A = List Told × Mode} u (closed_tells t, Mode.outside) (abandoned_tells t, mode_after b)).0 [])
    by true = closed-verdicts t
    by false = abandoned-verdicts t (after_escape b) (escape-verdicts b)

cut-verdicts : (m : Mode) (xs : List ℕ) → verdicts (cut m xs) ≡ map verdict (commands_told m xs)
unfolding cut commands_told verdicts
cut-verdicts m [] = refl
cut-verdicts m (b ∷ bs) =
    verdicts-append (completed m b) (cut (read_byte m b).1 bs)
    ∙ rw (completed-verdicts m b, cut-verdicts (read_byte m b).1 bs)
    (sym (map-append verdict (of_command m (read_byte m b).0) (commands_told (read_byte m b).1 bs)))

pub reports : Reports pieces_of
unfolding pieces_of
reports xs = joined-verdicts [] (cut Mode.outside xs) ∙ cut-verdicts Mode.outside xs
