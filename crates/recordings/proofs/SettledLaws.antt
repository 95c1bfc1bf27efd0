-- What each piece is; and so, that mending a mended recording drops nothing.
use Prim.Native.Nat.{ℕ, ◌+◌, ◌-◌, ◌<◌}
use mathlib.Core.Path.{◌≡◌, refl, ap, sym, ◌∙◌}
use mathlib.Core.Bool.{Bool, true, false, cond}
use mathlib.Core.List.{List, [], ◌∷◌, ◌++◌, append_assoc}
use native.Mathlib.Omega.{arith}
use lib.ListN.{length, take, length-append}
use lib.Seq.{take-append_seam}
use lib.Dec.{eqb}
use Rattle.octets.proofs.Splits.{Free}
use Rattle.frames.specs.Stream.{Mode, Told, is_command, closed_tells, abandoned_tells, read_byte, framed}
use Rattle.frames.specs.Stream.{after_escape as mode_after}
use Rattle.frames.proofs.Choices.{by_cond}
use Rattle.command.specs.Meaning.{Meaning, meaning_of}
use Rattle.recordings.specs.Pieces.{Piece, opened, by_meaning, closed_piece, abandoned_piece, after_escape, completed, held, cut}
use Rattle.recordings.specs.Pieces.{outside_first, joined, pieces_of, bytes_of, kept_bytes, rows_from}
use Rattle.recordings.specs.Laws.{text_in, Frame, Reads, Abandons, IsRefused, NoneOutside, Settled, Settles, DropsNothingTwice}
use Rattle.recordings.proofs.Numbers.{refusal-some}
use Rattle.recordings.proofs.Escapes.{free-lacks, lacks-free}
use Rattle.recordings.proofs.PieceLaws.{bytes-append, joined_bytes}
use Rattle.recordings.proofs.CutLaws.{escape-bytes, cut-bytes}
use Rattle.recordings.proofs.Readable.{Clean, clean-byte}
use Rattle.recordings.proofs.Runs.{cut-framed}

-- ---- a frame
text_in_lem : (t : List ℕ) → text_in (framed t) ≡ t
text_in_lem t =
    let n : length (framed t) - 4 ≡ length t = omega (arith, length-append t (0x1B ∷ 0x5C ∷ [])) in
    ap (λ (k : ℕ). take k (t ++ 0x1B ∷ 0x5C ∷ [])) n ∙ take-append_seam t (0x1B ∷ 0x5C ∷ [])

is-frame : (t : List ℕ) → Free 0x1B t → is_command t ≡ true → Frame (framed t)
is-frame t h c =
    record {
      whole = ap framed (sym (text_in_lem t));
      command = ap is_command (text_in_lem t) ∙ c;
      plain = free-lacks 0x1B (text_in (framed t)) (rw (text_in_lem t) h);
    }

reads : {m : Meaning} (vs : _) → m ≡ Meaning.command vs → Reads m
reads vs e = rw e tt

-- ---- as they are cut
-- every piece is right, but those outside may be empty and touch
abbrev Cut : List Piece → Type 0
Cut [] = Unit {0}
Cut (Piece.outside bs ∷ ps) = Cut ps
Cut (Piece.kept f ∷ ps) = Frame f × Reads (meaning_of (text_in f)) × Cut ps
Cut (Piece.refused n bs ∷ ps) = (0 < n) × IsRefused n bs (bytes_of ps) × Cut ps

closed-cut : (t : List ℕ) (rest : List Piece) → Free 0x1B t → Cut rest → Cut (closed_piece t ∷ rest)
closed-cut t rest h r = by (is_command t) refl
  where
    meant : is_command t ≡ true → (m : Meaning) → meaning_of t ≡ m → Cut (by_meaning m (framed t) ∷ rest)
    meant c (Meaning.command vs) e = (is-frame t h c, reads vs (ap meaning_of (text_in_lem t) ∙ e), r)
    meant c (Meaning.refused n) e = (refusal-some t n e, IsRefused.closed (is-frame t h c) (ap meaning_of (text_in_lem t) ∙ e), r)

    by : (u : Bool) → is_command t ≡ u → Cut (cond u (by_meaning (meaning_of t) (framed t)) (Piece.outside (framed t)) ∷ rest)
    by true c = meant c (meaning_of t) refl
    by false c = r

escape-cut : (b : ℕ) (rest : List Piece) → Cut rest → Cut (after_escape b ++ rest)
escape-cut b rest r =
    let Q : List Piece → Type 0 = λ ps. Cut (ps ++ rest) in
    by_cond Q (eqb b 0x5D) (λ _. r) (λ _. by_cond Q (eqb b 0x1B) (λ _. r) (λ _. r))

abandoned-cut : (t : List ℕ) (b : ℕ) (rest : List Piece) (bs : List ℕ) → Free 0x1B t → eqb b 0x5C ≡ false
    → bytes_of rest ≡ held (mode_after b) ++ bs → Cut rest → Cut (abandoned_piece t ∷ after_escape b ++ rest)
abandoned-cut t b rest bs h q e r = by (is_command t) refl
  where
    follows : bytes_of (after_escape b ++ rest) ≡ 0x1B ∷ b ∷ bs
    follows =
        bytes-append (after_escape b) rest
        ∙ rw (e, ← append_assoc (bytes_of (after_escape b)) (held (mode_after b)) bs, escape-bytes b)

    abandons : Abandons (bytes_of (after_escape b ++ rest))
    abandons = rw follows (refl, q)

    by : (u : Bool) → is_command t ≡ u → Cut (cond u (Piece.refused 2 (opened t)) (Piece.outside (opened t)) ∷ after_escape b ++ rest)
    by true c = (omega arith, IsRefused.abandoned refl refl c (free-lacks 0x1B t h) abandons, escape-cut b rest r)
    by false c = escape-cut b rest r

completed-cut : (m : Mode) (b : ℕ) (rest : List Piece) (bs : List ℕ) → Clean m
    → bytes_of rest ≡ held (read_byte m b).1 ++ bs → Cut rest → Cut (completed m b ++ rest)
unfolding completed read_byte
completed-cut Mode.outside b rest bs h e r = by_cond (λ (ps : List Piece). Cut (ps ++ rest)) (eqb b 0x1B) (λ _. r) (λ _. r)
completed-cut Mode.escape b rest bs h e r = escape-cut b rest r
completed-cut (Mode.inside t) b rest bs h e r = r
completed-cut (Mode.inside_escape t) b rest bs h e r = by (eqb b 0x5C) refl e
  where
    by : (u : Bool) → eqb b 0x5C ≡ u
        → bytes_of rest ≡ held (cond {A = List Told × Mode} u (closed_tells t, Mode.outside) (abandoned_tells t, mode_after b)).1 ++ bs
        → Cut (cond u (closed_piece t ∷ []) (abandoned_piece t ∷ after_escape b) ++ rest)
    by true q e = closed-cut t rest h r
    by false q e = abandoned-cut t b rest bs h q e r

cut-cut : (m : Mode) (xs : List ℕ) → Clean m → Cut (cut m xs)
unfolding cut
cut-cut m [] h = tt
cut-cut m (b ∷ bs) h =
    let m' = (read_byte m b).1 in
    completed-cut m b (cut m' bs) bs h (cut-bytes m' bs) (cut-cut m' bs (clean-byte m b h))

-- ---- joined
first-settled : (p : List ℕ) (ps : List Piece) → NoneOutside ps → Settled ps → Settled (outside_first p ps)
first-settled [] ps n s = s
first-settled (b ∷ p) ps n s = (omega arith, n, s)

joined-settled : (p : List ℕ) (ps : List Piece) → Cut ps → Settled (joined p ps)
unfolding joined
joined-settled p [] c = first-settled p [] tt tt
joined-settled p (Piece.outside bs ∷ ps) c = joined-settled (p ++ bs) ps c
joined-settled p (Piece.kept f ∷ ps) c =
    first-settled p (Piece.kept f ∷ joined [] ps) tt (c.0, c.1, joined-settled [] ps c.2)
joined-settled p (Piece.refused n bs ∷ ps) c =
    first-settled p (Piece.refused n bs ∷ joined [] ps) tt (c.0, rw (joined_bytes [] ps) c.1, joined-settled [] ps c.2)

pub settles : Settles pieces_of
unfolding pieces_of
settles xs = joined-settled [] (cut Mode.outside xs) (cut-cut Mode.outside xs tt)

-- ---- mended again
kept_only : List Piece → List Piece
kept_only [] = []
kept_only (Piece.outside bs ∷ ps) = kept_only ps
kept_only (Piece.kept f ∷ ps) = Piece.kept f ∷ kept_only ps
kept_only (Piece.refused n bs ∷ ps) = kept_only ps

only-rows : (at : ℕ) (ps : List Piece) → rows_from at (kept_only ps) ≡ []
unfolding rows_from kept_only
only-rows at [] = refl
only-rows at (Piece.outside bs ∷ ps) = only-rows at ps
only-rows at (Piece.kept f ∷ ps) = only-rows (at + length f) ps
only-rows at (Piece.refused n bs ∷ ps) = only-rows at ps

only_kept : (ps : List Piece) → kept_bytes (kept_only ps) ≡ kept_bytes ps
unfolding kept_bytes kept_only
only_kept [] = refl
only_kept (Piece.outside bs ∷ ps) = only_kept ps
only_kept (Piece.kept f ∷ ps) = rw (only_kept ps)
only_kept (Piece.refused n bs ∷ ps) = only_kept ps

closed-kept : (t : List ℕ) → is_command t ≡ true → Reads (meaning_of t) → closed_piece t ≡ Piece.kept (framed t)
closed-kept t c r = rw c (by (meaning_of t) r)
  where
    by : (m : Meaning) → Reads m → by_meaning m (framed t) ≡ Piece.kept (framed t)
    by (Meaning.command vs) r = refl
    by (Meaning.refused n) r = absurd r

frame-again : (f r : List ℕ) → Frame f → Reads (meaning_of (text_in f)) → cut Mode.outside (f ++ r) ≡ Piece.kept f ∷ cut Mode.outside r
frame-again f r h q =
    ap (λ (x : List ℕ). cut Mode.outside (x ++ r)) h.whole
    ∙ cut-framed (text_in f) r (lacks-free 0x1B (text_in f) h.plain)
    ∙ ap (λ (p : Piece). p ∷ cut Mode.outside r) (closed-kept (text_in f) h.command q ∙ ap Piece.kept (sym h.whole))

pieces-again : (ps : List Piece) → Settled ps → pieces_of (kept_bytes ps) ≡ kept_only ps
unfolding pieces_of kept_bytes kept_only cut joined
pieces-again [] s = refl
pieces-again (Piece.outside bs ∷ ps) s = pieces-again ps s.2
pieces-again (Piece.kept f ∷ ps) s =
    ap (joined []) (frame-again f (kept_bytes ps) s.0 s.1) ∙ ap (λ (qs : List Piece). Piece.kept f ∷ qs) (pieces-again ps s.2)
pieces-again (Piece.refused n bs ∷ ps) s = pieces-again ps s.2

pub drops-nothing-twice : DropsNothingTwice pieces_of
drops-nothing-twice xs =
    let ps = pieces_of xs in
    let e = pieces-again ps (settles xs) in
    (ap (rows_from 0) e ∙ only-rows 0 ps, ap kept_bytes e ∙ only_kept ps)
