-- A recording is heard, places apart, as what document 01's frames report of it: one report after another, of which those that are
-- refused do nothing.
use Prim.Native.Nat.{ℕ, ◌+◌, ◌≤◌, ◌<◌}
use mathlib.Core.Path.{◌≡◌, refl, ap, sym, ◌∙◌}
use mathlib.Core.Bool.{Bool, true, false, cond}
use mathlib.Core.List.{List, [], ◌∷◌, ◌++◌, append_assoc, map, map-append}
use native.Mathlib.Omega.{arith}
use native.Mathlib.Decide.{dec_lt}
use lib.ListN.{length}
use lib.Dec.{lit≤}
use borrow.Author.Tests.{lt-ltb}
use Rattle.frames.specs.Stream.{Mode, Told, text_limit, and_then, stream, framed}
use Rattle.frames.proofs.Follows.{stream-append}
use Rattle.frames.proofs.Framed.{stream-framed}
use Rattle.command.specs.Fields.{text_read}
use Rattle.command.specs.Meaning.{Meaning, meaning_of}
use Rattle.command.specs.Read.{Answer, read_of}
use Rattle.command.specs.declared.Command.{Command}
use Rattle.protocol.specs.Calls.{Acted, read_act}
use Rattle.protocol.specs.Table.{empty_table}
use Rattle.protocol.specs.declared.Ask.{Ask}
use Rattle.protocol.specs.declared.Table.{Table}
use Rattle.protocol.specs.declared.Told.{Told as Telling}
use Rattle.protocol.proofs.CutsRun.{zeros, text_in, act_on}
use Rattle.protocol.proofs.Means.{Read, refused, text-read}
use Rattle.recordings.specs.Pieces.{Piece, pieces_of, kept_bytes}
use Rattle.recordings.specs.Laws.{text_in as text_of, Frame, Reads, Settled, only_read, readable}
use Rattle.recordings.proofs.Every.{mend-laws}
use Rattle.hearing.specs.Hearing.{Sighting, sightings_from, Happening, is_regular, key_of, place_of, heard_ask, heard_told}
use Rattle.hearing.specs.Hearing.{heard_by, table_after, heard_from, heard_in}
use Rattle.hearing.specs.Laws.{bare}

-- ---- one report after another
-- places apart, it does not matter where the text stands
abbrev pub hears_of : List ℕ → Acted → List Happening
hears_of text a = map bare (heard_by (record { start = 0; text = text }) a)

abbrev pub hears_one : Table → Told → List Happening
hears_one t d = hears_of (text_in d) (act_on t d)

-- the table after it, with the console's answer
abbrev pub next : Table → Told → Table
next t d = table_after (text_in d) (act_on t d)

unfoldable pub hears : Table → List Told → List Happening
hears t [] = []
hears t (d ∷ ds) = hears_one t d ++ hears (next t d) ds

unfoldable pub leaves : Table → List Told → Table
leaves t [] = t
leaves t (d ∷ ds) = leaves (next t d) ds

pub hears-append : (t : Table) (ds es : List Told) → hears t (ds ++ es) ≡ hears t ds ++ hears (leaves t ds) es
unfolding hears leaves
hears-append t [] es = refl
hears-append t (d ∷ ds) es =
    rw (hears-append (next t d) ds es) (sym (append_assoc (hears_one t d) (hears (next t d) ds) (hears (leaves (next t d) ds) es)))

pub leaves-append : (t : Table) (ds es : List Told) → leaves t (ds ++ es) ≡ leaves (leaves t ds) es
unfolding leaves
leaves-append t [] es = refl
leaves-append t (d ∷ ds) es = leaves-append (next t d) ds es

-- ---- those that are refused do nothing
refused_none : (t : Table) (text : List ℕ) (n : ℕ) → meaning_of text ≡ Meaning.refused n
    → (hears_one t (Told.command text) ≡ []) × (next t (Told.command text) ≡ t)
refused_none t text n e = go (rw e at (text-read text zeros (lit≤ tt)))
  where
    after : List ℕ
    after = (read_of text zeros).buffer

    acts : Answer → Acted
    acts a = read_act t text (record { answer = a; buffer = after })

    go : {a : Answer} → Read text after a (Meaning.refused n) → (hears_of text (acts a) ≡ []) × (table_after text (acts a) ≡ t)
    go (refused l) = (refl, refl)

pub hears-readable : (t : Table) (ds : List Told) → hears t (readable ds) ≡ hears t ds
unfolding hears readable
hears-readable t [] = refl
hears-readable t (Told.command text ∷ ds) = go (meaning_of text) refl (λ u. hears-readable u ds)
  where
    one : Told
    one = Told.command text

    go : (m : Meaning) → meaning_of text ≡ m → ((u : Table) → hears u (readable ds) ≡ hears u ds)
        → hears t (only_read m (one ∷ []) (readable ds)) ≡ hears_one t one ++ hears (next t one) ds
    go (Meaning.command vs) e same = rw (same (next t one))
    go (Meaning.refused n) e same = let r = refused_none t text n e in rw (r.0, r.1) (same t)
hears-readable t (Told.drag_drop text ∷ ds) = hears-readable t ds
hears-readable t (Told.too_long ∷ ds) = hears-readable t ds
hears-readable t (Told.abandoned ∷ ds) = hears-readable t ds

-- ---- sightings, places apart
module _ (x y : Sighting) (same : x.text ≡ y.text) (c : Command) (scratch : List ℕ) where
  ask-bare : (a : Ask) → map bare (heard_ask x c scratch a) ≡ map bare (heard_ask y c scratch a)
  ask-bare Ask.Open = go (is_regular c.file_type)
    where
      start : Sighting → List Happening
      start z = Happening.starts (key_of z.text c) (place_of z.start c) ∷ []

      go : (b : Bool) → map bare (cond b (start x) []) ≡ map bare (cond b (start y) [])
      go true = rw same
      go false = refl
  ask-bare (Ask.Write p) = rw same
  ask-bare (Ask.WriteLast p) = rw same
  ask-bare Ask.Commit = refl
  ask-bare Ask.Request = refl

  told-bare : (w : Telling) → map bare (heard_told x c scratch w) ≡ map bare (heard_told y c scratch w)
  told-bare Telling.Nothing = refl
  told-bare (Telling.Refused n) = refl
  told-bare Telling.Ignored = refl
  told-bare Telling.DragDrop = refl
  told-bare Telling.Asked = refl
  told-bare Telling.Naming = refl
  told-bare Telling.Path = refl
  told-bare Telling.LastPath = refl
  told-bare (Telling.Ask a) = ask-bare a
  told-bare (Telling.Status w) = refl
  told-bare Telling.Withdrawn = refl
  told-bare Telling.Discarded = refl
  told-bare Telling.Committed = refl

abbrev report_of : Sighting → Told
report_of x = Told.command x.text

heard-reports : (t : Table) (xs : List Sighting) → map bare (heard_from t xs) ≡ hears t (map report_of xs)
unfolding heard_from hears
heard-reports t [] = refl
heard-reports t (x ∷ xs) =
    let a = act_on t (report_of x) in
    let u = table_after x.text a in
    map-append bare (heard_by x a) (heard_from u xs)
    ∙ rw (told-bare x (record { start = 0; text = x.text }) refl a.command a.scratch a.step.told, heard-reports u xs)

-- ---- the kept pieces
abbrev kept_reports : List Piece → List Told
kept_reports [] = []
kept_reports (Piece.outside bs ∷ ps) = kept_reports ps
kept_reports (Piece.kept f ∷ ps) = Told.command (text_of f) ∷ kept_reports ps
kept_reports (Piece.refused n bs ∷ ps) = kept_reports ps

sighting-reports : (at : ℕ) (ps : List Piece) → map report_of (sightings_from at ps) ≡ kept_reports ps
unfolding sightings_from
sighting-reports at [] = refl
sighting-reports at (Piece.outside bs ∷ ps) = sighting-reports (at + length bs) ps
sighting-reports at (Piece.kept f ∷ ps) = rw (sighting-reports (at + length f) ps)
sighting-reports at (Piece.refused n bs ∷ ps) = sighting-reports (at + length bs) ps

-- a text that reads is not too long
reads_short : (t : List ℕ) → Reads (meaning_of t) → length t ≤ text_limit
unfolding meaning_of text_read
reads_short t r = go (dec_lt text_limit (length t))
  where
    go : Dec (text_limit < length t) → length t ≤ text_limit
    go (yes l) = absurd (rw (lt-ltb text_limit (length t) l) at r)
    go (no l) = omega arith

frame-tells : (f ys : List ℕ) → Frame f → Reads (meaning_of (text_of f))
    → stream Mode.outside (f ++ ys) ≡ and_then (Told.command (text_of f) ∷ []) (stream Mode.outside ys)
frame-tells f ys h r =
    ap (λ (x : List ℕ). stream Mode.outside (x ++ ys)) h.whole
    ∙ stream-append Mode.outside (framed (text_of f)) ys
    ∙ rw (stream-framed (text_of f) h.plain h.command (reads_short (text_of f) r))

kept-tells : (ps : List Piece) → Settled ps → (stream Mode.outside (kept_bytes ps)).0 ≡ kept_reports ps
unfolding kept_bytes stream
kept-tells [] s = refl
kept-tells (Piece.outside bs ∷ ps) s = kept-tells ps s.2
kept-tells (Piece.kept f ∷ ps) s = rw (frame-tells f (kept_bytes ps) s.0 s.1, kept-tells ps s.2)
kept-tells (Piece.refused n bs ∷ ps) s = kept-tells ps s.2

pieces-tell : (xs : List ℕ) → kept_reports (pieces_of xs) ≡ readable (stream Mode.outside xs).0
pieces-tell xs =
    sym (kept-tells (pieces_of xs) (mend-laws.settles xs)) ∙ ap (λ (r : List Told × Mode). r.0) (mend-laws.same_commands xs)

-- ---- a recording
pub heard-stream : (xs : List ℕ) → map bare (heard_in xs) ≡ hears empty_table (stream Mode.outside xs).0
heard-stream xs =
    heard-reports empty_table (sightings_from 0 (pieces_of xs))
    ∙ ap (hears empty_table) (sighting-reports 0 (pieces_of xs) ∙ pieces-tell xs)
    ∙ hears-readable empty_table (stream Mode.outside xs).0
