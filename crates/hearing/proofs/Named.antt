-- A start is named by bytes of the recording: its places hold its session's id and its file's id.
use Prim.Native.Nat.{ℕ, ◌+◌}
use mathlib.Core.Path.{◌≡◌, refl, ap, sym, ◌∙◌}
use mathlib.Core.Bool.{Bool, true, false, cond}
use mathlib.Core.List.{List, [], ◌∷◌, ◌++◌, append_assoc}
use lib.ListN.{length, drop}
use lib.Seq.{drop-drop, drop-append_seam}
use Rattle.command.specs.Read.{Answer, read_of}
use Rattle.command.specs.declared.Command.{Command}
use Rattle.protocol.specs.Table.{empty_table}
use Rattle.protocol.specs.Calls.{Acted, read_act}
use Rattle.protocol.specs.declared.Ask.{Ask}
use Rattle.protocol.specs.declared.Table.{Table}
use Rattle.protocol.specs.declared.Told.{Told}
use Rattle.protocol.proofs.CutsRun.{zeros}
use Rattle.recordings.specs.Pieces.{Piece, pieces_of, bytes_of}
use Rattle.recordings.specs.Laws.{text_in, Frame, Settled}
use Rattle.recordings.proofs.Every.{mend-laws}
use Rattle.hearing.specs.Hearing.{Sighting, sightings_from, Happening, is_regular, key_of, place_of, heard_told}
use Rattle.hearing.specs.Hearing.{act_of, heard_by, table_after, heard_from, heard_in}
use Rattle.hearing.specs.Laws.{AllNamed, NamesPairs}
use Rattle.hearing.proofs.Places.{Placed, read-placed, Stands, id-place, file-place}

module _ (recording : List ℕ) where
  -- ---- every sighting's text stands in the recording
  abbrev pub AllStand : List Sighting → Type 0
  AllStand [] = Unit {0}
  AllStand (x ∷ xs) = Stands recording x.start x.text × AllStand xs

  -- what is left after a piece
  past : (at : ℕ) (bs rest : List ℕ) → drop at recording ≡ bs ++ rest → drop (at + length bs) recording ≡ rest
  past at bs rest e = sym (drop-drop (length bs) at recording) ∙ ap (drop (length bs)) e ∙ drop-append_seam bs rest

  frame-stands : (at : ℕ) (f rest : List ℕ) → Frame f → drop at recording ≡ f ++ rest → Stands recording (at + 2) (text_in f)
  frame-stands at f rest h e =
      let closer : List ℕ = 0x1B ∷ 0x5C ∷ [] in
      record {
        rest = closer ++ rest;
        parts =
            sym (drop-drop 2 at recording)
            ∙ ap (drop 2) (e ∙ ap (λ (x : List ℕ). x ++ rest) h.whole)
            ∙ append_assoc (text_in f) closer rest;
      }

  pub sightings-stand : (at : ℕ) (ps : List Piece) → Settled ps → drop at recording ≡ bytes_of ps → AllStand (sightings_from at ps)
  unfolding sightings_from bytes_of
  sightings-stand at [] s e = tt
  sightings-stand at (Piece.outside bs ∷ ps) s e = sightings-stand (at + length bs) ps s.2 (past at bs (bytes_of ps) e)
  sightings-stand at (Piece.kept f ∷ ps) s e = (
    frame-stands at f (bytes_of ps) s.0 e,
    sightings-stand (at + length f) ps s.2 (past at f (bytes_of ps) e),
  )
  sightings-stand at (Piece.refused n bs ∷ ps) s e = sightings-stand (at + length bs) ps s.2 (past at bs (bytes_of ps) e)

  -- ---- what is heard of a sighting
  module _ (x : Sighting) (stands : Stands recording x.start x.text) where
    told_named : (c : Command) (scratch : List ℕ) → Placed x.text c → (w : Told) → AllNamed recording (heard_told x c scratch w)
    told_named c scratch p Told.Nothing = tt
    told_named c scratch p (Told.Refused n) = tt
    told_named c scratch p Told.Ignored = tt
    told_named c scratch p Told.DragDrop = tt
    told_named c scratch p Told.Asked = tt
    told_named c scratch p Told.Naming = tt
    told_named c scratch p Told.Path = tt
    told_named c scratch p Told.LastPath = tt
    told_named c scratch p (Told.Ask Ask.Open) = go (is_regular c.file_type)
      where
        go : (b : Bool)
            → AllNamed recording (cond b (Happening.starts (key_of x.text c) (place_of x.start c) ∷ []) [])
        go true = ((id-place c stands p, file-place c stands p), tt)
        go false = tt
    told_named c scratch p (Told.Ask (Ask.Write q)) = (tt, tt)
    told_named c scratch p (Told.Ask (Ask.WriteLast q)) = (tt, tt)
    told_named c scratch p (Told.Ask Ask.Commit) = tt
    told_named c scratch p (Told.Ask Ask.Request) = tt
    told_named c scratch p (Told.Status w) = tt
    told_named c scratch p Told.Withdrawn = tt
    told_named c scratch p Told.Discarded = tt
    told_named c scratch p Told.Committed = tt

    act-named : (t : Table) → AllNamed recording (heard_by x (act_of t x.text))
    act-named t = go (read_of x.text zeros).answer refl
      where
        after : List ℕ
        after = (read_of x.text zeros).buffer

        acts : Answer → Acted
        acts a = read_act t x.text (record { answer = a; buffer = after })

        go : (a : Answer) → (read_of x.text zeros).answer ≡ a → AllNamed recording (heard_by x (acts a))
        go (Answer.read c) e = told_named c after (read-placed x.text zeros c e) (acts (Answer.read c)).step.told
        go (Answer.refused n) e = tt

  -- ---- one after another
  named-append : (hs gs : List Happening) → AllNamed recording hs → AllNamed recording gs → AllNamed recording (hs ++ gs)
  named-append [] gs p q = q
  named-append (h ∷ hs) gs p q = (p.0, named-append hs gs p.1 q)

  heard-named : (t : Table) (xs : List Sighting) → AllStand xs → AllNamed recording (heard_from t xs)
  unfolding heard_from
  heard-named t [] s = tt
  heard-named t (x ∷ xs) s =
      let a = act_of t x.text in
      let u = table_after x.text a in
      named-append (heard_by x a) (heard_from u xs) (act-named x s.0 t) (heard-named u xs s.1)

pub names-pairs : NamesPairs heard_in
names-pairs xs =
    let ps = pieces_of xs in
    heard-named xs empty_table (sightings_from 0 ps) (sightings-stand xs 0 ps (mend-laws.settles xs) (sym (mend-laws.covers xs)))
