-- What is kept is read as the commands that the recording has, and as nothing else.
use Prim.Native.Nat.{ℕ, ◌≤◌}
use mathlib.Core.Path.{◌≡◌, refl, ap, ◌∙◌}
use mathlib.Core.Bool.{Bool, true, false, cond, ◌||◌}
use mathlib.Core.List.{List, [], ◌∷◌, ◌++◌, append-nil}
use lib.ListN.{length}
use lib.Dec.{eqb, leb}
use borrow.Author.Tests.{eqb-false, leb-true, leb-false}
use Rattle.octets.proofs.Splits.{Free}
use Rattle.frames.specs.Stream.{Mode, Told, is_command, is_drag_drop, is_reported, text_tells, text_limit, closed_tells, abandoned_tells}
use Rattle.frames.specs.Stream.{read_byte, and_then, stream, framed}
use Rattle.frames.specs.Stream.{after_escape as mode_after}
use Rattle.frames.proofs.Choices.{by_cond}
use Rattle.frames.proofs.Follows.{stream-append}
use Rattle.frames.proofs.Marks.{not_drag}
use Rattle.frames.proofs.Framed.{stream-framed}
use Rattle.command.specs.Meaning.{Meaning, meaning_of}
use Rattle.recordings.specs.Pieces.{Piece, opened, by_meaning, closed_piece, abandoned_piece, after_escape, completed, cut}
use Rattle.recordings.specs.Pieces.{pieces_of, kept_bytes}
use Rattle.recordings.specs.Laws.{SameCommands, only_read, readable}
use Rattle.recordings.proofs.Escapes.{free_snoc, free-lacks}
use Rattle.recordings.proofs.PieceLaws.{kept_append, joined-kept}
use Rattle.recordings.proofs.CutLaws.{long-means}

-- ---- a text so far has no 1B
abbrev pub Clean : Mode → Type 0
Clean Mode.outside = Unit {0}
Clean Mode.escape = Unit {0}
Clean (Mode.inside t) = Free 0x1B t
Clean (Mode.inside_escape t) = Free 0x1B t

clean-escape : (b : ℕ) → Clean (mode_after b)
clean-escape b = by_cond Clean (eqb b 0x5D) (λ _. tt) (λ _. by_cond Clean (eqb b 0x1B) (λ _. tt) (λ _. tt))

pub clean-byte : (m : Mode) (b : ℕ) → Clean m → Clean (read_byte m b).1
unfolding read_byte
clean-byte Mode.outside b h = by_cond Clean (eqb b 0x1B) (λ _. tt) (λ _. tt)
clean-byte Mode.escape b h = clean-escape b
clean-byte (Mode.inside t) b h = by_cond Clean (eqb b 0x1B) (λ _. h) (λ e. free_snoc 0x1B t b h (eqb-false b 0x1B e))
clean-byte (Mode.inside_escape t) b h =
    by_cond (λ (r : List Told × Mode). Clean r.1) (eqb b 0x5C) (λ _. tt) (λ _. clean-escape b)

-- ---- the readable reports
readable-append : (a b : List Told) → readable (a ++ b) ≡ readable a ++ readable b
unfolding readable
readable-append [] b = refl
readable-append (Told.command t ∷ a) b = rw (readable-append a b) (by (meaning_of t))
  where
    by : (m : Meaning) → only_read m (Told.command t ∷ []) (readable a ++ readable b)
        ≡ only_read m (Told.command t ∷ []) (readable a) ++ readable b
    by (Meaning.command vs) = refl
    by (Meaning.refused n) = refl
readable-append (Told.drag_drop t ∷ a) b = readable-append a b
readable-append (Told.too_long ∷ a) b = readable-append a b
readable-append (Told.abandoned ∷ a) b = readable-append a b

-- ---- what a byte completes is read as what it tells
abbrev Agree : List Piece → List Told → List ℕ → Type 0
Agree ps ts ys = stream Mode.outside (kept_bytes ps ++ ys) ≡ and_then (readable ts) (stream Mode.outside ys)

stream-frame : (t ys : List ℕ) → Free 0x1B t → is_command t ≡ true → length t ≤ text_limit
    → stream Mode.outside (framed t ++ ys) ≡ and_then (Told.command t ∷ []) (stream Mode.outside ys)
stream-frame t ys h c l = stream-append Mode.outside (framed t) ys ∙ rw (stream-framed t (free-lacks 0x1B t h) c l)

closed-agree : (t ys : List ℕ) → Free 0x1B t → Agree (closed_piece t ∷ []) (closed_tells t) ys
unfolding kept_bytes readable
closed-agree t ys h = by (is_command t) refl
  where
    meant : is_command t ≡ true → length t ≤ text_limit → (m : Meaning)
        → stream Mode.outside (kept_bytes (by_meaning m (framed t) ∷ []) ++ ys)
        ≡ and_then (only_read m (Told.command t ∷ []) []) (stream Mode.outside ys)
    meant c l (Meaning.command vs) =
        ap (λ (x : List ℕ). stream Mode.outside (x ++ ys)) (append-nil (framed t)) ∙ stream-frame t ys h c l
    meant c l (Meaning.refused n) = refl

    long : is_command t ≡ true → (v : Bool) → leb (length t) text_limit ≡ v
        → Agree (by_meaning (meaning_of t) (framed t) ∷ []) (cond v (Told.command t) Told.too_long ∷ []) ys
    long c true e = meant c (leb-true (length t) text_limit e) (meaning_of t)
    long c false e = rw (long-means t (leb-false (length t) text_limit e))

    -- a text of drag and drop is told, and is no command
    dragged : (d v : Bool) → Agree (Piece.outside (framed t) ∷ [])
        (cond d (cond v (cond d (Told.drag_drop t) (Told.command t)) Told.too_long ∷ []) []) ys
    dragged true true = refl
    dragged true false = refl
    dragged false v = refl

    by : (u : Bool) → is_command t ≡ u → Agree (cond u (by_meaning (meaning_of t) (framed t)) (Piece.outside (framed t)) ∷ [])
        (cond (u || is_drag_drop t) (cond (leb (length t) text_limit) (text_tells t) Told.too_long ∷ []) []) ys
    by true c = rw (not_drag t c) (long c (leb (length t) text_limit) refl)
    by false c = dragged (is_drag_drop t) (leb (length t) text_limit)

pub escape-kept : (b : ℕ) → kept_bytes (after_escape b) ≡ []
unfolding kept_bytes
escape-kept b =
    let Q : List Piece → Type 0 = λ ps. kept_bytes ps ≡ [] in
    by_cond Q (eqb b 0x5D) (λ _. refl) (λ _. by_cond Q (eqb b 0x1B) (λ _. refl) (λ _. refl))

abandoned-agree : (t : List ℕ) (b : ℕ) (ys : List ℕ) → Agree (abandoned_piece t ∷ after_escape b) (abandoned_tells t) ys
unfolding kept_bytes readable
abandoned-agree t b ys = by (is_command t) (is_reported t)
  where
    by : (u v : Bool) → Agree (cond u (Piece.refused 2 (opened t)) (Piece.outside (opened t)) ∷ after_escape b)
        (cond v (Told.abandoned ∷ []) []) ys
    by true true = rw (escape-kept b)
    by true false = rw (escape-kept b)
    by false true = rw (escape-kept b)
    by false false = rw (escape-kept b)

completed-agree : (m : Mode) (b : ℕ) (ys : List ℕ) → Clean m → Agree (completed m b) (read_byte m b).0 ys
unfolding completed read_byte kept_bytes readable
completed-agree Mode.outside b ys h = by_cond (λ (ps : List Piece). Agree ps [] ys) (eqb b 0x1B) (λ _. refl) (λ _. refl)
completed-agree Mode.escape b ys h = rw (escape-kept b)
completed-agree (Mode.inside t) b ys h = refl
completed-agree (Mode.inside_escape t) b ys h = by (eqb b 0x5C)
  where
    by : (u : Bool) → Agree (cond u (closed_piece t ∷ []) (abandoned_piece t ∷ after_escape b))
        (cond {A = List Told × Mode} u (closed_tells t, Mode.outside) (abandoned_tells t, mode_after b)).0 ys
    by true = closed-agree t ys h
    by false = abandoned-agree t b ys

cut_agrees : (m : Mode) (xs : List ℕ) → Clean m → stream Mode.outside (kept_bytes (cut m xs)) ≡ (readable (stream m xs).0, Mode.outside)
unfolding cut stream kept_bytes readable
cut_agrees m [] h = refl
cut_agrees m (b ∷ bs) h =
    let rest = cut (read_byte m b).1 bs in
    ap (stream Mode.outside) (kept_append (completed m b) rest)
    ∙ completed-agree m b (kept_bytes rest) h
    ∙ rw (cut_agrees (read_byte m b).1 bs (clean-byte m b h), readable-append (read_byte m b).0 (stream (read_byte m b).1 bs).0)

pub same-commands : SameCommands pieces_of
unfolding pieces_of
same-commands xs = ap (stream Mode.outside) (joined-kept [] (cut Mode.outside xs)) ∙ cut_agrees Mode.outside xs tt
