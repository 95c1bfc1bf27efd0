-- The cut over bytes without 1B, and over a whole frame.
use Prim.Native.Nat.{ℕ}
use mathlib.Core.Path.{◌≡◌, refl, ap, sym, ◌∙◌}
use mathlib.Core.Bool.{Bool, true, false, cond}
use mathlib.Core.List.{List, [], ◌∷◌, ◌++◌, append_assoc, append-nil}
use lib.Dec.{eqb}
use lib.Seq.{append_snoc}
use borrow.Author.Tests.{ne_eqb}
use Rattle.octets.proofs.Splits.{Free}
use Rattle.frames.specs.Stream.{Mode, read_byte, framed}
use Rattle.recordings.specs.Pieces.{Piece, opened, closed_piece, abandoned_piece, completed, cut}
use Rattle.recordings.specs.Pieces.{outside_first, joined, pieces_after}

pub run_inside : (t s r : List ℕ) → Free 0x1B t → cut (Mode.inside s) (t ++ r) ≡ cut (Mode.inside (s ++ t)) r
unfolding cut completed read_byte
run_inside [] s r h = rw append-nil
run_inside (b ∷ t) s r h = rw (ne_eqb b 0x1B h.0, run_inside t (s ++ (b ∷ [])) r h.1, append_snoc s b t)

pub run-outside : (t p r : List ℕ) → Free 0x1B t → pieces_after p (t ++ r) ≡ pieces_after (p ++ t) r
unfolding cut completed read_byte joined
run-outside [] p r h = rw append-nil
run-outside (b ∷ t) p r h = rw (ne_eqb b 0x1B h.0, run-outside t (p ++ (b ∷ [])) r h.1, append_snoc p b t)

-- ---- a text after its opener
module _ (t r : List ℕ) (h : Free 0x1B t) where
  pub cut-closed : cut Mode.outside (opened (t ++ 0x1B ∷ 0x5C ∷ r)) ≡ closed_piece t ∷ cut Mode.outside r
  unfolding cut completed read_byte
  cut-closed = rw (run_inside t [] (0x1B ∷ 0x5C ∷ r) h)

  -- the 1B that abandons it is read again as one outside
  pub cut-abandoned : (b : ℕ) → (b ≡ 0x5C → ⊥)
      → cut Mode.outside (opened (t ++ 0x1B ∷ b ∷ r)) ≡ abandoned_piece t ∷ cut Mode.outside (0x1B ∷ b ∷ r)
  unfolding cut completed read_byte
  cut-abandoned b n = rw (run_inside t [] (0x1B ∷ b ∷ r) h, ne_eqb b 0x5C n)

  pub cut-framed : cut Mode.outside (framed t ++ r) ≡ closed_piece t ∷ cut Mode.outside r
  cut-framed = ap (λ (x : List ℕ). cut Mode.outside (opened x)) (append_assoc t (0x1B ∷ 0x5C ∷ []) r) ∙ cut-closed

-- ---- what no text ends is outside
module _ (p : List ℕ) where
  pub plain_end : (t : List ℕ) → Free 0x1B t → pieces_after p t ≡ outside_first (p ++ t) []
  unfolding cut joined
  plain_end t h = ap (pieces_after p) (sym (append-nil t)) ∙ run-outside t p [] h ∙ rw append-nil

  pub escape_end : pieces_after p (0x1B ∷ []) ≡ outside_first (p ++ 0x1B ∷ []) []
  unfolding cut completed read_byte joined
  escape_end = refl

  pub open-end : (t : List ℕ) → Free 0x1B t → pieces_after p (opened t) ≡ outside_first (p ++ opened t) []
  unfolding cut completed read_byte joined
  open-end t h = rw (ap (cut (Mode.inside [])) (sym (append-nil t)) ∙ run_inside t [] [] h)

  pub open-escape-end : (t : List ℕ) → Free 0x1B t
      → pieces_after p (opened (t ++ 0x1B ∷ [])) ≡ outside_first (p ++ opened (t ++ 0x1B ∷ [])) []
  unfolding cut completed read_byte joined
  open-escape-end t h = rw (run_inside t [] (0x1B ∷ []) h)

  -- a 1B that opens nothing
  pub escape-on : (b : ℕ) (r : List ℕ) → (b ≡ 0x5D → ⊥) → pieces_after p (0x1B ∷ b ∷ r) ≡ pieces_after (p ++ 0x1B ∷ []) (b ∷ r)
  unfolding cut completed read_byte joined
  escape-on b r n = rw (ne_eqb b 0x5D n) (by (eqb b 0x1B))
    where
      by : (u : Bool) → joined p (cond u (Piece.outside (0x1B ∷ []) ∷ []) (Piece.outside (0x1B ∷ b ∷ []) ∷ [])
          ++ cut (cond u Mode.escape Mode.outside) r)
          ≡ joined (p ++ 0x1B ∷ []) (cond u [] (Piece.outside (b ∷ []) ∷ []) ++ cut (cond u Mode.escape Mode.outside) r)
      by true = refl
      by false = sym (ap (λ (q : List ℕ). joined q (cut Mode.outside r)) (append_snoc p 0x1B (b ∷ [])))
