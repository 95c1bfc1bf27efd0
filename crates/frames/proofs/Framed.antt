-- A text with a mark in its frame, as the stream reads it.
use Prim.Native.Nat.{ℕ, suc}
use mathlib.Core.Path.{◌≡◌, refl, ◌∙◌}
use mathlib.Core.Bool.{Bool, true, false, cond, ◌||◌}
use mathlib.Core.List.{List, [], ◌∷◌, ◌++◌, append-nil}
use native.Mathlib.Omega.{arith}
use lib.ListN.{length}
use lib.Seq.{append_snoc}
use lib.Dec.{eqb, leb}
use borrow.Author.Tests.{le-leb, eqb-true}
use Rattle.octets.specs.Search.{index_of, index_after}
use Rattle.frames.specs.Stream.{Mode, Told, is_command, is_drag_drop, text_tells, text_limit, closed_tells, read_byte, stream}
use Rattle.frames.specs.Claims.{FramedTells}
use Rattle.frames.specs.DragDrop.{DraggedTells}
use Rattle.frames.proofs.Marks.{not_drag}

-- the bytes of a text after those of `before`, none of them 1B, and its closer
in_frame : (before t : List ℕ) → index_of 0x1B t ≡ length t
    → stream (Mode.inside before) (t ++ 0x1B ∷ 0x5C ∷ []) ≡ (closed_tells (before ++ t), Mode.outside)
unfolding stream read_byte index_of index_after
in_frame before [] h = rw (append-nil, append-nil)
in_frame before (b ∷ t) h = go (eqb b 0x1B) refl h (in_frame (before ++ (b ∷ [])) t)
  where
    go : (u : Bool) → eqb b 0x1B ≡ u → index_after u (index_of 0x1B t) ≡ suc (length t)
        → (index_of 0x1B t ≡ length t
        → stream (Mode.inside (before ++ (b ∷ []))) (t ++ 0x1B ∷ 0x5C ∷ []) ≡ (closed_tells ((before ++ (b ∷ [])) ++ t), Mode.outside))
        → stream (Mode.inside before) (b ∷ t ++ 0x1B ∷ 0x5C ∷ []) ≡ (closed_tells (before ++ b ∷ t), Mode.outside)
    go true e l ih = absurd (omega arith)
    go false e l ih = rw (e, ih (omega arith), append_snoc before b t)

pub stream-framed : FramedTells
unfolding stream read_byte
stream-framed t plain command short =
    in_frame [] t (eqb-true _ _ plain) ∙ rw (not_drag t command) (rw (command, le-leb _ _ short))

pub stream-dragged : DraggedTells
unfolding stream read_byte
stream-dragged t plain drag short = in_frame [] t (eqb-true _ _ plain) ∙ by (is_command t)
  where
    by : (u : Bool) → ◌≡◌ {A = List Told × Mode}
        (cond (u || is_drag_drop t) (cond (leb (length t) text_limit) (text_tells t) Told.too_long ∷ []) [], Mode.outside)
        (Told.drag_drop t ∷ [], Mode.outside)
    by true = rw (drag, le-leb _ _ short)
    by false = rw (drag, le-leb _ _ short)
