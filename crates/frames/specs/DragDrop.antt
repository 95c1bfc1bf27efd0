-- Texts that start with `72;`: what is claimed of them beside the claims of every text, and the examples of order 12.
use Rattle.std.specs.Prelude.{ℕ, ◌≤◌, ◌≡◌, true, cond, List, [], ◌∷◌, length, eqb}
use Prim.Native.String.{String, [] as ε, ◌∷◌ as ◌◂◌}
use Prim.Native.Char.{code}
use Rattle.octets.specs.Ascii.{ascii}
use Rattle.octets.specs.Slices.{lacks}
use Rattle.frames.specs.Stream.{Mode, Told, is_drag_drop, text_limit, stream, framed}
use Rattle.frames.specs.Calls.{taken_of}
use Rattle.frames.specs.declared.Framing.{Framing}
use Rattle.frames.specs.declared.Framing.TheVariants.{Plain}

-- such a text without 1B, in its frame: the stream tells that text and nothing else, and is outside texts again at the frame's end
abbrev pub DraggedTells : Type 0
DraggedTells =
    (t : List ℕ) → lacks 0x1B t ≡ true → is_drag_drop t ≡ true → length t ≤ text_limit
    → stream Mode.outside (framed t) ≡ (Told.drag_drop t ∷ [], Mode.outside)

-- ---- examples
-- quoted bytes, in which E stands for the byte 1B
abbrev pub noisy : String → List ℕ
noisy ε = []
noisy (a ◂ s) = cond (eqb (code a) 0x45) 0x1B (code a) ∷ noisy s

-- what the bytes tell
abbrev pub Tells : String → List Told → Type 0
Tells s ts = (stream Mode.outside (noisy s)).0 ≡ ts

-- what calls on the pieces, one after another, leave of a carry that was empty. The calls are those that are not refused: only what they
-- keep makes this carry longer.
unfoldable pub kept_after : Framing → List ℕ → List String → List ℕ
kept_after f c [] = c
kept_after f c (s ∷ ss) = let o = taken_of f (noisy s) c in kept_after o.answer.framing o.buffer ss

abbrev pub Keeps : List String → String → Type 0
Keeps ss kept = kept_after Plain [] ss ≡ ascii kept

pub record MarkExamples : Type 0 where
  pub texts : Tells "E]72;t=aE\\E]72E\\E]720;E\\E]5113;xE\\E]72;Ex"
      (Told.drag_drop (ascii "72;t=a") ∷ Told.command (ascii "5113;x") ∷ Told.abandoned ∷ [])
  -- "`7` and `72` are kept like `5`"
  pub one : Keeps ("E]7" ∷ []) "7"
  pub two : Keeps ("E]72" ∷ "x" ∷ []) "72"
  pub cut : Keeps ("E]7" ∷ "2;tE" ∷ []) "72;t"
  pub ended : Keeps ("E]72E" ∷ []) ""
