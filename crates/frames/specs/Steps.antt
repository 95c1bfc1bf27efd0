-- What one byte does to a framing, and what a piece does up to the first thing to report.
use Rattle.std.specs.Prelude.{cond, ℕ, ◌+◌, ◌-◌, List, [], ◌∷◌, length, get_or, ltb, eqb}
use Rattle.frames.specs.Stream.{after_escape}
use Rattle.frames.specs.Framings.{mark_of, framing_of}
use Rattle.frames.specs.declared.Framing.{Framing}
use Rattle.frames.specs.declared.Mark.{Mark}
use Rattle.frames.specs.declared.Mark.TheVariants.{Transfer, DragDrop}
use Rattle.frames.specs.declared.Framing.TheVariants.{Plain, Escape, Text, TextEscape}
use Rattle.frames.specs.declared.step.Event.{Event}
use Rattle.frames.specs.declared.step.Event.TheVariants.{On, Closed, Abandoned}
use Rattle.frames.specs.declared.walk.Walked.{Walked}

-- a text's first byte: it says which of the two marks the text may start with
abbrev pub first_byte : ℕ → Framing
first_byte b =
    cond (eqb b 0x1B) Escape (cond (eqb b 0x35) (Text Transfer 1) (cond (eqb b 0x37) (Text DragDrop 1) Plain))

-- the byte after n bytes of a text that may be of the mark: while it is shorter than the mark, the byte must be the mark's
abbrev pub in_mark : Mark → ℕ → ℕ → Framing
in_mark k n b =
    cond (ltb n (length (mark_of k)))
    (cond (eqb b 0x1B) Escape (cond (eqb b (get_or (mark_of k) n 0)) (Text k (n + 1)) Plain))
    (cond (eqb b 0x1B) (TextEscape n) (Text k (n + 1)))

-- the byte after n bytes of a text
abbrev pub in_text : Mark → ℕ → ℕ → Framing
in_text k n b = cond (eqb n 0) (first_byte b) (in_mark k n b)

-- one byte: the framing goes on, or a text of n bytes that has its mark closes or is abandoned
unfoldable pub step_of : Framing → ℕ → Event
step_of Plain b = On (cond (eqb b 0x1B) Escape Plain)
step_of Escape b = On (framing_of (after_escape b))
step_of (Text k n) b = On (in_text k n b)
step_of (TextEscape n) b = cond (eqb b 0x5C) (Closed n) (Abandoned n (framing_of (after_escape b)))

-- the framing after an event
abbrev pub framing_after : Event → Framing
framing_after (On g) = g
framing_after (Closed n) = Plain
framing_after (Abandoned n g) = g

-- what an event makes of a walk that has used i bytes; k is how it goes on
abbrev pub after : Event → ℕ → (Framing → Walked) → Walked
after (On g) i k = k g
after (Closed n) i k = record { used = i; event = Closed n }
after (Abandoned n g) i k = record { used = i; event = Abandoned n g }

-- where a text ends that closes or is abandoned at byte u: before its 1B. At the piece's start where the 1B came with an earlier one.
abbrev pub end_of : ℕ → ℕ
end_of u = u - 2

-- "consumes through the first thing to report": the walk of xs, which begins at i of its piece
unfoldable pub walk_from : Framing → ℕ → List ℕ → Walked
walk_from f i [] = record { used = i; event = On f }
walk_from f i (b ∷ xs) = after (step_of f b) (i + 1) (λ (g : Framing). walk_from g (i + 1) xs)
