-- What is kept of a mode between two bytes: a count in place of the text, and of the text its first bytes.
use Rattle.std.specs.Prelude.{ℕ, ◌+◌, min, Bool, cond, ◌||◌, List, [], length, take}
use Rattle.octets.specs.Slices.{starts_with}
use Rattle.frames.specs.Stream.{Mode, text_limit, mark, drag_mark, is_reported}
use Rattle.frames.specs.declared.Framing.{Framing}
use Rattle.frames.specs.declared.Mark.{Mark}
use Rattle.frames.specs.declared.Mark.TheVariants.{Transfer, DragDrop}
use Rattle.frames.specs.declared.Framing.TheVariants.{Plain, Escape, Text, TextEscape}

-- what a text of the mark starts with
abbrev pub mark_of : Mark → List ℕ
mark_of Transfer = mark
mark_of DragDrop = drag_mark

-- not known not to be of the mark: the text starts with as much of it as it has room for
unfoldable pub may_be : Mark → List ℕ → Bool
may_be k t = starts_with t (take (length t) (mark_of k))

-- a count, up to one more than a reported text may have
abbrev pub cap : ℕ → ℕ
cap n = min n (text_limit + 1)

-- the framing with its count so capped
abbrev pub capped_of : Framing → Framing
capped_of Plain = Plain
capped_of Escape = Escape
capped_of (Text k n) = Text k (cap n)
capped_of (TextEscape n) = TextEscape (cap n)

-- how many bytes the text has so far
abbrev pub count : Framing → ℕ
count Plain = 0
count Escape = 0
count (Text k n) = n
count (TextEscape n) = n

-- the framing of a mode: a text known to be of no mark behaves as plain bytes do. After its 1B a text grows no more, so that it is then
-- known whether it is reported.
abbrev pub framing_of : Mode → Framing
framing_of Mode.outside = Plain
framing_of Mode.escape = Escape
framing_of (Mode.inside t) =
    cond (may_be Transfer t) (Text Transfer (cap (length t))) (cond (may_be DragDrop t) (Text DragDrop (cap (length t))) Plain)
framing_of (Mode.inside_escape t) = cond (is_reported t) (TextEscape (cap (length t))) Escape

-- what the carry keeps of a mode's text: its first 8,192 bytes, and of a text known to be of no mark nothing
abbrev pub kept_of : Mode → List ℕ
kept_of Mode.outside = []
kept_of Mode.escape = []
kept_of (Mode.inside t) = cond (may_be Transfer t || may_be DragDrop t) (take text_limit t) []
kept_of (Mode.inside_escape t) = cond (is_reported t) (take text_limit t) []
