-- Bytes that change nothing but a count. No part of what a call answers: how it is answered fast.
use Rattle.std.specs.Prelude.{cond, ℕ, ◌+◌, List, length, ltb}
use Rattle.octets.specs.Search.{index_of}
use Rattle.frames.specs.Stream.{mark}
use Rattle.frames.specs.declared.Framing.{Framing}
use Rattle.frames.specs.declared.Framing.TheVariants.{Plain, Escape, Text, TextEscape}

-- how many of the bytes ys only count in the framing: outside of texts, and in a text past either mark, those before the first 1B
abbrev pub glide_of : Framing → List ℕ → ℕ
glide_of Plain ys = index_of 0x1B ys
glide_of Escape ys = 0
glide_of (Text k n) ys = cond (ltb n (length mark)) 0 (index_of 0x1B ys)
glide_of (TextEscape n) ys = 0

-- the framing after k of them
abbrev pub passed_of : Framing → ℕ → Framing
passed_of Plain k = Plain
passed_of Escape k = Escape
passed_of (Text m n) k = Text m (n + k)
passed_of (TextEscape n) k = TextEscape n
