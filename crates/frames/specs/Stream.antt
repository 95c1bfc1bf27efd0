-- The frames of document 01 over a stream of bytes, read one after another: no pieces, no counts, no buffers.
use Rattle.std.specs.Prelude.{ℕ, Bool, cond, ◌||◌, List, [], ◌∷◌, ◌++◌, length, leb, eqb}
use Rattle.octets.specs.Ascii.{ascii}
use Rattle.octets.specs.Slices.{starts_with}

-- outside texts, there after a 1B, inside a text, there after a 1B; with all of the text so far
pub data Mode : Type 0 where
  outside : Mode
  escape : Mode
  inside : List ℕ → Mode
  inside_escape : List ℕ → Mode

-- what is told: a command text, a text of drag and drop, refusal 1, refusal 2; the refusals of either
pub data Told : Type 0 where
  command : List ℕ → Told
  drag_drop : List ℕ → Told
  too_long : Told
  abandoned : Told

-- "A text is a command if it starts with `5113;`"
abbrev pub mark : List ℕ
mark = ascii "5113;"

abbrev pub is_command : List ℕ → Bool
is_command t = starts_with t mark

-- order 12: "Texts starting `72;` .."
abbrev pub drag_mark : List ℕ
drag_mark = ascii "72;"

abbrev pub is_drag_drop : List ℕ → Bool
is_drag_drop t = starts_with t drag_mark

-- ".. are now .. reported, with 01's refusals 1 and 2"
abbrev pub is_reported : List ℕ → Bool
is_reported t = is_command t || is_drag_drop t

-- a reported text tells itself, and what it is
abbrev pub text_tells : List ℕ → Told
text_tells t = cond (is_drag_drop t) (Told.drag_drop t) (Told.command t)

-- "A command text may have 8,192 bytes, the `5113;` included"
abbrev pub text_limit : ℕ
text_limit = 8192

-- what a closed text tells: itself, or refusal 1 where it is too long. "other texts pass silently, whatever their length or end"
abbrev pub closed_tells : List ℕ → List Told
closed_tells t = cond (is_reported t) (cond (leb (length t) text_limit) (text_tells t) Told.too_long ∷ []) []

-- what an abandoned text tells: refusal 2
abbrev pub abandoned_tells : List ℕ → List Told
abandoned_tells t = cond (is_reported t) (Told.abandoned ∷ []) []

-- the byte after a 1B: "5D opens a new text, 1B waits again, any other byte returns to plain"
abbrev pub after_escape : ℕ → Mode
after_escape b = cond (eqb b 0x5D) (Mode.inside []) (cond (eqb b 0x1B) Mode.escape Mode.outside)

-- one byte: what it tells, and the mode after it. 1B 5C closes a text; a 1B "followed by anything but 5C abandons that text".
unfoldable pub read_byte : Mode → ℕ → List Told × Mode
read_byte Mode.outside b = ([], cond (eqb b 0x1B) Mode.escape Mode.outside)
read_byte Mode.escape b = ([], after_escape b)
read_byte (Mode.inside t) b = ([], cond (eqb b 0x1B) (Mode.inside_escape t) (Mode.inside (t ++ (b ∷ []))))
read_byte (Mode.inside_escape t) b = cond (eqb b 0x5C) (closed_tells t, Mode.outside) (abandoned_tells t, after_escape b)

-- what is told before, and then a reading of what follows
abbrev pub and_then : List Told → List Told × Mode → List Told × Mode
and_then ts r = (ts ++ r.0, r.1)

-- the bytes in their order: all that they tell, and the mode after them
unfoldable pub stream : Mode → List ℕ → List Told × Mode
stream m [] = ([], m)
stream m (b ∷ bs) = and_then (read_byte m b).0 (stream (read_byte m b).1 bs)

-- a text in its frame: "Open: 1B 5D. Close: 1B 5C."
abbrev pub framed : List ℕ → List ℕ
framed t = 0x1B ∷ 0x5D ∷ t ++ 0x1B ∷ 0x5C ∷ []
