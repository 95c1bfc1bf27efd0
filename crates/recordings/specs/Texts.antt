-- What `next_text` answers: the command texts of a recording, found and not read.
use Rattle.std.specs.Prelude.{ℕ, ◌+◌, ◌-◌, cond, List, length, take, drop, get_or, leb, eqb}
use Rattle.frames.specs.Stream.{is_command}
use Rattle.command.specs.Meaning.{meaning_of}
use Rattle.recordings.specs.Walk.{next_escape, Seen, meant}
use Rattle.recordings.specs.declared.texts.TextSight.{TextSight}

-- a text with its closer, and one without; its piece lies from a place up to another
unfoldable pub closed_text : List ℕ → ℕ → ℕ → TextSight
closed_text t start end = cond (is_command t) (TextSight.Text start end) (TextSight.Outside end)

unfoldable pub abandoned_text : List ℕ → ℕ → ℕ → TextSight
abandoned_text t start end = cond (is_command t) (TextSight.Abandoned start end) (TextSight.Outside end)

-- the text whose opener is at place `start`: it ends at the next 1B, as the byte after that says
unfoldable pub text_from : List ℕ → ℕ → ℕ → TextSight
text_from xs start end =
    let t = take (end - (start + 2)) (drop (start + 2) xs) in
    cond (leb (end + 2) (length xs))
    (cond (eqb (get_or xs (end + 1) 0) 0x5C) (closed_text t start (end + 2)) (abandoned_text t start end))
    (TextSight.Outside (length xs))

-- after the next 1B: an opener's, or one outside texts; nothing ends a text that is open at the end
unfoldable pub escape_text : List ℕ → ℕ → TextSight
escape_text xs i =
    cond (leb (i + 2) (length xs))
    (cond (eqb (get_or xs (i + 1) 0) 0x5D) (text_from xs i (next_escape xs (i + 2))) (TextSight.Outside (i + 1)))
    (TextSight.Outside (length xs))

abbrev pub next_text : List ℕ → ℕ → TextSight
next_text xs at = escape_text xs (next_escape xs at)

-- the text of a frame that lies from a place up to another
abbrev pub text_between : List ℕ → ℕ → ℕ → List ℕ
text_between xs start end = take (end - 2 - (start + 2)) (drop (start + 2) xs)

-- what it is once it is read
abbrev pub sight_of : List ℕ → TextSight → Seen
sight_of xs (TextSight.Outside to) = Seen.outside to
sight_of xs (TextSight.Text start end) = meant (meaning_of (text_between xs start end)) start end
sight_of xs (TextSight.Abandoned start end) = Seen.refuses start end 2
