-- "Replies are put together field by field into the lent reply buffer": parts put one after another.
use Rattle.std.specs.Prelude.{ℕ, ◌+◌, List, [], ◌∷◌, length, map}
use denote.Ref.{Bor, at_last}
use Rattle.octets.specs.Outcome.{Outcome, outcome, stored_at}
use Rattle.reply.specs.declared.writer.Writer.{Writer}

-- place and buffer after one more part, which is left out where it does not fit
unfoldable pub put : Outcome ℕ → List ℕ → Outcome ℕ
put o part = stored_at (o.answer + length part) o.answer part o.buffer o.answer

-- place and buffer after each of the parts
abbrev pub put_all : Outcome ℕ → List (List ℕ) → Outcome ℕ
put_all o [] = o
put_all o (p ∷ ps) = put_all (put o p) ps

-- "A thin writer struct holding the buffer and a place": the same borrow at the bytes after one more part, and the place after it
abbrev pub stored : Writer → List ℕ → Writer
stored w part =
    let o = put (outcome w.at w.buf.now) part in
    record { buf = at_last w.buf o.buffer; at = o.answer }

-- and after each of some parts
abbrev pub stored_all : Writer → List (List ℕ) → Writer
stored_all w parts =
    let o = put_all (outcome w.at w.buf.now) parts in
    record { buf = at_last w.buf o.buffer; at = o.answer }

-- the bytes of parts that are lent
abbrev pub texts : List (Bor (List ℕ)) → List (List ℕ)
texts parts = map (λ part. part.now) parts
