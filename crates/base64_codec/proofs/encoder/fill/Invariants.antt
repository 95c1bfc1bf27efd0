use Rattle.std.proofs.Common.{◌≡◌, ◌+◌, ◌*◌, ◌≤◌, length, drop}
use Rattle.std.proofs.lemmas.List.Edits.{sets}
use Rattle.base64_codec.specs.Encode.{text_of}
use Rattle.base64_codec.proofs.encoder.fill.Given as goal

abbrev pub invariant-loop-a : goal.invariant-loop-a
invariant-loop-a l =
    (l.o + length (text_of (drop (l.a-index * 3) l.«data»)) ≤ length l.out)
    × (sets l.out l.o (text_of (drop (l.a-index * 3) l.«data»)) ≡ sets l.initial.out l.at (text_of l.«data»))
