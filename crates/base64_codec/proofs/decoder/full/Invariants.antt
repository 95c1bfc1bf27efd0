use Rattle.std.proofs.Common.{◌≡◌, ◌+◌, ◌*◌, ◌≤◌, length, drop}
use Rattle.std.proofs.lemmas.List.Edits.{sets}
use Rattle.base64_codec.specs.Decode.{bytes_of}
use Rattle.base64_codec.proofs.decoder.full.Given as goal

abbrev pub invariant-loop-a : goal.invariant-loop-a
invariant-loop-a l =
    (l.o + length (bytes_of (drop (l.a-index * 8) l.text)) ≤ length l.out)
    × (sets l.out l.o (bytes_of (drop (l.a-index * 8) l.text)) ≡ sets l.initial.out l.at (bytes_of l.text))
