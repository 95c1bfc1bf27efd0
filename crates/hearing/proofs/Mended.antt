-- A recording and its mended form are heard alike, places apart: mending keeps the readable reports, and no other is heard.
use mathlib.Core.Path.{ap, sym, ◌∙◌}
use mathlib.Core.List.{List}
use Rattle.frames.specs.Stream.{Mode, Told, stream}
use Rattle.protocol.specs.Table.{empty_table}
use Rattle.recordings.specs.Pieces.{mended_of}
use Rattle.recordings.proofs.Every.{mend-laws}
use Rattle.hearing.specs.Hearing.{heard_in}
use Rattle.hearing.specs.Laws.{MendedAlike}
use Rattle.hearing.proofs.Texts.{hears, hears-readable, heard-stream}

pub mended-alike : MendedAlike heard_in
mended-alike xs =
    heard-stream (mended_of xs)
    ∙ ap (λ (r : List Told × Mode). hears empty_table r.0) (mend-laws.same_commands xs)
    ∙ hears-readable empty_table (stream Mode.outside xs).0
    ∙ sym (heard-stream xs)
