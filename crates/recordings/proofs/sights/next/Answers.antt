use Prim.Native.Nat.{ℕ}
use mathlib.Core.Path.{◌≡◌, sym, ap, ◌∙◌}
use mathlib.Core.List.{List}
use native.Mathlib.Omega.{arith}
use Rattle.recordings.specs.Walk.{next_escape, escape_at}
use Rattle.recordings.specs.Texts.{next_text, sight_of}
use Rattle.recordings.specs.declared.texts.TextSight.{TextSight}
use Rattle.recordings.proofs.TextLaws.{next-read, frame-whole}
use Rattle.recordings.proofs.sights.next.Goals as goal

pub judged-requires : goal.judged-requires
judged-requires c =
    let h = frame-whole c.args.recording.now c.args.at c.next_text.ensures c.in-Text.is in
    (omega (arith, h.0), h.1, c.requires.1)

-- what the code makes of the text that is found is what `mend` sees
read_next : {s sight : TextSight} (xs : List ℕ) (at : ℕ) → s ≡ next_text xs at → s ≡ sight
    → sight_of xs sight ≡ escape_at xs (next_escape xs at)
read_next xs at e k = ap (sight_of xs) (sym k ∙ e) ∙ next-read xs at

pub returns-in-Outside : goal.returns-in-Outside
returns-in-Outside c = read_next c.args.recording.now c.args.at c.next_text.ensures c.in-Outside.is

pub returns-in-Text : goal.returns-in-Text
returns-in-Text c =
    rw c.judged.ensures (read_next c.args.recording.now c.args.at c.next_text.ensures c.in-Text.is)

pub returns-in-Abandoned : goal.returns-in-Abandoned
returns-in-Abandoned c = read_next c.args.recording.now c.args.at c.next_text.ensures c.in-Abandoned.is
