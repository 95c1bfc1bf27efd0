use native.Mathlib.Omega.{arith}
use Rattle.recordings.proofs.TextLaws.{frame-whole}
use Rattle.hearing.proofs.turns.turn.Goals as goal

pub text-requires : goal.text-requires
text-requires c =
    let h = frame-whole c.args.recording.now c.args.reached.at c.next_text.ensures c.in-Text.is in
    (c.requires.0, c.requires.1, omega (arith, h.0), h.1)
