use mathlib.Core.Path.{ap}
use native.Mathlib.Omega.{arith}
use lib.ListN.{length}
use Rattle.base64_codec.proofs.Lengths.{length-text}
use Rattle.reply.proofs.TextLaws.{encoded, word-least}
use Rattle.reply.proofs.texts.status_text.Goals as goal

pub returns : goal.returns
returns c =
    let w = c.word_of in
    rw (c.unwrap_or-len.ensures, ← w.ensures)
    (encoded w.result.now _ _ c.encode.ensures.out_after
    (omega (arith, length-text w.result.now, ap length w.ensures, word-least c.args.status)))
