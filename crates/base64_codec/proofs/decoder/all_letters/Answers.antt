use Rattle.std.proofs.Common.{sym, ◌∙◌, arith}
use Rattle.octets.proofs.Everys.{every-turn, every-told}
use Rattle.base64_codec.specs.Letters.{is_letter}
use Rattle.base64_codec.proofs.decoder.all_letters.Goals as goal

pub loop-c-preserved : goal.loop-c-preserved
loop-c-preserved c =
    let l = c.loop-c in
    l.invariant ∙ rw c.is_letter-all.ensures (every-turn is_letter c.args.s.now l.c-index l.all (omega arith))

pub returns : goal.returns
returns c =
    let l = c.loop-c in
    sym (l.invariant ∙ every-told is_letter c.args.s.now l.c-index l.all (omega arith))
