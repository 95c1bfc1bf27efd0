use Rattle.std.proofs.Common.{ap, length, arith}
use Rattle.base64_codec.proofs.Turns.{text-none, text-one, text-two}
use Rattle.base64_codec.proofs.encoder.tail.Goals as goal

pub put-requires : goal.put-requires
put-requires c = omega (arith, ap length (text-one c.args.left.now c.in-len1.len_at_least c.in-len1.len_below))

pub put-requires-in-len2-up : goal.put-requires-in-len2-up
put-requires-in-len2-up c = omega (arith, ap length (text-two c.args.left.now c.in-len2-up.len_at_least c.requires.0))

pub returns-in-empty : goal.returns-in-empty
returns-in-empty c = rw (text-none c.args.left.now c.in-empty.len_below)

pub returns-in-len1 : goal.returns-in-len1
returns-in-len1 c =
    rw (text-one c.args.left.now c.in-len1.len_at_least c.in-len1.len_below, c.put.ensures) (rw (c.char1.ensures, c.char2.ensures))

pub returns-in-len2-up : goal.returns-in-len2-up
returns-in-len2-up c =
    rw (text-two c.args.left.now c.in-len2-up.len_at_least c.requires.0, c.put-in-len2-up.ensures)
    (rw (c.char1-in-len2-up.ensures, c.char2-in-len2-up.ensures, c.char3.ensures))
