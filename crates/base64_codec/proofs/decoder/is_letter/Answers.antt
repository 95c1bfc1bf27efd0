use native.Mathlib.Omega.{arith}
use Rattle.base64_codec.proofs.Ranges.{letter-ranges}
use Rattle.base64_codec.proofs.decoder.is_letter.Goals as goal

pub returns : goal.returns
returns c = letter-ranges c.args.c (omega arith)
