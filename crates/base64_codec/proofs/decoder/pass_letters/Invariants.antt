use Rattle.std.proofs.Common.{◌≡◌, ◌+◌, ◌*◌, drop}
use Rattle.base64_codec.specs.Decode.{scan}
use Rattle.base64_codec.specs.Letters.{value_before}
use Rattle.base64_codec.proofs.decoder.pass_letters.Given as goal

abbrev pub invariant-loop-k : goal.invariant-loop-k
invariant-loop-k l = let i = l.start + l.k * 4 in scan (value_before l.text i) (drop i l.text) ≡ scan 0 l.text
