use Rattle.std.proofs.Common.{◌≡◌, drop}
use Rattle.base64_codec.specs.Decode.{scan, verdict_of}
use Rattle.base64_codec.proofs.decoder.check.Given as goal

abbrev pub invariant-loop-i : goal.invariant-loop-i
invariant-loop-i l = scan l.p (drop l.i l.text) ≡ verdict_of l.text
