use Rattle.std.proofs.Common.{◌≡◌, ◌&&◌, drop}
use Rattle.octets.specs.Members.{every}
use Rattle.base64_codec.specs.Letters.{is_letter}
use Rattle.base64_codec.proofs.decoder.all_letters.Given as goal

abbrev pub invariant-loop-c : goal.invariant-loop-c
invariant-loop-c l = every is_letter l.s ≡ (l.all && every is_letter (drop l.c-index l.s))
