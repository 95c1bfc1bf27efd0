use native.Mathlib.Omega.{arith}
use Rattle.base64_codec.specs.Alphabet.{value_of}
use Rattle.base64_codec.specs.Values.{values_from}
use Rattle.base64_codec.proofs.Tabled.{table-value}
use Rattle.base64_codec.proofs.alphabet.value.Goals as goal

pub returns : goal.returns
unfolding values_from value_of
returns c = rw c.from.ensures (table-value c.args.c (omega arith))
