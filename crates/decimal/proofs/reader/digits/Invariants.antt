use Rattle.std.proofs.Common.{◌≡◌, ◌^◌, ◌<◌, drop}
use Rattle.decimal.specs.Read.{digits_of}
use Rattle.decimal.proofs.reader.digits.Given as goal

abbrev pub invariant-loop-c : goal.invariant-loop-c
invariant-loop-c l = (l.value < 10 ^ l.c-index) × (digits_of l.value (drop l.c-index l.text) ≡ digits_of 0 l.text)
