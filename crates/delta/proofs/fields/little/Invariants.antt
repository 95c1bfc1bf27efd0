use Rattle.delta.proofs.FieldLaws.{Halfway}
use Rattle.delta.proofs.fields.little.Given as goal

abbrev pub invariant-loop-byte : goal.invariant-loop-byte
invariant-loop-byte l = Halfway l.bytes l.byte-iterator.iter.rest.now l.n
