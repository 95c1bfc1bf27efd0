-- What was taken of the room is what the parts before the index have.
use Rattle.std.proofs.Common.{◌≡◌, ◌+◌, length, drop}
use Rattle.reply.specs.Parts.{joined}
use Rattle.reply.specs.Puts.{texts}
use Rattle.reply.proofs.fields.fit.Given as goal

abbrev pub invariant-loop-part : goal.invariant-loop-part
invariant-loop-part l =
    l.left + length (joined (texts l.parts)) ≡ l.room + length (joined (texts (drop l.part-index l.parts)))
