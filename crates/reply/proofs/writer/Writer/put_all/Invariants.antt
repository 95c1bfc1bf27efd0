-- So far the parts before the index are put in.
use Rattle.std.proofs.Common.{◌≡◌, take}
use Rattle.reply.specs.Puts.{stored_all, texts}
use Rattle.reply.proofs.writer.Writer.put_all.Given as goal

abbrev pub invariant-loop-part : goal.invariant-loop-part
invariant-loop-part l = l.self ≡ stored_all l.initial.self (texts (take l.part-index l.parts))
