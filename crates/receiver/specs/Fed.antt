-- The end of a feed: its answer and the reply buffer afterwards, as protocol's `scanned_feed` puts them.
use Rattle.std.specs.Prelude.{ℕ, List}
use Rattle.octets.specs.Outcome.{Outcome, outcome}
use Rattle.frames.specs.declared.Scanned.{Scanned}
use Rattle.command.specs.declared.Command.{Command}
use Rattle.protocol.specs.Replies.{replied_of}
use Rattle.protocol.specs.Calls.{fed_by}
use Rattle.protocol.specs.declared.Stepped.{Stepped}
use Rattle.protocol.specs.declared.Fed.{Fed}

unfoldable pub fed_with : Scanned → Stepped → Command → List ℕ → Outcome Fed
fed_with k s c buf = outcome (fed_by k s c (replied_of s.reply buf).answer) (replied_of s.reply buf).buffer
