use Rattle.windows.proofs.LineLaws.{writes_more}
use Rattle.windows.proofs.lines.list.Goals as goal

pub returns : goal.returns
returns c = (c.seconds.ensures.0, writes_more c.firsts-lines.ensures.1 c.seconds.ensures.1)
