use Rattle.reply.proofs.Putting.{put-copied}
use Rattle.reply.proofs.writer.put_at.Goals as goal

pub returns : goal.returns
returns c =
    let a = c.args in
    rw c.unwrap_or.ensures (put-copied a.part.now a.buf.now a.at _ c.copy_at.ensures)
