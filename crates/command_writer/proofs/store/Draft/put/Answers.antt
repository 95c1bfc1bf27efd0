use mathlib.Core.Path.{refl}
use Rattle.octets.specs.Slices.{copy_at}
use Rattle.command_writer.proofs.Puts.{put-stored}
use Rattle.command_writer.proofs.store.Draft.put.Goals as goal

pub returns : goal.returns
unfolding copy_at
returns c =
    let a = c.args in
    let d = a.self.now in
    (refl, put-stored _ _ a.s.now d.out.now d.end c.end_of-self.result c.copy_at.ensures c.end_of-self.ensures)
