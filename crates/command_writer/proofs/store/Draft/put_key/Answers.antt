use mathlib.Core.Path.{◌∙◌}
use Rattle.command_writer.proofs.Puts.{put_then}
use Rattle.command_writer.proofs.store.Draft.put_key.Goals as goal

pub returns : goal.returns
returns c =
    let a = c.put.ensures in
    let b = c.put-2.ensures in
    let d = c.put-3.ensures in
    (d.0 ∙ b.0 ∙ a.0, put_then a.1 (put_then b.1 d.1))
