use mathlib.Core.Path.{◌≡◌}
use lib.ListN.{length}
use Rattle.sender.proofs.ValueLaws.{file-values}
use borrow.Author.Rules.{rules}
use Rattle.sender.proofs.commands.write_file.Goals as goal

pub returns : goal.returns
returns c =
    let a = c.args in
    let h : length a.transfer.id.bytes ≡ 32 = search rules in
    rw (
      ← file-values a.transfer.id.bytes a.id.now a.transfer.id.len h c.requires a.name.now a.size,
      ← c.id_len.ensures,
      ← c.ids-ids.ensures,
      ← c.file-command.ensures,
    )
    c.write_framed.ensures.out_after
