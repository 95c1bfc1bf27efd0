use mathlib.Core.Path.{◌≡◌}
use lib.ListN.{length}
use Rattle.sender.proofs.ValueLaws.{finish-values}
use borrow.Author.Rules.{rules}
use Rattle.sender.proofs.commands.write_finish.Goals as goal

pub returns : goal.returns
returns c =
    let a = c.args in
    let h : length a.transfer.id.bytes ≡ 32 = search rules in
    let values = finish-values a.transfer.id.bytes a.transfer.id.len h in
    rw (← values, ← c.id_len.ensures, ← c.lone-command.ensures) c.write_framed.ensures.out_after
