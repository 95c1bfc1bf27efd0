use mathlib.Core.Path.{◌≡◌}
use native.Mathlib.Omega.{arith}
use lib.ListN.{length}
use Rattle.sender.proofs.ValueLaws.{piece-values}
use borrow.Author.Rules.{rules}
use Rattle.sender.proofs.commands.write_piece.Goals as goal

pub returns : goal.returns
returns c =
    let a = c.args in
    -- both ids have 32 bytes
    let h : length a.transfer.id.bytes ≡ 32 = search rules in
    let k : length a.current.id.bytes ≡ 32 = search rules in
    rw (
      ← piece-values a.transfer.id.bytes a.current.id.bytes a.transfer.id.len h (omega arith) a.bytes.now a.last a.current.id.len k,
      ← c.id_len.ensures,
      ← c.id_len-2.ensures,
      ← c.ids-ids.ensures,
      ← c.piece-command.ensures,
    )
    c.write_framed.ensures.out_after
