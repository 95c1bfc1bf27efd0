use mathlib.Core.Path.{◌≡◌}
use lib.ListN.{length}
use Rattle.supplying.proofs.ArrayLaws.{length_mapped}
use Rattle.supplying.proofs.ValueLaws.{part-written}
use borrow.Author.Rules.{rules}
use Rattle.supplying.proofs.writers.write_part.Goals as goal

-- a session has 32 file records
pub returns : goal.returns
returns c =
    let a = c.args in
    let s = a.session.now in
    let i = c.ids-ids.ensures in
    let files : length s.files ≡ 32 = search (rules, length_mapped) in
    part-written s _ a.last a.bytes.now a.out.now _ _ _ files i.lengths.0 i.ids i.lengths.1 c.piece-command.ensures
    c.write_framed.ensures.out_after
