use Rattle.std.proofs.Common.{◌≡◌, ◌+◌, ◌*◌, sym, ◌∙◌, true, length, [], ◌∷◌}
use lib.Dec.{leb}
use borrow.Author.Tests.{leb-true}
use Rattle.octets.proofs.Stores.{sets-part}
use Rattle.recordings.specs.Walk.{with_row, why_number}
use Rattle.recordings.proofs.walk.put_row.Goals as goal

pub returns-then-fits : goal.returns-then-fits
unfolding with_row
returns-then-fits c =
    let a = c.args in
    let e : leb (a.row * 3 + 3) (length a.list.now) ≡ true = sym c.fits.ensures ∙ c.if-fits.true in
    rw (e, c.copy_from_slice.ensures.after, c.why.ensures)
    (sets-part (a.start ∷ a.len ∷ why_number a.fault ∷ []) a.list.now (a.row * 3) (leb-true _ _ e))
