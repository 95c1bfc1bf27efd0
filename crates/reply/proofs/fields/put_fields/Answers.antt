use mathlib.Core.Path.{sym, ◌∙◌}
use borrow.Author.Tests.{leb-true, leb-false}
use Rattle.reply.proofs.Putting.{put-all-fits, written-short}
use Rattle.reply.proofs.fields.put_fields.Goals as goal

pub returns-then-not-fit : goal.returns-then-not-fit
returns-then-not-fit c =
    rw (← c.key_for.ensures, ← c.key_for-2.ensures, ← c.key_for-3.ensures)
    (written-short _ _ (leb-false _ _ (sym c.fit.ensures ∙ c.if-not-fit.true)))

pub returns : goal.returns
returns c =
    rw (← c.key_for.ensures, ← c.key_for-2.ensures, ← c.key_for-3.ensures)
    (c.put_parts.ensures ∙ put-all-fits _ _ (leb-true _ _ (sym c.fit.ensures ∙ c.if-not-fit.false)))
