use mathlib.Core.Path.{◌∙◌, ap}
use borrow.Author.Tests.{ne_eqb}
use Rattle.command.specs.Values.{count}
use Rattle.reply.proofs.TextLaws.{to_end, digits, digits-fit}
use Rattle.reply.proofs.texts.size_text.Goals as goal

pub returns : goal.returns
returns c =
    let size = c.args.size in
    rw c.unwrap_or-len.ensures
    (ap to_end c.write.ensures.out_after ∙ digits (count size) _ (digits-fit size) ∙ rw (ne_eqb size 0 c.if-size-eq0.false))
