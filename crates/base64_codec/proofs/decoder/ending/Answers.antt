use Rattle.std.proofs.Common.{sym, ◌∙◌}
use borrow.Author.Tests.{eq-eqb, ne_eqb}
use Rattle.base64_codec.proofs.Turns.{ending-none, ending-one, ending-more}
use Rattle.base64_codec.proofs.decoder.ending.Goals as goal

pub returns-in-empty : goal.returns-in-empty
returns-in-empty c = c.unused.ensures ∙ sym (ending-none c.args.p c.args.left.now c.in-empty.len_below)

pub returns-in-len1 : goal.returns-in-len1
returns-in-len1 c =
    c.unused-in-len1.ensures
    ∙ sym (ending-one c.args.p c.args.left.now c.in-len1.len_at_least c.in-len1.len_below ∙ rw (eq-eqb _ _ c.if-c-eq-PAD.true))

pub returns-in_default : goal.returns-in_default
returns-in_default c =
    sym (ending-one c.args.p c.args.left.now c.in-len1.len_at_least c.in-len1.len_below ∙ rw (ne_eqb _ _ c.if-c-eq-PAD.false))

pub returns-in_default-2 : goal.returns-in_default-2
returns-in_default-2 c = sym (ending-more c.args.p c.args.left.now c.in_default.len_at_least)
