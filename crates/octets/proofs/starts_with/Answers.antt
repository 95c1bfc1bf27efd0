use Rattle.std.proofs.Common.{sym, ◌∙◌, arith}
use borrow.Author.Tests.{lt-leb}
use Rattle.octets.proofs.Compare.{starts-short, starts-pointwise}
use Rattle.octets.proofs.starts_with.Goals as goal

pub returns-then-prefix-s : goal.returns-then-prefix-s
returns-then-prefix-s c = c.eq.ensures ∙ starts-pointwise c.args.s.now c.args.prefix.now

pub returns-else-prefix-s : goal.returns-else-prefix-s
returns-else-prefix-s c =
    lt-leb _ _ (omega (arith, c.if-prefix-s.false)) ∙ sym (starts-short c.args.s.now c.args.prefix.now (omega (arith, c.if-prefix-s.false)))
