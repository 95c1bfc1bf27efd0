use Rattle.std.proofs.Common.{◌≡◌, length, sym, ◌∙◌, arith}
use borrow.Author.Tests.{ne_eqb}
use Rattle.octets.proofs.Compare.{equals_lengths, equals-starts, starts-pointwise}
use Rattle.octets.proofs.equal.Goals as goal

pub returns-then-a-b : goal.returns-then-a-b
returns-then-a-b c =
    let a = c.args.a.now in
    let b = c.args.b.now in
    c.starts_with.ensures.value ∙ starts-pointwise a b ∙ sym (equals-starts a b (omega (arith, c.if-a-b.true)))

pub returns-else-a-b : goal.returns-else-a-b
returns-else-a-b c =
    let unlike : length c.args.a.now ≡ length c.args.b.now → ⊥ = λ e. omega (arith, c.if-a-b.false, e) in
    ne_eqb _ _ unlike ∙ sym (equals_lengths _ _ unlike)
