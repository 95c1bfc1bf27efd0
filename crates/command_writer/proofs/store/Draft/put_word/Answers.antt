use Prim.Native.Nat.{◌-◌}
use mathlib.Core.Path.{◌≡◌, refl, ◌∙◌}
use native.Mathlib.Omega.{arith}
use borrow.Author.Tests.{eq-eqb}
use Rattle.command.specs.Values.{word_shown, shown}
use Rattle.command_writer.proofs.Puts.{put-none}
use Rattle.command_writer.proofs.Shows.{field_put, word-unknown, word-put}
use Rattle.command_writer.proofs.store.Draft.put_word.Goals as goal

pub returns-then-n : goal.returns-then-n
unfolding shown word_shown
returns-then-n c = (refl, rw c.if-n.true)

pub returns-then-n-eq0 : goal.returns-then-n-eq0
unfolding shown word_shown
returns-then-n-eq0 c =
    let d = c.args.self.now in
    (refl, rw (c.if-n.false, eq-eqb _ _ c.if-n-eq0.true) (refl, put-none d.out.now d.end))

pub returns-in_default : goal.returns-in_default
returns-in_default c =
    let a = c.args in
    let i : c.saturating_sub-i.result ≡ a.n.magnitude - a.words.now.first = omega (arith, c.saturating_sub-i.ensures, c.from.ensures) in
    (refl, rw (word-unknown a.words.now a.n c.if-n.false c.if-n-eq0.false c.saturating_sub-i.result i c.in_default.ensures.lookup.0))

pub returns : goal.returns
returns c =
    let a = c.args in
    let i : c.saturating_sub-i.result ≡ a.n.magnitude - a.words.now.first = omega (arith, c.saturating_sub-i.ensures, c.from.ensures) in
    let found = c.in-Some.ensures.lookup in
    let shows = word-put a.words.now a.n c.if-n.false c.if-n-eq0.false c.saturating_sub-i.result i c.in-Some.word.now found.0 found.1 in
    let key = c.put_key.ensures in
    let value = c.put.ensures in
    (value.0 ∙ key.0, rw shows (refl, field_put a.name.now c.in-Some.word.now.now key.1 value.1))
