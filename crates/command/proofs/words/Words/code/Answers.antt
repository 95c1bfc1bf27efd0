use mathlib.Core.Path.{sym, ◌∙◌}
use Rattle.command.proofs.Names.{word-code, no-word}
use Rattle.command.proofs.words.Words.code.Goals as goal

pub returns-in-Some : goal.returns-in-Some
returns-in-Some c =
    let a = c.args in rw c.from.ensures (word-code a.self.now a.text.now c.in-Some.i (sym c.place_in.ensures ∙ c.in-Some.is))

pub returns : goal.returns
returns c =
    let a = c.args in
    rw (c.ok_or.ensures.value, c.alias_in.ensures) (no-word a.self.now a.text.now (sym c.place_in.ensures ∙ c.in_default.is))
