use mathlib.Core.Path.{sym, ◌∙◌}
use native.Mathlib.Omega.{arith}
use Rattle.octets.proofs.Everys.{every-turn, every-told}
use Rattle.command.specs.Classes.{byte_of}
use Rattle.command.proofs.letters.all.Goals as goal

pub loop-c-preserved : goal.loop-c-preserved
loop-c-preserved c =
    let a = c.args in
    let l = c.loop-c in
    l.invariant ∙ rw c.is-all.ensures (every-turn (byte_of a.class) a.s.now l.c-index l.all (omega arith))

pub returns : goal.returns
returns c =
    let a = c.args in
    let l = c.loop-c in
    sym (l.invariant ∙ every-told (byte_of a.class) a.s.now l.c-index l.all (omega arith))
