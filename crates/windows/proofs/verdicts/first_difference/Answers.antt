use mathlib.Core.Path.{sym, ap}
use Rattle.windows.specs.Steps.{judged}
use Rattle.windows.proofs.DiffLaws.{diff-at, diff-none, diff-short}
use Rattle.windows.proofs.verdicts.first_difference.Goals as goal

pub returns-in-Some : goal.returns-in-Some
returns-in-Some c = sym (ap judged (diff-at c.args.a.now c.args.b.now c.in-Some.offset c.in-Some.ensures))

pub returns-in-None : goal.returns-in-None
returns-in-None c = sym (ap judged (diff-none c.args.a.now c.args.b.now c.in-None.ensures c.if-a-b.true))

pub returns-in-None-2 : goal.returns-in-None-2
returns-in-None-2 c =
    rw c.min.ensures (sym (ap judged (diff-short c.args.a.now c.args.b.now c.in-None.ensures c.if-a-b.false)))
