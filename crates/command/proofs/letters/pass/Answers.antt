use Rattle.std.proofs.Common.{arith, sym, ◌∙◌, ap, length-drop, length, ◌≡◌, ◌+◌, drop}
use Rattle.octets.proofs.Lists.{part-rest}
use Rattle.command.specs.Classes.{byte_of, run}
use Rattle.command.proofs.Runs.{lapse-some, lapse-none, run_end}
use Rattle.command.proofs.letters.pass.Goals as goal

pub returns-then-from-s : goal.returns-then-from-s
returns-then-from-s c = let a = c.args in omega (arith, run_end (byte_of a.class) a.s.now a.from (omega arith))

pub returns-in-Some : goal.returns-in-Some
returns-in-Some c =
    let a = c.args in
    let f = byte_of a.class in
    ap (◌+◌ a.from) (lapse-some f _ c.in-Some.passed (sym c.in-Some.ensures) ∙ ap (run f) (part-rest a.s.now a.from))

pub returns-in-None : goal.returns-in-None
returns-in-None c =
    let a = c.args in
    let f = byte_of a.class in
    let e : run f (drop a.from a.s.now) ≡ _ =
    sym (ap (run f) (part-rest a.s.now a.from)) ∙ lapse-none f _ (sym c.in-None.ensures) ∙ ap length (part-rest a.s.now a.from) in
    omega (arith, e, length-drop a.from a.s.now)
