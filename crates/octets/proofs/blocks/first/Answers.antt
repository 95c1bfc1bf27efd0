use Rattle.std.proofs.Common.{arith, sym, ◌∙◌, ap, length-drop, length, ◌≡◌, ◌+◌, drop}
use Rattle.octets.specs.Search.{index_of}
use Rattle.octets.proofs.Lists.{part-rest}
use Rattle.octets.proofs.Passes.{place_some, place_none}
use Rattle.octets.proofs.blocks.first.Goals as goal

pub returns-in-Some : goal.returns-in-Some
returns-in-Some c =
    let a = c.args in
    ap (◌+◌ a.from) (place_some a.b _ c.in-Some.passed (sym c.in-Some.ensures) ∙ ap (index_of a.b) (part-rest a.s.now a.from))

pub returns-in-None : goal.returns-in-None
returns-in-None c =
    let a = c.args in
    let e : index_of a.b (drop a.from a.s.now) ≡ _ =
    sym (ap (index_of a.b) (part-rest a.s.now a.from)) ∙ place_none a.b _ (sym c.in-None.ensures) ∙ ap length (part-rest a.s.now a.from) in
    omega (arith, e, length-drop a.from a.s.now)
