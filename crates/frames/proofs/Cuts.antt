-- THE CUT DOES NOT MATTER: two lists of calls that consume the same bytes run the same machine over them.
use mathlib.Core.Path.{ap, sym, ◌∙◌}
use mathlib.Core.List.{List}
use Rattle.frames.specs.Stream.{Told}
use Rattle.frames.specs.Claims.{SameHoweverCut}
use Rattle.frames.proofs.States.{State}
use Rattle.frames.proofs.Runs.{calls-run}

pub cuts : SameHoweverCut
cuts f c bs ts₁ ts₂ f₁ f₂ c₁ c₂ p q =
    let e = sym (calls-run p) ∙ calls-run q in
    (ap (λ (r : List Told × State). r.0) e, ap (λ (r : List Told × State). r.1.framing) e, ap (λ (r : List Told × State). r.1.text) e)
