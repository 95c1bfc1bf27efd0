use Prim.Native.Nat.{◌+◌}
use mathlib.Core.Path.{sym, ◌∙◌, ap}
use native.Mathlib.Omega.{arith}
use borrow.Author.Tests.{eq-eqb, ne_eqb}
use Rattle.octets.proofs.Lists.{drop-end, part-rest}
use Rattle.base64_codec.specs.Decode.{scan, verdict_of}
use Rattle.base64_codec.proofs.Turns.{scan-at}
use Rattle.base64_codec.proofs.decoder.check.Goals as goal

pub returns-then-text-ne0 : goal.returns-then-text-ne0
unfolding verdict_of
returns-then-text-ne0 c = rw (ne_eqb _ _ c.if-text-ne0.true)

pub loop-i-init : goal.loop-i-init
unfolding verdict_of
loop-i-init c =
    rw (c.before-p.ensures, eq-eqb _ _ c.if-text-ne0.false) c.pass_letters-start.ensures.1

pub returns-then-c-eq-PAD : goal.returns-then-c-eq-PAD
returns-then-c-eq-PAD c =
    let l = c.loop-i in
    rw (part-rest c.args.text.now (l.i + 1)) at c.ending.ensures
    ∙ sym (scan-at _ l.i l.p (omega arith)
    ∙ rw (← c.value-v.ensures.0, eq-eqb _ _ c.if-v-eq64.true, eq-eqb _ _ c.if-c-eq-PAD.true))
    ∙ l.invariant

pub returns-then-v-eq64 : goal.returns-then-v-eq64
returns-then-v-eq64 c =
    let l = c.loop-i in
    sym (scan-at _ l.i l.p (omega arith)
    ∙ rw (← c.value-v.ensures.0, eq-eqb _ _ c.if-v-eq64.true, ne_eqb _ _ c.if-c-eq-PAD.false))
    ∙ l.invariant

pub loop-i-preserved : goal.loop-i-preserved
loop-i-preserved c =
    let l = c.loop-i in
    let v = c.value-v.ensures.0 in
    rw v (sym (scan-at _ l.i l.p (omega arith) ∙ rw (← v, ne_eqb _ _ c.if-v-eq64.false)) ∙ l.invariant)

pub returns : goal.returns
unfolding scan
returns c = let l = c.loop-i in sym (ap (scan l.p) (drop-end _ l.i (omega arith))) ∙ l.invariant
