use Prim.Native.Nat.{◌+◌, ◌-◌, ◌≤◌}
use mathlib.Core.Path.{sym, ◌∙◌}
use native.Mathlib.Nat.{le_trans}
use native.Mathlib.Omega.{arith}
use lib.ListN.{length, get_or}
use Rattle.octets.proofs.Lists.{drop-end}
use Rattle.frames.specs.Framings.{count}
use Rattle.frames.specs.Steps.{walk_from}
use Rattle.frames.proofs.WalkLaws.{turn, grows-on, after-end}
use Rattle.frames.proofs.GlideLaws.{glide-ends, passed_le, glide-on}
use Rattle.frames.proofs.walk.walk_piece.Goals as goal

pub passed-f-requires : goal.passed-f-requires
passed-f-requires c =
    let l = c.loop-i in
    let piece = c.args.piece.now in
    let g = c.in-On.g in
    -- where the bytes end that this turn passes, and the count after this turn's byte
    let ending : (l.i + 1 ≤ c.glide-j.result) × (c.glide-j.result ≤ length piece) =
    glide-ends g (l.i + 1) c.glide-j.result piece (omega arith) c.glide-j.ensures in
    let counted : count g ≤ count l.f + 1 = grows-on l.f (get_or piece l.i 0) _ g c.step-event.ensures c.in-On.is in
    omega arith

pub loop-i-preserved : goal.loop-i-preserved
loop-i-preserved c =
    let l = c.loop-i in
    let piece = c.args.piece.now in
    let g = c.in-On.g in
    let ending : (l.i + 1 ≤ c.glide-j.result) × (c.glide-j.result ≤ length piece) =
    glide-ends g (l.i + 1) c.glide-j.result piece (omega arith) c.glide-j.ensures in
    let counted : count g ≤ count l.f + 1 = grows-on l.f (get_or piece l.i 0) _ g c.step-event.ensures c.in-On.is in (
      ending.1,
      rw c.passed-f.ensures (le_trans (passed_le g (c.glide-j.result - (l.i + 1))) (omega arith)),
      l.invariant.2 ∙ turn _ _ _ _ c.loop-i-test.true c.step-event.ensures
          ∙ rw c.in-On.is (glide-on g c.passed-f.result _ _ _ c.glide-j.ensures c.passed-f.ensures),
    )

-- a piece whose walk ends in this turn: it is what this turn's event makes of the rest
pub returns-in_default : goal.returns-in_default
returns-in_default c =
    rw (← c.capped-f.ensures)
    (sym (c.loop-i.invariant.2 ∙ turn _ _ _ _ c.loop-i-test.true c.step-event.ensures ∙ after-end _ _ _ c.in_default.not-On))

pub returns : goal.returns
unfolding walk_from
returns c = rw (← c.capped-f.ensures) (sym (c.loop-i.invariant.2 ∙ rw (drop-end _ _ c.loop-i-test.false)))
