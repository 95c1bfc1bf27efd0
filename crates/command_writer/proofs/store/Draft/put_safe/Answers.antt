use mathlib.Core.Path.{refl, sym, ◌∙◌}
use native.Mathlib.Omega.{arith}
use Rattle.command.specs.Values.{safe_shown, shown}
use Rattle.command_writer.proofs.Puts.{put-none}
use Rattle.command_writer.proofs.Shows.{place-in, place_out, text-none, text-some, field_put}
use Rattle.command_writer.proofs.store.Draft.put_safe.Goals as goal

pub returns-then-not-fits : goal.returns-then-not-fits
unfolding shown
returns-then-not-fits c =
    let a = c.args in
    (refl, rw (place_out a.text.now a.place (sym c.fits.ensures ∙ c.if-not-fits.true)))

-- past the first test the place lies within, and it is shown as its bytes are
pub returns-then-not-all : goal.returns-then-not-all
unfolding shown safe_shown
returns-then-not-all c =
    let a = c.args in
    let inside = place-in a.text.now a.place (sym c.fits.ensures ∙ c.if-not-fits.false) in
    (refl, rw (inside, ← c.part-s.ensures, ← c.all.ensures, c.if-not-all.true))

-- past the second its bytes are safe
pub returns-then-over : goal.returns-then-over
unfolding shown safe_shown
returns-then-over c =
    let a = c.args in
    let inside = place-in a.text.now a.place (sym c.fits.ensures ∙ c.if-not-fits.false) in
    (refl, rw (inside, ← c.part-s.ensures, ← c.all.ensures, c.if-not-all.false, ← c.over.ensures, c.if-over.true))

pub returns-then-s-gt0 : goal.returns-then-s-gt0
unfolding shown safe_shown
returns-then-s-gt0 c =
    let a = c.args in
    let s = c.part-s.result.now in
    let inside = place-in a.text.now a.place (sym c.fits.ensures ∙ c.if-not-fits.false) in
    let some = text-some s (λ z. omega arith) in
    let key = c.put_key.ensures in
    let value = c.put.ensures in (
      value.0 ∙ key.0,
      rw (inside, ← c.part-s.ensures, ← c.all.ensures, c.if-not-all.false, ← c.over.ensures, c.if-over.false, some)
          (refl, field_put a.name.now s key.1 value.1),
    )

pub returns-else-s-gt0 : goal.returns-else-s-gt0
unfolding shown safe_shown
returns-else-s-gt0 c =
    let a = c.args in
    let d = a.self.now in
    let inside = place-in a.text.now a.place (sym c.fits.ensures ∙ c.if-not-fits.false) in
    let none = text-none c.part-s.result.now (omega arith) in (
      refl,
      rw (inside, ← c.part-s.ensures, ← c.all.ensures, c.if-not-all.false, ← c.over.ensures, c.if-over.false, none)
          (refl, put-none d.out.now d.end),
    )
