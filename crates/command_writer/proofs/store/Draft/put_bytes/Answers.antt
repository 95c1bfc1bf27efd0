use mathlib.Core.Path.{◌≡◌, refl, sym, ◌∙◌}
use native.Mathlib.Omega.{arith}
use Rattle.octets.specs.Members.{every}
use Rattle.octets.specs.Slices.{part_of}
use Rattle.base64_codec.specs.Encode.{text_of}
use Rattle.command.specs.Values.{base64_shown, shown}
use Rattle.command_writer.proofs.Puts.{put-none}
use Rattle.command_writer.proofs.Shows.{place-in, place_out, base64-some, field_put}
use Rattle.command_writer.proofs.store.Draft.put_bytes.Goals as goal

pub returns-then-not-fits : goal.returns-then-not-fits
unfolding shown
returns-then-not-fits c =
    let a = c.args in
    (refl, rw (place_out a.scratch.now a.place (sym c.fits.ensures ∙ c.if-not-fits.true)))

pub returns-then-place-gt0 : goal.returns-then-place-gt0
returns-then-place-gt0 c =
    let a = c.args in
    let inside = sym c.fits.ensures ∙ c.if-not-fits.false in
    let shows = base64-some a.scratch.now a.place (λ i. omega (arith, c.type_inv.scratch i)) inside (λ z. omega arith) in
    let key = c.put_key.ensures in
    let value = c.put_base64.ensures in
    let field = field_put a.name.now (text_of c.part-bytes.result.now) key.1 value.1 in
    (value.0 ∙ key.0, rw (shows, ← c.part-bytes.ensures) (refl, field))

pub returns-else-place-gt0 : goal.returns-else-place-gt0
unfolding shown base64_shown every text_of part_of
returns-else-place-gt0 c =
    let a = c.args in
    let d = a.self.now in
    let inside = sym c.fits.ensures ∙ c.if-not-fits.false in
    let z : a.place.len ≡ 0 = omega arith in
    (refl, rw (place-in a.scratch.now a.place inside, inside, z) (refl, put-none d.out.now d.end))
