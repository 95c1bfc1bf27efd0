use mathlib.Core.Path.{◌≡◌, refl}
use native.Mathlib.Omega.{arith}
use Rattle.command.specs.Values.{integer_shown, shown}
use Rattle.command_writer.proofs.Puts.{put-none}
use Rattle.command_writer.proofs.store.Draft.put_integer.Goals as goal

pub returns-then-n : goal.returns-then-n
unfolding shown integer_shown
returns-then-n c =
    let z : c.args.n.magnitude ≡ 0 = omega arith in
    (refl, rw (c.if-n.true, z))

pub returns : goal.returns
unfolding shown integer_shown
returns c =
    let d = c.args.self.now in
    let z : c.args.n.magnitude ≡ 0 = omega arith in
    (refl, rw (c.if-n.false, z) (refl, put-none d.out.now d.end))
