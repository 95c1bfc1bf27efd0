use Prim.Native.Nat.{◌*◌, ◌/◌, ◌≤◌}
use mathlib.Core.Path.{sym, ◌∙◌}
use native.Mathlib.Omega.{arith}
use native.Mathlib.Nat.{zero-add}
use lib.ListN.{length}
use Rattle.base64_codec.proofs.Turns.{letters-past}
use Rattle.base64_codec.proofs.decoder.pass_blocks.Goals as goal

pub returns-then-all_letters : goal.returns-then-all_letters
returns-then-all_letters c =
    let t = c.args.text.now in
    let n = c.saturating_sub.result / 32 * 32 in
    let within : n ≤ length t = omega (arith, c.saturating_sub.ensures) in
    let e = sym c.all_letters.ensures ∙ c.if-all_letters.true in
    (within, sym (rw (zero-add n) at (letters-past n t 0 (omega (arith, within)) e)))
