use Prim.Native.Nat.{ℕ, ◌+◌, ◌≤◌}
use mathlib.Core.Path.{◌≡◌}
use mathlib.Core.List.{List}
use native.Mathlib.Omega.{arith}
use lib.ListN.{length, drop, length-drop}
use Rattle.command.specs.Classes.{run}
use Rattle.command.specs.Letters.{key_byte}
use Rattle.command.proofs.Runs.{run_le}
use Rattle.command_reader.proofs.Turns.{unsigned-left, empty_left, field-named}
use Rattle.command_reader.proofs.fields.next_field.Goals as goal
use Rattle.command_reader.proofs.fields.next_field.Goals.{then-sign-text-via-then-sign-text}
use Rattle.command_reader.proofs.fields.next_field.Goals.{then-sign-text-via-else-sign-text+then-text-sign-ne61}
use Rattle.command_reader.proofs.fields.next_field.Goals.{then-sign-text-via-else-sign-text+else-text-sign-ne61+then-sign-at}

-- the bytes of a key end in the text
within : (t : List ℕ) (at sign : ℕ) → at ≤ length t → sign ≡ at + run key_byte (drop at t) → sign ≤ length t
within t at sign h e = omega (arith, run_le key_byte (drop at t), length-drop at t)

pub bounds-text-sign : goal.bounds-text-sign
bounds-text-sign c =
    omega (arith, within c.args.text.now c.args.at c.pass-sign.result c.requires.0 c.pass-sign.ensures)

pub returns-then-sign-text : goal.returns-then-sign-text
returns-then-sign-text c =
    let i = within c.args.text.now c.args.at c.pass-sign.result c.requires.0 c.pass-sign.ensures in
    elim c.then-sign-text.branch [
      | then-sign-text-via-then-sign-text w ↦ unsigned-left c.args.text.now c.args.at c.pass-sign.result c.requires.0 c.pass-sign.ensures
          (λ l e. omega (arith, w.if-sign-text.true))
      | then-sign-text-via-else-sign-text+then-text-sign-ne61 w ↦ unsigned-left c.args.text.now c.args.at c.pass-sign.result c.requires.0
          c.pass-sign.ensures (λ l e. w.if-text-sign-ne61.true e)
      | then-sign-text-via-else-sign-text+else-text-sign-ne61+then-sign-at w ↦ empty_left c.args.text.now c.args.at c.pass-sign.result
          c.requires.0 c.pass-sign.ensures (omega (arith, w.if-sign-text.false)) w.if-text-sign-ne61.false w.if-sign-at.true
    ]

-- the field, known by the number of its key
pub returns : goal.returns
returns c =
    let i = within c.args.text.now c.args.at c.pass-sign.result c.requires.0 c.pass-sign.ensures in
    let field = field-named c.args.text.now c.args.at c.pass-sign.result c.requires.0 c.pass-sign.ensures (omega arith) in
    let named = field c.if-text-sign-ne61.false (omega (arith, c.pass-sign.ensures)) c.find-end.result c.find-end.ensures in
    named c.number_of-key.result c.number_of-key.ensures
