use mathlib.Core.Path.{refl}
use Rattle.std.specs.Prelude.{Err}
use Rattle.decimal.specs.declared.WriteError.TheVariants.{NegativeZero, OutOfRange, NoRoom}
use Rattle.command_writer.proofs.Puts.{put-number}
use Rattle.command_writer.proofs.Checks.{any-end}
use Rattle.command_writer.proofs.store.Draft.put_number.Goals as goal
use Rattle.command_writer.proofs.store.Draft.put_number.Goals.{in-Ok, in-Err-NoRoom}

-- whatever `write` answered, the number is put or refused
pub returns-in-Err-NegativeZero : goal.returns-in-Err-NegativeZero
returns-in-Err-NegativeZero c =
    let d = c.args.self.now in
    let e = rw c.in-Err-NegativeZero.field-0-is at c.in-Err-NegativeZero.ensures.out_after in
    (refl, any-end _ _ _ _ _ _ _ _ (put-number c.args.n d.out.now _ d.end _ (Err NegativeZero) e refl))

pub returns-in-Err-OutOfRange : goal.returns-in-Err-OutOfRange
returns-in-Err-OutOfRange c =
    let d = c.args.self.now in
    let e = rw c.in-Err-OutOfRange.field-0-is at c.in-Err-OutOfRange.ensures.out_after in
    (refl, any-end _ _ _ _ _ _ _ _ (put-number c.args.n d.out.now _ d.end _ (Err OutOfRange) e refl))

pub returns : goal.returns
returns c =
    let n = c.args.n in
    let d = c.args.self.now in
    elim c.match-write.branch [
      | in-Ok w ↦ (refl, rw w.self-is (put-number n d.out.now _ d.end _ _ w.in-Ok.ensures.out_after refl))
      | in-Err-NoRoom w ↦
          let e = rw w.in-Err-NoRoom.field-0-is at w.in-Err-NoRoom.ensures.out_after in (
            refl,
            rw w.self-is (put-number n d.out.now _ d.end _ (Err NoRoom) e (rw (← w.text_length.ensures) w.end_of-self.ensures)),
          )
    ]
