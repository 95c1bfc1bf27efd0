use Rattle.command.specs.Slots.{slots_of}
use Rattle.command_writer.proofs.slots.slots.Goals as goal

pub returns : goal.returns
unfolding slots_of
returns c =
    rw (
      c.placed-7.ensures,
      c.placed-6.ensures,
      c.placed-5.ensures,
      c.placed-4.ensures,
      c.numbered-3.ensures,
      c.numbered-2.ensures,
      c.numbered.ensures,
      c.coded-5.ensures,
      c.placed-3.ensures,
      c.placed-2.ensures,
      c.placed.ensures,
      c.coded-4.ensures,
      c.code-3.ensures,
      c.coded-3.ensures,
      c.code-2.ensures,
      c.coded-2.ensures,
      c.coded.ensures,
      c.code.ensures,
    )
