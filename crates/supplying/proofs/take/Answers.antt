use Rattle.supplying.specs.Supplied.{taken_in}
use Rattle.supplying.proofs.take.Goals as goal
use Rattle.supplying.proofs.take.Goals.{then-is_held_back, else-is_held_back}

pub returns : goal.returns
unfolding taken_in
returns c =
    elim c.if-is_held_back.branch [
      | then-is_held_back w ↦
          rw (
            c.settle.ensures,
            c.change.ensures,
            ← c.is_held_back.ensures,
            w.if-is_held_back.true,
            w.written-is,
            w.out-is,
            w.write_nowhere-written.ensures c.args.out.now c.requires,
          )
      | else-is_held_back w ↦
          rw (
            c.settle.ensures,
            c.change.ensures,
            ← c.is_held_back.ensures,
            w.if-is_held_back.false,
            w.written-is,
            w.out-is,
            ← w.write-written.ensures,
          )
    ]
