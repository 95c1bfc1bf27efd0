use Prim.Native.Nat.{◌≤◌, ◌<◌}
use native.Mathlib.Omega.{arith}
use lib.ListN.{length}
use borrow.Author.Tests.{lt-ltb, le-ltb}
use Rattle.recordings.specs.Pieces.{pieces_of, mended_of, list_of}
use Rattle.recordings.specs.Mend.{mend_of}
use Rattle.recordings.specs.Laws.{MendLaws}
use Rattle.recordings.specs.Examples.{MendExamples}
use Rattle.recordings.specs.WrongMenders.{MendTeeth}
use Rattle.recordings.proofs.Every.{mend-laws}
use Rattle.recordings.proofs.Examples.{examples_hold, teeth}
use Rattle.recordings.proofs.mend.Goals as goal
use Rattle.recordings.proofs.mend.Goals.{then-needed-output-via-then-needed-output}
use Rattle.recordings.proofs.mend.Goals.{then-needed-output-via-else-needed-output+then-needed-list}

-- what the contract says of every recording
claims : MendLaws pieces_of × MendTeeth × MendExamples
claims = (mend-laws, teeth, examples_hold)

pub returns-then-recording-gt-LIMIT-clause-mend_laws : goal.returns-then-recording-gt-LIMIT-clause-mend_laws
returns-then-recording-gt-LIMIT-clause-mend_laws c = claims

pub returns-then-needed-output-clause-mend_laws : goal.returns-then-needed-output-clause-mend_laws
returns-then-needed-output-clause-mend_laws c = claims

pub returns-clause-mend_laws : goal.returns-clause-mend_laws
returns-clause-mend_laws c = claims

pub returns-then-recording-gt-LIMIT-clause-list_after : goal.returns-then-recording-gt-LIMIT-clause-list_after
unfolding mend_of
returns-then-recording-gt-LIMIT-clause-list_after c = rw (lt-ltb _ _ c.if-recording-gt-LIMIT.true)

pub overflow_mul-needed : goal.overflow_mul-needed
overflow_mul-needed c =
    omega (arith, c.over-needed.ensures.rows, (mend-laws.few_rows c.args.recording.now).1, c.if-recording-gt-LIMIT.false)

-- too little room is too little for what the definition stores
pub returns-then-needed-output-clause-list_after : goal.returns-then-needed-output-clause-list_after
unfolding mend_of
returns-then-needed-output-clause-list_after c =
    let xs = c.args.recording.now in
    let needed = c.over-needed.ensures in
    rw (le-ltb _ _ c.if-recording-gt-LIMIT.false)
    (elim c.then-needed-output.branch [
      | then-needed-output-via-then-needed-output w ↦ rw (lt-ltb _ _ (rw needed.kept at w.if-needed-output.true))
      | then-needed-output-via-else-needed-output+then-needed-list w ↦
          let more : length c.args.list.now < length (list_of xs) =
          omega (arith, needed.rows, (mend-laws.few_rows xs).0, w.if-needed-list.true) in
          rw (le-ltb _ _ (rw needed.kept at w.if-needed-output.false), lt-ltb _ _ more)
    ])

pub returns-clause-list_after : goal.returns-clause-list_after
unfolding mend_of
returns-clause-list_after c =
    let xs = c.args.recording.now in
    let needed = c.over-needed.ensures in
    let fits : length (mended_of xs) ≤ length c.args.output.now = omega (arith, needed.kept, c.if-needed-output.false) in
    let lists : length (list_of xs) ≤ length c.args.list.now =
    omega (arith, needed.rows, (mend-laws.few_rows xs).0, c.if-needed-list.false) in
    let stored = c.over-done.ensures in
    rw (
      le-ltb _ _ c.if-recording-gt-LIMIT.false,
      le-ltb _ _ fits,
      le-ltb _ _ lists,
      stored.kept,
      stored.rows,
      stored.stored fits,
      stored.listed lists,
    )
