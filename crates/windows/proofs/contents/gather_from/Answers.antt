use Prim.Native.Nat.{◌+◌, ◌*◌, ◌≤◌}
use mathlib.Core.Path.{◌≡◌, ap, sym, ◌∙◌}
use native.Mathlib.Omega.{arith}
use lib.ListN.{length, get_or}
use Rattle.windows.specs.Steps.{heard, key_of}
use Rattle.windows.proofs.ContentLaws.{gather-past, gather_stops, gather-part, gather-ends, part-fits}
use Rattle.windows.proofs.RowsLeft.{start_kind, part_kind}
use Rattle.windows.proofs.contents.gather_from.Goals as goal

pub loop-row-preserved-then-not-of_pair : goal.loop-row-preserved-then-not-of_pair
loop-row-preserved-then-not-of_pair c =
    let l = c.loop-row in
    let a = c.args in
    let h : l.row * 7 + 7 ≤ length a.side.events.now = omega arith in
    let next : l.row * 7 + 7 ≡ (l.row + 1) * 7 = omega arith in
    rw next at
    (gather-past (heard a.side) (key_of a.pair) (a.from * 7) a.into.now (l.row * 7) l.n l.into l.invariant h
    (sym c.of_pair.ensures ∙ c.if-not-of_pair.true))

pub returns-then-is_start : goal.returns-then-is_start
returns-then-is_start c =
    let l = c.loop-row in
    let a = c.args in
    let h : l.row * 7 + 7 ≤ length a.side.events.now = omega arith in
    gather_stops (heard a.side) (key_of a.pair) (a.from * 7) a.into.now (l.row * 7) l.n l.into l.invariant h c.requires.2
    (sym c.of_pair.ensures ∙ c.if-not-of_pair.false)
    (start_kind (get_or a.side.events.now (l.row * 7) 0) (rw c.row.ensures at (sym c.is_start.ensures ∙ c.if-is_start.true)))

pub overflow_add-n : goal.overflow_add-n
overflow_add-n c =
    let l = c.loop-row in
    let a = c.args in
    let h : l.row * 7 + 7 ≤ length a.side.events.now = omega arith in
    omega (
      arith,
      part-fits (heard a.side) (key_of a.pair) (a.from * 7) a.into.now (l.row * 7) l.n l.into l.invariant h c.requires.2,
      ap length c.part_at-part.ensures,
    )

pub loop-row-preserved : goal.loop-row-preserved
loop-row-preserved c =
    let l = c.loop-row in
    let a = c.args in
    let h : l.row * 7 + 7 ≤ length a.side.events.now = omega arith in
    let next : l.row * 7 + 7 ≡ (l.row + 1) * 7 = omega arith in
    rw (c.part_at-part.ensures, ← next)
    (gather-part (heard a.side) (key_of a.pair) (a.from * 7) a.into.now (l.row * 7) l.n l.into l.invariant h c.requires.2
    (sym c.of_pair.ensures ∙ c.if-not-of_pair.false)
    (part_kind (get_or a.side.events.now (l.row * 7) 0) (rw c.row.ensures at (sym c.is_start.ensures ∙ c.if-is_start.false)))
    (rw c.part_at-part.ensures at c.copy_at.ensures))

pub returns : goal.returns
returns c =
    let l = c.loop-row in
    let a = c.args in
    gather-ends (heard a.side) (key_of a.pair) (a.from * 7) a.into.now (l.row * 7) l.n l.into l.invariant c.requires.2 (omega arith)
