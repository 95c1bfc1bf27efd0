use Rattle.frames.proofs.CarryLaws.{keep-whole, keep-part, keep-full}
use Rattle.frames.proofs.carry.keep.Goals as goal

pub returns-then-count-end : goal.returns-then-count-end
returns-then-count-end c =
    let a = c.args in
    keep-whole a.carry.now a.piece.now _ a.held.end a.held.count _ c.min-kept.ensures c.if-count-end.true c.requires.end_in_bounds
    c.copy_from_slice.ensures.after

pub returns-then-before-lt-TEXT_LIMIT : goal.returns-then-before-lt-TEXT_LIMIT
returns-then-before-lt-TEXT_LIMIT c =
    let a = c.args in
    keep-part a.carry.now a.piece.now _ a.held.end a.held.count _ c.min-more.ensures c.if-count-end.false
    c.if-before-lt-TEXT_LIMIT.true c.requires.end_in_bounds c.requires.text_limit_in_bounds
    c.copy_from_slice-then-before-lt-TEXT_LIMIT.ensures.after

pub returns-else-before-lt-TEXT_LIMIT : goal.returns-else-before-lt-TEXT_LIMIT
returns-else-before-lt-TEXT_LIMIT c =
    keep-full _ _ _ _ c.if-count-end.false c.if-before-lt-TEXT_LIMIT.false c.requires.text_limit_in_bounds
