use Rattle.frames.specs.Framings.{capped_of}
use Rattle.frames.proofs.WalkLaws.{held-within}
use Rattle.frames.proofs.taken.Goals as goal

pub keep-requires-clause-end_in_bounds : goal.keep-requires-clause-end_in_bounds
keep-requires-clause-end_in_bounds c =
    let w = c.walk_piece-used in
    held-within w.result (capped_of c.args.framing) c.args.piece.now c.in-Some.held w.ensures c.in-Some.ensures
