use Rattle.std.proofs.Common.{ℕ, ◌≡◌, List}
use Rattle.command_writer.specs.Stores.{Put}
use Rattle.command_writer.proofs.Turns.{checked_from, pieces_from}
use Rattle.command_writer.proofs.fields.put_fields.Given as goal

-- whatever puts the pieces that are left has then put all of them, and no field before them is at fault
abbrev pub invariant-loop-k : goal.invariant-loop-k
invariant-loop-k l =
    let text = l.sources.text.now in
    let scratch = l.sources.scratch.now in
    (l.draft.out.ghost_name ≡ l.initial.draft.out.ghost_name)
    × (checked_from l.slot-items text scratch l.k ≡ checked_from l.slot-items text scratch 0)
    × ((end : ℕ) (after : List ℕ) → Put (pieces_from l.slot-items text scratch l.k) l.draft.out.now l.draft.end end after
    → Put (pieces_from l.slot-items text scratch 0) l.initial.draft.out.now l.initial.draft.end end after)
