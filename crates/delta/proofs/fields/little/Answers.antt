use Rattle.std.proofs.Common.{arith, length}
use Rattle.delta.proofs.FieldLaws.{none-read, all-read, byte-read, room-left, one-more}
use Rattle.delta.proofs.fields.little.Goals as goal

pub loop-byte-init : goal.loop-byte-init
loop-byte-init c =
    rw (c.into_iter-byte-iterator.ensures.into_iter_gives, c.rev-byte-items.ensures.source, c.iter.ensures.rest)
    (none-read c.args.bytes.now)

pub overflow_mul-n : goal.overflow_mul-n
overflow_mul-n c =
    let h = rw c.in-Some.ensures.steps at c.loop-byte.invariant in
    omega (arith, room-left c.args.bytes.now c.next.new.self.iter.rest.now c.in-Some.byte.now c.loop-byte.n h c.requires)

pub overflow_add-n : goal.overflow_add-n
overflow_add-n c =
    let r = c.next.new.self.iter.rest.now in
    let h = rw c.in-Some.ensures.steps at c.loop-byte.invariant in
    let b = byte-read c.args.bytes.now r c.in-Some.byte.now c.loop-byte.n h in
    let m = room-left c.args.bytes.now r c.in-Some.byte.now c.loop-byte.n h c.requires in
    omega (arith, m, b, c.type_inv.bytes (length r), c.from.ensures)

pub loop-byte-preserved : goal.loop-byte-preserved
loop-byte-preserved c =
    let r = c.next.new.self.iter.rest.now in
    let h = rw c.in-Some.ensures.steps at c.loop-byte.invariant in
    let b = byte-read c.args.bytes.now r c.in-Some.byte.now c.loop-byte.n h in
    rw c.from.ensures (one-more c.args.bytes.now r c.in-Some.byte.now c.loop-byte.n h (omega (arith, b, c.type_inv.bytes (length r))))

pub returns : goal.returns
returns c = all-read c.args.bytes.now c.loop-byte.byte-iterator.iter.rest.now c.loop-byte.n c.in-None.ensures.steps.0 c.loop-byte.invariant
