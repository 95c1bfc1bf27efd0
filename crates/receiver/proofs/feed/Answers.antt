use mathlib.Core.Path.{ap}
use Rattle.octets.specs.Outcome.{Outcome}
use Rattle.protocol.specs.Calls.{feeding, scanned_feed, feed_of}
use Rattle.protocol.specs.declared.Fed.{Fed}
use Rattle.protocol.proofs.Promises.{every_call}
use Rattle.receiver.specs.Fed.{fed_with}
use Rattle.receiver.proofs.feed.Goals as goal

pub returns-then-is_short-clause-reply_after : goal.returns-then-is_short-clause-reply_after
unfolding feed_of
returns-then-is_short-clause-reply_after c = rw (c.refused.ensures, ← c.is_short.ensures, c.if-is_short.true)

pub returns-then-is_short-clause-every_call : goal.returns-then-is_short-clause-every_call
returns-then-is_short-clause-every_call c = every_call

pub returns-then-is_some-clause-reply_after : goal.returns-then-is_some-clause-reply_after
unfolding feed_of
returns-then-is_some-clause-reply_after c =
    rw (
      c.refused-then-is_some.ensures,
      ← c.is_short.ensures,
      c.if-is_short.false,
      ← c.is_some.ensures,
      c.if-is_some.true,
    )

pub returns-then-is_some-clause-every_call : goal.returns-then-is_some-clause-every_call
returns-then-is_some-clause-every_call c = every_call

pub returns-clause-reply_after : goal.returns-clause-reply_after
unfolding feed_of scanned_feed fed_with
returns-clause-reply_after c =
    let scan = c.scan-scanned in
    let act = c.act-done in
    rw (
      ← c.is_short.ensures,
      c.if-is_short.false,
      ← c.is_some.ensures,
      c.if-is_some.false,
      ← scan.ensures.carry_after,
      ← c.text-text.ensures,
      ← act.ensures,
    )
    (ap (λ (o : Outcome Fed). feeding o.answer scan.new.carry act.new.scratch o.buffer) c.fed.ensures)

pub returns-clause-every_call : goal.returns-clause-every_call
returns-clause-every_call c = every_call
