use Rattle.supplying.proofs.SupplyLaws.{supplied-back}
use Rattle.receiver.proofs.supplies.supply.Goals as goal

pub returns : goal.returns
returns c =
    let a = c.args in
    rw (
      c.answered.ensures,
      c.next_of.ensures,
      ← supplied-back a.supplying a.text.now a.contents.now a.receiver a.out.now,
      ← c.concerned-found.ensures,
      ← c.unwrap_or-place.ensures,
      ← c.session_at-session.ensures,
      ← c.in_turn-turn.ensures,
      ← c.supply_at-left.ensures,
    )
