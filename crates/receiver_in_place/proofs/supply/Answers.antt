use Rattle.std.proofs.Common.{◌≡◌, length, rules}
use Rattle.receiver_in_place.proofs.Joined.{supply-joined}
use Rattle.receiver_in_place.proofs.supply.Goals as goal

pub returns : goal.returns
returns c =
    let a = c.args in
    let at = c.place_of-i.ensures in
    let four : length a.receiver.now.table.sessions ≡ 4 = search rules in
    rw (c.put_back.ensures.receiver, c.put_back.ensures.answer)
    (supply-joined a.receiver.now four _ _ at.place at.inside _ _ a.out.now _ _ c.concerned-found.ensures c.supply_in-left.ensures)
