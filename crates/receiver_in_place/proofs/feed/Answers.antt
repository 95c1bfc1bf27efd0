use Rattle.std.proofs.Common.{◌≡◌, length, rules}
use Rattle.receiver_in_place.proofs.Joined.{unread-joined, feed-joined}
use Rattle.receiver_in_place.proofs.feed.Goals as goal

-- no command was read
pub returns-in-Err : goal.returns-in-Err
returns-in-Err c =
    let a = c.args in
    rw c.fed.ensures
    (unread-joined a.receiver.now a.piece.now a.carry.now a.scratch.now a.reply.now _ _ _ c.hear-heard.ensures _ c.in-Err.is)

pub returns : goal.returns
returns c =
    let a = c.args in
    let at = c.place_of-i.ensures in
    let four : length a.receiver.now.table.sessions ≡ 4 = search rules in
    rw (c.fed-2.ensures, c.put_back-answered.ensures.receiver, c.put_back-answered.ensures.answer)
    (feed-joined a.receiver.now a.piece.now a.carry.now a.scratch.now a.reply.now _ _ _ c.hear-heard.ensures four _ at.place at.inside _
    c.in-Ok.is _ _ _ _ c.text-text.ensures c.act-left.ensures)
