-- The console of `replay`, which "allows every session at once and answers done always": what it calls after a feed, and what that leaves.
use Rattle.std.specs.Prelude.{List, [], ◌∷◌, ℕ, ◌≤◌, length}
use Rattle.frames.specs.Calls.{text_of}
use Rattle.protocol.specs.Replies.{reply_room}
use Rattle.protocol.specs.Sessions.{id_in}
use Rattle.protocol.specs.Calls.{Feeding}
use Rattle.protocol.specs.Machine.{ours, Call, World, step}
use Rattle.protocol.specs.Cuts.{after}
use Rattle.protocol.specs.declared.Receiver.{Receiver}
use Rattle.protocol.specs.declared.Told.{Told}

-- by what the feed told: it allows a session that waits for the user, and answers done to an ask
abbrev pub answers_to : Told → (id reply : List ℕ) → List Call
answers_to Told.Nothing id reply = []
answers_to (Told.Refused n) id reply = []
answers_to Told.Ignored id reply = []
answers_to Told.DragDrop id reply = []
answers_to Told.Asked id reply = Call.allow id reply ∷ []
answers_to Told.Naming id reply = []
answers_to Told.Path id reply = []
answers_to Told.LastPath id reply = Call.allow id reply ∷ []
answers_to (Told.Ask a) id reply = Call.done reply ∷ []
answers_to (Told.Status w) id reply = []
answers_to Told.Withdrawn id reply = []
answers_to Told.Discarded id reply = []
answers_to Told.Committed id reply = []

-- the receiver that these calls leave
abbrev pub replayed_of : Receiver → Told → (id reply : List ℕ) → Receiver
replayed_of r told id reply = (after ours (record { receiver = r; carry = []; history = [] }) (answers_to told id reply)).receiver

-- ---- a whole replay
-- a feed of a piece, with a scratch and a reply buffer, and the reply buffer that its answer is lent
pub record Turn : Type 0 where
  pub piece : List ℕ
  pub scratch : List ℕ
  pub reply : List ℕ
  pub answer_reply : List ℕ

-- the id of the command that a feed of that piece reported
abbrev pub fed_id : List ℕ → Feeding → List ℕ
fed_id piece f = id_in f.fed.command (text_of piece f.carry f.fed.report)

abbrev pub turned : World → Turn → World
turned w x =
    let f = ours.feeds w.receiver x.piece w.carry x.scratch x.reply in
    after ours (step ours w (Call.feed x.piece w.carry x.scratch x.reply))
    (answers_to f.fed.told (fed_id x.piece f) x.answer_reply)

abbrev pub replayed : World → List Turn → World
replayed w [] = w
replayed w (x ∷ xs) = replayed (turned w x) xs

-- every answer is lent a reply buffer with room
abbrev pub Answerable : List Turn → Type 0
Answerable [] = Unit {0}
Answerable (x ∷ xs) = (reply_room ≤ length x.answer_reply) × Answerable xs
