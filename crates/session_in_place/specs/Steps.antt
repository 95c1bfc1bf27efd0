-- A step on the one session that is copied out of the table: where it is put back, and what it leaves.
use Rattle.std.specs.Prelude.{ℕ, cond, List, ltb, Option, Some, None}
use lib.ListN.{set}
use Rattle.octets.specs.Outcome.{Outcome, outcome}
use Rattle.protocol.specs.Table.{session_room}
use Rattle.protocol.specs.Replies.{replied_of}
use Rattle.protocol.specs.declared.Due.{Due}
use Rattle.protocol.specs.declared.Receiver.{Receiver}
use Rattle.protocol.specs.declared.Session.{Session}
use Rattle.protocol.specs.declared.Told.{Told}
use Rattle.protocol.specs.declared.Reply.{Reply}
use Rattle.sessions.specs.declared.next.Next.{Next}
use Rattle.supplying.specs.Supplied.{leaves}
use Rattle.supplying.specs.declared.Left.{Left}
use Rattle.session_in_place.specs.declared.AnsweredInPlace.{AnsweredInPlace}

-- the place of the session that is copied out: always one of the table
abbrev pub place_of : Option ℕ → ℕ
place_of None = 0
place_of (Some i) = cond (ltb i session_room) i 0

-- it is put back as it was
abbrev pub staying : Session → Option (ℕ × Due) → Told → Option Reply → Next
staying s o w r = record { place = 0; session = s; owed = o; told = w; reply = r }

-- a step on free room outside the table leaves it as it was
abbrev pub beside : Session → Next → Next
beside s n = staying s n.owed n.told n.reply

-- the reply stored
unfoldable pub left_by : Next → List ℕ → Outcome Left
left_by n buf = let b = replied_of n.reply buf in outcome (leaves n.session n.owed n.told b.answer) b.buffer

-- ---- put back: the receiver with what a step leaves at a place, and the answer
abbrev pub takes : Receiver → ℕ → Left → Receiver
takes r i l = record { framing = r.framing; table = record { sessions = set r.table.sessions i l.session; owed = l.owed } }

abbrev pub left_in : Left → AnsweredInPlace
left_in l = record { told = l.told; reply_len = l.written }
