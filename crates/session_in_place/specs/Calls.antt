-- The console's calls in place: what each is by value, and what it does with one session.
use Rattle.std.specs.Prelude.{ℕ, Bool, true, false, cond, ◌&&◌, List, length, ltb, None, Option, Some}
use Rattle.octets.specs.Outcome.{Outcome, outcome}
use Rattle.octets.specs.Slices.{part_of}
use Rattle.frames.specs.Calls.{text_of}
use Rattle.command.specs.Slots.{nowhere}
use Rattle.protocol.specs.Table.{session_room, no_session, first, has_id}
use Rattle.protocol.specs.Replies.{reply_room}
use Rattle.protocol.specs.Rule.{done_by, failed_by, unlisted_by, decided_by}
use Rattle.protocol.specs.Calls.{allow_of, deny_of, drop_of, done_of, failed_of, unlisted_of}
use Rattle.protocol.specs.declared.Session.{Session}
use Rattle.protocol.specs.declared.Due.{Due}
use Rattle.protocol.specs.declared.Receiver.{Receiver}
use Rattle.protocol.specs.declared.Decision.TheVariants as Decision
use Rattle.protocol.specs.declared.Told.TheVariants as Told
use Rattle.protocol.specs.declared.Change.{Change}
use Rattle.protocol.specs.declared.Answered.{Answered}
use Rattle.sessions.specs.Leaving.{next_by}
use Rattle.sessions.specs.declared.next.Next.{Next}
use Rattle.supplying.specs.Supplied.{leaves}
use Rattle.supplying.specs.declared.Left.{Left}
use Rattle.session_in_place.specs.Steps.{staying, beside, left_by}
use Rattle.session_in_place.specs.declared.Call.{Call}
use Rattle.session_in_place.specs.declared.AnsweredInPlace.{AnsweredInPlace}
use Rattle.session_in_place.specs.declared.FedInPlace.{FedInPlace}

-- ---- "with the same answers and receiver after": each call is what it is by value
unfoldable pub called_of : Receiver → Call → (id reply : List ℕ) → Outcome Answered
called_of r Call.Allow id reply = allow_of r id reply
called_of r Call.Deny id reply = deny_of r id reply
called_of r Call.Drop id reply = outcome (drop_of r id) reply
called_of r Call.Done id reply = done_of r reply
called_of r (Call.Failed e) id reply = failed_of r e reply
called_of r Call.Unlisted id reply = unlisted_of r reply

-- the answer in place, with the receiver where it lies
abbrev pub answered : Receiver → AnsweredInPlace → Answered
answered r a = record { receiver = r; told = a.told; reply_len = a.reply_len }

-- the id of the command that a feed reported, where it lies
abbrev pub fed_id : FedInPlace → (piece carry : List ℕ) → List ℕ
fed_id f piece carry = part_of (text_of piece carry f.report) f.command.id.start f.command.id.len

-- ---- which session a call concerns
abbrev pub owner_of : Option (ℕ × Due) → Option ℕ
owner_of None = None
owner_of (Some (i, d)) = Some i

unfoldable pub concerned : Call → Option (ℕ × Due) → List Session → List ℕ → Option ℕ
concerned Call.Allow o l id = first (has_id id) l
concerned Call.Deny o l id = first (has_id id) l
concerned Call.Drop o l id = first (has_id id) l
concerned Call.Done o l id = owner_of o
concerned (Call.Failed e) o l id = owner_of o
concerned Call.Unlisted o l id = owner_of o

-- ---- its step on the session that is copied out
-- a drop by value is lent no reply buffer
abbrev pub is_guarded : Call → Bool
is_guarded Call.Allow = true
is_guarded Call.Deny = true
is_guarded Call.Drop = false
is_guarded Call.Done = true
is_guarded (Call.Failed e) = true
is_guarded Call.Unlisted = true

-- where no session is concerned
abbrev pub refusal_of : Call → ℕ
refusal_of Call.Allow = 12
refusal_of Call.Deny = 12
refusal_of Call.Drop = 12
refusal_of Call.Done = 11
refusal_of (Call.Failed e) = 11
refusal_of Call.Unlisted = 18

abbrev pub due_of : Option (ℕ × Due) → Due
due_of None = Due.Commit
due_of (Some (i, d)) = d

unfoldable pub change_by : Call → Session → Option (ℕ × Due) → Change
change_by Call.Allow s o = decided_by Decision.Allow s
change_by Call.Deny s o = decided_by Decision.Deny s
change_by Call.Drop s o = decided_by Decision.Drop s
change_by Call.Done s o = done_by s (due_of o)
change_by (Call.Failed e) s o = failed_by e s (due_of o)
change_by Call.Unlisted s o = unlisted_by s (due_of o)

-- of the session at place i, or of free room where i is outside the table
unfoldable pub next_at : Call → ℕ → Session → Option (ℕ × Due) → Next
next_at k i s o =
    cond (ltb i session_room) (next_by s i o nowhere (change_by k s o))
    (beside s (next_by no_session i o nowhere (change_by k no_session o)))

abbrev pub next_for : Call → Option ℕ → Session → Option (ℕ × Due) → Next
next_for k None s o = staying s o (Told.Refused (refusal_of k)) None
next_for k (Some i) s o = next_at k i s o

-- 9 first: "reply buffer under 124 bytes"
unfoldable pub answer_at : Call → Option ℕ → Session → Option (ℕ × Due) → List ℕ → Outcome Left
answer_at k f s o reply =
    cond (is_guarded k && ltb (length reply) reply_room) (outcome (leaves s o (Told.Refused 9) 0) reply) (left_by (next_for k f s o) reply)
