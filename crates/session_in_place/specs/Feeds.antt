-- A feed in two halves: what is heard, without a session, and the step of the one session that is concerned.
use Rattle.std.specs.Prelude.{ℕ, Bool, true, false, cond, not, ◌||◌, List, length, ltb, Some, None, Option, Ok, Err, Result}
use Rattle.octets.specs.Outcome.{Outcome, outcome}
use Rattle.decimal.specs.declared.Number.{Number}
use Rattle.frames.specs.Stream.{text_limit}
use Rattle.frames.specs.Calls.{scan_of, text_of}
use Rattle.frames.specs.declared.Framing.{Framing}
use Rattle.frames.specs.declared.Report.TheVariants as Report
use Rattle.frames.specs.declared.Scanned.{Scanned}
use Rattle.command.specs.Read.{scratch_room}
use Rattle.command.specs.declared.Command.{Command}
use Rattle.protocol.specs.Table.{first, has_id, is_absent, is_present}
use Rattle.protocol.specs.Actions.{kind_of}
use Rattle.protocol.specs.Replies.{reply_room, session_reply}
use Rattle.protocol.specs.Receives.{bad_paths}
use Rattle.protocol.specs.Rule.{obeyed_by}
use Rattle.protocol.specs.Sessions.{asked_session, naming_session, id_in, request_in}
use Rattle.protocol.specs.Calls.{is_owed}
use Rattle.protocol.specs.declared.Due.{Due}
use Rattle.protocol.specs.declared.SessionState.TheVariants as SessionState
use Rattle.protocol.specs.declared.Session.{Session}
use Rattle.protocol.specs.declared.Kind.{Kind}
use Rattle.protocol.specs.declared.Receiver.{Receiver}
use Rattle.protocol.specs.declared.Status.{Status}
use Rattle.protocol.specs.declared.Told.{Told}
use Rattle.protocol.specs.declared.Fed.{Fed}
use Rattle.sessions.specs.Leaving.{next_by}
use Rattle.sessions.specs.declared.next.Next.{Next}
use Rattle.receiver.specs.Said.{said_of}
use Rattle.supplying.specs.declared.Left.{Left}
use Rattle.session_in_place.specs.Steps.{staying, left_by}
use Rattle.session_in_place.specs.declared.feeds.Heard.{Heard}
use Rattle.session_in_place.specs.declared.FedInPlace.{FedInPlace}

-- ---- what is heard
-- "nothing consumed, all memory as before"
abbrev pub unheard : Framing → ℕ → Heard
unheard f n =
    record { framing = f; consumed = 0; report = Report.Nothing; said = Err (Told.Refused n); found = None }

abbrev pub heard_by : Scanned → Result Command Told → Option ℕ → Heard
heard_by k x f =
    record { framing = k.framing; consumed = k.consumed; report = k.report; said = x; found = f }

-- free room for a session that is asked for
abbrev pub new_seat : List Session → Kind → Option ℕ
new_seat l Kind.Ignore = None
new_seat l Kind.Ask = first is_absent l
new_seat l Kind.Receive = first is_absent l
new_seat l Kind.Invalid = None
new_seat l Kind.Cancel = None
new_seat l Kind.Withdraw = None
new_seat l Kind.File = None
new_seat l Kind.Data = None
new_seat l Kind.EndData = None
new_seat l Kind.Finish = None
new_seat l Kind.Path = None
new_seat l Kind.Request = None

abbrev pub seat_at : List Session → Kind → Option ℕ → Option ℕ
seat_at l k None = new_seat l k
seat_at l k (Some i) = Some i

-- the session that a command concerns, present or to be
unfoldable pub seat_of : List Session → Command → List ℕ → Option ℕ
seat_of l c text = seat_at l (kind_of SessionState.Absent c.action) (first (has_id (id_in c text)) l)

abbrev pub seat : Result Command Told → List Session → List ℕ → Option ℕ
seat (Ok c) l text = seat_of l c text
seat (Err w) l text = None

-- what a text says, with the scratch afterwards
unfoldable pub heard_in : Scanned → List Session → List ℕ → List ℕ → Outcome Heard
heard_in k l text scratch =
    let x = said_of k.report text scratch in outcome (heard_by k x.answer (seat x.answer l text)) x.buffer

-- with the carry and the scratch afterwards
pub record Hearing : Type 0 where
  pub heard : Heard
  pub carry : List ℕ
  pub scratch : List ℕ

abbrev pub hearing : Heard → List ℕ → List ℕ → Hearing
hearing h c s = record { heard = h; carry = c; scratch = s }

abbrev pub scanned_hear : Outcome Scanned → List Session → (piece scratch : List ℕ) → Hearing
scanned_hear k l piece scratch =
    let x = heard_in k.answer l (text_of piece k.buffer k.answer.report) scratch in
    hearing x.answer k.buffer x.buffer

-- 9 first, then 10
unfoldable pub hear_of : Framing → Option (ℕ × Due) → List Session → (piece carry scratch : List ℕ) → (room : ℕ) → Hearing
hear_of f o l piece carry scratch room =
    cond (ltb (length carry) text_limit || (ltb (length scratch) scratch_room || ltb room reply_room))
    (hearing (unheard f 9) carry scratch)
    (cond (is_owed o) (hearing (unheard f 10) carry scratch) (scanned_hear (scan_of f piece carry) l piece scratch))

-- ---- the step of the session that was copied out
abbrev pub status_in : Session → Option (ℕ × Due) → Session → Status → Next
status_in s o a w = staying s o (Told.Status w) (Some (session_reply w a))

-- a command that concerns no session and gets none, as protocol's `absent_result`
unfoldable pub turned_away : Session → Option (ℕ × Due) → Session → Kind → Next
turned_away s o a Kind.Ignore = staying s o Told.Ignored None
turned_away s o a Kind.Ask = status_in s o a Status.Ebusy
turned_away s o a Kind.Receive = status_in s o a Status.Ebusy
turned_away s o a Kind.Invalid = staying s o Told.Ignored None
turned_away s o a Kind.Cancel = staying s o Told.Ignored None
turned_away s o a Kind.Withdraw = staying s o Told.Ignored None
turned_away s o a Kind.File = staying s o Told.Ignored None
turned_away s o a Kind.Data = staying s o Told.Ignored None
turned_away s o a Kind.EndData = staying s o Told.Ignored None
turned_away s o a Kind.Finish = staying s o Told.Ignored None
turned_away s o a Kind.Path = staying s o Told.Ignored None
turned_away s o a Kind.Request = staying s o Told.Ignored None

-- free room at the place is for a new session
abbrev pub seated : ℕ → Session → Option (ℕ × Due) → Told → Next
seated i s o w = record { place = i; session = s; owed = o; told = w; reply = None }

-- one that names paths; the room stays free where their number is bad
abbrev pub naming_in : ℕ → Session → Option (ℕ × Due) → Session → Number → Next
naming_in i s o a n =
    cond (bad_paths n) (status_in s o a Status.Einval) (seated i (naming_session a n.magnitude) o Told.Naming)

abbrev pub is_receive : Kind → Bool
is_receive Kind.Ignore = false
is_receive Kind.Ask = false
is_receive Kind.Receive = true
is_receive Kind.Invalid = false
is_receive Kind.Cancel = false
is_receive Kind.Withdraw = false
is_receive Kind.File = false
is_receive Kind.Data = false
is_receive Kind.EndData = false
is_receive Kind.Finish = false
is_receive Kind.Path = false
is_receive Kind.Request = false

abbrev pub new_in : Kind → ℕ → Session → Option (ℕ × Due) → Session → Number → Next
new_in k i s o a n = cond (is_receive k) (naming_in i s o a n) (seated i a o Told.Asked)

unfoldable pub obey_in : Kind → ℕ → Session → Option (ℕ × Due) → Command → (text scratch : List ℕ) → Next
obey_in k i s o c text scratch =
    cond (not (is_present s.state)) (new_in k i s o (asked_session c.quiet (id_in c text)) c.size)
    (next_by s i o c.payload (obeyed_by s (request_in c text scratch)))

abbrev pub obey_by : Kind → Option ℕ → Session → Option (ℕ × Due) → Command → (text scratch : List ℕ) → Next
obey_by k None s o c text scratch = turned_away s o (asked_session c.quiet (id_in c text)) k
obey_by k (Some i) s o c text scratch = obey_in k i s o c text scratch

abbrev pub obey_at : Option ℕ → Session → Option (ℕ × Due) → Command → (text scratch : List ℕ) → Next
obey_at f s o c text scratch = obey_by (kind_of SessionState.Absent c.action) f s o c text scratch

-- with its reply
unfoldable pub act_of : Option ℕ → Session → Option (ℕ × Due) → Command → (text scratch reply : List ℕ) → Outcome Left
act_of f s o c text scratch reply = left_by (obey_at f s o c text scratch) reply

-- ---- the answer in place, with the receiver where it lies
abbrev pub fed_in : Receiver → FedInPlace → Fed
fed_in r f =
    record {
      receiver = r;
      consumed = f.consumed;
      report = f.report;
      told = f.told;
      command = f.command;
      reply_len = f.reply_len;
    }
