-- The table of four sessions: which one a command or a call concerns, and its step put back.
use Rattle.std.specs.Prelude.{ℕ, cond, List, Option, Some, None}
use Rattle.octets.specs.Slices.{part_of}
use Rattle.decimal.specs.declared.Number.{Number}
use Rattle.command.specs.Slots.{nowhere}
use Rattle.command.specs.declared.Place.{Place}
use Rattle.command.specs.declared.Command.{Command}
use Rattle.protocol.specs.Table.{no_files, session_at, find_session, first, is_absent, put_session, kept_id}
use Rattle.protocol.specs.Actions.{kind_of}
use Rattle.protocol.specs.Replies.{session_reply}
use Rattle.protocol.specs.Change.{stepped, telling, step_by}
use Rattle.protocol.specs.Files.{Request, request}
use Rattle.protocol.specs.Receives.{bad_paths}
use Rattle.protocol.specs.Rule.{obeyed_by, done_by, failed_by, unlisted_by, decided_by}
use Rattle.protocol.specs.declared.SessionState.TheVariants as SessionState
use Rattle.protocol.specs.declared.Session.{Session}
use Rattle.protocol.specs.declared.Kind.{Kind}
use Rattle.protocol.specs.declared.Due.{Due}
use Rattle.protocol.specs.declared.Table.{Table}
use Rattle.protocol.specs.declared.Status.{Status}
use Rattle.protocol.specs.declared.Failure.{Failure}
use Rattle.protocol.specs.declared.Decision.{Decision}
use Rattle.protocol.specs.declared.Told.TheVariants as Told
use Rattle.protocol.specs.declared.Change.{Change}
use Rattle.protocol.specs.declared.Stepped.{Stepped}

-- ---- a command's strings: the ids stand in the text, the name in the scratch
abbrev pub string_in : List ℕ → Place → List ℕ
string_in l p = part_of l p.start p.len

abbrev pub id_in : Command → List ℕ → List ℕ
id_in c text = string_in text c.id

abbrev pub file_id_in : Command → List ℕ → List ℕ
file_id_in c text = string_in text c.file_id

abbrev pub request_in : Command → (text scratch : List ℕ) → Request
request_in c text scratch = request c (file_id_in c text) (string_in scratch c.name)

-- ---- a command whose session is absent
-- the session that `send` makes
abbrev pub asked_session : (quiet : ℕ) (id : List ℕ) → Session
asked_session quiet id =
    record {
      state = SessionState.Asked;
      quiet = quiet;
      id = kept_id id;
      wanted = 0;
      started = 0;
      done_bytes = 0;
      files = no_files;
    }

-- the session that `receive` makes of it, which asks for so many paths
abbrev pub naming_session : Session → ℕ → Session
naming_session s n =
    record {
      state = SessionState.Naming;
      quiet = s.quiet;
      id = s.id;
      wanted = n;
      started = 0;
      done_bytes = 0;
      files = no_files;
    }

-- a status about it: "The session's quiet counts, or the command's own where the session is absent"
abbrev pub absent_status : Table → Session → Status → Stepped
absent_status t s w = stepped t (Told.Status w) (Some (session_reply w s))

-- "four present: EBUSY; else asked, console told"
abbrev pub send_room : Table → Session → Option ℕ → Stepped
send_room t s None = absent_status t s Status.Ebusy
send_room t s (Some i) = telling (put_session t i s) Told.Asked

-- "any other `sz` gives EINVAL, full places EBUSY before that"
abbrev pub receive_room : Table → Session → (paths : Number) → Option ℕ → Stepped
receive_room t s n None = absent_status t s Status.Ebusy
receive_room t s n (Some i) =
    cond (bad_paths n) (absent_status t s Status.Einval) (telling (put_session t i (naming_session s n.magnitude)) Told.Naming)

-- the kinds of a present session do nothing to an absent one
abbrev pub absent_result : Table → Session → (size : Number) → Kind → Stepped
absent_result t s n Kind.Ignore = telling t Told.Ignored
absent_result t s n Kind.Ask = send_room t s (first is_absent t.sessions)
absent_result t s n Kind.Receive = receive_room t s n (first is_absent t.sessions)
absent_result t s n Kind.Invalid = telling t Told.Ignored
absent_result t s n Kind.Cancel = telling t Told.Ignored
absent_result t s n Kind.Withdraw = telling t Told.Ignored
absent_result t s n Kind.File = telling t Told.Ignored
absent_result t s n Kind.Data = telling t Told.Ignored
absent_result t s n Kind.EndData = telling t Told.Ignored
absent_result t s n Kind.Finish = telling t Told.Ignored
absent_result t s n Kind.Path = telling t Told.Ignored
absent_result t s n Kind.Request = telling t Told.Ignored

-- ---- a command that was read, while nothing is owed: the session by its id, and then the action table
abbrev pub found_result : Table → Command → (id : List ℕ) → Request → Option ℕ → Stepped
found_result t c id q None = absent_result t (asked_session c.quiet id) c.size (kind_of SessionState.Absent c.action)
found_result t c id q (Some i) = step_by t i c.payload (obeyed_by (session_at t i) q)

unfoldable pub obey_of : Table → Command → List ℕ → List ℕ → Stepped
obey_of t c text scratch = let id = id_in c text in found_result t c id (request_in c text scratch) (find_session t id)

-- ---- done and failed: an answer to what is owed, 11 where nothing is
abbrev pub answered_with : Table → (Session → Due → Change) → Option (ℕ × Due) → Stepped
answered_with t f None = telling t (Told.Refused 11)
answered_with t f (Some (i, d)) = step_by t i nowhere (f (session_at t i) d)

unfoldable pub settle_done : Table → Stepped
settle_done t = answered_with t done_by t.owed

unfoldable pub settle_failed : Table → Failure → Stepped
settle_failed t e = answered_with t (failed_by e) t.owed

-- ---- unlisted: 18 where nothing is owed
abbrev pub unlisted_for : Table → Option (ℕ × Due) → Stepped
unlisted_for t None = telling t (Told.Refused 18)
unlisted_for t (Some (i, d)) = step_by t i nowhere (unlisted_by (session_at t i) d)

unfoldable pub settle_unlisted : Table → Stepped
settle_unlisted t = unlisted_for t t.owed

-- ---- allow, deny and drop: a decision on the session with the id, 12 where there is none
abbrev pub decided_at : Table → Decision → Option ℕ → Stepped
decided_at t d None = telling t (Told.Refused 12)
decided_at t d (Some i) = step_by t i nowhere (decided_by d (session_at t i))

unfoldable pub decided_of : Table → Decision → List ℕ → Stepped
decided_of t d k = decided_at t d (find_session t k)
