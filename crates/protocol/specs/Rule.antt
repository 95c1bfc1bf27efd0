-- The rule of one session: what a command, an answer or a decision of the console makes of it.
use Rattle.std.specs.Prelude.{ℕ, ◌+◌, min, Bool, true, false, cond, Some, None}
use Rattle.protocol.specs.Table.{file_at}
use Rattle.protocol.specs.Actions.{kind_of}
use Rattle.protocol.specs.Replies.{session_reply, failure_status}
use Rattle.protocol.specs.Change.{tells, turns, drops}
use Rattle.protocol.specs.Files.{Request, ignored, settled, failed_file, count_limit, file_of, data_of, finish_of}
use Rattle.protocol.specs.Receives.{path_of, request_of, out_of_turn, request_fails}
use Rattle.protocol.specs.declared.FileState.TheVariants as FileState
use Rattle.protocol.specs.declared.SessionState.{SessionState}
use Rattle.protocol.specs.declared.Session.{Session}
use Rattle.protocol.specs.declared.Kind.{Kind}
use Rattle.protocol.specs.declared.Due.{Due}
use Rattle.protocol.specs.declared.Status.{Status}
use Rattle.protocol.specs.declared.Failure.{Failure}
use Rattle.protocol.specs.declared.Decision.{Decision}
use Rattle.protocol.specs.declared.Told.{Told}
use Rattle.protocol.specs.declared.Change.{Change}

-- ---- a command, by the action table
abbrev pub is_open : SessionState → Bool
is_open SessionState.Absent = false
is_open SessionState.Asked = false
is_open SessionState.Open = true
is_open SessionState.Naming = false
is_open SessionState.Waiting = false
is_open SessionState.Listing = true
is_open SessionState.Serving = true

-- a drop is told: "an asked one as withdrawn, an open one .. as discarded"
abbrev pub drop_told : Session → Told
drop_told s = cond (is_open s.state) Told.Discarded Told.Withdrawn

-- the kinds of an absent session, Ask and Receive, do nothing to one that is present
abbrev pub present_result : Session → Request → Kind → Change
present_result s q Kind.Ignore = ignored
present_result s q Kind.Ask = ignored
present_result s q Kind.Receive = ignored
present_result s q Kind.Invalid = tells (Told.Status Status.Einval) (Some (session_reply Status.Einval s))
present_result s q Kind.Cancel = drops (drop_told s) (Some (session_reply Status.Canceled s))
present_result s q Kind.Withdraw = drops (drop_told s) None
present_result s q Kind.File = file_of s q
present_result s q Kind.Data = data_of s false q.file q.long
present_result s q Kind.EndData = data_of s true q.file q.long
present_result s q Kind.Finish = finish_of s
present_result s q Kind.Path = path_of s q
present_result s q Kind.Request = request_of q.file

unfoldable pub obeyed_by : Session → Request → Change
obeyed_by s q = present_result s q (kind_of s.state q.action)

-- ---- an answer to what is due
-- "the count grows by the part's length", up to 2^40, which no list of calls from a fresh receiver passes
abbrev pub grown : Session → ℕ → ℕ → ℕ
grown s j n = min ((file_at s j).count + n) count_limit

-- "Done: .."; "done for a request 18"
unfoldable pub done_by : Session → Due → Change
done_by s (Due.OpenFile j) = settled s j FileState.Started 0 Status.Started 0
done_by s (Due.OpenDirectory j) = settled s j FileState.Done 0 Status.Ok 0
done_by s (Due.Write j n) = settled s j FileState.Started (grown s j n) Status.Progress (grown s j n)
done_by s (Due.WriteLast j n) = settled s j FileState.Done (grown s j n) Status.Ok (grown s j n)
done_by s Due.Commit = drops Told.Committed None
done_by s Due.Request = out_of_turn

-- "Failed: record failed, reply the code"; a commit: "dropped, the code"; a request that the console has "failed" gets the code
abbrev pub failed_as : Status → Session → Due → Change
failed_as w s (Due.OpenFile j) = failed_file s j w
failed_as w s (Due.OpenDirectory j) = failed_file s j w
failed_as w s (Due.Write j n) = failed_file s j w
failed_as w s (Due.WriteLast j n) = failed_file s j w
failed_as w s Due.Commit = drops Told.Discarded (Some (session_reply w s))
failed_as w s Due.Request = request_fails w s

unfoldable pub failed_by : Failure → Session → Due → Change
failed_by e s d = failed_as (failure_status e) s d

-- "called it a directory or not listed, which gets EINVAL"; for anything else it is out of turn
unfoldable pub unlisted_by : Session → Due → Change
unlisted_by s (Due.OpenFile j) = out_of_turn
unlisted_by s (Due.OpenDirectory j) = out_of_turn
unlisted_by s (Due.Write j n) = out_of_turn
unlisted_by s (Due.WriteLast j n) = out_of_turn
unlisted_by s Due.Commit = out_of_turn
unlisted_by s Due.Request = request_fails Status.Einval s

-- ---- a decision on it
-- the user is asked
abbrev pub is_asked : SessionState → Bool
is_asked SessionState.Absent = false
is_asked SessionState.Asked = true
is_asked SessionState.Open = false
is_asked SessionState.Naming = false
is_asked SessionState.Waiting = true
is_asked SessionState.Listing = false
is_asked SessionState.Serving = false

-- allow and deny of one that is not asked
abbrev pub not_asked : Change
not_asked = tells (Told.Refused 12) None

-- an open one: a receive session lists first
abbrev pub opened_from : SessionState → SessionState
opened_from SessionState.Absent = SessionState.Open
opened_from SessionState.Asked = SessionState.Open
opened_from SessionState.Open = SessionState.Open
opened_from SessionState.Naming = SessionState.Listing
opened_from SessionState.Waiting = SessionState.Listing
opened_from SessionState.Listing = SessionState.Listing
opened_from SessionState.Serving = SessionState.Listing

-- "Allow makes an asked session open, reply OK"
abbrev pub allowed : Session → Change
allowed s = turns (opened_from s.state) (Some (session_reply Status.Ok s))

-- "Deny drops it, reply EPERM"
abbrev pub denied : Session → Change
denied s = drops Told.Nothing (Some (session_reply Status.Eperm s))

-- "The console may drop any session present, with no reply"
unfoldable pub decided_by : Decision → Session → Change
decided_by Decision.Allow s = cond (is_asked s.state) (allowed s) not_asked
decided_by Decision.Deny s = cond (is_asked s.state) (denied s) not_asked
decided_by Decision.Drop s = drops Told.Nothing None
