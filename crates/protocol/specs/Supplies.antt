-- What the console supplies in an open receive session: the listing, the home path, and the parts of the file that is asked for.
use Rattle.std.specs.Prelude.{ℕ, ◌-◌, Bool, true, false, cond, List, [], length, ltb, Option, Some, None}
use Rattle.octets.specs.Outcome.{Outcome, outcome}
use Rattle.frames.specs.Stream.{text_limit}
use Rattle.command.specs.Values.{Value, count}
use Rattle.command.specs.Slots.{nowhere, values_of}
use Rattle.command.specs.Write.{Answer}
use Rattle.command.specs.Framed.{frame_room, framed_of}
use Rattle.command.specs.declared.Action.TheVariants as Action
use Rattle.command.specs.declared.FileType.TheVariants as FileType
use Rattle.command.specs.declared.Transmission.TheVariants as Transmission
use Rattle.command.specs.declared.Place.{Place}
use Rattle.command.specs.declared.Command.{Command}
use Rattle.protocol.specs.Table.{no_file, session_at, file_at, id_of, file_id_of, find_session}
use Rattle.protocol.specs.Written.{values_with, piece_values}
use Rattle.protocol.specs.Replies.{status_word, failure_status, is_held}
use Rattle.protocol.specs.Change.{change, tells, turns, telling, step_by}
use Rattle.protocol.specs.Files.{part_limit}
use Rattle.protocol.specs.Sessions.{string_in}
use Rattle.protocol.specs.Calls.{answered_by}
use Rattle.protocol.specs.declared.SessionState.{SessionState}
use Rattle.protocol.specs.declared.Session.{Session}
use Rattle.protocol.specs.declared.Due.{Due}
use Rattle.protocol.specs.declared.Table.{Table}
use Rattle.protocol.specs.declared.Receiver.{Receiver}
use Rattle.protocol.specs.declared.Status.TheVariants as Status
use Rattle.protocol.specs.declared.Failure.{Failure}
use Rattle.protocol.specs.declared.Told.TheVariants as Told
use Rattle.protocol.specs.declared.Edit.TheVariants as Edit
use Rattle.protocol.specs.declared.News.TheVariants as News
use Rattle.protocol.specs.declared.Change.{Change}
use Rattle.protocol.specs.declared.Entry.{Entry}
use Rattle.protocol.specs.declared.Answered.{Answered}

-- ---- what is supplied
pub data Supply : Type 0 where
  -- a file of the listing: its ids stand in the text, its name, its own id and a link's target in the contents
  list : Entry → (text contents : List ℕ) → Supply
  -- "listing error": why the path with that id, which like the session's stands in the text, is not listed
  list_failed : (text : List ℕ) (id path : Place) (code : Failure) → Supply
  -- the home path, which ends the listing of the session with the id
  home : (id path : List ℕ) → Supply
  -- a part of the file that is asked for, the last one or not
  part : (last : Bool) (bytes : List ℕ) → Supply

-- ---- the commands that are written: source 001's fields
-- "file": its own id is the status, its parent's the parent, a link's target the payload
abbrev pub entry_command : Entry → Command
entry_command e =
    record {
      action = Action.File;
      file_type = e.file_type;
      transmission = Transmission.Simple;
      id = e.id;
      file_id = e.path_id;
      bypass = nowhere;
      quiet = 0;
      modified = e.modified;
      permissions = e.permissions;
      size = e.size;
      name = e.name;
      status = e.own_id;
      parent = e.parent;
      payload = e.target;
    }

-- "status" with the path's id and a word of n bytes
abbrev pub error_command : (id path : Place) → ℕ → Command
error_command id path n =
    record {
      action = Action.Status;
      file_type = FileType.Regular;
      transmission = Transmission.Simple;
      id = id;
      file_id = path;
      bypass = nowhere;
      quiet = 0;
      modified = count 0;
      permissions = count 0;
      size = count 0;
      name = nowhere;
      status = record { start = 0; len = n };
      parent = nowhere;
      payload = nowhere;
    }

abbrev pub error_values : (text : List ℕ) (id path : Place) → Failure → List Value
error_values text id path e =
    let word = status_word (failure_status e) in values_of (error_command id path (length word)) text word

-- "the OK with the home path"
abbrev pub home_values : (id path : List ℕ) → List Value
home_values id path = values_with Action.Status id [] 0 path (status_word Status.Ok) []

-- what is written in the session s: "its file commands, then the OK with the home path, later the parts as data and end_data"
abbrev pub values_for : Session → Supply → List Value
values_for s (Supply.list e text contents) = values_of (entry_command e) text contents
values_for s (Supply.list_failed text id path code) = error_values text id path code
values_for s (Supply.home id path) = home_values id path
values_for s (Supply.part last bytes) = piece_values (id_of s) (file_id_of (file_at s 0)) bytes last

-- ---- refusals
-- "A part over 4,096 bytes gets 17"
abbrev pub is_over : Supply → Bool
is_over (Supply.list e text contents) = false
is_over (Supply.list_failed text id path code) = false
is_over (Supply.home id path) = false
is_over (Supply.part last bytes) = ltb part_limit (length bytes)

abbrev pub is_listing : SessionState → Bool
is_listing SessionState.Absent = false
is_listing SessionState.Asked = false
is_listing SessionState.Open = false
is_listing SessionState.Naming = false
is_listing SessionState.Waiting = false
is_listing SessionState.Listing = true
is_listing SessionState.Serving = false

-- "in turn are exactly listing and home OK in an open receive session before that OK"
abbrev pub listing_at : Table → Option ℕ → Option ℕ
listing_at t None = None
listing_at t (Some i) = cond (is_listing (session_at t i).state) (Some i) None

-- ".. and these answers for the file owed"
abbrev pub request_at : Option (ℕ × Due) → Option ℕ
request_at None = None
request_at (Some (i, Due.OpenFile j)) = None
request_at (Some (i, Due.OpenDirectory j)) = None
request_at (Some (i, Due.Write j n)) = None
request_at (Some (i, Due.WriteLast j n)) = None
request_at (Some (i, Due.Commit)) = None
request_at (Some (i, Due.Request)) = Some i

-- the place of the session in which it is in turn
abbrev pub turn_of : Table → Supply → Option ℕ
turn_of t (Supply.list e text contents) = listing_at t (find_session t (string_in text e.id))
turn_of t (Supply.list_failed text id path code) = listing_at t (find_session t (string_in text id))
turn_of t (Supply.home id path) = listing_at t (find_session t id)
turn_of t (Supply.part last bytes) = request_at t.owed

-- a home path of more bytes is refused by its length alone: its text would pass 8,192 bytes
abbrev pub home_room : ℕ
home_room = text_limit - 2

abbrev pub passes_home : Supply → Bool
passes_home (Supply.list e text contents) = false
passes_home (Supply.list_failed text id path code) = false
passes_home (Supply.home id path) = ltb home_room (length path)
passes_home (Supply.part last bytes) = false

-- "then the writer's refusals"
unfoldable pub framed_for : Session → Supply → List ℕ → Outcome Answer
framed_for s u out = cond (passes_home u) (outcome (Answer.refused 9) out) (framed_of (values_for s u) out)

-- ---- what becomes of the session
-- "Quiet holds back only status replies; a held home OK still counts"
abbrev pub is_held_back : Session → Supply → Bool
is_held_back s (Supply.list e text contents) = false
is_held_back s (Supply.list_failed text id path code) = is_held (failure_status code) s.quiet
is_held_back s (Supply.home id path) = is_held Status.Ok s.quiet
is_held_back s (Supply.part last bytes) = false

-- after the home path it serves; a request is "owed until the console has supplied its last part"
abbrev pub change_for : Supply → Change
change_for (Supply.list e text contents) = tells Told.Nothing None
change_for (Supply.list_failed text id path code) = tells Told.Nothing None
change_for (Supply.home id path) = turns SessionState.Serving None
change_for (Supply.part false bytes) = tells Told.Nothing None
change_for (Supply.part true bytes) = change Edit.Same no_file (News.Clears Told.Nothing) None

-- ---- the call
abbrev pub refused_with : Receiver → ℕ → List ℕ → Outcome Answered
refused_with r n out = outcome (answered_by r.framing (telling r.table (Told.Refused n)) 0) out

-- the session at place i takes it, held back or not, where the writer has written n bytes
abbrev pub wrote_at : Receiver → ℕ → Supply → List ℕ → Outcome Answer → Outcome Answered
wrote_at r i u out o = go o.answer
  where
    go : Answer → Outcome Answered
    go (Answer.refused n) = refused_with r n out
    go (Answer.written n) =
        let s = step_by r.table i nowhere (change_for u) in
        cond (is_held_back (session_at r.table i) u) (outcome (answered_by r.framing s 0) out)
        (outcome (answered_by r.framing s n) o.buffer)

abbrev pub supplied_at : Receiver → Supply → List ℕ → Option ℕ → Outcome Answered
supplied_at r u out None = refused_with r 18 out
supplied_at r u out (Some i) = wrote_at r i u out (framed_for (session_at r.table i) u out)

-- "into a lent buffer (under 8,196 bytes: 9)"; "A part over 4,096 bytes gets 17, then a new call out of turn .. 18, then the writer's
-- refusals, nothing changed"
unfoldable pub supply_of : Receiver → Supply → List ℕ → Outcome Answered
supply_of r u out =
    cond (ltb (length out) frame_room) (refused_with r 9 out)
    (cond (is_over u) (refused_with r 17 out)
    (supplied_at r u out (turn_of r.table u)))
