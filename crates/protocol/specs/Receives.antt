-- The rules of a receive session: the paths that it names, and the files that it asks for.
use Rattle.std.specs.Prelude.{ℕ, ◌+◌, Bool, cond, ◌||◌, List, ltb, eqb, Option, Some, None}
use Rattle.decimal.specs.declared.Number.{Number}
use Rattle.pathname.specs.Name.{valid_name}
use Rattle.protocol.specs.Table.{file_room, no_file, file_at, first, is_free, kept_id}
use Rattle.protocol.specs.Replies.{file_reply}
use Rattle.protocol.specs.Change.{change, tells, opens, settles}
use Rattle.protocol.specs.Files.{Request, file_status, if_new}
use Rattle.protocol.specs.declared.FileState.TheVariants as FileState
use Rattle.protocol.specs.declared.FileRecord.{FileRecord}
use Rattle.protocol.specs.declared.Session.{Session}
use Rattle.protocol.specs.declared.Due.TheVariants as Due
use Rattle.protocol.specs.declared.Status.{Status}
use Rattle.protocol.specs.declared.Told.TheVariants as Told
use Rattle.protocol.specs.declared.Edit.TheVariants as Edit
use Rattle.protocol.specs.declared.News.TheVariants as News
use Rattle.protocol.specs.declared.Change.{Change}

-- "`receive` with `sz` from 1 to 32 asks for that many paths, any other `sz` gives EINVAL"
abbrev pub bad_paths : Number → Bool
bad_paths n = n.negative || (eqb n.magnitude 0 || ltb file_room n.magnitude)

-- a path that is named, or a file that is asked for, by its id alone: its name is told and not kept
abbrev pub named : List ℕ → FileRecord
named k = record { state = FileState.Named; id = kept_id k; count = 0; declared = 0 }

-- ---- "File commands then name the paths, each told to the console without a reply"
-- Paths fill the records in order, so that the one at place j is number j + 1. With as many as were asked for the session waits.
abbrev pub path_named : Session → (file : List ℕ) → Option ℕ → Change
path_named s file None = file_status s file Status.Emfile
path_named s file (Some j) =
    cond (ltb (j + 1) s.wanted) (change (Edit.Filed j) (named file) (News.Tells Told.Path) None)
    (change Edit.Waits no_file (News.Tells Told.LastPath) None)

unfoldable pub path_checked : Session → (file name : List ℕ) → Change
path_checked s file name =
    cond (valid_name name) (path_named s file (first is_free s.files)) (file_status s file Status.Einval)

-- "an empty or known fid or a bad name gets 01's status and doesn't count"
unfoldable pub path_of : Session → Request → Change
path_of s q = if_new s q.file (path_checked s q.file q.name)

-- ---- "After that OK a file command is a request, without 01's checks, and an ask"
-- the session's first record is that of the file asked for
abbrev pub request_of : (file : List ℕ) → Change
request_of file = opens 0 (named file) Due.Request

-- "a new call out of turn or done for a request 18"
abbrev pub out_of_turn : Change
out_of_turn = tells (Told.Refused 18) None

-- the request is answered with a status
abbrev pub request_fails : Status → Session → Change
request_fails w s = settles w (Some (file_reply w s (file_at s 0) 0))
