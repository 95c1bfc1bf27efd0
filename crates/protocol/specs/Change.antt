-- What a step makes of one session, and how the table takes it back. A change names no place of the table.
use Rattle.std.specs.Prelude.{cond, ℕ, set, eqb, Option, Some, None}
use Rattle.command.specs.declared.Place.{Place}
use Rattle.protocol.specs.Table.{absent_session, no_file, session_at, with_state, waiting, put_file}
use Rattle.protocol.specs.declared.FileRecord.{FileRecord}
use Rattle.protocol.specs.declared.SessionState.{SessionState}
use Rattle.protocol.specs.declared.Session.{Session}
use Rattle.protocol.specs.declared.Due.{Due}
use Rattle.protocol.specs.declared.Table.{Table}
use Rattle.protocol.specs.declared.Status.{Status}
use Rattle.protocol.specs.declared.Ask.{Ask}
use Rattle.protocol.specs.declared.Told.{Told}
use Rattle.protocol.specs.declared.Reply.{Reply}
use Rattle.protocol.specs.declared.Edit.{Edit}
use Rattle.protocol.specs.declared.News.{News}
use Rattle.protocol.specs.declared.Change.{Change}
use Rattle.protocol.specs.declared.Stepped.{Stepped}

-- ---- changes, by what becomes of the session
abbrev pub change : Edit → FileRecord → News → Option Reply → Change
change e f w r = record { edit = e; file = f; news = w; reply = r }

-- nothing changes, and this is told
abbrev pub tells : Told → Option Reply → Change
tells w r = change Edit.Same no_file (News.Tells w) r

-- the session stays as it is, and this is asked
abbrev pub asks : Due → Change
asks d = change Edit.Same no_file (News.Asks d) None

-- a new file record at a place, and its open is asked, or its contents
abbrev pub opens : ℕ → FileRecord → Due → Change
opens j f d = change (Edit.Filed j) f (News.Asks d) None

-- a file record put back at its place; what the session owed is settled, and the status is all that is told
abbrev pub files : ℕ → FileRecord → Status → Option Reply → Change
files j f w r = change (Edit.Filed j) f (News.Clears (Told.Status w)) r

-- "dropped": its place is free again, and "what that session owed is cleared"
abbrev pub drops : Told → Option Reply → Change
drops w r = change Edit.Dropped no_file (News.Clears w) r

-- in another state, told by nothing but the reply
abbrev pub turns : SessionState → Option Reply → Change
turns g r = change (Edit.Turned g) no_file (News.Tells Told.Nothing) r

-- what the session owed is settled, and the status is all that happens
abbrev pub settles : Status → Option Reply → Change
settles w r = change Edit.Same no_file (News.Clears (Told.Status w)) r

-- ---- the session afterwards
abbrev pub edited : Session → FileRecord → Edit → Session
edited s f Edit.Same = s
edited s f (Edit.Turned g) = with_state s g
edited s f (Edit.Filed j) = put_file s j f
edited s f Edit.Waits = waiting s
edited s f Edit.Dropped = absent_session

-- ---- what is owed afterwards, the session's place being i
-- "what that session owed is cleared"
abbrev pub cleared : ℕ → Option (ℕ × Due) → Option (ℕ × Due)
cleared i None = None
cleared i (Some (k, d)) = cond (eqb k i) None (Some (k, d))

abbrev pub owed_after : Option (ℕ × Due) → ℕ → News → Option (ℕ × Due)
owed_after o i (News.Tells w) = o
owed_after o i (News.Clears w) = cleared i o
owed_after o i (News.Asks d) = Some (i, d)

-- ---- what is told, the payload standing at p in the scratch
abbrev pub ask_of : Place → Due → Ask
ask_of p (Due.OpenFile j) = Ask.Open
ask_of p (Due.OpenDirectory j) = Ask.Open
ask_of p (Due.Write j n) = Ask.Write p
ask_of p (Due.WriteLast j n) = Ask.WriteLast p
ask_of p Due.Commit = Ask.Commit
ask_of p Due.Request = Ask.Request

abbrev pub told_by : Place → News → Told
told_by p (News.Tells w) = w
told_by p (News.Clears w) = w
told_by p (News.Asks d) = Told.Ask (ask_of p d)

-- ---- the step of the session at place i, put back: one place for every command and call
abbrev pub stepped : Table → Told → Option Reply → Stepped
stepped t w r = record { table = t; told = w; reply = r }

-- nothing but something told
abbrev pub telling : Table → Told → Stepped
telling t w = stepped t w None

abbrev pub after : Table → ℕ → Change → Table
after t i c =
    record {
      sessions = set t.sessions i (edited (session_at t i) c.file c.edit);
      owed = owed_after t.owed i c.news;
    }

abbrev pub step_by : Table → ℕ → Place → Change → Stepped
step_by t i p c = stepped (after t i c) (told_by p c.news) c.reply
