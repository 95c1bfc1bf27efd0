-- What a command that was read makes of the sender's session: the status replies.
use Rattle.std.specs.Prelude.{ℕ, Bool, true, false, not, cond, ◌&&◌, List, length, eqb, Option, Some, None}
use Rattle.octets.specs.Ascii.{ascii}
use Rattle.octets.specs.Slices.{equals}
use Rattle.decimal.specs.declared.Number.{Number}
use Rattle.command.specs.declared.Action.{Action}
use Rattle.command.specs.declared.Place.{Place}
use Rattle.command.specs.declared.Command.{Command}
use Rattle.protocol.specs.Sessions.{string_in, id_in, file_id_in}
use Rattle.sending.specs.Transfers.{id_of, file_at, find_file, is_fresh, is_waiting, closed_stage, with_stage, put_file, moved}
use Rattle.sending.specs.declared.Stage.TheVariants as Stage
use Rattle.sending.specs.declared.FileStage.TheVariants as FileStage
use Rattle.sending.specs.declared.Transfer.{Transfer}
use Rattle.sending.specs.declared.News.{News}
use Rattle.sending.specs.declared.Heeded.{Heeded}
use Rattle.sending.specs.declared.Word.{Word}

abbrev pub heeded : Transfer → News → Heeded
heeded t n = record { transfer = t; news = n }

-- "any status but OK, STARTED, PROGRESS": the whole status is compared with the three words
unfoldable pub word_of : List ℕ → Word
word_of st =
    cond (equals st (ascii "OK")) Word.Ok
    (cond (equals st (ascii "STARTED")) Word.Going
    (cond (equals st (ascii "PROGRESS")) Word.Going Word.Other))

-- the session's OK: while it is waited for, it allows the sender to write on; another one is only noted
abbrev pub allow_heed : Transfer → Heeded
allow_heed t = cond (is_waiting t.stage) (heeded (with_stage t Stage.Open) News.Allowed) (heeded t News.Noted)

-- "without fid the session"
unfoldable pub session_heed : Transfer → Place → Word → Heeded
session_heed t p Word.Ok = allow_heed t
session_heed t p Word.Going = heeded t News.Noted
session_heed t p Word.Other = heeded (with_stage t Stage.Stopped) (News.SessionStopped p)

-- a size that is the count n
abbrev pub is_count : Number → ℕ → Bool
is_count z n = cond z.negative false (eqb z.magnitude n)

-- "reports a file's OK exactly when its `sz` differs from what it sent"
unfoldable pub ok_heed : Transfer → ℕ → Number → Heeded
ok_heed t i z =
    let f = file_at t i in
    cond (is_count z f.sent) (heeded (put_file t i (moved f (closed_stage f.stage) f.sent)) News.Noted) (heeded t (News.Differs i z))

abbrev pub stop_heed : Transfer → ℕ → Place → Heeded
stop_heed t i p = let f = file_at t i in heeded (put_file t i (moved f FileStage.Stopped f.sent)) (News.FileStopped i p)

-- "stops a file .. on any status but OK, STARTED, PROGRESS"
unfoldable pub file_heed : Transfer → ℕ → Number → Place → Word → Heeded
file_heed t i z p Word.Ok = ok_heed t i z
file_heed t i z p Word.Going = heeded t News.Noted
file_heed t i z p Word.Other = stop_heed t i p

-- a status for a file that is none of this sender's is ignored
unfoldable pub found_heed : Transfer → Number → Place → Word → Option ℕ → Heeded
found_heed t z p w None = heeded t News.Ignored
found_heed t z p w (Some i) = file_heed t i z p w

unfoldable pub status_heed : Transfer → (file : List ℕ) → Number → Place → Word → Heeded
status_heed t file z p w = cond (eqb (length file) 0) (session_heed t p w) (found_heed t z p w (find_file t file))

abbrev pub is_status : Action → Bool
is_status Action.None = false
is_status Action.Send = false
is_status Action.Receive = false
is_status Action.File = false
is_status Action.Data = false
is_status Action.EndData = false
is_status Action.Finish = false
is_status Action.Cancel = false
is_status Action.Status = true

-- "reads the status replies" of its session, which has an id once send is written
unfoldable pub is_ours : Transfer → Action → (id : List ℕ) → Bool
is_ours t a id = is_status a && (not (is_fresh t.stage) && equals (id_of t) id)

unfoldable pub heed_of : Transfer → Command → (text scratch : List ℕ) → Heeded
heed_of t c text scratch =
    cond (is_ours t c.action (id_in c text))
    (status_heed t (file_id_in c text) c.size c.status (word_of (string_in scratch c.status)))
    (heeded t News.Ignored)
