-- What the receiver and the sender keep at a point, and what the console's history has of the orders so far.
use Prim.Native.Nat.{ℕ, ◌+◌, ◌-◌}
use mathlib.Core.Bool.{true, false}
use mathlib.Core.List.{List, [], ◌∷◌, ◌++◌, map}
use lib.ListN.{length, replicate}
use Rattle.std.specs.Prelude.{Option, Some, None}
use Rattle.command.specs.Values.{Value}
use Rattle.protocol.specs.Table.{file_room, absent_session, total, free_file, kept_id}
use Rattle.protocol.specs.Files.{opening, write_due}
use Rattle.protocol.specs.Sessions.{asked_session}
use Rattle.protocol.specs.History.{Heard, Mark, Question}
use Rattle.protocol.specs.declared.FileState.{FileState}
use Rattle.protocol.specs.declared.FileRecord.{FileRecord}
use Rattle.protocol.specs.declared.SessionState.TheVariants as SessionState
use Rattle.protocol.specs.declared.Session.{Session}
use Rattle.protocol.specs.declared.Due.{Due}
use Rattle.protocol.specs.declared.Table.{Table}
use Rattle.sending.specs.Transfers as Transfers
use Rattle.sending.specs.Plans.{Order}
use Rattle.sending.specs.declared.Stage.{Stage}
use Rattle.sending.specs.declared.FileStage.{FileStage}
use Rattle.sending.specs.declared.SentFile.{SentFile}
use Rattle.sending.specs.declared.Transfer.{Transfer}
use Rattle.sending.proofs.arrival.path.Points.{Sent, Point, next, command_at}

-- ---- the receiver's table at a point, with all orders so far answered
abbrev pub record_of : FileState → Sent → FileRecord
record_of g f = record { state = g; id = kept_id f.id; count = f.total; declared = f.size }

-- the records: the past files, and the one that is being sent, if one is
abbrev pub records_of : List Sent → List FileRecord → List FileRecord
records_of past now =
    (map (record_of FileState.Done) past ++ now) ++ replicate (file_room - (length past + length now)) free_file

-- the bytes of the past files
abbrev pub bytes_of : List Sent → ℕ
bytes_of past = total (λ (f : Sent). f.total) past

-- an open session with those numbers and files
abbrev pub keeping : (id : List ℕ) (started bytes : ℕ) → List FileRecord → Session
keeping id started bytes files =
    record {
      state = SessionState.Open;
      quiet = 0;
      id = kept_id id;
      wanted = 0;
      started = started;
      done_bytes = bytes;
      files = files;
    }

abbrev pub open_session : (id : List ℕ) (started : ℕ) → List Sent → List FileRecord → Session
open_session id started past now = keeping id started (bytes_of past) (records_of past now)

-- one session, in the first place
abbrev pub alone_in : Session → Option (ℕ × Due) → Table
alone_in s o = record { sessions = s ∷ absent_session ∷ absent_session ∷ absent_session ∷ []; owed = o }

abbrev pub session_of : (id : List ℕ) → Point → Session
session_of id Point.fresh = absent_session
session_of id (Point.idle past) = open_session id 0 past []
session_of id (Point.busy past f) = open_session id 1 past (record_of FileState.Started f ∷ [])
session_of id (Point.over past) = absent_session

abbrev pub table_of : (id : List ℕ) → Point → Table
table_of id p = alone_in (session_of id p) None

-- ---- the table once an order is read and before it is answered
-- the place of the file that is being sent, or of the next one
abbrev pub place_of : Point → ℕ
place_of Point.fresh = 0
place_of (Point.idle past) = length past
place_of (Point.busy past f) = length past
place_of (Point.over past) = 0

abbrev pub past_of : Point → List Sent
past_of Point.fresh = []
past_of (Point.idle past) = past
past_of (Point.busy past f) = past
past_of (Point.over past) = past

abbrev pub owing_of : (id : List ℕ) → Point → Order → Table
owing_of id p (Order.send k) = alone_in (asked_session 0 k) None
owing_of id p (Order.file k name size) =
    alone_in (open_session id 0 (past_of p) (opening k size ∷ [])) (Some (0, Due.OpenFile (place_of p)))
owing_of id p (Order.piece c last) = alone_in (session_of id p) (Some (0, write_due last (place_of p) (length c)))
owing_of id p Order.finish = alone_in (session_of id p) (Some (0, Due.Commit))

-- ---- the history's marks, newest first
-- what is asked when an order is read; nothing for send, which the user is asked
abbrev pub asked_for : Order → List Heard
asked_for (Order.send k) = []
asked_for (Order.file k name size) = Heard.opens ∷ []
asked_for (Order.piece c false) = Heard.writes c ∷ []
asked_for (Order.piece c true) = Heard.writes_last c ∷ []
asked_for Order.finish = Heard.commits ∷ []

abbrev pub asked_marks : List Heard → List Mark → List Mark
asked_marks [] m = m
asked_marks (a ∷ hs) m = Mark.asked a ∷ asked_marks hs m

abbrev pub read_marks : List ℕ → Point → Order → List Mark → List Mark
read_marks id p o m = asked_marks (asked_for o) (Mark.read (command_at id p o) ∷ m)

abbrev pub answer_mark : List Value → List Heard → List ℕ → Mark
answer_mark c [] k = Mark.allow k
answer_mark c (a ∷ hs) k = Mark.answer true (Question.asks c a)

-- an order that is read and answered
abbrev pub done_marks : List ℕ → Point → Order → List Mark → List Mark
done_marks id p o m = answer_mark (command_at id p o) (asked_for o) id ∷ read_marks id p o m

abbrev pub marks_at : List ℕ → Point → List Order → List Mark → List Mark
marks_at id p [] m = m
marks_at id p (o ∷ os) m = marks_at id (next p o) os (done_marks id p o m)

-- ---- the sender's session: what is written so far ends at the point w, what is heard of its replies at the point h
abbrev pub sent_record : FileStage → Sent → SentFile
sent_record g f = record { stage = g; id = kept_id f.id; sent = f.total }

abbrev pub sending_now : Point → List SentFile
sending_now Point.fresh = []
sending_now (Point.idle past) = []
sending_now (Point.busy past f) = sent_record FileStage.Sending f ∷ []
sending_now (Point.over past) = []

-- closed files, then those whose last piece is written, then the one being sent
abbrev pub sent_files : (closed past : List Sent) → List SentFile → List SentFile
sent_files closed past now =
    ((map (sent_record FileStage.Closed) closed ++ map (sent_record FileStage.Sent) past) ++ now)
    ++ replicate (file_room - (length closed + length past + length now)) Transfers.free_file

-- open once the reply to send is heard
abbrev pub stage_of : (h w : Point) → Stage
stage_of h Point.fresh = Stage.Fresh
stage_of Point.fresh (Point.idle past) = Stage.Waiting
stage_of Point.fresh (Point.busy past f) = Stage.Waiting
stage_of Point.fresh (Point.over past) = Stage.Waiting
stage_of (Point.idle p) (Point.idle past) = Stage.Open
stage_of (Point.idle p) (Point.busy past f) = Stage.Open
stage_of (Point.idle p) (Point.over past) = Stage.Finished
stage_of (Point.busy p g) (Point.idle past) = Stage.Open
stage_of (Point.busy p g) (Point.busy past f) = Stage.Open
stage_of (Point.busy p g) (Point.over past) = Stage.Finished
stage_of (Point.over p) (Point.idle past) = Stage.Open
stage_of (Point.over p) (Point.busy past f) = Stage.Open
stage_of (Point.over p) (Point.over past) = Stage.Finished

-- the session has its id once send is written
abbrev pub id_at : List ℕ → Point → List ℕ
id_at id Point.fresh = []
id_at id (Point.idle past) = id
id_at id (Point.busy past f) = id
id_at id (Point.over past) = id

-- a session by its parts
abbrev pub shaped : Stage → (id : List ℕ) (closed others : List Sent) → List SentFile → Transfer
shaped g id closed others now =
    record {
      stage = g;
      id = kept_id id;
      files = sent_files closed others now;
      count = length closed + length others + length now;
    }

-- the files of w are those closed, which are the past files of h, then the others, and the one being sent
abbrev pub transfer_of : (id : List ℕ) (h w : Point) (others : List Sent) → Transfer
transfer_of id h w others = shaped (stage_of h w) (id_at id w) (past_of h) others (sending_now w)
