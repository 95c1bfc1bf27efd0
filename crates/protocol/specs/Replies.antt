-- Replies: their words, when quiet holds them back, and their bytes.
use Rattle.std.specs.Prelude.{ℕ, Bool, true, false, cond, ◌&&◌, ◌||◌, List, [], ◌∷◌, ◌++◌, length, leb, eqb, Option, Some, None}
use Rattle.octets.specs.Ascii.{ascii}
use Rattle.octets.specs.Split.{join}
use Rattle.octets.specs.Outcome.{Outcome, stored_at}
use Rattle.base64_codec.specs.Encode as Base64
use Rattle.decimal.specs.Write as Decimal
use Rattle.frames.specs.Stream.{framed}
use Rattle.command.specs.Values.{Value, count}
use Rattle.command.specs.declared.Action.TheVariants as Action
use Rattle.protocol.specs.Written.{values_with}
use Rattle.protocol.specs.Table.{no_id, id_bytes}
use Rattle.protocol.specs.declared.FileRecord.{FileRecord}
use Rattle.protocol.specs.declared.Session.{Session}
use Rattle.protocol.specs.declared.Status.{Status}
use Rattle.protocol.specs.declared.Failure.{Failure}
use Rattle.protocol.specs.declared.Reply.{Reply}

-- "Status is the bare word"
abbrev pub status_word : Status → List ℕ
status_word Status.Ok = ascii "OK"
status_word Status.Started = ascii "STARTED"
status_word Status.Progress = ascii "PROGRESS"
status_word Status.Canceled = ascii "CANCELED"
status_word Status.Eperm = ascii "EPERM"
status_word Status.Eio = ascii "EIO"
status_word Status.Enoent = ascii "ENOENT"
status_word Status.Enospc = ascii "ENOSPC"
status_word Status.Ebusy = ascii "EBUSY"
status_word Status.Enotsup = ascii "ENOTSUP"
status_word Status.Einval = ascii "EINVAL"
status_word Status.Eexist = ascii "EEXIST"
status_word Status.Emfile = ascii "EMFILE"
status_word Status.Efbig = ascii "EFBIG"

-- "It answers done, or failed with EPERM, EIO, ENOENT, ENOSPC"
abbrev pub failure_status : Failure → Status
failure_status Failure.Eperm = Status.Eperm
failure_status Failure.Eio = Status.Eio
failure_status Failure.Enoent = Status.Enoent
failure_status Failure.Enospc = Status.Enospc

-- "Quiet 1 holds back OK, STARTED, PROGRESS, CANCELED"
abbrev pub is_progress : Status → Bool
is_progress Status.Ok = true
is_progress Status.Started = true
is_progress Status.Progress = true
is_progress Status.Canceled = true
is_progress Status.Eperm = false
is_progress Status.Eio = false
is_progress Status.Enoent = false
is_progress Status.Enospc = false
is_progress Status.Ebusy = false
is_progress Status.Enotsup = false
is_progress Status.Einval = false
is_progress Status.Eexist = false
is_progress Status.Emfile = false
is_progress Status.Efbig = false

-- "quiet 2 holds back all"
abbrev pub is_held : Status → ℕ → Bool
is_held s quiet = leb 2 quiet || (leb 1 quiet && is_progress s)

-- "No reply is longer than 124 bytes": what a reply buffer has at least
abbrev pub reply_room : ℕ
reply_room = 124

-- ---- which reply
-- one about a session, and one about a file of it, by their records
abbrev pub session_reply : Status → Session → Reply
session_reply w s =
    record { status = w; quiet = s.quiet; id = s.id; file_id = no_id; size = 0 }

abbrev pub file_reply : Status → Session → FileRecord → ℕ → Reply
file_reply w s f size =
    record {
      status = w;
      quiet = s.quiet;
      id = s.id;
      file_id = f.id;
      size = size;
    }

-- ---- its bytes: "opener, canonical text with `ac=status`, the id, the fid .., `sz` as above, `st`, then closer"
-- a field that is left out where its value is empty
abbrev pub unless_empty : List ℕ → List ℕ → List (List ℕ) → List (List ℕ)
unless_empty name [] fs = fs
unless_empty name (x ∷ v) fs = (name ++ 61 ∷ x ∷ v) ∷ fs

-- the digits of a size; none for 0, nor for a size that is no integer "within signed 64 bits"
abbrev pub size_text : ℕ → List ℕ
size_text n = cond (eqb n 0) [] (cond (Decimal.writable (count n)) (Decimal.text_of (count n)) [])

abbrev pub status_fields : List ℕ → List ℕ → ℕ → List ℕ → List (List ℕ)
status_fields id file size word =
    ascii "ac=status"
    ∷ unless_empty (ascii "id") id
    (unless_empty (ascii "fid") file
    (unless_empty (ascii "sz") (size_text size)
    ((ascii "st=" ++ Base64.text_of word) ∷ [])))

unfoldable pub status_text : List ℕ → List ℕ → ℕ → List ℕ → List ℕ
status_text id file size word = ascii "5113;" ++ join 59 (status_fields id file size word)

-- the same as a command's values, whose canonical text it is where the ids are safe strings of 1 to 32 and 0 to 32 bytes
abbrev pub status_values : List ℕ → List ℕ → ℕ → List ℕ → List Value
status_values id file size word = values_with Action.Status id file size [] word []

-- the bytes of a reply: none where none is due or quiet holds it back
unfoldable pub reply_bytes : Option Reply → List ℕ
reply_bytes None = []
reply_bytes (Some r) =
    cond (is_held r.status r.quiet) []
    (framed (status_text (id_bytes r.id) (id_bytes r.file_id) r.size (status_word r.status)))

-- the reply's length, and the reply buffer afterwards: "bytes beyond it are untouched"; nothing of a reply that does not fit
unfoldable pub replied_of : Option Reply → List ℕ → Outcome ℕ
replied_of r buf = stored_at (length (reply_bytes r)) 0 (reply_bytes r) buf 0
