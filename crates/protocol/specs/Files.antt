-- The rules for file, data, end_data and finish in an open session.
use Rattle.std.specs.Prelude.{ℕ, ◌+◌, Bool, true, false, ◌&&◌, ◌||◌, cond, List, length, ltb, eqb, Option, Some, None}
use Rattle.decimal.specs.declared.Number.{Number}
use Rattle.pathname.specs.Name.{valid_name}
use Rattle.command.specs.declared.Action.{Action}
use Rattle.command.specs.declared.FileType.{FileType}
use Rattle.command.specs.declared.Transmission.{Transmission}
use Rattle.command.specs.declared.Command.{Command}
use Rattle.protocol.specs.Lengths.{length_by}
use Rattle.protocol.specs.Table.{file_at, find_file, first, is_free, is_started, moved, kept_id}
use Rattle.protocol.specs.Replies.{session_reply, file_reply}
use Rattle.protocol.specs.Change.{tells, asks, opens, files, drops}
use Rattle.protocol.specs.declared.FileState.{FileState}
use Rattle.protocol.specs.declared.FileRecord.{FileRecord}
use Rattle.protocol.specs.declared.Session.{Session}
use Rattle.protocol.specs.declared.Due.{Due}
use Rattle.protocol.specs.declared.Status.{Status}
use Rattle.protocol.specs.declared.Told.TheVariants as Told
use Rattle.protocol.specs.declared.Change.{Change}

-- a command as the rule of one session sees it: words, numbers and strings, and no place
pub record Request : Type 0 where
  pub action : Action
  pub type : FileType
  pub transmission : Transmission
  pub permissions : Number
  pub size : Number
  pub file : List ℕ
  pub name : List ℕ
  -- how many decoded bytes it brings
  pub long : ℕ

abbrev pub request : Command → (file name : List ℕ) → Request
request c file name =
    record {
      action = c.action;
      type = c.file_type;
      transmission = c.transmission;
      permissions = c.permissions;
      size = c.size;
      file = file;
      name = name;
      long = c.payload.len;
    }

-- nothing changes and nothing is replied
abbrev pub ignored : Change
ignored = tells Told.Ignored None

-- ---- file, "first that applies"
abbrev pub opening : (id : List ℕ) (declared : ℕ) → FileRecord
opening k d = record { state = FileState.Opening; id = kept_id k; count = 0; declared = d }

-- a reply about the command's file, which is all that happens
abbrev pub file_status : Session → List ℕ → Status → Change
file_status s file w = tells (Told.Status w) (Some (file_reply w s (opening file 0) 0))

-- "symlink, link or rsync"
abbrev pub link_like : FileType → Bool
link_like FileType.Regular = false
link_like FileType.Directory = false
link_like FileType.Symlink = true
link_like FileType.Link = true

abbrev pub is_rsync : Transmission → Bool
is_rsync Transmission.Simple = false
is_rsync Transmission.Rsync = true

abbrev pub unsupported : Request → Bool
unsupported q = link_like q.type || is_rsync q.transmission

-- "prm outside 0 to 4095"
abbrev pub bad_permissions : Number → Bool
bad_permissions n = n.negative || ltb 4095 n.magnitude

-- "For a regular file only, a positive one declares the length, zero or none nothing, and a negative one is EINVAL"
abbrev pub bad_size : FileType → Number → Bool
bad_size FileType.Regular n = n.negative
bad_size FileType.Directory n = false
bad_size FileType.Symlink n = false
bad_size FileType.Link n = false

abbrev pub declared_by : FileType → Number → ℕ
declared_by FileType.Regular n = length_by n
declared_by FileType.Directory n = 0
declared_by FileType.Symlink n = 0
declared_by FileType.Link n = 0

abbrev pub is_directory : FileType → Bool
is_directory FileType.Regular = false
is_directory FileType.Directory = true
is_directory FileType.Symlink = false
is_directory FileType.Link = false

-- the open that is asked, of a directory or of a file
abbrev pub open_due : Bool → ℕ → Due
open_due true j = Due.OpenDirectory j
open_due false j = Due.OpenFile j

-- "32 records EMFILE; else open is asked and the record is opening"
abbrev pub file_recorded : Session → Request → Option ℕ → Change
file_recorded s q None = file_status s q.file Status.Emfile
file_recorded s q (Some j) = opens j (opening q.file (declared_by q.type q.size)) (open_due (is_directory q.type) j)

-- "symlink, link or rsync ENOTSUP; prm outside 0 to 4095 EINVAL; bad name EINVAL"; the size is "checked just after prm"
unfoldable pub file_checked : Session → Request → Change
file_checked s q =
    cond (unsupported q) (file_status s q.file Status.Enotsup)
    (cond (bad_permissions q.permissions) (file_status s q.file Status.Einval)
    (cond (bad_size q.type q.size) (file_status s q.file Status.Einval)
    (cond (valid_name q.name) (file_recorded s q (first is_free s.files))
    (file_status s q.file Status.Einval))))

-- "fid known EEXIST"; x is what becomes of a file whose id is new
abbrev pub unless_known : Session → (file : List ℕ) → Change → Option ℕ → Change
unless_known s file x None = x
unless_known s file x (Some j) = file_status s file Status.Eexist

-- "empty fid EINVAL", before that
abbrev pub if_new : Session → (file : List ℕ) → Change → Change
if_new s file x = cond (eqb (length file) 0) (file_status s file Status.Einval) (unless_known s file x (find_file s file))

unfoldable pub file_of : Session → Request → Change
file_of s q = if_new s q.file (file_checked s q)

-- ---- data, end_data
-- the record j moves to a state with a count, and a status with that `sz` is replied
abbrev pub settled : Session → ℕ → FileState → ℕ → Status → ℕ → Change
settled s j g n w size = let f = file_at s j in files j (moved f g n) w (Some (file_reply w s f size))

-- "record failed", with its status
abbrev pub failed_file : Session → ℕ → Status → Change
failed_file s j w = settled s j FileState.Failed (file_at s j).count w 0

-- a write asked, of the last part or not
abbrev pub write_due : Bool → ℕ → ℕ → Due
write_due true j n = Due.WriteLast j n
write_due false j n = Due.Write j n

-- "4,096 decoded bytes"
abbrev pub part_limit : ℕ
part_limit = 4096

-- 2^40
abbrev pub count_limit : ℕ
count_limit = 1099511627776

-- "A part that would pass the declared length": d is that length, 0 for none, and n the count with the part
abbrev pub passes : (d n : ℕ) → Bool
passes d n = ltb 0 d && ltb d n

-- "an end_data that closes short of it"
abbrev pub ends_short : (last : Bool) (d n : ℕ) → Bool
ends_short last d n = last && ltb n d

-- "Over 4,096 decoded bytes: record failed, EINVAL. Count would pass 2^40: record failed, EFBIG. Else a write is asked." Before that: "A
-- part that would pass the declared length fails the record with EFBIG, and an end_data that closes short of it fails the record with
-- EINVAL; neither is handed over."
unfoldable pub part_asked : Session → ℕ → Bool → ℕ → Change
part_asked s j last n =
    let f = file_at s j in
    cond (ltb part_limit n) (failed_file s j Status.Einval)
    (cond (ltb count_limit (f.count + n)) (failed_file s j Status.Efbig)
    (cond (passes f.declared (f.count + n)) (failed_file s j Status.Efbig)
    (cond (ends_short last f.declared (f.count + n)) (failed_file s j Status.Einval)
    (asks (write_due last j n)))))

-- "no such record, or not started: ignored, no reply"
abbrev pub part_found : Session → Bool → ℕ → Option ℕ → Change
part_found s last n None = ignored
part_found s last n (Some j) = cond (is_started (file_at s j)) (part_asked s j last n) ignored

-- a part of n bytes for the file, the last one or not
unfoldable pub data_of : Session → Bool → List ℕ → ℕ → Change
data_of s last file n = part_found s last n (find_file s file)

-- ---- finish: "a record still started: dropped, EINVAL (house rule). Else commit is asked."
abbrev pub finish_found : Session → Option ℕ → Change
finish_found s None = asks Due.Commit
finish_found s (Some j) = drops Told.Discarded (Some (session_reply Status.Einval s))

-- by a search of the records, as that sentence has it
abbrev pub finish_by_records : Session → Change
finish_by_records s = finish_found s (first is_started s.files)

-- by the kept number: "keep in the session the number of started files, for finish". `EveryCount` says that it is the same.
unfoldable pub finish_of : Session → Change
finish_of s = cond (eqb s.started 0) (asks Due.Commit) (drops Told.Discarded (Some (session_reply Status.Einval s)))
