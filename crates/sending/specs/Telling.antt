-- What the story says of the session and its files, and so what is to be answered and told. No word of the sender's records.
use Rattle.std.specs.Prelude.{ℕ, ◌+◌, Bool, true, false, not, cond, ◌&&◌, ◌||◌, List, [], ◌∷◌, length, eqb, leb, Option, Some, None}
use Rattle.octets.specs.Slices.{equals}
use Rattle.frames.specs.Stream.{Told}
use Rattle.command.specs.Values.{Value}
use Rattle.command.specs.Meaning.{Meaning, meaning_of, action_code, id_of, file_id_of, size_of, status_of}
use Rattle.protocol.specs.Table.{file_room}
use Rattle.sending.specs.Heeding.{word_of, is_count}
use Rattle.sending.specs.Sayings.{Saying}
use Rattle.sending.specs.Story.{Mark}
use Rattle.sending.specs.declared.Word.{Word}

-- ---- the session and its files
-- the session's id, once send is written
abbrev pub session_in : List Mark → Option (List ℕ)
session_in [] = None
session_in (Mark.sent id ∷ m) = Some id
session_in (Mark.filed id ∷ m) = session_in m
session_in (Mark.pieced b last ∷ m) = session_in m
session_in (Mark.finished ∷ m) = session_in m
session_in (Mark.read c ∷ m) = session_in m

-- the file whose file command was written last, until its last piece is
abbrev pub pending_in : List Mark → Option (List ℕ)
pending_in [] = None
pending_in (Mark.sent id ∷ m) = pending_in m
pending_in (Mark.filed id ∷ m) = Some id
pending_in (Mark.pieced b last ∷ m) = cond last None (pending_in m)
pending_in (Mark.finished ∷ m) = pending_in m
pending_in (Mark.read c ∷ m) = pending_in m

-- whether finish is written
abbrev pub finished_in : List Mark → Bool
finished_in [] = false
finished_in (Mark.sent id ∷ m) = finished_in m
finished_in (Mark.filed id ∷ m) = finished_in m
finished_in (Mark.pieced b last ∷ m) = finished_in m
finished_in (Mark.finished ∷ m) = true
finished_in (Mark.read c ∷ m) = finished_in m

-- the ids of the files whose file command is written, newest first
abbrev pub files_in : List Mark → List (List ℕ)
files_in [] = []
files_in (Mark.sent id ∷ m) = files_in m
files_in (Mark.filed id ∷ m) = id ∷ files_in m
files_in (Mark.pieced b last ∷ m) = files_in m
files_in (Mark.finished ∷ m) = files_in m
files_in (Mark.read c ∷ m) = files_in m

-- the id that is there, and whether it is k
abbrev pub or_empty : Option (List ℕ) → List ℕ
or_empty None = []
or_empty (Some j) = j

abbrev pub equals_some : List ℕ → Option (List ℕ) → Bool
equals_some k None = false
equals_some k (Some j) = equals j k

-- the id k is among those of the files; and at which place its file is: as many were begun before it
abbrev pub is_among : List ℕ → List (List ℕ) → Bool
is_among k [] = false
is_among k (j ∷ js) = equals j k || is_among k js

abbrev pub place_among : List ℕ → List (List ℕ) → ℕ
place_among k [] = 0
place_among k (j ∷ js) = cond (equals j k) (length js) (place_among k js)

-- "the sum of the lengths of the pieces written for it"
abbrev pub sum_in : List ℕ → List Mark → ℕ
sum_in k [] = 0
sum_in k (Mark.sent id ∷ m) = sum_in k m
sum_in k (Mark.filed id ∷ m) = sum_in k m
sum_in k (Mark.pieced b last ∷ m) = cond (equals_some k (pending_in m)) (length b) 0 + sum_in k m
sum_in k (Mark.finished ∷ m) = sum_in k m
sum_in k (Mark.read c ∷ m) = sum_in k m

-- ---- statuses of this session
abbrev pub is_word : Word → Word → Bool
is_word Word.Ok Word.Ok = true
is_word Word.Ok Word.Going = false
is_word Word.Ok Word.Other = false
is_word Word.Going Word.Ok = false
is_word Word.Going Word.Going = true
is_word Word.Going Word.Other = false
is_word Word.Other Word.Ok = false
is_word Word.Other Word.Going = false
is_word Word.Other Word.Other = true

-- a status of this session, read after send
abbrev pub is_reply : List Value → List Mark → Bool
is_reply c m = eqb (action_code c) 8 && equals_some (id_of c) (session_in m)

-- without fid, with such a word; and for a file written before
abbrev pub for_session : Word → List Value → List Mark → Bool
for_session x c m = is_reply c m && (eqb (length (file_id_of c)) 0 && is_word x (word_of (status_of c)))

abbrev pub for_file : Word → List Value → List Mark → Bool
for_file x c m =
    is_reply c m && (not (eqb (length (file_id_of c)) 0) && (is_among (file_id_of c) (files_in m) && is_word x (word_of (status_of c))))

-- of some read command, with what was before it
unfoldable pub some_read : (List Value → List Mark → Bool) → List Mark → Bool
some_read f [] = false
some_read f (Mark.sent id ∷ m) = some_read f m
some_read f (Mark.filed id ∷ m) = some_read f m
some_read f (Mark.pieced b last ∷ m) = some_read f m
some_read f (Mark.finished ∷ m) = some_read f m
some_read f (Mark.read c ∷ m) = f c m || some_read f m

-- "a read OK without fid after send"
abbrev pub allowed_in : List Mark → Bool
allowed_in m = some_read (for_session Word.Ok) m

-- a status that stops the session, and one that stops a file
abbrev pub stopped_in : List Mark → Bool
stopped_in m = some_read (for_session Word.Other) m

abbrev pub file_stopped_in : List ℕ → List Mark → Bool
file_stopped_in k m = some_read (λ c p. equals (file_id_of c) k && for_file Word.Other c p) m

-- "an OK that agrees after the last piece": its `sz` is the sum of the pieces that were written for the file until then
abbrev pub agrees_for : List ℕ → List Value → List Mark → Bool
agrees_for k c m =
    equals (file_id_of c) k && (for_file Word.Ok c m && (is_count (size_of c) (sum_in k m) && not (equals_some k (pending_in m))))

abbrev pub agreed_in : List ℕ → List Mark → Bool
agreed_in k m = some_read (agrees_for k) m

-- ---- what is ready
-- send, where none is written
abbrev pub is_unsent : Option (List ℕ) → Bool
is_unsent None = true
is_unsent (Some id) = false

-- "preceded by a read OK without fid after send, and no status read since send stops the session"; finish is the last that is written
abbrev pub open_in : List Mark → Bool
open_in m = allowed_in m && not (stopped_in m || finished_in m)

-- a file is being sent: its last piece is not written, and no status stops it
abbrev pub goes_on : Option (List ℕ) → List Mark → Bool
goes_on None m = false
goes_on (Some k) m = not (file_stopped_in k m)

abbrev pub sending_in : List Mark → Bool
sending_in m = goes_on (pending_in m) m

-- "one file at a time": a file and finish are ready where none is being sent, a piece where one is
abbrev pub idle_in : List Mark → Bool
idle_in m = open_in m && not (sending_in m)

abbrev pub busy_in : List Mark → Bool
busy_in m = open_in m && sending_in m

-- "a 33rd file or a repeated id"
abbrev pub taken_in : List ℕ → List Mark → Bool
taken_in id m = leb file_room (length (files_in m)) || is_among id (files_in m)

-- ---- what is told of a command that is read
-- the OK that is waited for lets the sender write on; "stops .. without fid the session, on any status but OK, STARTED, PROGRESS"
abbrev pub session_saying : List Mark → List Value → Word → Saying
session_saying m c Word.Ok = cond (allowed_in m || stopped_in m) Saying.noted Saying.allowed
session_saying m c Word.Going = Saying.noted
session_saying m c Word.Other = Saying.session_stopped (status_of c)

-- "reports a file's OK exactly when its `sz` differs from what it sent"; "stops a file"
abbrev pub file_saying : List Mark → List Value → Word → Saying
file_saying m c Word.Ok =
    let k = file_id_of c in
    cond (is_count (size_of c) (sum_in k m)) Saying.noted (Saying.differs (place_among k (files_in m)) (size_of c))
file_saying m c Word.Going = Saying.noted
file_saying m c Word.Other = Saying.file_stopped (place_among (file_id_of c) (files_in m)) (status_of c)

-- "Other actions .., other ids and unknown fids are `ignored`"
abbrev pub command_saying : List Mark → List Value → Saying
command_saying m c =
    let w = word_of (status_of c) in
    let file = cond (is_among (file_id_of c) (files_in m)) (file_saying m c w) Saying.ignored in
    cond (is_reply c m) (cond (eqb (length (file_id_of c)) 0) (session_saying m c w) file) Saying.ignored

-- "A text refused .. is told by its number"
abbrev pub meaning_saying : List Mark → Meaning → Saying
meaning_saying m (Meaning.command c) = command_saying m c
meaning_saying m (Meaning.refused n) = Saying.refused n

abbrev pub told_saying : List Mark → Told → Saying
told_saying m (Told.command t) = meaning_saying m (meaning_of t)
told_saying m (Told.drag_drop t) = Saying.ignored
told_saying m Told.too_long = Saying.refused 1
told_saying m Told.abandoned = Saying.refused 2
