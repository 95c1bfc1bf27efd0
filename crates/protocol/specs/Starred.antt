-- The starred cases of document 01's "Both sides of the line", as one list.
use Rattle.std.specs.Prelude.{ℕ, ◌+◌, ◌≡◌, List, [], ◌∷◌, ◌++◌, length, get_or, replicate, Ok, Some}
use Rattle.octets.specs.Ascii.{ascii}
use Rattle.octets.specs.Outcome.{outcome}
use Rattle.base64_codec.specs.Decode.{decode_of}
use Rattle.command.specs.Keys.{keys, number_of}
use Rattle.command.specs.Values.{Value, Got}
use Rattle.command.specs.Meaning.{Meaning, meaning_of}
use Rattle.command.specs.Read.{scratch_room, read_of}
use Rattle.protocol.specs.Table.{empty_table, session_at, file_at, kept_id, with_state, put_file, put_session}
use Rattle.protocol.specs.Replies.{status_word, status_text}
use Rattle.protocol.specs.Sessions.{asked_session, settle_done}
use Rattle.protocol.specs.Calls.{read_act}
use Rattle.protocol.specs.declared.FileState.TheVariants as FileState
use Rattle.protocol.specs.declared.SessionState.TheVariants as SessionState
use Rattle.protocol.specs.declared.Due.TheVariants as Due
use Rattle.protocol.specs.declared.Table.{Table}
use Rattle.protocol.specs.declared.Status.{Status}

pub data Case : Type 0 where
  decodes : (text bytes : List ℕ) → Case  -- the Base64 text is these bytes
  reads : (text key : List ℕ) (result : Got) → Case  -- reading the text gives that value of that key, or that refusal
  adds : (text : List ℕ) (n : ℕ) → Case  -- the command of the text asks a write, which, answered done, adds n to the count of its file
  shows : (w : Status) (text : List ℕ) → Case  -- the status is sent as that `st`

-- the value of the key with a number
abbrev pub value_of : ℕ → Meaning → Got
value_of n (Meaning.command c) = Got.got (get_or c n Value.outside)
value_of n (Meaning.refused r) = Got.refused r

-- an open session `m` with a file `a` that is started and has the count 3
abbrev pub halfway : Table
halfway =
    put_session empty_table 0
    (put_file (with_state (asked_session 0 (ascii "m")) SessionState.Open) 0
    (record { state = FileState.Started; id = kept_id (ascii "a"); count = 3; declared = 0 }))

abbrev pub obeyed : List ℕ → Table
obeyed text = (read_act halfway text (read_of text (replicate scratch_room 0))).step.table

abbrev pub count_after : Table → ℕ
count_after t = (file_at (session_at (settle_done t).table 0) 0).count

abbrev pub Holds : Case → Type 0
Holds (Case.decodes text bytes) = decode_of text (replicate (length bytes) 0) 0 ≡ outcome (Ok (length bytes)) bytes
Holds (Case.reads text key result) = value_of (number_of keys key) (meaning_of text) ≡ result
Holds (Case.adds text n) = ((obeyed text).owed ≡ Some (0, Due.Write 0 n)) × (count_after (obeyed text) ≡ 3 + n)
Holds (Case.shows w text) = status_text (ascii "m") [] 0 (status_word w) ≡ ascii "5113;ac=status;id=m;st=" ++ text

abbrev pub AllHold : List Case → Type 0
AllHold [] = Unit {0}
AllHold (c ∷ cs) = Holds c × AllHold cs

-- a data command with that d, and a send command with that id
abbrev pub with_data : List ℕ → List ℕ
with_data d = ascii "5113;ac=data;id=m;fid=a;d=" ++ d

abbrev pub with_id : List ℕ → List ℕ
with_id id = ascii "5113;ac=send;id=" ++ id

abbrev pub starred : List Case
starred =
    -- "`AQID` is 01 02 03", by itself and as data
    Case.decodes (ascii "AQID") (1 ∷ 2 ∷ 3 ∷ [])
    ∷ Case.reads (with_data (ascii "AQID")) (ascii "d") (Got.got (Value.bytes (1 ∷ 2 ∷ 3 ∷ [])))
    -- "`c29tZWZpbGU=` is `somefile`"
    ∷ Case.decodes (ascii "c29tZWZpbGU=") (ascii "somefile")
    ∷ Case.reads (with_data (ascii "c29tZWZpbGU=")) (ascii "d") (Got.got (Value.bytes (ascii "somefile")))
    -- "`AQ` and `AR==` give 6", since document 02 65 and 67
    ∷ Case.reads (with_data (ascii "AQ")) (ascii "d") (Got.refused 65)
    ∷ Case.reads (with_data (ascii "AR==")) (ascii "d") (Got.refused 67)
    -- "id 32 bytes read, 33 gives 8"
    ∷ Case.reads (with_id (replicate 32 105)) (ascii "id") (Got.got (Value.bytes (replicate 32 105)))
    ∷ Case.reads (with_id (replicate 33 105)) (ascii "id") (Got.refused 8)
    -- "`id=;ac=send` gives 7"
    ∷ Case.reads (ascii "5113;id=;ac=send") (ascii "id") (Got.refused 7)
    -- "empty data adds 0", with an empty d and without one
    ∷ Case.adds (with_data []) 0
    ∷ Case.adds (ascii "5113;ac=data;id=m;fid=a") 0
    -- "status CANCELED is `Q0FOQ0VMRUQ=`"
    ∷ Case.shows Status.Canceled (ascii "Q0FOQ0VMRUQ=")
    -- "`q=3` gives 6", since document 02 64
    ∷ Case.reads (ascii "5113;ac=send;id=m;q=3") (ascii "q") (Got.refused 64)
    ∷ []
