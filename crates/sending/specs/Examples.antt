-- Examples of a send, each a list of calls on a fresh sender, with what each gives and the session afterwards.
use Rattle.std.specs.Prelude.{ℕ, ◌≡◌, true, false, List, [], ◌∷◌, ◌++◌, map, take, replicate, Result as Attempt, Ok, Err}
use Prim.Native.String.{String}
use Rattle.octets.specs.Ascii.{ascii}
use Rattle.octets.specs.Outcome.{Outcome}
use Rattle.frames.specs.Stream.{text_limit, framed}
use Rattle.command.specs.Values.{count}
use Rattle.command.specs.Read.{scratch_room}
use Rattle.command.specs.Framed.{frame_room}
use Rattle.command.specs.declared.Place.{Place}
use Rattle.sending.specs.Transfers.{fresh_sender}
use Rattle.sending.specs.Calls.{send_of, file_of, piece_of, finish_of, hear_of}
use Rattle.sending.specs.declared.Stage.{Stage}
use Rattle.sending.specs.declared.FileStage.{FileStage}
use Rattle.sending.specs.declared.SentFile.{SentFile}
use Rattle.sending.specs.declared.Transfer.{Transfer}
use Rattle.sending.specs.declared.Sender.{Sender}
use Rattle.sending.specs.declared.Wrote.{Wrote}
use Rattle.sending.specs.declared.News.{News}

-- a call: send, file with its id, name and size, a piece, the last piece, finish, or one hear of a text in its frame
pub data Item : Type 0 where
  snd : List ℕ → Item
  file : (id name : List ℕ) → ℕ → Item
  part : List ℕ → Item
  last : List ℕ → Item
  fin : Item
  hear : List ℕ → Item

-- what it gives: the frame that was written, a refusal, or what is told
pub data Result : Type 0 where
  wrote : List ℕ → Result
  refused : ℕ → Result
  told : News → Result

-- ---- the calls, with buffers that have just the room
abbrev pub written : Outcome Wrote → Result × Sender
written o = (go o.answer.writing, o.answer.sender)
  where
    go : Attempt ℕ ℕ → Result
    go (Ok n) = Result.wrote (take n o.buffer)
    go (Err n) = Result.refused n

abbrev pub call : Sender → Item → Result × Sender
call s (Item.snd id) = written (send_of s id (replicate frame_room 0))
call s (Item.file id name size) = written (file_of s id name size (replicate frame_room 0))
call s (Item.part bytes) = written (piece_of s bytes false (replicate frame_room 0))
call s (Item.last bytes) = written (piece_of s bytes true (replicate frame_room 0))
call s Item.fin = written (finish_of s (replicate frame_room 0))
call s (Item.hear t) =
    let h = (hear_of s (framed t) (replicate text_limit 0) (replicate scratch_room 0)).listened in (Result.told h.news, h.sender)

abbrev pub calls : Sender → List Item → List Result × Sender
calls s [] = ([], s)
calls s (i ∷ is) = let r = call s i in let rest = calls r.1 is in (r.0 ∷ rest.0, rest.1)

-- ---- an example
pub record Example : Type 0 where
  pub items : List Item
  pub results : List Result
  pub stage : Stage
  pub files : List (FileStage × ℕ)

abbrev pub files_of : Transfer → List (FileStage × ℕ)
files_of t = map (λ (f : SentFile). (f.stage, f.sent)) (take t.count t.files)

abbrev pub Runs : Example → Type 0
Runs e =
    let c = calls fresh_sender e.items in
    (c.0 ≡ e.results) × (c.1.transfer.stage ≡ e.stage) × (files_of c.1.transfer ≡ e.files)

abbrev pub AllRun : List Example → Type 0
AllRun [] = Unit {0}
AllRun (e ∷ es) = Runs e × AllRun es

-- the frame of the text after `5113;`
abbrev pub wrote_text : String → Result
wrote_text s = Result.wrote (framed (ascii "5113;" ++ ascii s))

-- the first n bytes of the scratch
abbrev pub up_to : ℕ → Place
up_to n = record { start = 0; len = n }

-- ---- the examples
-- "It writes nothing after send until OK"; the `sz` as given; "end_data with the last piece"
abbrev pub in_order : Example
in_order =
    record {
      items =
          Item.snd (ascii "m") ∷ Item.fin ∷ Item.file (ascii "a") (ascii "/nz") 0
          ∷ Item.hear (ascii "5113;ac=status;id=m;st=T0s=") ∷ Item.file (ascii "a") (ascii "/nz") 3 ∷ Item.part (ascii "ab")
          ∷ Item.last (ascii "c") ∷ Item.fin ∷ [];
      results =
          wrote_text "ac=send;id=m" ∷ Result.refused 18 ∷ Result.refused 18 ∷ Result.told News.Allowed
          ∷ wrote_text "ac=file;id=m;fid=a;sz=3;n=L256" ∷ wrote_text "ac=data;id=m;fid=a;d=YWI="
          ∷ wrote_text "ac=end_data;id=m;fid=a;d=Yw==" ∷ wrote_text "ac=finish;id=m" ∷ [];
      stage = Stage.Finished;
      files = (FileStage.Sent, 3) ∷ [];
    }

-- "one file at a time"; an empty piece has no `d`; after finish nothing is ready
abbrev pub one_at_a_time : Example
one_at_a_time =
    record {
      items =
          Item.snd (ascii "m") ∷ Item.hear (ascii "5113;ac=status;id=m;st=T0s=") ∷ Item.file (ascii "a") (ascii "/nz") 0
          ∷ Item.file (ascii "b") (ascii "/nz") 0 ∷ Item.last [] ∷ Item.fin ∷ Item.file (ascii "b") (ascii "/nz") 0 ∷ [];
      results =
          wrote_text "ac=send;id=m" ∷ Result.told News.Allowed ∷ wrote_text "ac=file;id=m;fid=a;n=L256" ∷ Result.refused 18
          ∷ wrote_text "ac=end_data;id=m;fid=a" ∷ wrote_text "ac=finish;id=m" ∷ Result.refused 18 ∷ [];
      stage = Stage.Finished;
      files = (FileStage.Sent, 0) ∷ [];
    }

-- a status of another session, a text that is refused, and an echo
abbrev pub other_replies : Example
other_replies =
    record {
      items =
          Item.snd (ascii "m") ∷ Item.hear (ascii "5113;ac=status;id=k;st=T0s=")
          ∷ Item.hear (ascii "5113;ac=status;id=m;st=T0s") ∷ Item.hear (ascii "5113;ac=send;id=m")
          ∷ Item.file (ascii "a") (ascii "/nz") 0 ∷ [];
      results =
          wrote_text "ac=send;id=m" ∷ Result.told News.Ignored ∷ Result.told (News.Refused 65) ∷ Result.told News.Ignored
          ∷ Result.refused 18 ∷ [];
      stage = Stage.Waiting;
      files = [];
    }

-- only the session's OK allows; a second one is noted
abbrev pub only_ok : Example
only_ok =
    record {
      items =
          Item.snd (ascii "m") ∷ Item.hear (ascii "5113;ac=status;id=m;st=U1RBUlRFRA==")
          ∷ Item.hear (ascii "5113;ac=status;id=m;st=UFJPR1JFU1M=") ∷ Item.file (ascii "a") (ascii "/nz") 0
          ∷ Item.hear (ascii "5113;ac=status;id=m;st=T0s=") ∷ Item.hear (ascii "5113;ac=status;id=m;st=T0s=")
          ∷ Item.file (ascii "a") (ascii "/nz") 0 ∷ [];
      results =
          wrote_text "ac=send;id=m" ∷ Result.told News.Noted ∷ Result.told News.Noted ∷ Result.refused 18
          ∷ Result.told News.Allowed ∷ Result.told News.Noted ∷ wrote_text "ac=file;id=m;fid=a;n=L256" ∷ [];
      stage = Stage.Open;
      files = (FileStage.Sending, 0) ∷ [];
    }

-- "stops a file .. on any status but OK, STARTED, PROGRESS": its id is repeated, and the next file may follow
abbrev pub file_stopped : Example
file_stopped =
    record {
      items =
          Item.snd (ascii "m") ∷ Item.hear (ascii "5113;ac=status;id=m;st=T0s=") ∷ Item.file (ascii "a") (ascii "/nz") 0
          ∷ Item.part (ascii "abc") ∷ Item.hear (ascii "5113;ac=status;id=m;fid=a;st=RUlP") ∷ Item.part (ascii "x")
          ∷ Item.last (ascii "x") ∷ Item.file (ascii "a") (ascii "/nz") 0 ∷ Item.file (ascii "b") (ascii "/nz") 0
          ∷ Item.last (ascii "q") ∷ Item.fin ∷ [];
      results =
          wrote_text "ac=send;id=m" ∷ Result.told News.Allowed ∷ wrote_text "ac=file;id=m;fid=a;n=L256"
          ∷ wrote_text "ac=data;id=m;fid=a;d=YWJj" ∷ Result.told (News.FileStopped 0 (up_to 3)) ∷ Result.refused 18
          ∷ Result.refused 18 ∷ Result.refused 17 ∷ wrote_text "ac=file;id=m;fid=b;n=L256"
          ∷ wrote_text "ac=end_data;id=m;fid=b;d=cQ==" ∷ wrote_text "ac=finish;id=m" ∷ [];
      stage = Stage.Finished;
      files = (FileStage.Stopped, 3) ∷ (FileStage.Sent, 1) ∷ [];
    }

-- a status without `st` and without fid stops the session
abbrev pub no_status : Example
no_status =
    record {
      items =
          Item.snd (ascii "m") ∷ Item.hear (ascii "5113;ac=status;id=m") ∷ Item.file (ascii "a") (ascii "/nz") 0 ∷ [];
      results =
          wrote_text "ac=send;id=m" ∷ Result.told (News.SessionStopped (up_to 0)) ∷ Result.refused 18 ∷ [];
      stage = Stage.Stopped;
      files = [];
    }

-- the whole status is compared
abbrev pub whole_word : Example
whole_word =
    record {
      items =
          Item.snd (ascii "m") ∷ Item.hear (ascii "5113;ac=status;id=m;st=T0s6ZmluZQ==") ∷ Item.fin ∷ [];
      results =
          wrote_text "ac=send;id=m" ∷ Result.told (News.SessionStopped (up_to 7)) ∷ Result.refused 18 ∷ [];
      stage = Stage.Stopped;
      files = [];
    }

-- a failed commit stops the session
abbrev pub failed_commit : Example
failed_commit =
    record {
      items =
          Item.snd (ascii "m") ∷ Item.hear (ascii "5113;ac=status;id=m;st=T0s=") ∷ Item.fin
          ∷ Item.hear (ascii "5113;ac=status;id=m;st=RUlP") ∷ Item.fin ∷ [];
      results =
          wrote_text "ac=send;id=m" ∷ Result.told News.Allowed ∷ wrote_text "ac=finish;id=m"
          ∷ Result.told (News.SessionStopped (up_to 3)) ∷ Result.refused 18 ∷ [];
      stage = Stage.Stopped;
      files = [];
    }

-- "reports a file's OK exactly when its `sz` differs from what it sent"; one that agrees after the last piece closes the file
abbrev pub size_differs : Example
size_differs =
    record {
      items =
          Item.snd (ascii "m") ∷ Item.hear (ascii "5113;ac=status;id=m;st=T0s=") ∷ Item.file (ascii "a") (ascii "/nz") 0
          ∷ Item.last (ascii "abc") ∷ Item.hear (ascii "5113;ac=status;id=m;fid=a;sz=2;st=T0s=")
          ∷ Item.hear (ascii "5113;ac=status;id=m;fid=a;sz=-3;st=T0s=")
          ∷ Item.hear (ascii "5113;ac=status;id=m;fid=a;sz=3;st=T0s=") ∷ [];
      results =
          wrote_text "ac=send;id=m" ∷ Result.told News.Allowed ∷ wrote_text "ac=file;id=m;fid=a;n=L256"
          ∷ wrote_text "ac=end_data;id=m;fid=a;d=YWJj" ∷ Result.told (News.Differs 0 (count 2))
          ∷ Result.told (News.Differs 0 (record { negative = true; magnitude = 3 })) ∷ Result.told News.Noted ∷ [];
      stage = Stage.Open;
      files = (FileStage.Closed, 3) ∷ [];
    }

-- at any stage, and only an OK; absent means zero
abbrev pub any_stage : Example
any_stage =
    record {
      items =
          Item.snd (ascii "m") ∷ Item.hear (ascii "5113;ac=status;id=m;st=T0s=") ∷ Item.file (ascii "a") (ascii "/nz") 0
          ∷ Item.hear (ascii "5113;ac=status;id=m;fid=a;st=T0s=") ∷ Item.part (ascii "abc")
          ∷ Item.hear (ascii "5113;ac=status;id=m;fid=a;st=T0s=")
          ∷ Item.hear (ascii "5113;ac=status;id=m;fid=a;sz=99;st=UFJPR1JFU1M=") ∷ [];
      results =
          wrote_text "ac=send;id=m" ∷ Result.told News.Allowed ∷ wrote_text "ac=file;id=m;fid=a;n=L256" ∷ Result.told News.Noted
          ∷ wrote_text "ac=data;id=m;fid=a;d=YWJj" ∷ Result.told (News.Differs 0 (count 0)) ∷ Result.told News.Noted ∷ [];
      stage = Stage.Open;
      files = (FileStage.Sending, 3) ∷ [];
    }

-- the refusals of send
abbrev pub send_refused : Example
send_refused =
    record {
      items =
          Item.snd [] ∷ Item.snd (ascii "a;b") ∷ Item.snd (replicate 33 105) ∷ Item.snd (replicate 33 105 ++ ascii "!")
          ∷ Item.snd (ascii "m") ∷ Item.snd (ascii "m") ∷ [];
      results =
          Result.refused 7 ∷ Result.refused 62 ∷ Result.refused 8 ∷ Result.refused 62 ∷ wrote_text "ac=send;id=m"
          ∷ Result.refused 18 ∷ [];
      stage = Stage.Waiting;
      files = [];
    }

-- the refusals of file: 62 or 8 of its id, 64 of a size, 9 of a text over 8,192 bytes
abbrev pub file_refused : Example
file_refused =
    record {
      items =
          Item.snd (ascii "m") ∷ Item.hear (ascii "5113;ac=status;id=m;st=T0s=")
          ∷ Item.file (replicate 33 102) (ascii "/nz") 0 ∷ Item.file (ascii "a;b") (ascii "/nz") 0
          ∷ Item.file (replicate 40 102 ++ ascii "!") (ascii "/nz") 0
          ∷ Item.file (ascii "a") (ascii "/nz") 9223372036854775808 ∷ Item.file (ascii "a") (replicate 6124 47) 0 ∷ [];
      results =
          wrote_text "ac=send;id=m" ∷ Result.told News.Allowed ∷ Result.refused 8 ∷ Result.refused 62 ∷ Result.refused 62
          ∷ Result.refused 64 ∷ Result.refused 9 ∷ [];
      stage = Stage.Open;
      files = [];
    }

-- "a piece over 4,096 bytes .. 17" before 18
abbrev pub piece_refused : Example
piece_refused =
    record {
      items =
          Item.snd (ascii "m") ∷ Item.hear (ascii "5113;ac=status;id=m;st=T0s=") ∷ Item.part (replicate 4097 120)
          ∷ Item.file (ascii "a") (ascii "/nz") 0 ∷ Item.part (replicate 4097 120) ∷ Item.fin
          ∷ Item.file (ascii "b") (ascii "/nz") 0 ∷ Item.last [] ∷ [];
      results =
          wrote_text "ac=send;id=m" ∷ Result.told News.Allowed ∷ Result.refused 17 ∷ wrote_text "ac=file;id=m;fid=a;n=L256"
          ∷ Result.refused 17 ∷ Result.refused 18 ∷ Result.refused 18 ∷ wrote_text "ac=end_data;id=m;fid=a" ∷ [];
      stage = Stage.Open;
      files = (FileStage.Sent, 0) ∷ [];
    }

-- "a repeated id 17" before the writer's refusals
abbrev pub repeated : Example
repeated =
    record {
      items =
          Item.snd (ascii "m") ∷ Item.hear (ascii "5113;ac=status;id=m;st=T0s=") ∷ Item.file (ascii "a") (ascii "/nz") 0
          ∷ Item.last [] ∷ Item.file (ascii "a") (ascii "/x") 0 ∷ Item.file (ascii "a") (replicate 7000 47) 0
          ∷ Item.file (ascii "b") (replicate 7000 47) 0 ∷ [];
      results =
          wrote_text "ac=send;id=m" ∷ Result.told News.Allowed ∷ wrote_text "ac=file;id=m;fid=a;n=L256"
          ∷ wrote_text "ac=end_data;id=m;fid=a" ∷ Result.refused 17 ∷ Result.refused 17 ∷ Result.refused 9 ∷ [];
      stage = Stage.Open;
      files = (FileStage.Sent, 0) ∷ [];
    }

abbrev pub examples : List Example
examples =
    in_order
    ∷ one_at_a_time
    ∷ other_replies
    ∷ only_ok
    ∷ file_stopped
    ∷ no_status
    ∷ whole_word
    ∷ failed_commit
    ∷ size_differs
    ∷ any_stage
    ∷ send_refused
    ∷ file_refused
    ∷ piece_refused
    ∷ repeated
    ∷ []
