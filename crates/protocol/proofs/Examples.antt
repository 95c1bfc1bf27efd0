-- Lists of calls computed whole: the definitions and the claim are not about nothing.
use Prim.Native.Nat.{ℕ, zero, suc}
use mathlib.Core.Path.{◌≡◌, refl, sym, ◌∙◌}
use mathlib.Core.List.{List, [], ◌∷◌, ◌++◌}
use lib.ListN.{length, take, drop, replicate}
use Rattle.std.specs.Prelude.{Option, Some, None}
use Rattle.command.specs.Read.{scratch_room}
use Rattle.frames.specs.Stream.{text_limit, framed}
use Rattle.octets.specs.Ascii.{ascii}
use Rattle.octets.specs.Outcome.{Outcome}
use Rattle.frames.specs.Calls.{text_of}
use Rattle.protocol.specs.Table.{fresh_receiver}
use Rattle.protocol.specs.Replies.{reply_room, file_reply, reply_bytes}
use Rattle.protocol.specs.Files.{count_limit, opening}
use Rattle.protocol.specs.Sessions.{id_in, asked_session}
use Rattle.protocol.specs.Calls.{Feeding, feed_of, allow_of, done_of}
use Rattle.protocol.specs.History.{bytes_of, Mark, marks_of}
use Rattle.protocol.specs.Stretches.{Key, Stretch, since, parts, contents}
use Rattle.protocol.specs.Machine.{Call, World, start}
use Rattle.protocol.specs.Cuts.{Move, console_calls}
use Rattle.protocol.specs.declared.FileState.TheVariants as FileState
use Rattle.protocol.specs.declared.Status.TheVariants as Status
use Rattle.protocol.specs.declared.Told.{Told}
use Rattle.protocol.specs.declared.Answered.{Answered}
use Rattle.protocol.proofs.Done.{state_at, count_at}
use Rattle.protocol.proofs.Ours.{step, all_given, after, AllLent}
use Rattle.protocol.proofs.Cuts.{cuts-alike}
use Rattle.protocol.proofs.Starred.{computing}

-- ---- a console that "allows every session at once, answers done always, and writes only replies"
abbrev scratch₀ : List ℕ
scratch₀ = replicate scratch_room 0

abbrev reply₀ : List ℕ
reply₀ = replicate reply_room 0

-- the world, all that was written, and what is left of the piece
record Replay : Type 0 where
  world : World
  written : List ℕ
  rest : List ℕ

abbrev replay : World → List ℕ → List ℕ → Replay
replay w bs p = record { world = w; written = bs; rest = p }

-- a call made, and its reply written
abbrev called : Replay → Call → Outcome Answered → Replay
called r c a = replay (step r.world c) (r.written ++ take a.answer.reply_len a.buffer) r.rest

-- what is told is answered, given the id of the command
abbrev answer : Replay → Told → List ℕ → Replay
answer r Told.Nothing id = r
answer r (Told.Refused n) id = r
answer r Told.Ignored id = r
answer r Told.Naming id = r
answer r Told.Path id = r
answer r Told.LastPath id = called r (Call.allow id reply₀) (allow_of r.world.receiver id reply₀)
answer r Told.DragDrop id = r
answer r Told.Asked id = called r (Call.allow id reply₀) (allow_of r.world.receiver id reply₀)
answer r (Told.Ask a) id = called r (Call.done reply₀) (done_of r.world.receiver reply₀)
answer r (Told.Status w) id = r
answer r Told.Withdrawn id = r
answer r Told.Discarded id = r
answer r Told.Committed id = r

-- a feed of what is left
abbrev feed : Replay → Feeding
feed r = feed_of r.world.receiver r.rest r.world.carry scratch₀ reply₀

abbrev fed : Replay → Replay
fed r =
    let w = r.world in
    let f = feed r in
    replay (step w (Call.feed r.rest w.carry scratch₀ reply₀)) (r.written ++ take f.fed.reply_len f.reply)
    (drop f.fed.consumed r.rest)

-- and the answer to what it tells
abbrev next : Replay → Replay
next r =
    let f = feed r in
    answer (fed r) f.fed.told (id_in f.fed.command (text_of r.rest f.carry f.fed.report))

abbrev times : ℕ → Replay → Replay
times zero r = r
times (suc n) r = times n (next r)

-- n feeds of a piece
abbrev play : ℕ → List ℕ → Replay → Replay
play n p r = times n (replay r.world r.written p)

abbrev begin : Replay
begin = replay (start (replicate text_limit 0)) [] []

-- ---- document 01's example
abbrev input : List ℕ
input =
    framed (ascii "5113;ac=send;id=m") ++ framed (ascii "5113;ac=file;id=m;fid=a;n=L256") ++ framed (ascii "5113;ac=data;id=m;fid=a;d=YWJj")
    ++ framed (ascii "5113;ac=end_data;id=m;fid=a") ++ framed (ascii "5113;ac=finish;id=m")

abbrev output : List ℕ
output =
    framed (ascii "5113;ac=status;id=m;st=T0s=") ++ framed (ascii "5113;ac=status;id=m;fid=a;st=U1RBUlRFRA==")
    ++ framed (ascii "5113;ac=status;id=m;fid=a;sz=3;st=UFJPR1JFU1M=") ++ framed (ascii "5113;ac=status;id=m;fid=a;sz=3;st=T0s=")

-- the same in two pieces, cut in the closer of the data command: 1B | 5C
abbrev first_piece : List ℕ
first_piece =
    framed (ascii "5113;ac=send;id=m") ++ framed (ascii "5113;ac=file;id=m;fid=a;n=L256")
    ++ 0x1B ∷ 0x5D ∷ ascii "5113;ac=data;id=m;fid=a;d=YWJj" ++ 0x1B ∷ []

abbrev second-piece : List ℕ
second-piece = 0x5C ∷ framed (ascii "5113;ac=end_data;id=m;fid=a") ++ framed (ascii "5113;ac=finish;id=m")

abbrev between : Replay
between = play 3 first_piece begin

-- the same ids once more, with a file of one byte
abbrev again : List ℕ
again =
    framed (ascii "5113;ac=send;id=m") ++ framed (ascii "5113;ac=file;id=m;fid=a;n=L256")
    ++ framed (ascii "5113;ac=end_data;id=m;fid=a;d=QQ==")

-- two ways to bring its first command and to allow the session: in one piece, and in two with other bytes in the buffers
abbrev one_piece : List Call
one_piece = Call.feed input (replicate text_limit 0) scratch₀ reply₀ ∷ Call.allow (ascii "m") reply₀ ∷ []

abbrev ones : List ℕ
ones = replicate text_limit 1

abbrev two-pieces : List Call
two-pieces =
    Call.feed (take 10 input) ones ones ones
    ∷ Call.feed (drop 10 input) (feed_of fresh_receiver (take 10 input) ones ones ones).carry ones ones
    ∷ Call.allow (ascii "m") ones
    ∷ []

abbrev marks_since : Key → World → List Mark
marks_since k w = go (since k (marks_of w.history))
  where
    go : Option Stretch → List Mark
    go None = []
    go (Some s) = s.marks

abbrev key : Key
key = record { id = ascii "m"; file = ascii "a" }

-- a file whose last part is asked for closes with these contents
record Closing (w w' : World) (bytes : List ℕ) : Type 0 where
  before : state_at w.receiver.table 0 0 ≡ FileState.Started
  after : state_at w'.receiver.table 0 0 ≡ FileState.Done
  counted : count_at w'.receiver.table 0 0 ≡ length bytes
  handed : parts key (marks_since key w') ≡ bytes
  contained : contents key (marks_since key w') ≡ bytes

record Computed : Type 0 where
  -- document 01: "gives exactly"; and its file closes with count 3
  whole : (play 5 input begin).written ≡ output
  whole-closes : Closing (fed (play 3 input begin)).world (play 4 input begin).world (ascii "abc")
  -- cut in a closer it gives the same; the text then stands in the carry
  cut : (play 3 second-piece between).written ≡ output
  cut-carry : take 30 between.world.carry ≡ ascii "5113;ac=data;id=m;fid=a;d=YWJj"
  cut-closes : Closing (fed (play 1 second-piece between)).world (play 2 second-piece between).world (ascii "abc")
  -- the ids used again: the second file starts from zero, and closes with its own contents
  again-starts : count_at (play 2 again (play 5 input begin)).world.receiver.table 0 0 ≡ 0
  again-closes : Closing (fed (play 2 again (play 5 input begin))).world (play 3 again (play 5 input begin)).world (ascii "A")
  -- the premises of the cut theorem hold of the two ways: both consume the first command, and allow the session after one report
  one_lent : AllLent (start (replicate text_limit 0)) one_piece
  two_lent : AllLent (start ones) two-pieces
  one-bytes : bytes_of (after (start (replicate text_limit 0)) one_piece).history ≡ framed (ascii "5113;ac=send;id=m")
  two_bytes : bytes_of (after (start ones) two-pieces).history ≡ framed (ascii "5113;ac=send;id=m")
  one-calls : console_calls 0 (all_given (start (replicate text_limit 0)) one_piece) ≡ (1, Move.allow (ascii "m")) ∷ []
  two-calls : console_calls 0 (all_given (start ones) two-pieces) ≡ (1, Move.allow (ascii "m")) ∷ []
  -- "No reply is longer than 124 bytes": one has as many
  longest : let r = Some (file_reply Status.Progress (asked_session 0 (replicate 32 105)) (opening (replicate 32 102) 0) count_limit) in
      length (reply_bytes r) ≡ reply_room

computed : Computed
unfolding computing
computed = record {
  whole = refl;
  whole-closes = record { before = refl; after = refl; counted = refl; handed = refl; contained = refl };
  cut = refl;
  cut-carry = refl;
  cut-closes = record { before = refl; after = refl; counted = refl; handed = refl; contained = refl };
  again-starts = refl;
  again-closes = record { before = refl; after = refl; counted = refl; handed = refl; contained = refl };
  one_lent = ((λ _. refl), (tt, tt));
  two_lent = ((λ _. refl), ((λ _. refl), (tt, tt)));
  one-bytes = refl;
  two_bytes = refl;
  one-calls = refl;
  two-calls = refl;
  longest = refl;
}

alike : all_given (start (replicate text_limit 0)) one_piece ≡ all_given (start ones) two-pieces
alike =
    (cuts-alike (replicate text_limit 0) ones one_piece two-pieces computed.one_lent computed.two_lent
    (computed.one-bytes ∙ sym computed.two_bytes) (computed.one-calls ∙ sym computed.two-calls)).0
