-- The calls without pieces, carry, scratch and buffers: moves on a session, where each report is the next thing that the bytes tell.
use mathlib.Core.Bool.{cond}
use Prim.Native.Nat.{ℕ}
use mathlib.Core.Path.{◌≡◌}
use mathlib.Core.List.{List, [], ◌∷◌, ◌++◌}
use lib.ListN.{length, replicate}
use Rattle.octets.specs.Outcome.{Outcome, outcome}
use Rattle.frames.specs.Stream as Stream
use Rattle.frames.specs.declared.Framing.TheVariants as Framing
use Rattle.command.specs.Read.{read_of}
use Rattle.command.specs.Framed.{frame_room}
use Rattle.protocol.proofs.CutsMoves as CutsMoves
use Rattle.protocol.proofs.CutsRun.{zeros, text_in}
use Rattle.sending.specs.Heeding.{heeded}
use Rattle.sending.specs.Calls.{send_of, file_of, piece_of, finish_of, read_heed}
use Rattle.sending.specs.Sayings.{Saying, saying}
use Rattle.sending.specs.Cuts.{Move, is_report_move, Output, output, answering}
use Rattle.sending.specs.declared.Transfer.{Transfer}
use Rattle.sending.specs.declared.Sender.{Sender}
use Rattle.sending.specs.declared.Wrote.{Wrote}
use Rattle.sending.specs.declared.News.TheVariants as News
use Rattle.sending.specs.declared.Heeded.{Heeded}

-- ---- moves on a session
-- what a move gives, the session after it, and what the bytes tell after it
abbrev pub Moved : Type 0
Moved = CutsMoves.Moved Output Transfer

abbrev pub moved : Output → Transfer → List Stream.Told → Moved
moved o t ds = record { output = o; state = t; rest = ds }

-- a thing told by the bytes, heeded with a scratch of zeros
abbrev pub heed_on : Transfer → Stream.Told → Outcome Heeded
heed_on t (Stream.Told.command text) = read_heed t text (read_of text zeros)
heed_on t (Stream.Told.drag_drop text) = outcome (heeded t News.Ignored) zeros
heed_on t Stream.Told.too_long = outcome (heeded t (News.Refused 1)) zeros
heed_on t Stream.Told.abandoned = outcome (heeded t (News.Refused 2)) zeros

abbrev pub reported : Transfer → Stream.Told → Output
reported t d = let a = heed_on t d in output Move.report (saying a.answer.news a.buffer) (text_in d)

-- a report is the next thing told; where nothing is, which no call meets, it gives nothing
abbrev pub move_report : Transfer → List Stream.Told → Moved
move_report t [] = moved (output Move.report Saying.nothing []) t []
move_report t (d ∷ ds) = moved (reported t d) (heed_on t d).answer.transfer ds

-- a call that writes, with a buffer of zeros and no framing
abbrev pub bare : Transfer → Sender
bare t = record { framing = Framing.Plain; transfer = t }

unfoldable pub room : List ℕ
room = replicate frame_room 0

abbrev pub move_by : Move → Outcome Wrote → List Stream.Told → Moved
move_by m o ds = moved (answering m o.answer o.buffer) o.answer.sender.transfer ds

abbrev pub move : Transfer → Move → List Stream.Told → Moved
move t Move.report ds = move_report t ds
move t (Move.send id) ds = move_by (Move.send id) (send_of (bare t) id room) ds
move t (Move.file id name size) ds = move_by (Move.file id name size) (file_of (bare t) id name size room) ds
move t (Move.piece contents last) ds = move_by (Move.piece contents last) (piece_of (bare t) contents last room) ds
move t Move.finish ds = move_by Move.finish (finish_of (bare t) room) ds

-- from a session to another by moves that give these outputs, and take what is told
abbrev pub Moves : Transfer → Transfer → List Output → List Stream.Told → Type 0
Moves = CutsMoves.Moves (λ (o : Output). o.move) is_report_move move

pub none : {t t' : Transfer} → t ≡ t' → Moves t t' [] []
none = CutsMoves.no-moves (λ (o : Output). o.move) is_report_move move

pub one : {t t' : Transfer} (o : Output) (ds : List Stream.Told) → length ds ≡ cond (is_report_move o.move) 1 0
    → ((rest : List Stream.Told) → move t o.move (ds ++ rest) ≡ moved o t' rest) → Moves t t' (o ∷ []) ds
one = CutsMoves.one-move (λ (o : Output). o.move) is_report_move move
