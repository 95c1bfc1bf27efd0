-- The calls without pieces, carry, scratch and reply buffer: moves on a table, where each report is the next thing that the bytes tell.
use mathlib.Core.Bool.{cond}
use Prim.Native.Nat.{ℕ}
use mathlib.Core.Path.{◌≡◌}
use mathlib.Core.List.{List, [], ◌∷◌, ◌++◌}
use lib.ListN.{length, take, replicate}
use Rattle.octets.specs.Outcome.{Outcome}
use Rattle.frames.specs.Stream as Stream
use Rattle.frames.specs.declared.Framing.TheVariants as Framing
use Rattle.command.specs.Slots.{values_of}
use Rattle.command.specs.Read.{scratch_room, read_of}
use Rattle.command.specs.Framed.{frame_room}
use Rattle.protocol.specs.Replies.{reply_bytes}
use Rattle.protocol.specs.Sessions.{settle_done, settle_failed, settle_unlisted, decided_of}
use Rattle.protocol.specs.Calls.{Acted, unread, read_act}
use Rattle.protocol.specs.Supplies.{Supply, supply_of}
use Rattle.protocol.specs.Cuts.{Saying, saying, Move, is_report_move, Output, reporting, answering}
use Rattle.protocol.specs.declared.Decision.TheVariants as Decision
use Rattle.protocol.specs.declared.Table.{Table}
use Rattle.protocol.specs.declared.Told.TheVariants as Told
use Rattle.protocol.specs.declared.Stepped.{Stepped}
use Rattle.protocol.specs.declared.Answered.{Answered}
use Rattle.protocol.proofs.CutsMoves as CutsMoves

-- ---- moves on a table
-- what a move gives, the table after it, and what the bytes tell after it
abbrev pub Moved : Type 0
Moved = CutsMoves.Moved Output Table

abbrev pub moved : Output → Table → List Stream.Told → Moved
moved o t ds = record { output = o; state = t; rest = ds }

-- a thing told by the bytes, acted on with a scratch of zeros
abbrev pub zeros : List ℕ
zeros = replicate scratch_room 0

abbrev pub text_in : Stream.Told → List ℕ
text_in (Stream.Told.command text) = text
text_in (Stream.Told.drag_drop text) = text
text_in Stream.Told.too_long = []
text_in Stream.Told.abandoned = []

abbrev pub act_on : Table → Stream.Told → Acted
act_on t (Stream.Told.command text) = read_act t text (read_of text zeros)
act_on t (Stream.Told.drag_drop text) = unread t Told.DragDrop zeros
act_on t Stream.Told.too_long = unread t (Told.Refused 1) zeros
act_on t Stream.Told.abandoned = unread t (Told.Refused 2) zeros

abbrev pub reported : Table → Stream.Told → Output
reported t d =
    let a = act_on t d in
    reporting (text_in d) (values_of a.command (text_in d) a.scratch) (saying a.step.told a.scratch) (reply_bytes a.step.reply)

-- a report is the next thing told; where nothing is, which no call meets, it gives nothing
abbrev pub move_report : Table → List Stream.Told → Moved
move_report t [] = moved (reporting [] [] Saying.nothing []) t []
move_report t (d ∷ ds) = moved (reported t d) (act_on t d).step.table ds

-- a console call
abbrev pub move_by : Move → Stepped → List Stream.Told → Moved
move_by m s ds = moved (answering m s.told (reply_bytes s.reply)) s.table ds

-- one that supplies something, with a buffer of zeros
abbrev pub frame_zeros : List ℕ
frame_zeros = replicate frame_room 0

abbrev pub supplied_on : Table → Supply → Outcome Answered
supplied_on t u = supply_of (record { framing = Framing.Plain; table = t }) u frame_zeros

abbrev pub move_supply : Table → Supply → List Stream.Told → Moved
move_supply t u ds =
    let o = supplied_on t u in
    moved (answering (Move.supply u) o.answer.told (take o.answer.reply_len o.buffer)) o.answer.receiver.table ds

abbrev pub move : Table → Move → List Stream.Told → Moved
move t Move.report ds = move_report t ds
move t (Move.allow id) ds = move_by (Move.allow id) (decided_of t Decision.Allow id) ds
move t (Move.deny id) ds = move_by (Move.deny id) (decided_of t Decision.Deny id) ds
move t (Move.drop id) ds = move_by (Move.drop id) (decided_of t Decision.Drop id) ds
move t Move.done ds = move_by Move.done (settle_done t) ds
move t (Move.failed code) ds = move_by (Move.failed code) (settle_failed t code) ds
move t Move.unlisted ds = move_by Move.unlisted (settle_unlisted t) ds
move t (Move.supply u) ds = move_supply t u ds

-- from a table to another by moves that give these outputs, and take what is told
abbrev pub Moves : Table → Table → List Output → List Stream.Told → Type 0
Moves = CutsMoves.Moves (λ (o : Output). o.move) is_report_move move

pub none : {t t' : Table} → t ≡ t' → Moves t t' [] []
none = CutsMoves.no-moves (λ (o : Output). o.move) is_report_move move

pub one : {t t' : Table} (o : Output) (ds : List Stream.Told) → length ds ≡ cond (is_report_move o.move) 1 0
    → ((rest : List Stream.Told) → move t o.move (ds ++ rest) ≡ moved o t' rest) → Moves t t' (o ∷ []) ds
one = CutsMoves.one-move (λ (o : Output). o.move) is_report_move move
