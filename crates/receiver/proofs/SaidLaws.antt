-- A report's act on the table is the table's answer to what the report says.
use Prim.Native.Nat.{ℕ}
use mathlib.Core.Path.{◌≡◌, refl}
use mathlib.Core.Bool.{Bool, true, false, cond}
use mathlib.Core.List.{List}
use Rattle.std.specs.Prelude.{Err}
use Rattle.octets.specs.Outcome.{outcome}
use Rattle.frames.specs.Stream.{is_drag_drop}
use Rattle.frames.specs.declared.Report.{Report}
use Rattle.command.specs.Read.{Answer, read_of}
use Rattle.protocol.specs.Calls.{unread, read_act, report_act}
use Rattle.protocol.specs.declared.Table.{Table}
use Rattle.protocol.specs.declared.Told.TheVariants as Told
use Rattle.receiver.specs.Said.{read_said, said_of, acted_on}

read-acts : (t : Table) (text scratch : List ℕ) (a : Answer)
    → acted_on t text (read_said (outcome a scratch)) ≡ read_act t text (outcome a scratch)
read-acts t text scratch (Answer.read c) = refl
read-acts t text scratch (Answer.refused n) = refl

-- a text of drag and drop is told alone, and leaves the table
text-acts : (t : Table) (text scratch : List ℕ) (d : Bool)
    → acted_on t text (cond d (outcome (Err Told.DragDrop) scratch) (read_said (read_of text scratch)))
    ≡ cond d (unread t Told.DragDrop scratch) (read_act t text (read_of text scratch))
text-acts t text scratch true = refl
text-acts t text scratch false = read-acts t text (read_of text scratch).buffer (read_of text scratch).answer

pub said-acts : (t : Table) (w : Report) (text scratch : List ℕ) → acted_on t text (said_of w text scratch) ≡ report_act t w text scratch
unfolding said_of
said-acts t Report.Nothing text scratch = refl
said-acts t (Report.InPiece start n) text scratch = text-acts t text scratch (is_drag_drop text)
said-acts t (Report.InCarry n) text scratch = text-acts t text scratch (is_drag_drop text)
said-acts t Report.TooLong text scratch = refl
said-acts t Report.Abandoned text scratch = refl
said-acts t Report.ShortCarry text scratch = refl
