-- What a report says, without the table: a command that was read, or something told alone; and what the table makes of it.
use Rattle.std.specs.Prelude.{ℕ, cond, List, Result, Ok, Err}
use Rattle.octets.specs.Outcome.{Outcome, outcome}
use Rattle.frames.specs.Stream.{is_drag_drop}
use Rattle.frames.specs.Calls.{refusal_number}
use Rattle.frames.specs.declared.Report.{Report}
use Rattle.command.specs.Slots.{no_command}
use Rattle.command.specs.Read.{Answer, read_of}
use Rattle.command.specs.declared.Command.{Command}
use Rattle.protocol.specs.Change.{telling}
use Rattle.protocol.specs.Sessions.{obey_of}
use Rattle.protocol.specs.Calls.{Acted, acted}
use Rattle.protocol.specs.declared.Table.{Table}
use Rattle.protocol.specs.declared.Told.{Told}

abbrev pub said_by : Answer → Result Command Told
said_by (Answer.read c) = Ok c
said_by (Answer.refused n) = Err (Told.Refused n)

-- a text that is read, with the scratch afterwards
abbrev pub read_said : Outcome Answer → Outcome (Result Command Told)
read_said o = outcome (said_by o.answer) o.buffer

-- a text that is reported: one of drag and drop is told and not read, a command text is read
abbrev pub text_said : List ℕ → List ℕ → Outcome (Result Command Told)
text_said text scratch = cond (is_drag_drop text) (outcome (Err Told.DragDrop) scratch) (read_said (read_of text scratch))

-- a report, given its text; a refusal of the frame is told
unfoldable pub said_of : Report → List ℕ → List ℕ → Outcome (Result Command Told)
said_of Report.Nothing text scratch = outcome (Err Told.Nothing) scratch
said_of (Report.InPiece start n) text scratch = text_said text scratch
said_of (Report.InCarry n) text scratch = text_said text scratch
said_of Report.TooLong text scratch = outcome (Err (Told.Refused (refusal_number Report.TooLong))) scratch
said_of Report.Abandoned text scratch = outcome (Err (Told.Refused (refusal_number Report.Abandoned))) scratch
said_of Report.ShortCarry text scratch = outcome (Err (Told.Refused (refusal_number Report.ShortCarry))) scratch

-- what the table makes of it: protocol's `report_act`; what is told of a command, the table tells
abbrev pub acts_on : Table → List ℕ → Result Command Told → List ℕ → Acted
acts_on t text (Ok c) scratch = acted (obey_of t c text scratch) c scratch
acts_on t text (Err w) scratch = acted (telling t w) no_command scratch

abbrev pub acted_on : Table → List ℕ → Outcome (Result Command Told) → Acted
acted_on t text o = acts_on t text o.answer o.buffer
