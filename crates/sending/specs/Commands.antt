-- The commands that a sender writes, by their values: "send (quiet 0), file, data, end_data with the last piece and finish". Nothing
-- else is written: what absent means stands for every other key. The values of a piece are protocol's, as both sides write pieces.
use Rattle.std.specs.Prelude.{ℕ, List, []}
use Rattle.command.specs.Values.{Value}
use Rattle.command.specs.declared.Action.TheVariants as Action
use Rattle.protocol.specs.Written.{values_with}

abbrev pub send_values : List ℕ → List Value
send_values id = values_with Action.Send id [] 0 [] [] []

-- "Our sender's file command will carry the `sz` it is given"
abbrev pub file_values : (id file name : List ℕ) → ℕ → List Value
file_values id file name size = values_with Action.File id file size name [] []

abbrev pub finish_values : List ℕ → List Value
finish_values id = values_with Action.Finish id [] 0 [] [] []
