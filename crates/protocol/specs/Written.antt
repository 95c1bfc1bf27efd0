-- The commands that either side writes, by their values. What absent means stands for every key that is not named.
use Rattle.std.specs.Prelude.{ℕ, Bool, cond, List, [], ◌∷◌}
use Rattle.command.specs.Values.{Value, count}
use Rattle.command.specs.Slots.{action_code}
use Rattle.command.specs.declared.Action.{Action}

abbrev pub values_with : Action → (id file : List ℕ) (size : ℕ) (name status contents : List ℕ) → List Value
values_with a id file size name status contents =
    Value.number (count (action_code a)) ∷ Value.number (count 0) ∷ Value.number (count 0) ∷ Value.number (count 0)
    ∷ Value.bytes id ∷ Value.bytes file ∷ Value.bytes [] ∷ Value.number (count 0)
    ∷ Value.number (count 0) ∷ Value.number (count 0) ∷ Value.number (count size)
    ∷ Value.bytes name ∷ Value.bytes status ∷ Value.bytes [] ∷ Value.bytes contents ∷ []

-- a part of a file: data, and end_data for the last one
abbrev pub piece_action : Bool → Action
piece_action last = cond last Action.EndData Action.Data

abbrev pub piece_values : (id file contents : List ℕ) → Bool → List Value
piece_values id file contents last = values_with (piece_action last) id file 0 [] [] contents
