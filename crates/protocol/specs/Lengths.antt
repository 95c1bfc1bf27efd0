-- The length that a size declares, for the rule of a file and for the history.
use Rattle.std.specs.Prelude.{ℕ, cond}
use Rattle.decimal.specs.declared.Number.{Number}

-- "a positive one .., zero or none nothing"
abbrev pub length_by : Number → ℕ
length_by n = cond n.negative 0 n.magnitude
