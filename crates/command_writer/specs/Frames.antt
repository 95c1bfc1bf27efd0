-- A frame around a text that stands in its buffer already.
use Rattle.std.specs.Prelude.{ℕ, ◌+◌, List, set}

-- opener and closer around n bytes from place 2 on
abbrev pub enclosed : List ℕ → ℕ → List ℕ
enclosed out n = set (set (set (set out 0 0x1B) 1 0x5D) (n + 2) 0x1B) (n + 3) 0x5C
