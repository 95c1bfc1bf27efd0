-- What the table of the code holds: the value of each byte, in their order.
use Rattle.std.specs.Prelude.{ℕ, zero, suc, List, [], ◌∷◌}
use Rattle.base64_codec.specs.Alphabet.{value_of}

-- the values of n bytes, from byte c on
unfoldable pub values_from : ℕ → ℕ → List ℕ
values_from zero c = []
values_from (suc n) c = value_of c ∷ values_from n (suc c)

abbrev pub values : List ℕ
values = values_from 256 0
