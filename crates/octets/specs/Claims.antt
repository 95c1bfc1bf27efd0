-- What `split` and `join` are to each other.
use Rattle.std.specs.Prelude.{ℕ, ◌≡◌, true, List, ◌∷◌}
use Rattle.octets.specs.Members.{every}
use Rattle.octets.specs.Slices.{lacks}
use Rattle.octets.specs.Split.{split, join}

-- the parts are what stands "between" places of b, as document 01 says of slashes: joined they are the bytes again, and one or more
-- strings without b are the parts of what they make
abbrev pub Divides : Type 0
Divides =
    (b : ℕ)
    → ((t : List ℕ) → join b (split b t) ≡ t)
    × ((p : List ℕ) (ps : List (List ℕ)) → every (lacks b) (p ∷ ps) ≡ true → split b (join b (p ∷ ps)) ≡ p ∷ ps)
