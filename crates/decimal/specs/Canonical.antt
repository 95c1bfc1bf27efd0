-- Canonical integers: "integers without leading zeros or `-0`".
use Rattle.std.specs.Prelude.{ℕ, ◌≤◌, List, ◌∷◌}
use Rattle.octets.specs.Ascii.{ascii}
use Rattle.decimal.specs.Limits.{minus}

-- a lone 0; or a first digit from 1 to 9; or `-` and such a digit
pub data Canonical : List ℕ → Type 0 where
  zero : Canonical (ascii "0")
  positive : {c : ℕ} {r : List ℕ} → 49 ≤ c → c ≤ 57 → Canonical (c ∷ r)
  negative : {c : ℕ} {r : List ℕ} → 49 ≤ c → c ≤ 57 → Canonical (minus ∷ c ∷ r)
