-- What cutting a name at slashes is to its characters.
use Rattle.std.specs.Prelude.{ℕ, ◌<◌, ◌≡◌, true, List, ◌∷◌, ◌++◌}
use Rattle.pathname.specs.Utf8.{utf8}

-- a byte below 80 stands alone: what stands before it in UTF-8, and what stands after it, is UTF-8
abbrev pub CutsCharactersNowhere : Type 0
CutsCharactersNowhere =
    (a : List ℕ) (b : ℕ) (c : List ℕ) → b < 0x80 → utf8 (a ++ (b ∷ c)) ≡ true → (utf8 a ≡ true) × (utf8 c ≡ true)
