-- "opener, canonical text with `ac=status`, the id, the fid .., `sz` as above, `st`, then closer": the parts of a reply.
use Rattle.std.specs.Prelude.{ℕ, List, [], ◌∷◌, ◌++◌, length}
use Rattle.octets.specs.Ascii.{ascii}
use Rattle.octets.specs.Outcome.{Outcome, stored_at}

-- a field's key; none where its value is empty
abbrev pub key_for : List ℕ → List ℕ → List ℕ
key_for key [] = []
key_for key (x ∷ v) = key

-- the parts, by the texts of id, file id, size and status word
abbrev pub parts_of : List ℕ → List ℕ → List ℕ → List ℕ → List (List ℕ)
parts_of id file size word =
    (0x1B ∷ ascii "]5113;ac=status")
    ∷ key_for (ascii ";id=") id ∷ id
    ∷ key_for (ascii ";fid=") file ∷ file
    ∷ key_for (ascii ";sz=") size ∷ size
    ∷ ascii ";st=" ∷ word
    ∷ (0x1B ∷ ascii "\\") ∷ []

-- one after another
unfoldable pub joined : List (List ℕ) → List ℕ
joined [] = []
joined (p ∷ ps) = p ++ joined ps

-- bytes stored at a buffer's start, where they fit, and their length
abbrev pub written : List ℕ → List ℕ → Outcome ℕ
written bs buf = stored_at (length bs) 0 bs buf 0
