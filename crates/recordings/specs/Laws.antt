-- The laws of mending, each of any mender, so that it can be refuted of a wrong one.
use Rattle.std.specs.Prelude.{ℕ, ◌+◌, ◌-◌, ◌*◌, ◌<◌, ◌≤◌, ◌≡◌, true, false, cond, List, [], ◌∷◌, ◌++◌, map, length, take, drop, eqb}
use Rattle.octets.specs.Slices.{lacks}
use Rattle.frames.specs.Stream.{Mode, Told, is_command, read_byte, stream, framed}
use Rattle.command.specs.Meaning.{Meaning, meaning_of}
use Rattle.recordings.specs.Pieces.{Piece, opened, bytes_of, kept_bytes, rows_from, dropped}

abbrev pub Mender : Type 0
Mender = List ℕ → List Piece

-- ---- "Kept frames and dropped stretches cover the input exactly once"
abbrev pub Covers : Mender → Type 0
Covers m = (xs : List ℕ) → bytes_of (m xs) ≡ xs

-- the recording with the listed stretches taken out, by start and length alone; xs is what is left of it from place `at` on
unfoldable pub without : ℕ → List ℕ → List ℕ → List ℕ
without at [] xs = xs
without at (start ∷ []) xs = xs
without at (start ∷ len ∷ []) xs = xs
without at (start ∷ len ∷ why ∷ rows) xs = take (start - at) xs ++ without (start + len) rows (drop ((start + len) - at) xs)

abbrev pub ListsTheRest : Mender → Type 0
ListsTheRest m = (xs : List ℕ) → without 0 (rows_from 0 (m xs)) xs ≡ kept_bytes (m xs)

-- ---- the same commands in the same order
abbrev pub only_read : Meaning → List Told → List Told → List Told
only_read (Meaning.command vs) one ts = one ++ ts
only_read (Meaning.refused n) one ts = ts

-- the reports of texts that read without refusal
unfoldable pub readable : List Told → List Told
readable [] = []
readable (Told.command t ∷ ts) = only_read (meaning_of t) (Told.command t ∷ []) (readable ts)
readable (Told.drag_drop t ∷ ts) = readable ts
readable (Told.too_long ∷ ts) = readable ts
readable (Told.abandoned ∷ ts) = readable ts

-- what is kept is read, by document 01's frames, as the commands that the recording has, and as nothing else
abbrev pub SameCommands : Mender → Type 0
SameCommands m =
    (xs : List ℕ) → stream Mode.outside (kept_bytes (m xs)) ≡ (readable (stream Mode.outside xs).0, Mode.outside)

-- "Mending a mended recording drops nothing"
abbrev pub DropsNothingTwice : Mender → Type 0
DropsNothingTwice m = (xs : List ℕ) → let ys = kept_bytes (m xs) in (rows_from 0 (m ys) ≡ []) × (kept_bytes (m ys) ≡ ys)

-- ---- what each piece is
abbrev pub text_in : List ℕ → List ℕ
text_in f = take (length f - 4) (drop 2 f)

-- a command text without 1B, whole with its opener and its closer
pub record Frame (f : List ℕ) : Type 0 where
  pub whole : f ≡ framed (text_in f)
  pub command : is_command (text_in f) ≡ true
  pub plain : lacks 0x1B (text_in f) ≡ true

abbrev pub Reads : Meaning → Type 0
Reads (Meaning.command vs) = Unit {0}
Reads (Meaning.refused n) = ⊥

-- the bytes begin with a 1B that abandons a text
abbrev pub Abandons : List ℕ → Type 0
Abandons [] = ⊥
Abandons (a ∷ []) = ⊥
Abandons (a ∷ b ∷ r) = (a ≡ 0x1B) × (eqb b 0x5C ≡ false)

-- a refused command: a whole frame whose text has that refusal; or, with 2, "from its opener up to, not with, the 1B that abandons it"
pub data IsRefused (n : ℕ) (bs after : List ℕ) : Type 0 where
  closed : Frame bs → meaning_of (text_in bs) ≡ Meaning.refused n → IsRefused n bs after
  abandoned : n ≡ 2 → bs ≡ opened (drop 2 bs) → is_command (drop 2 bs) ≡ true → lacks 0x1B (drop 2 bs) ≡ true → Abandons after
      → IsRefused n bs after

abbrev pub NoneOutside : List Piece → Type 0
NoneOutside [] = Unit {0}
NoneOutside (Piece.outside bs ∷ ps) = ⊥
NoneOutside (Piece.kept f ∷ ps) = Unit {0}
NoneOutside (Piece.refused n bs ∷ ps) = Unit {0}

-- no stretch is empty, after one outside a command stands no other of its kind, and 0, which a list has for those, is no refusal's number
abbrev pub Settled : List Piece → Type 0
Settled [] = Unit {0}
Settled (Piece.outside bs ∷ ps) = (0 < length bs) × NoneOutside ps × Settled ps
Settled (Piece.kept f ∷ ps) = Frame f × Reads (meaning_of (text_in f)) × Settled ps
Settled (Piece.refused n bs ∷ ps) = (0 < n) × IsRefused n bs (bytes_of ps) × Settled ps

abbrev pub Settles : Mender → Type 0
Settles m = (xs : List ℕ) → Settled (m xs)

-- ---- no command of the recording is listed as outside
-- what becomes of a command: 0 where it is kept, or its refusal's number
abbrev pub number_of : Meaning → ℕ
number_of (Meaning.command vs) = 0
number_of (Meaning.refused n) = n

abbrev pub verdict : Told → ℕ
verdict (Told.command t) = number_of (meaning_of t)
verdict (Told.drag_drop t) = 0  -- told of no command
verdict Told.too_long = 1
verdict Told.abandoned = 2

unfoldable pub verdicts : List Piece → List ℕ
verdicts [] = []
verdicts (Piece.outside bs ∷ ps) = verdicts ps
verdicts (Piece.kept f ∷ ps) = 0 ∷ verdicts ps
verdicts (Piece.refused n bs ∷ ps) = n ∷ verdicts ps

-- "order 9's tool counts them as outside": texts of drag and drop are told by frames, and are no commands. Of what a byte tells after the
-- mode, what it tells of a command
abbrev pub of_command : Mode → List Told → List Told
of_command Mode.outside ts = ts
of_command Mode.escape ts = ts
of_command (Mode.inside t) ts = ts
of_command (Mode.inside_escape t) ts = cond (is_command t) ts []

-- of what the bytes tell, what they tell of commands
unfoldable pub commands_told : Mode → List ℕ → List Told
commands_told m [] = []
commands_told m (b ∷ bs) = of_command m (read_byte m b).0 ++ commands_told (read_byte m b).1 bs

-- the kept and the refused pieces are, one for one and in order, what document 01's frames report of the recording's commands
abbrev pub Reports : Mender → Type 0
Reports m = (xs : List ℕ) → verdicts (m xs) ≡ map verdict (commands_told Mode.outside xs)

-- ---- three numbers a row, and few rows: 49,152 numbers are room for the list of any recording of 65,536 bytes
abbrev pub FewRows : Mender → Type 0
FewRows m = (xs : List ℕ) → (length (rows_from 0 (m xs)) ≡ 3 * dropped (m xs)) × (4 * dropped (m xs) ≤ length xs + 3)

-- ---- all of them
pub record MendLaws (m : Mender) : Type 0 where
  pub covers : Covers m
  pub lists_the_rest : ListsTheRest m
  pub same_commands : SameCommands m
  pub drops_nothing_twice : DropsNothingTwice m
  pub settles : Settles m
  pub reports : Reports m
  pub few_rows : FewRows m
