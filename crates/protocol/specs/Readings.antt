-- The commands read in what bytes tell, as marks of a history: of a receiver's calls or of a sender's. Newest first.
use Rattle.std.specs.Prelude.{List, [], ◌∷◌}
use Rattle.frames.specs.Stream.{Told}
use Rattle.command.specs.Values.{Value}
use Rattle.command.specs.Meaning.{Meaning, meaning_of}

-- "its text .. reads without refusal": a command that was read is marked by f
abbrev pub read_mark : {M : Type 0} → (List Value → M) → Meaning → List M → List M
read_mark f (Meaning.command c) m = f c ∷ m
read_mark f (Meaning.refused n) m = m

abbrev pub told_mark : {M : Type 0} → (List Value → M) → Told → List M → List M
told_mark f (Told.command t) m = read_mark f (meaning_of t) m
told_mark f (Told.drag_drop t) m = m
told_mark f Told.too_long m = m
told_mark f Told.abandoned m = m

abbrev pub told_marks : {M : Type 0} → (List Value → M) → List Told → List M → List M
told_marks f [] m = m
told_marks f (d ∷ ds) m = told_marks f ds (told_mark f d m)
