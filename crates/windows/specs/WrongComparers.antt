-- Wrong comparers, starters and answerers, most made by changing ours, each with one error. A law that held of one of them
-- would be worth nothing; `CompareTeeth` says that the laws, or the examples, are false of them.
use Rattle.std.specs.Prelude.{ℕ, ◌*◌, Bool, true, cond, ◌&&◌, ◌||◌, List, [], ◌∷◌, ◌++◌, map, reverse, length, take, drop, ltb, leb, eqb}
use Rattle.std.specs.Prelude.{Option, Some, None}
use Rattle.std.proofs.lemmas.List.Edits.{sets}
use Rattle.octets.specs.Outcome.{outcome}
use Rattle.octets.specs.Slices.{equals}
use Rattle.protocol.specs.Stretches.{Key}
use Rattle.recordings.specs.Mend.{recording_limit}
use Rattle.hearing.specs.Hearing.{Happening, heard_in}
use Rattle.windows.specs.Compare.{same_key, Start, starts_of, Verdict, later, first_diff, partner, against, Line, only_seconds, compared}
use Rattle.windows.specs.Compare.{lines_of, listed}
use Rattle.std.specs.Prelude.{Ok, Err}
use Rattle.recordings.specs.declared.Refusal.TheVariants as Refusal
use Rattle.windows.specs.Laws.{Comparer, SameAlone, MatchedInOrder, Mirrored, ListsOnce, Differ, FirstOffset}
use Rattle.windows.specs.Laws.{Starter, EachStart, SettledContents, ClaimedContents}
use Rattle.windows.specs.Examples.{ExamplesOf, Answerer, RoomsOf}

-- ---- matching
-- a partner is not taken: a pair's second start in the first meets its first in the second again
abbrev pub untaken : Comparer
untaken xs ys = map meets xs ++ drop (length xs) (compared xs ys)
  where
    meets : Start → Line
    meets x = record { verdict = against x (partner x.key ys); start = x }

-- a pair's last start in the second is taken first
abbrev pub backwards : Comparer
backwards xs ys = compared xs (reverse ys)

-- by another test of pairs
abbrev pub partner_by : (Key → Key → Bool) → Key → List Start → Option Start
partner_by alike k [] = None
partner_by alike k (b ∷ bs) = cond (alike k b.key) (Some b) (partner_by alike k bs)

abbrev pub without_by : (Key → Key → Bool) → Key → List Start → List Start
without_by alike k [] = []
without_by alike k (b ∷ bs) = cond (alike k b.key) bs (b ∷ without_by alike k bs)

abbrev pub compared_by : (Key → Key → Bool) → Comparer
compared_by alike [] ys = only_seconds ys
compared_by alike (x ∷ xs) ys =
    record { verdict = against x (partner_by alike x.key ys); start = x } ∷ compared_by alike xs (without_by alike x.key ys)

-- file ids alone are compared
abbrev pub files_alone : Comparer
files_alone = compared_by (λ j k. equals j.file k.file)

-- ids are compared up to the shorter one's end
abbrev pub agree : List ℕ → List ℕ → Bool
agree [] b = true
agree (x ∷ a) [] = true
agree (x ∷ a) (y ∷ b) = eqb x y && agree a b

abbrev pub up_to_shorter : Comparer
up_to_shorter = compared_by (λ j k. agree j.id k.id && agree j.file k.file)

-- ---- listing
abbrev pub silent : Comparer
silent xs ys = []

abbrev pub all_same : Comparer
all_same xs ys = map (λ (l : Line). record { verdict = Verdict.same; start = l.start }) (compared xs ys)

-- the second's matched starts are listed again
abbrev pub listed_again : Comparer
listed_again xs ys = take (length xs) (compared xs ys) ++ only_seconds ys

-- those only the second has are not listed, or come first
abbrev pub first_alone : Comparer
first_alone xs ys = take (length xs) (compared xs ys)

abbrev pub second_first : Comparer
second_first xs ys = drop (length xs) (compared xs ys) ++ take (length xs) (compared xs ys)

-- ---- comparing contents
-- one content the start of the other is called same
abbrev pub prefix_same : Differ
prefix_same [] b = Verdict.same
prefix_same (x ∷ a) [] = Verdict.same
prefix_same (x ∷ a) (y ∷ b) = cond (eqb x y) (later (prefix_same a b)) (Verdict.different 0)

-- the offset is always 0, or is one too far
abbrev pub at_zero : Differ
at_zero a b = cond (equals a b) Verdict.same (Verdict.different 0)

abbrev pub one_too_far : Differ
one_too_far a b = later (first_diff a b)

-- the longer length if one is the start of the other
abbrev pub longer : Differ
longer [] [] = Verdict.same
longer [] (y ∷ b) = Verdict.different (length (y ∷ b))
longer (x ∷ a) [] = Verdict.different (length (x ∷ a))
longer (x ∷ a) (y ∷ b) = cond (eqb x y) (later (longer a b)) (Verdict.different 0)

-- ---- contents
abbrev pub starts_by : (Key → List Happening → List ℕ) → Starter
starts_by contents [] = []
starts_by contents (Happening.starts k p ∷ hs) = record { key = k; place = p; contents = contents k hs } ∷ starts_by contents hs
starts_by contents (Happening.hands k b ∷ hs) = starts_by contents hs

-- they run on past the pair's next start
abbrev pub running_on : Key → List Happening → List ℕ
running_on k [] = []
running_on k (Happening.starts j p ∷ hs) = running_on k hs
running_on k (Happening.hands j b ∷ hs) = cond (same_key k j) (b ++ running_on k hs) (running_on k hs)

-- they end at any start
abbrev pub ending_at_any : Key → List Happening → List ℕ
ending_at_any k [] = []
ending_at_any k (Happening.starts j p ∷ hs) = []
ending_at_any k (Happening.hands j b ∷ hs) = cond (same_key k j) (b ++ ending_at_any k hs) (ending_at_any k hs)

-- they are the last part alone, so that an offset counts from its start
abbrev pub last_part_alone : Key → List Happening → List ℕ
last_part_alone k hs = go [] hs
  where
    go : List ℕ → List Happening → List ℕ
    go last [] = last
    go last (Happening.starts j p ∷ hs) = cond (same_key k j) last (go last hs)
    go last (Happening.hands j b ∷ hs) = go (cond (same_key k j) b last) hs

-- ---- answering, by how the two sizes are tested
abbrev pub answered_by : (too_long : List ℕ → List ℕ → Bool) (short : (room rows : ℕ) → Bool) → Answerer
answered_by too_long short xs ys list =
    cond (too_long xs ys) (outcome (Err Refusal.TooLong) list)
    (cond (short (length list) (length (lines_of xs ys))) (outcome (Err Refusal.NoRoom) list)
    (outcome (Ok (length (lines_of xs ys))) (sets list 0 (listed (lines_of xs ys)))))

abbrev pub is_long : List ℕ → Bool
is_long xs = ltb recording_limit (length xs)

abbrev pub is_short : (room rows : ℕ) → Bool
is_short room rows = ltb room (6 * rows)

-- 17 for the first recording only, or at 65,536
abbrev pub limiting_first : Answerer
limiting_first = answered_by (λ xs ys. is_long xs) is_short

abbrev pub at_the_limit : Answerer
at_the_limit = answered_by (λ xs ys. leb recording_limit (length xs) || leb recording_limit (length ys)) is_short

-- the list's room counted in rows
abbrev pub room_in_rows : Answerer
room_in_rows = answered_by (λ xs ys. is_long xs || is_long ys) ltb

-- ---- the laws are false of them, and where no law is, the examples
abbrev pub ExamplesStarted : Starter → Type 0
ExamplesStarted s = ExamplesOf (λ recording. s (heard_in recording))

pub record CompareTeeth : Type 0 where
  pub not_taken : MatchedInOrder untaken → ⊥
  pub last_first : MatchedInOrder backwards → ⊥
  pub file_ids_alone : MatchedInOrder files_alone → ⊥
  pub ids_cut_short : MatchedInOrder up_to_shorter → ⊥
  pub none_listed : SameAlone silent → ⊥
  pub none_at_all : ListsOnce silent → ⊥
  pub same_always : MatchedInOrder all_same → ⊥
  pub listed_twice : ListsOnce listed_again → ⊥
  pub second_left_out : Mirrored first_alone → ⊥
  pub second_before : ListsOnce second_first → ⊥
  pub start_called_same : FirstOffset prefix_same → ⊥
  pub offset_zero : FirstOffset at_zero → ⊥
  pub offset_too_far : FirstOffset one_too_far → ⊥
  pub longer_length : FirstOffset longer → ⊥
  pub listed_double : EachStart (λ hs. starts_of hs ++ starts_of hs) → ⊥
  pub never_settled : SettledContents (starts_by running_on) → ⊥
  pub settled_early : ClaimedContents (starts_by ending_at_any) → ⊥
  pub latest_part_alone : ClaimedContents (starts_by last_part_alone) → ⊥
  pub past_next_start : ExamplesStarted (starts_by running_on) → ⊥
  pub offset_in_part : ExamplesStarted (starts_by last_part_alone) → ⊥
  pub up_to_any_start : ExamplesStarted (starts_by ending_at_any) → ⊥
  pub second_unlimited : RoomsOf limiting_first → ⊥
  pub limit_itself : RoomsOf at_the_limit → ⊥
  pub rows_for_numbers : RoomsOf room_in_rows → ⊥
