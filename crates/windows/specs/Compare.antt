-- Two recordings of one window compared: lists alone.
use Rattle.std.specs.Prelude.{ℕ, suc, Bool, cond, ◌&&◌, ◌||◌, List, [], ◌∷◌, ◌++◌, length, ltb, eqb, Option, Some, None}
use Rattle.std.proofs.lemmas.List.Edits.{sets}
use Rattle.octets.specs.Outcome.{Outcome, outcome}
use Rattle.octets.specs.Slices.{equals}
use Rattle.protocol.specs.Stretches.{Key}
use Rattle.recordings.specs.Mend.{recording_limit}
use Rattle.hearing.specs.Hearing.{Place, Happening, heard_in}
use Rattle.std.specs.Prelude.{Result, Ok, Err}
use Rattle.recordings.specs.declared.Refusal.{Refusal}

-- ---- the starts of a recording
-- a pair is "a session id and a file id, both compared whole"
abbrev pub same_key : Key → Key → Bool
same_key j k = equals j.id k.id && equals j.file k.file

-- a start of a pair, with its contents
pub record Start : Type 0 where
  pub key : Key
  pub place : Place
  pub contents : List ℕ

-- "Contents are the parts handed over from that start to the pair's next start", given what happens after the start
unfoldable pub contents_of : Key → List Happening → List ℕ
contents_of k [] = []
contents_of k (Happening.starts j p ∷ hs) = cond (same_key k j) [] (contents_of k hs)
contents_of k (Happening.hands j b ∷ hs) = cond (same_key k j) (b ++ contents_of k hs) (contents_of k hs)

-- "For each start of a session id and file id", with its contents
unfoldable pub starts_of : List Happening → List Start
starts_of [] = []
starts_of (Happening.starts k p ∷ hs) = record { key = k; place = p; contents = contents_of k hs } ∷ starts_of hs
starts_of (Happening.hands k b ∷ hs) = starts_of hs

-- ---- verdicts
pub data Verdict : Type 0 where
  only_first : Verdict
  only_second : Verdict
  same : Verdict
  different : ℕ → Verdict

-- one place on
abbrev pub later : Verdict → Verdict
later Verdict.only_first = Verdict.only_first
later Verdict.only_second = Verdict.only_second
later Verdict.same = Verdict.same
later (Verdict.different n) = Verdict.different (suc n)

-- "same, or different with the first offset at which contents differ (the shorter length if one is the start of the other)"
unfoldable pub first_diff : List ℕ → List ℕ → Verdict
first_diff [] [] = Verdict.same
first_diff [] (y ∷ ys) = Verdict.different 0
first_diff (x ∷ xs) [] = Verdict.different 0
first_diff (x ∷ xs) (y ∷ ys) = cond (eqb x y) (later (first_diff xs ys)) (Verdict.different 0)

-- ---- "a pair's starts matched in order"
-- the first start of a pair among those that are left; and those that are left without it
unfoldable pub partner : Key → List Start → Option Start
partner k [] = None
partner k (b ∷ bs) = cond (same_key k b.key) (Some b) (partner k bs)

unfoldable pub without : Key → List Start → List Start
without k [] = []
without k (b ∷ bs) = cond (same_key k b.key) bs (b ∷ without k bs)

abbrev pub against : Start → Option Start → Verdict
against a None = Verdict.only_first
against a (Some b) = first_diff a.contents b.contents

-- a line of the list: a verdict, and the start that it is of, the second's where only the second has it
pub record Line : Type 0 where
  pub verdict : Verdict
  pub start : Start

unfoldable pub only_seconds : List Start → List Line
only_seconds [] = []
only_seconds (b ∷ bs) = record { verdict = Verdict.only_second; start = b } ∷ only_seconds bs

-- "Listed once each: the first's starts in order, then those only the second has, in order"
unfoldable pub compared : (first second : List Start) → List Line
compared [] ys = only_seconds ys
compared (x ∷ xs) ys = record { verdict = against x (partner x.key ys); start = x } ∷ compared xs (without x.key ys)

abbrev pub lines_of : (first second : List ℕ) → List Line
lines_of xs ys = compared (starts_of (heard_in xs)) (starts_of (heard_in ys))

-- ---- as numbers, six a line: the verdict, the offset (0 unless different), and where the two ids stand, "in the second recording for
-- verdict 2, else in the first"
abbrev pub verdict_number : Verdict → ℕ
verdict_number Verdict.only_first = 1
verdict_number Verdict.only_second = 2
verdict_number Verdict.same = 3
verdict_number (Verdict.different n) = 4

abbrev pub offset_of : Verdict → ℕ
offset_of Verdict.only_first = 0
offset_of Verdict.only_second = 0
offset_of Verdict.same = 0
offset_of (Verdict.different n) = n

abbrev pub numbers_of : Line → List ℕ
numbers_of l =
    let p = l.start.place in
    verdict_number l.verdict ∷ offset_of l.verdict ∷ p.id ∷ p.id_len ∷ p.file ∷ p.file_len ∷ []

unfoldable pub listed : List Line → List ℕ
listed [] = []
listed (l ∷ ls) = numbers_of l ++ listed ls

-- ---- the answer, and the list afterwards
-- "A recording over 65,536 bytes: 17; then no room for the list: 9; nothing written"
unfoldable pub compare_of : (first second list : List ℕ) → Outcome (Result ℕ Refusal)
compare_of xs ys list =
    cond (ltb recording_limit (length xs) || ltb recording_limit (length ys)) (outcome (Err Refusal.TooLong) list)
    (cond (ltb (length list) (length (listed (lines_of xs ys)))) (outcome (Err Refusal.NoRoom) list)
    (outcome (Ok (length (lines_of xs ys))) (sets list 0 (listed (lines_of xs ys)))))
