-- The laws of comparing, each of any comparer, starter or hearer, so that it can be refuted of a wrong one.
use Rattle.std.specs.Prelude.{ℕ, ◌≤◌, ◌≡◌, cond, List, [], ◌∷◌, ◌++◌, map, length, take, drop, replicate, Option, Some, None}
use Rattle.protocol.specs.History.{Mark}
use Rattle.protocol.specs.Stretches.{Key, Stretch, since, parts}
use Rattle.recordings.specs.Pieces.{mended_of}
use Rattle.hearing.specs.Hearing.{Place, Happening}
use Rattle.hearing.specs.Laws.{Hearer, NamesPairs, MendedAlike, happened_in, ReplayHears, OneHearer}
use Rattle.windows.specs.Compare.{same_key, Start, starts_of, Verdict, first_diff, Line}

-- ---- comparing lists of starts
abbrev pub Comparer : Type 0
Comparer = (first second : List Start) → List Line

abbrev pub verdicts : List Line → List Verdict
verdicts = map (λ (l : Line). l.verdict)

abbrev pub listed_starts : List Line → List Start
listed_starts = map (λ (l : Line). l.start)

-- a recording against itself: every verdict is same
abbrev pub SameAlone : Comparer → Type 0
SameAlone c = (xs : List Start) → verdicts (c xs xs) ≡ replicate (length xs) Verdict.same

-- the starts of a pair, in order, and the lines
unfoldable pub of_key : Key → List Start → List Start
of_key k [] = []
of_key k (x ∷ xs) = cond (same_key k x.key) (x ∷ of_key k xs) (of_key k xs)

unfoldable pub lines_for : Key → List Line → List Line
lines_for k [] = []
lines_for k (l ∷ ls) = cond (same_key k l.start.key) (l ∷ lines_for k ls) (lines_for k ls)

abbrev pub contents_for : Key → List Start → List (List ℕ)
contents_for k xs = map (λ (x : Start). x.contents) (of_key k xs)

-- the first with the first, the second with the second, and so on; "what is left over is only in one"
unfoldable pub zipped : (first second : List (List ℕ)) → List Verdict
zipped [] [] = []
zipped [] (b ∷ bs) = Verdict.only_second ∷ zipped [] bs
zipped (a ∷ cs) [] = Verdict.only_first ∷ zipped cs []
zipped (a ∷ cs) (b ∷ bs) = first_diff a b ∷ zipped cs bs

-- "a pair's starts matched in order"
abbrev pub MatchedInOrder : Comparer → Type 0
MatchedInOrder c =
    (k : Key) (xs ys : List Start) → verdicts (lines_for k (c xs ys)) ≡ zipped (contents_for k xs) (contents_for k ys)

-- the two recordings the other way round: the same, seen from the other side
abbrev pub mirror : Verdict → Verdict
mirror Verdict.only_first = Verdict.only_second
mirror Verdict.only_second = Verdict.only_first
mirror Verdict.same = Verdict.same
mirror (Verdict.different n) = Verdict.different n

abbrev pub Mirrored : Comparer → Type 0
Mirrored c = (k : Key) (xs ys : List Start) → verdicts (lines_for k (c ys xs)) ≡ map mirror (verdicts (lines_for k (c xs ys)))

-- some of the members of a list, in its order
pub data Among : (some all : List Start) → Type 0 where
  none : Among [] []
  with : {xs ys : List Start} (y : Start) → Among xs ys → Among (y ∷ xs) (y ∷ ys)
  past : {xs ys : List Start} (y : Start) → Among xs ys → Among xs (y ∷ ys)

-- "Listed once each: the first's starts in order, then those only the second has, in order"
pub record ListedOnce (c : Comparer) (xs ys : List Start) : Type 0 where
  pub first : take (length xs) (listed_starts (c xs ys)) ≡ xs
  pub in_order : Among (drop (length xs) (listed_starts (c xs ys))) ys
  -- of each pair those past as many as the first has
  pub only_second : (k : Key) → of_key k (drop (length xs) (listed_starts (c xs ys))) ≡ drop (length (of_key k xs)) (of_key k ys)

abbrev pub ListsOnce : Comparer → Type 0
ListsOnce c = (xs ys : List Start) → ListedOnce c xs ys

-- ---- comparing contents
abbrev pub Differ : Type 0
Differ = (a b : List ℕ) → Verdict

-- what is left of each from the offset on: they differ there, or exactly one of them ends
abbrev pub Parted : (a b : List ℕ) → Type 0
Parted [] [] = ⊥
Parted [] (y ∷ ys) = Unit {0}
Parted (x ∷ xs) [] = Unit {0}
Parted (x ∷ xs) (y ∷ ys) = x ≡ y → ⊥

abbrev pub RightOf : (a b : List ℕ) → Verdict → Type 0
RightOf a b Verdict.only_first = ⊥
RightOf a b Verdict.only_second = ⊥
RightOf a b Verdict.same = a ≡ b
RightOf a b (Verdict.different n) = (n ≤ length a) × (n ≤ length b) × (take n a ≡ take n b) × Parted (drop n a) (drop n b)

-- "same, or different with the first offset at which contents differ (the shorter length if one is the start of the other)"
abbrev pub FirstOffset : Differ → Type 0
FirstOffset d = (a b : List ℕ) → RightOf a b (d a b)

-- ---- the starts with their contents
abbrev pub Starter : Type 0
Starter = List Happening → List Start

-- "For each start of a session id and file id": in order, with its pair and its place, and no other
unfoldable pub starts_among : List Happening → List Happening
starts_among [] = []
starts_among (Happening.starts k p ∷ hs) = Happening.starts k p ∷ starts_among hs
starts_among (Happening.hands k b ∷ hs) = starts_among hs

abbrev pub EachStart : Starter → Type 0
EachStart s = (hs : List Happening) → map (λ (x : Start). Happening.starts x.key x.place) (s hs) ≡ starts_among hs

-- "Contents are the parts handed over from that start to the pair's next start": what its earlier starts have is settled there
abbrev pub SettledContents : Starter → Type 0
SettledContents s = (hs ms : List Happening) (k : Key) (p : Place)
    → contents_for k (s (hs ++ Happening.starts k p ∷ ms))
    ≡ contents_for k (s hs) ++ contents_for k (s (Happening.starts k p ∷ ms))

-- ---- hearing a recording: noise does not show, so that every verdict of a recording and its mended form is same
abbrev pub MendedSame : Comparer → Hearer → Type 0
MendedSame c h =
    (xs : List ℕ) → let ss = starts_of (h xs) in verdicts (c ss (starts_of (h (mended_of xs)))) ≡ replicate (length ss) Verdict.same

-- ---- what is compared is what demand 3's history has
-- the contents of the latest start
abbrev pub last_of : List (List ℕ) → Option (List ℕ)
last_of [] = None
last_of (c ∷ []) = Some c
last_of (c ∷ d ∷ cs) = last_of (d ∷ cs)

-- "the parts handed over for it and answered done, joined"
abbrev pub claimed_parts : Key → Option Stretch → Option (List ℕ)
claimed_parts k None = None
claimed_parts k (Some t) = Some (parts k t.marks)

-- "Contents are the parts handed over from that start": at every point of a history, those that demand 3 has of the pair since its
-- latest start
abbrev pub ClaimedContents : Starter → Type 0
ClaimedContents s = (marks : List Mark) (k : Key) → last_of (contents_for k (s (happened_in marks))) ≡ claimed_parts k (since k marks)

-- ---- all of them
pub record CompareLaws (c : Comparer) (d : Differ) (h : Hearer) (s : Starter) : Type 0 where
  pub same_alone : SameAlone c
  pub matched_in_order : MatchedInOrder c
  pub mirrored : Mirrored c
  pub lists_once : ListsOnce c
  pub first_offset : FirstOffset d
  pub each_start : EachStart s
  pub settled_contents : SettledContents s
  pub names_pairs : NamesPairs h
  pub mended_alike : MendedAlike h
  pub mended_same : MendedSame c h
  pub replay_hears : ReplayHears h
  pub one_hearer : OneHearer h
  pub claimed_contents : ClaimedContents s
