-- The page's examples of the rules: two recordings, and the pair and the verdict of each line.
use Rattle.std.specs.Prelude.{ℕ, ◌≡◌, List, [], ◌∷◌, ◌++◌, map, replicate}
use Prim.Native.String.{String}
use Rattle.octets.specs.Ascii.{ascii}
use Rattle.octets.specs.Outcome.{Outcome, outcome}
use Rattle.base64_codec.specs.Encode.{text_of}
use Rattle.frames.specs.Stream.{framed}
use Rattle.hearing.specs.Hearing.{heard_in}
use Rattle.windows.specs.Compare.{Start, starts_of, Verdict, Line, compared, listed, compare_of}
use Rattle.std.specs.Prelude.{Result, Ok, Err}
use Rattle.recordings.specs.declared.Refusal.{Refusal}

-- ---- commands, each a frame
abbrev pub send : String → List ℕ
send m = framed (ascii "5113;ac=send;id=" ++ ascii m)

abbrev pub receive : String → List ℕ
receive m = framed (ascii "5113;ac=receive;id=" ++ ascii m ++ ascii ";sz=1")

abbrev pub cancel : String → List ℕ
cancel m = framed (ascii "5113;ac=cancel;id=" ++ ascii m)

abbrev pub finish : String → List ℕ
finish m = framed (ascii "5113;ac=finish;id=" ++ ascii m)

-- an action for a file, with further fields
abbrev pub of_file : String → String → String → List ℕ → List ℕ
of_file action m a fields = framed (ascii "5113;ac=" ++ ascii action ++ ascii ";id=" ++ ascii m ++ ascii ";fid=" ++ ascii a ++ fields)

-- a file whose name is a slash
abbrev pub file : String → String → List ℕ
file m a = of_file "file" m a (ascii ";n=Lw==")

abbrev pub file_of3 : String → String → List ℕ
file_of3 m a = of_file "file" m a (ascii ";sz=3;n=Lw==")

abbrev pub directory : String → String → List ℕ
directory m a = of_file "file" m a (ascii ";ft=directory;n=Lw==")

abbrev pub part : String → String → String → List ℕ
part m a text = of_file "data" m a (ascii ";d=" ++ text_of (ascii text))

abbrev pub last_part : String → String → String → List ℕ
last_part m a text = of_file "end_data" m a (ascii ";d=" ++ text_of (ascii text))

abbrev pub ended : String → String → List ℕ
ended m a = of_file "end_data" m a []

-- ---- an example
-- the pair and the verdict of a line
pub record Shown : Type 0 where
  pub id : List ℕ
  pub file : List ℕ
  pub verdict : Verdict

abbrev pub shown : Line → Shown
shown l = record { id = l.start.key.id; file = l.start.key.file; verdict = l.verdict }

abbrev pub row : String → String → Verdict → Shown
row m a v = record { id = ascii m; file = ascii a; verdict = v }

-- how the starts of a recording are found
abbrev pub Reader : Type 0
Reader = List ℕ → List Start

abbrev pub Shows : Reader → (first second : List ℕ) → List Shown → Type 0
Shows r xs ys rows = map shown (compared (r xs) (r ys)) ≡ rows

abbrev pub Numbers : Reader → (first second : List ℕ) → List ℕ → Type 0
Numbers r xs ys numbers = listed (compared (r xs) (r ys)) ≡ numbers

-- ---- the page's
abbrev pub sent : List ℕ
sent = send "m" ++ file "m" "a"

pub record ExamplesOf (r : Reader) : Type 0 where
  -- refused texts do nothing
  pub noise : Shows r (ascii "junk" ++ sent ++ framed (ascii "5113;") ++ part "m" "a" "ab") (sent ++ part "m" "a" "ab")
      (row "m" "a" Verdict.same ∷ [])
  -- a directory has no start, nor has a file command that is ignored or gets a status
  pub directories : Shows r (send "m" ++ directory "m" "a" ++ directory "m" "b") (send "m") []
  pub early : Shows r (file "m" "a" ++ send "m" ++ part "m" "a" "x") sent (row "m" "a" Verdict.only_second ∷ [])
  pub busy : Shows r (send "1" ++ send "2" ++ send "3" ++ send "4" ++ send "5" ++ file "5" "a") (send "5" ++ file "5" "a")
      (row "5" "a" Verdict.only_second ∷ [])
  -- a pair that starts again
  pub again : Shows r (sent ++ part "m" "a" "ab" ++ cancel "m" ++ sent ++ part "m" "a" "cd") (sent ++ part "m" "a" "cd")
      (row "m" "a" (Verdict.different 0) ∷ row "m" "a" Verdict.only_first ∷ [])
  -- contents end at the pair's next start
  pub up_to_next : Shows r (sent ++ part "m" "a" "ab" ++ cancel "m" ++ sent ++ part "m" "a" "cd")
      (sent ++ part "m" "a" "ab" ++ cancel "m" ++ sent ++ part "m" "a" "ce")
      (row "m" "a" Verdict.same ∷ row "m" "a" (Verdict.different 1) ∷ [])
  -- neither how they were cut into parts nor whether the file was closed counts
  pub cuts : Shows r (sent ++ last_part "m" "a" "abc" ++ finish "m")
      (sent ++ part "m" "a" "ab" ++ part "m" "a" "c" ++ ended "m" "a" ++ finish "m") (row "m" "a" Verdict.same ∷ [])
  -- a file command for a file that is there is no start
  pub twice : Shows r (sent ++ part "m" "a" "ab" ++ file "m" "a" ++ part "m" "a" "c") (sent ++ part "m" "a" "abc")
      (row "m" "a" Verdict.same ∷ [])
  -- a part past the declared size is not handed over
  pub too_big : Shows r (send "m" ++ file_of3 "m" "a" ++ part "m" "a" "ab" ++ part "m" "a" "cd") (sent ++ part "m" "a" "ab")
      (row "m" "a" Verdict.same ∷ [])
  -- parts and starts of other pairs do not end contents
  pub mixed : Shows r (sent ++ file "m" "b" ++ part "m" "a" "1" ++ part "m" "b" "2" ++ part "m" "a" "3")
      (send "m" ++ file "m" "b" ++ part "m" "b" "2" ++ file "m" "a" ++ part "m" "a" "13")
      (row "m" "a" Verdict.same ∷ row "m" "b" Verdict.same ∷ [])
  -- the first offset, or the shorter length
  pub inside : Shows r (sent ++ part "m" "a" "abcd") (sent ++ part "m" "a" "abXd") (row "m" "a" (Verdict.different 2) ∷ [])
  pub shorter : Shows r (sent ++ part "m" "a" "abc") (sent ++ part "m" "a" "ab") (row "m" "a" (Verdict.different 2) ∷ [])
  -- counted in the joined contents, not in a part
  pub across_parts : Shows r (sent ++ part "m" "a" "ab" ++ part "m" "a" "cd") (sent ++ part "m" "a" "ab" ++ part "m" "a" "cX")
      (row "m" "a" (Verdict.different 3) ∷ [])
  pub nothing : Shows r sent (sent ++ part "m" "a" "ab") (row "m" "a" (Verdict.different 0) ∷ [])
  pub empty : Shows r sent (sent ++ part "m" "a" "") (row "m" "a" Verdict.same ∷ [])
  -- the first's starts in order, then those only the second has, in order
  pub ordered : Shows r (sent ++ file "m" "b") (send "m" ++ file "m" "c" ++ file "m" "b" ++ file "m" "a")
      (row "m" "a" Verdict.same ∷ row "m" "b" Verdict.same ∷ row "m" "c" Verdict.only_second ∷ [])
  pub left_over : Shows r (sent ++ part "m" "a" "cd")
      (sent ++ part "m" "a" "cd" ++ cancel "m" ++ send "m" ++ file "m" "b" ++ file "m" "a")
      (row "m" "a" Verdict.same ∷ row "m" "b" Verdict.only_second ∷ row "m" "a" Verdict.only_second ∷ [])
  -- receive sessions give no start, but take a place
  pub receiving : Shows r (receive "r" ++ file "r" "p" ++ sent ++ file "r" "p") sent (row "m" "a" Verdict.same ∷ [])
  pub no_place : Shows r (receive "1" ++ receive "2" ++ receive "3" ++ receive "4" ++ send "5" ++ file "5" "a")
      (send "5" ++ file "5" "a") (row "5" "a" Verdict.only_second ∷ [])
  -- where the ids stand: in the first recording, and in the second for what only the second has
  pub in_first : Numbers r (sent ++ part "m" "a" "abc") sent (4 ∷ 0 ∷ 39 ∷ 1 ∷ 45 ∷ 1 ∷ [])
  pub in_second : Numbers r (send "m") (ascii "junk" ++ sent) (2 ∷ 0 ∷ 43 ∷ 1 ∷ 49 ∷ 1 ∷ [])

-- ---- the answer, and the list afterwards
abbrev pub Answerer : Type 0
Answerer = (first second list : List ℕ) → Outcome (Result ℕ Refusal)

pub record RoomsOf (c : Answerer) : Type 0 where
  -- beyond its rows the list is as before
  pub enough : c sent [] (replicate 7 9) ≡ outcome (Ok 1) (1 ∷ 0 ∷ 39 ∷ 1 ∷ 45 ∷ 1 ∷ 9 ∷ [])
  -- one number too few: nothing is written
  pub short : c sent [] (replicate 5 9) ≡ outcome (Err Refusal.NoRoom) (replicate 5 9)
  pub empty : c [] [] [] ≡ outcome (Ok 0) []
  -- 65,536 bytes are not too many; one more is, in either recording, whatever the list's room
  pub most : c (replicate 65536 0) [] [] ≡ outcome (Ok 0) []
  pub too_long : c (replicate 65537 0) [] [] ≡ outcome (Err Refusal.TooLong) []
  pub second_too_long : c [] (replicate 65537 0) [] ≡ outcome (Err Refusal.TooLong) []

abbrev pub CompareExamples : Type 0
CompareExamples = ExamplesOf (λ recording. starts_of (heard_in recording)) × RoomsOf compare_of
