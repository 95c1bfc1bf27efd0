-- Examples of the rules, each a recording with its list and what is kept of it.
use Rattle.std.specs.Prelude.{ℕ, ◌≡◌, List, [], ◌∷◌, replicate, Ok, Err}
use Prim.Native.String.{String}
use Rattle.frames.specs.DragDrop.{noisy}
use Rattle.recordings.specs.Pieces.{mended_of, list_of}
use Rattle.recordings.specs.Mend.{mended, mend_of}
use Rattle.recordings.specs.declared.Refusal.TheVariants.{NoRoom}

-- a recording is quoted, E stands for its byte 1B
pub record Example : Type 0 where
  pub recording : List ℕ
  pub rows : List ℕ
  pub kept : List ℕ

abbrev pub example : String → List ℕ → String → Example
example s rows kept = record { recording = noisy s; rows = rows; kept = noisy kept }

abbrev pub send : String
send = "E]5113;ac=send;id=mE\\"

abbrev pub examples : List Example
examples =
    -- all is kept, also what every session would ignore
    example "E]5113;ac=file;id=m;fid=a;n=Lw==;sz=-1E\\E]5113;ac=data;id=zz;fid=aE\\" []
    "E]5113;ac=file;id=m;fid=a;n=Lw==;sz=-1E\\E]5113;ac=data;id=zz;fid=aE\\"
    -- a refused frame is one stretch with its opener and its closer, and has its own row
    ∷ example "E]5113;E\\E]5113;E\\" (0 ∷ 9 ∷ 4 ∷ 9 ∷ 9 ∷ 4 ∷ []) ""
    ∷ example "E]5113;ac=send;id=m;q=3E\\E]5113;ac=data;id=m;d=AQE\\" (0 ∷ 25 ∷ 64 ∷ 25 ∷ 26 ∷ 65 ∷ []) ""
    -- refusal 2 ends before its 1B, which is read again
    ∷ example "E]5113;abcE]5113;ac=send;id=mE\\" (0 ∷ 10 ∷ 2 ∷ []) send
    ∷ example "E]5113;abcEE]5113;ac=send;id=mE\\" (0 ∷ 10 ∷ 2 ∷ 10 ∷ 1 ∷ 0 ∷ []) send
    ∷ example "E]5113;abcExy" (0 ∷ 10 ∷ 2 ∷ 10 ∷ 3 ∷ 0 ∷ []) ""
    ∷ example "E]5113;abcEE\\" (0 ∷ 10 ∷ 2 ∷ 10 ∷ 3 ∷ 0 ∷ []) ""
    ∷ example "E]5113;E]5113;E]" (0 ∷ 7 ∷ 2 ∷ 7 ∷ 7 ∷ 2 ∷ 14 ∷ 2 ∷ 0 ∷ []) ""
    -- outside: plain bytes, a lone 1B, other texts, and those that end before `5113;` is complete; joined where they touch
    ∷ example "abE]5113;ac=send;id=mE\\c" (0 ∷ 2 ∷ 0 ∷ 23 ∷ 1 ∷ 0 ∷ []) send
    ∷ example "EE]5113;ac=send;id=mE\\" (0 ∷ 1 ∷ 0 ∷ []) send
    ∷ example "E]0;tE]5113;ac=send;id=mE\\" (0 ∷ 5 ∷ 0 ∷ []) send
    ∷ example "E]0;tE\\xE]5113E\\E[0mE]51E[" (0 ∷ 26 ∷ 0 ∷ []) ""
    -- texts of drag and drop, closed or abandoned
    ∷ example "xE]72;t=aE\\E]72;bE]72E]5113;ac=send;id=mE\\E]72;" (0 ∷ 21 ∷ 0 ∷ 42 ∷ 5 ∷ 0 ∷ []) send
    -- what is unfinished at the end is outside
    ∷ example "xE]5113;ac=send;id=m" (0 ∷ 20 ∷ 0 ∷ []) ""
    ∷ example "E]5113;ac=send;id=mE\\E]5113;ac=send;id=mE" (21 ∷ 20 ∷ 0 ∷ []) send
    ∷ example "E]5113;ac=send;id=mE\\E]51" (21 ∷ 4 ∷ 0 ∷ []) send
    ∷ example "E]5113;ac=send;id=mE\\E" (21 ∷ 1 ∷ 0 ∷ []) send
    ∷ []

abbrev pub AllMend : List Example → Type 0
AllMend [] = Unit {0}
AllMend (e ∷ es) = ((list_of e.recording ≡ e.rows) × (mended_of e.recording ≡ e.kept)) × AllMend es

-- the room: what is needed is enough, and one less is not
pub record Rooms : Type 0 where
  pub output_only : (mend_of (noisy send) (replicate 21 0) []).answer ≡ Ok (mended 21 0)
  pub short_output : (mend_of (noisy send) (replicate 20 0) []).answer ≡ Err NoRoom
  pub short_list : (mend_of (noisy "xE]5113;ac=send;id=mE\\y") (replicate 21 0) (replicate 5 0)).answer ≡ Err NoRoom
  pub empty : (mend_of [] [] []).answer ≡ Ok (mended 0 0)

abbrev pub MendExamples : Type 0
MendExamples = AllMend examples × Rooms
