-- The laws are false of each wrong hearer, by computing what it hears in a recording.
use Prim.Native.Nat.{ℕ, ◌+◌}
use mathlib.Core.Path.{◌≡◌, ap}
use mathlib.Core.List.{List, [], ◌∷◌, ◌++◌, map}
use native.Mathlib.Omega.{arith}
use lib.ListN.{length, get_or}
use Rattle.recordings.specs.Pieces.{kept_bytes}
use Rattle.hearing.specs.Hearing.{Happening, heard_in}
use Rattle.hearing.specs.Laws.{Hearer, bare, NamesPairs, MendedAlike, ReplayHears}
use Rattle.windows.specs.Laws.{MendedSame}
use Rattle.windows.specs.Compare.{compared}
use Rattle.octets.specs.Ascii.{ascii}
use Rattle.frames.specs.Stream.{framed}
use Rattle.windows.specs.Examples.{send, sent, file, directory, part}
use Rattle.windows.specs.WrongHearers.{hearing_by, every_open, files_read, data_read, deaf, noise_too, places_in_text, up_to_refused}
use Rattle.windows.specs.WrongHearers.{HearerTeeth}
use Rattle.windows.proofs.Computing.{examining}
use Rattle.hearing.proofs.Wholly.{hears-alike}

-- a recording in which it hears more or less than ours
refuted : (h : Hearer) (xs : List ℕ) → (length (map bare (h xs)) ≡ length (map bare (heard_in xs)) → ⊥) → ReplayHears h → ⊥
refuted h xs unlike law = unlike (ap length (hears-alike h law xs))

-- how many bytes are handed over
handed : List Happening → ℕ
handed [] = 0
handed (Happening.starts k p ∷ hs) = handed hs
handed (Happening.hands k b ∷ hs) = length b + handed hs

directories : ReplayHears every_open → ⊥
unfolding examining hearing_by
directories = refuted every_open (send "m" ++ directory "m" "a") (λ (e : ◌≡◌ {A = ℕ} 1 0). omega arith)

-- a file id that is known gets a status
twice : ReplayHears files_read → ⊥
unfolding examining hearing_by
twice = refuted files_read (sent ++ file "m" "a") (λ (e : ◌≡◌ {A = ℕ} 2 1). omega arith)

-- data for no file is ignored
ignored : ReplayHears data_read → ⊥
unfolding examining hearing_by
ignored = refuted data_read (send "m" ++ part "m" "a" "abc") (λ (e : ◌≡◌ {A = ℕ} 1 0). omega arith)

unheard : ReplayHears deaf → ⊥
unfolding examining
unheard = refuted deaf sent (λ (e : ◌≡◌ {A = ℕ} 0 1). omega arith)

noise : MendedAlike noise_too → ⊥
unfolding examining handed kept_bytes
noise law = let e : ◌≡◌ {A = ℕ} 0 1 = ap handed (law (0x41 ∷ [])) in omega arith

-- where the file command's text has `m`, the recording has `d`
elsewhere : NamesPairs places_in_text → ⊥
unfolding examining hearing_by
elsewhere law =
    let e : ◌≡◌ {A = List ℕ} (0x64 ∷ []) (0x6D ∷ []) = (law sent).0.0 in
    let z : ◌≡◌ {A = ℕ} 0x64 0x6D = ap (λ (bs : List ℕ). get_or bs 0 0) e in
    omega arith

ends : MendedAlike up_to_refused → ⊥
unfolding examining hearing_by kept_bytes
ends law = let e : ◌≡◌ {A = ℕ} 1 0 = ap length (law (framed (ascii "5113;") ++ sent)) in omega arith

differs : MendedSame compared up_to_refused → ⊥
unfolding examining hearing_by kept_bytes
differs law = let e : ◌≡◌ {A = ℕ} 1 0 = ap length (law (framed (ascii "5113;") ++ sent)) in omega arith

pub hearer-teeth : HearerTeeth
hearer-teeth =
    record {
      directories = directories;
      files_not_started = twice;
      data_not_asked = ignored;
      nothing_heard = unheard;
      noise_heard = noise;
      noise_ends = ends;
      noise_differs = differs;
      elsewhere = elsewhere;
    }
