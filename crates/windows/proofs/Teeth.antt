-- The laws, or the examples, are false of each wrong comparer, and starter: each by computing the definitions.
use Prim.Native.Nat.{ℕ}
use Prim.Native.String.{String}
use mathlib.Core.Path.{◌≡◌, refl, ap}
use mathlib.Core.Bool.{true}
use mathlib.Core.List.{List, [], ◌∷◌, map}
use native.Mathlib.Omega.{arith}
use lib.ListN.{length, get_or}
use Rattle.std.specs.Prelude.{Option, Some, None}
use Rattle.octets.specs.Ascii.{ascii}
use Rattle.command.specs.Values.{Value, count}
use Rattle.protocol.specs.History.{Command, Heard, Question, Mark}
use Rattle.recordings.specs.Pieces.{kept_bytes}
use Rattle.hearing.specs.Hearing.{Happening}
use Rattle.windows.specs.Compare.{Start, Verdict, verdict_number, offset_of}
use Rattle.hearing.specs.Laws.{nowhere}
use Rattle.windows.specs.Laws.{starts_among, of_key, lines_for, zipped}
use Rattle.windows.specs.Examples.{Shown}
use Rattle.windows.specs.WrongComparers.{CompareTeeth}
use Rattle.windows.proofs.Computing.{examining}
use Rattle.windows.proofs.Rooms.{second-unlimited, limit-itself, rows_for-numbers}

-- ---- starts
abbrev start_of : String → String → Start
start_of m text = record { key = record { id = ascii m; file = ascii "a" }; place = nowhere; contents = ascii text }

abbrev ab : Start
ab = start_of "m" "ab"

abbrev cd : Start
cd = start_of "m" "cd"

-- ---- what two lists are told apart by
abbrev verdict_at : ℕ → List Verdict → ℕ
verdict_at i vs = get_or (map verdict_number vs) i 0

abbrev first_shown : List Shown → ℕ
first_shown rows = verdict_at 0 (map (λ (r : Shown). r.verdict) rows)

abbrev first_offset : List Shown → ℕ
first_offset rows = get_or (map (λ (r : Shown). offset_of r.verdict) rows) 0 0

abbrev first_length : List Start → ℕ
first_length xs = get_or (map (λ (x : Start). length x.contents) xs) 0 0

abbrev earliest_length : List (List ℕ) → ℕ
earliest_length cs = length (get_or cs 0 [])

abbrev latest_length : Option (List ℕ) → ℕ
latest_length None = 0
latest_length (Some c) = length c

-- ---- marks
-- a command of a code for a file; what it does not say is absent
abbrev command_for : ℕ → String → Command
command_for n a =
    Value.number (count n) ∷ Value.outside ∷ Value.outside ∷ Value.outside ∷ Value.bytes (ascii "m") ∷ Value.bytes (ascii a) ∷ []

abbrev opened : String → Mark
opened a = Mark.answer true (Question.asks (command_for 3 a) Heard.opens)

abbrev handed : String → String → Mark
handed a text = Mark.answer true (Question.asks (command_for 4 a) (Heard.writes (ascii text)))

pub teeth : CompareTeeth
unfolding examining starts_among of_key lines_for zipped kept_bytes
teeth =
    record {
      not_taken = λ h. let z : ◌≡◌ {A = ℕ} 4 1 = ap (verdict_at 1) (h ab.key (ab ∷ cd ∷ []) (ab ∷ [])) in absurd (omega arith);
      last_first = λ h. let z : ◌≡◌ {A = ℕ} 4 3 = ap (verdict_at 0) (h ab.key (ab ∷ []) (ab ∷ cd ∷ [])) in absurd (omega arith);
      file_ids_alone = λ h.
          let z : ◌≡◌ {A = ℕ} 3 1 = ap (verdict_at 0) (h ab.key (ab ∷ []) (start_of "n" "ab" ∷ [])) in absurd (omega arith);
      ids_cut_short = λ h.
          let z : ◌≡◌ {A = ℕ} 3 1 = ap (verdict_at 0) (h ab.key (ab ∷ []) (start_of "mm" "ab" ∷ [])) in absurd (omega arith);
      none_listed = λ h. let z : ◌≡◌ {A = ℕ} 0 1 = ap length (h (ab ∷ [])) in absurd (omega arith);
      none_at_all = λ h. let z : ◌≡◌ {A = ℕ} 0 1 = ap length (h (ab ∷ []) []).first in absurd (omega arith);
      same_always = λ h. let z : ◌≡◌ {A = ℕ} 3 1 = ap (verdict_at 0) (h ab.key (ab ∷ []) []) in absurd (omega arith);
      listed_twice = λ h. let z : ◌≡◌ {A = ℕ} 1 0 = ap length ((h (ab ∷ []) (ab ∷ [])).only_second ab.key) in absurd (omega arith);
      second_left_out = λ h. let z : ◌≡◌ {A = ℕ} 0 1 = ap length (h ab.key (ab ∷ []) []) in absurd (omega arith);
      second_before = λ h.
          let z : ◌≡◌ {A = ℕ} 0 2 = ap first_length (h (ab ∷ []) (start_of "n" "" ∷ [])).first in absurd (omega arith);
      start_called_same = λ h. let z : ◌≡◌ {A = ℕ} 0 1 = ap length (h [] (0 ∷ [])) in absurd (omega arith);
      offset_zero = λ h. (h (1 ∷ 2 ∷ []) (1 ∷ 3 ∷ [])).3 refl;
      offset_too_far = λ h.
          let z : ◌≡◌ {A = ℕ} 1 2 = ap (λ (a : List ℕ). get_or a 0 0) (h (1 ∷ []) (2 ∷ [])).2 in absurd (omega arith);
      longer_length = λ h. let z = (h [] (0 ∷ [])).0 in absurd (omega arith);
      listed_double = λ h. let z : ◌≡◌ {A = ℕ} 2 1 = ap length (h (Happening.starts ab.key nowhere ∷ [])) in absurd (omega arith);
      never_settled = λ h.
          let k = ab.key in
          let more = Happening.hands k (ascii "ab") ∷ [] in
          let z : ◌≡◌ {A = ℕ} 2 0 = ap earliest_length (h (Happening.starts k nowhere ∷ []) more k nowhere) in absurd (omega arith);
      settled_early = λ h.
          let z : ◌≡◌ {A = ℕ} 0 1 = ap latest_length (h (handed "a" "1" ∷ opened "b" ∷ opened "a" ∷ []) ab.key) in absurd (omega arith);
      latest_part_alone = λ h.
          let z : ◌≡◌ {A = ℕ} 1 2 = ap latest_length (h (handed "a" "2" ∷ handed "a" "1" ∷ opened "a" ∷ []) ab.key) in
          absurd (omega arith);
      past_next_start = λ h. let z : ◌≡◌ {A = ℕ} 4 3 = ap first_shown h.up_to_next in absurd (omega arith);
      offset_in_part = λ h. let z : ◌≡◌ {A = ℕ} 1 3 = ap first_offset h.across_parts in absurd (omega arith);
      up_to_any_start = λ h. let z : ◌≡◌ {A = ℕ} 4 3 = ap first_shown h.mixed in absurd (omega arith);
      second_unlimited = second-unlimited;
      limit_itself = limit-itself;
      rows_for_numbers = rows_for-numbers;
    }
