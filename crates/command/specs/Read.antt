-- Reading a text into slots and the scratch: what `read` answers, and the scratch afterwards.
use Rattle.std.specs.Prelude.{Option, Some, is_some, Result, Ok, Err}
use Rattle.std.specs.Prelude.{ℕ, ◌+◌, ◌≤◌, ◌≡◌, cond, ◌||◌, List, [], ◌∷◌, length, get_or, set, ltb, eqb}
use Rattle.std.proofs.lemmas.List.Edits.{sets}
use Rattle.octets.specs.Outcome.{Outcome, outcome}
use Rattle.command.specs.Keys.{Kind, Key, keys, kind_at}
use Rattle.command.specs.Values.{Value, Got, value_read}
use Rattle.command.specs.Fields.{Turn, Step, text_read}
use Rattle.command.specs.Meaning.{Meaning, meaning_of, number_in, bytes_in}
use Rattle.command.specs.Refusals.{refusal_number}
use Rattle.command.specs.Slots.{action_code, free, command_of, values_of}
use Rattle.command.specs.declared.Place.{Place}
use Rattle.command.specs.declared.Slot.{Slot}
use Rattle.command.specs.declared.Command.{Command}
use Rattle.command.specs.declared.Refusal.{Refusal}

-- the slots so far, the scratch, and how many of its bytes are used
pub record Reader : Type 0 where
  pub slots : List (Option Slot)
  pub scratch : List ℕ
  pub used : ℕ

-- ---- a value kept
-- where a value stands: a string where it was read, Base64's bytes after those before it
abbrev pub place_for : Kind → ℕ → ℕ → Value → Place
place_for (Kind.word unknown first ws aliases) at used v = record { start = 0; len = 0 }
place_for (Kind.safe short) at used v = record { start = at; len = length (bytes_in v) }
place_for Kind.integer at used v = record { start = 0; len = 0 }
place_for Kind.base64 at used v = record { start = used; len = length (bytes_in v) }

-- what it stores in the scratch
abbrev pub stored_for : Kind → Value → List ℕ
stored_for (Kind.word unknown first ws aliases) v = []
stored_for (Kind.safe short) v = []
stored_for Kind.integer v = []
stored_for Kind.base64 v = bytes_in v

abbrev pub slot_for : Kind → ℕ → ℕ → Value → Slot
slot_for k at used v = record { number = number_in v; place = place_for k at used v }

-- "Decoded n, st and d stand one after another from the scratch's start, in the text's order"
abbrev pub kept_by : Kind → ℕ → ℕ → Reader → Got → Turn Reader
kept_by k n at s (Got.got v) =
    Turn.on (record {
      slots = set s.slots n (Some (slot_for k at s.used v));
      scratch = sets s.scratch s.used (stored_for k v);
      used = s.used + length (stored_for k v);
    })
kept_by k n at s (Got.refused r) = Turn.off r s

-- "A known key may stand once" (5), and then its value is of its kind (6, 8)
unfoldable pub kept : Step Reader
kept n at v s =
    cond (is_some (get_or s.slots n free)) (Turn.off 5 s) (kept_by (kind_at keys n) n at s (value_read (kind_at keys n) v))

-- ---- a text read
abbrev pub frees : List Key → List (Option Slot)
frees [] = []
frees (k ∷ ks) = free ∷ frees ks

abbrev pub begun : List ℕ → Reader
begun scratch = record { slots = frees keys; scratch = scratch; used = 0 }

-- an answer: a command, or a refusal by its number
pub data Answer : Type 0 where
  read : Command → Answer
  refused : ℕ → Answer

-- "`ac` and a non-empty `id` must be there" (7)
abbrev pub complete : Command → Answer
complete c = cond (eqb (action_code c.action) 0 || eqb c.id.len 0) (Answer.refused 7) (Answer.read c)

abbrev pub finished : Turn Reader → Outcome Answer
finished (Turn.on s) = outcome (complete (command_of s.slots)) s.scratch
finished (Turn.off r s) = outcome (Answer.refused r) s.scratch

-- how many bytes a scratch has at least: three for each four of the longest text
abbrev pub scratch_room : ℕ
scratch_room = 6144

-- 9 first: "scratch under 6,144 bytes"
unfoldable pub read_of : List ℕ → List ℕ → Outcome Answer
read_of t scratch =
    cond (ltb (length scratch) scratch_room) (outcome (Answer.refused 9) scratch) (finished (text_read kept t (begun scratch)))

-- the code's answer, its refusal by document 01's number
abbrev pub answered : Result Command Refusal → Answer
answered (Ok c) = Answer.read c
answered (Err r) = Answer.refused (refusal_number r)

-- what an answer means, given the text and the scratch afterwards: places apart
abbrev pub meaning_in : List ℕ → Outcome Answer → Meaning
meaning_in t o = go o.answer
  where
    go : Answer → Meaning
    go (Answer.read c) = Meaning.command (values_of c t o.buffer)
    go (Answer.refused r) = Meaning.refused r

-- the reader with places is the abstract reader: of every text, refusals included
abbrev pub ReadMeans : Type 0
ReadMeans = (t scratch : List ℕ) → scratch_room ≤ length scratch → meaning_in t (read_of t scratch) ≡ meaning_of t
