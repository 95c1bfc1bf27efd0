-- A command in its frame: what `write_framed` answers, and the buffer afterwards; and what is read of it.
use Rattle.std.specs.Prelude.{ℕ, ◌+◌, ◌≤◌, ◌≡◌, cond, List, [], ◌∷◌, length, take, ltb}
use Rattle.std.proofs.lemmas.List.Edits.{sets}
use Rattle.octets.specs.Outcome.{Outcome, outcome}
use Rattle.frames.specs.Stream.{Told, text_limit, framed}
use Rattle.frames.specs.Follows.{Calls}
use Rattle.frames.specs.declared.Framing.{Framing}
use Rattle.frames.specs.declared.Framing.TheVariants.{Plain}
use Rattle.command.specs.Values.{Value}
use Rattle.command.specs.Meaning.{Meaning}
use Rattle.command.specs.Canonical.{canonical}
use Rattle.command.specs.Slots.{values_of}
use Rattle.command.specs.Read.{scratch_room, read_of, meaning_in}
use Rattle.command.specs.Write.{Answer, write_of}
use Rattle.command.specs.declared.Command.{Command}

-- "A buffer under 8,196 bytes gives 9": room for the longest text with its opener and its closer
abbrev pub frame_room : ℕ
frame_room = text_limit + 4

-- what the writer says of a command, with the frame around its text
abbrev pub framed_by : Answer → List Value → List ℕ → Outcome Answer
framed_by (Answer.written n) c out = outcome (Answer.written (4 + n)) (sets out 0 (framed (canonical c)))
framed_by (Answer.refused r) c out = outcome (Answer.refused r) out

-- 9 first, "then the writer's refusals, nothing changed"
unfoldable pub framed_of : List Value → List ℕ → Outcome Answer
framed_of c out = cond (ltb (length out) frame_room) (outcome (Answer.refused 9) out) (framed_by (write_of c out).answer c out)

-- a command written into a buffer in its frame; its places lie in a text and a scratch
abbrev pub writing : Command → List ℕ → List ℕ → List ℕ → Outcome Answer
writing c text scratch out = framed_of (values_of c text scratch) out

-- one text is told, and it reads as the command with these values
pub record ReadsBack (ts : List Told) (vs : List Value) : Type 0 where
  pub text : List ℕ
  pub told : ts ≡ Told.command text ∷ []
  pub means : (lent : List ℕ) → scratch_room ≤ length lent → meaning_in text (read_of text lent) ≡ Meaning.command vs

-- "A command that is written and read again is the same command", in its frame: the bytes that were written, scanned however they are
-- cut, tell one text, and that text, read with any scratch that has room, gives a command with the same values
abbrev pub FramedThenRead : Type 0
FramedThenRead =
    (c : Command) (text scratch out : List ℕ) (n : ℕ) → (writing c text scratch out).answer ≡ Answer.written n
    → (carry : List ℕ) (ts : List Told) (f : Framing) (carry' : List ℕ)
    → Calls Plain carry (take n (writing c text scratch out).buffer) ts f carry'
    → ReadsBack ts (values_of c text scratch)
