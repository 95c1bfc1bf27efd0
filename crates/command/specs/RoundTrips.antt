-- "A command that is written and read again is the same command, and canonical text that is read and written again is the same
-- text." Said of the calls: `read_of` and `write_of` are what `read` and `write` ensure of their answers and of every lent buffer.
use Rattle.std.specs.Prelude.{ℕ, ◌≤◌, ◌≡◌, List, length, take}
use Rattle.std.proofs.lemmas.List.Edits.{sets}
use Rattle.octets.specs.Outcome.{Outcome, outcome}
use Rattle.command.specs.Meaning.{Meaning}
use Rattle.command.specs.Slots.{values_of}
use Rattle.command.specs.Read as Read
use Rattle.command.specs.Read.{scratch_room, read_of, meaning_in}
use Rattle.command.specs.Write as Write
use Rattle.command.specs.Write.{write_of}
use Rattle.command.specs.Grammar.{CanonicalText}
use Rattle.command.specs.declared.Command.{Command}

-- a command written into a buffer; its places lie in a text and a scratch
abbrev pub writing : Command → List ℕ → List ℕ → List ℕ → Outcome Write.Answer
writing c text scratch out = write_of (values_of c text scratch) out

-- "A command that is written and read again is the same command": the bytes that were written, read with any scratch that has room,
-- give a command with the same values
abbrev pub WrittenThenRead : Type 0
WrittenThenRead =
    (c : Command) (text scratch out : List ℕ) (n : ℕ) → (writing c text scratch out).answer ≡ Write.Answer.written n
    → let t : List ℕ = take n (writing c text scratch out).buffer in
    (lent : List ℕ) → scratch_room ≤ length lent → meaning_in t (read_of t lent) ≡ Meaning.command (values_of c text scratch)

-- t is read, and the command read, with the text and the scratch as they are then, is written as t, wherever t has room
pub record SameText (t scratch : List ℕ) : Type 0 where
  pub command : Command
  pub reads : (read_of t scratch).answer ≡ Read.Answer.read command
  pub writes : (out : List ℕ) → length t ≤ length out
      → writing command t (read_of t scratch).buffer out ≡ outcome (Write.Answer.written (length t)) (sets out 0 t)

-- "canonical text that is read and written again is the same text"; and it is read
abbrev pub ReadThenWritten : Type 0
ReadThenWritten = (t scratch : List ℕ) → CanonicalText t → scratch_room ≤ length scratch → SameText t scratch

-- t is what some call writes
pub record Writes (t : List ℕ) : Type 0 where
  pub command : Command
  pub text : List ℕ
  pub scratch : List ℕ
  pub out : List ℕ
  pub answers : (writing command text scratch out).answer ≡ Write.Answer.written (length t)
  pub stands : take (length t) (writing command text scratch out).buffer ≡ t

-- "The writer writes only this text", and all of it: what it writes is exactly the canonical texts
abbrev pub WritesCanonical : Type 0
WritesCanonical = (t : List ℕ) → (Writes t → CanonicalText t) × (CanonicalText t → Writes t)
