-- Strings put one after another, as far as they fit.
use Rattle.std.specs.Prelude.{ℕ, Result, Ok, Err, ◌+◌, ◌-◌, ◌≤◌, ◌≡◌, List, length}
use Rattle.std.proofs.lemmas.List.Edits.{sets}
use Rattle.frames.specs.Stream.{text_limit}
use Rattle.command.specs.Refusals.{refusal_number}
use Rattle.command.specs.Write.{Checked}
use Rattle.command.specs.declared.Refusal.{Refusal}
use Rattle.command_writer.specs.declared.store.Draft.{Draft}

-- what a length leaves of one byte more than a text may have: every length over that of a text leaves nothing
abbrev pub spare : ℕ → ℕ
spare n = (text_limit + 1) - n

-- t put at a place: where it ends, as far as that counts, and the buffer afterwards, if t fits and does not pass that length
pub record Put (t out : List ℕ) (at end : ℕ) (after : List ℕ) : Type 0 where
  pub ends : spare end ≡ spare (at + length t)
  pub stores : at + length t ≤ text_limit → at + length t ≤ length out → after ≡ sets out at t

-- what an answer tells of a check
abbrev pub fault_in : Result (Unit {0}) Refusal → Checked
fault_in (Ok x) = Checked.fine
fault_in (Err r) = Checked.fault (refusal_number r)

-- what is answered: t is put at a place; or the fault, and then nothing is said of the buffer
abbrev pub PutOr : Checked → List ℕ → List ℕ → ℕ → Result (Unit {0}) Refusal → ℕ → List ℕ → Type 0
PutOr Checked.fine t out at r end after = (r ≡ Ok tt) × Put t out at end after
PutOr (Checked.fault n) t out at r end after = fault_in r ≡ Checked.fault n

-- ---- at the end of a draft, which keeps its buffer
abbrev pub Puts : List ℕ → Draft → Draft → Type 0
Puts t d d' = (d'.out.ghost_name ≡ d.out.ghost_name) × Put t d.out.now d.end d'.end d'.out.now

abbrev pub Told : Checked → List ℕ → Draft → Result (Unit {0}) Refusal → Draft → Type 0
Told c t d r d' = (d'.out.ghost_name ≡ d.out.ghost_name) × PutOr c t d.out.now d.end r d'.end d'.out.now
