-- What a call that is lent one buffer gives: its answer, and the buffer afterwards. A contract is one equation over this.
use Rattle.std.specs.Prelude.{cond, ℕ, ◌+◌, List, length, leb}
use Rattle.std.proofs.lemmas.List.Edits.{sets}

pub record Outcome (A : Type 0) : Type 0 where
  pub answer : A
  pub buffer : List ℕ

abbrev pub outcome : {A : Type 0} → A → List ℕ → Outcome A
outcome a l = record { answer = a; buffer = l }

-- bs stored in the buffer from place `at` on, where it fits; where it does not, the buffer as before
abbrev pub stored_at : {A : Type 0} → A → A → List ℕ → List ℕ → ℕ → Outcome A
stored_at done no_room bs l at = cond (leb (at + length bs) (length l)) (outcome done (sets l at bs)) (outcome no_room l)
