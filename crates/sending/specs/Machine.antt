-- A sender as a machine: its five calls, each a function of the sender and of what it is lent.
use Rattle.std.specs.Prelude.{ℕ, Bool, List}
use Rattle.octets.specs.Outcome.{Outcome}
use Rattle.sending.specs.Calls.{send_of, file_of, piece_of, finish_of, Listening, hear_of}
use Rattle.sending.specs.declared.Sender.{Sender}
use Rattle.sending.specs.declared.Wrote.{Wrote}

pub record Machine : Type 0 where
  pub sends : Sender → (id out : List ℕ) → Outcome Wrote
  pub files : Sender → (id name : List ℕ) (size : ℕ) (out : List ℕ) → Outcome Wrote
  pub pieces : Sender → (contents : List ℕ) → Bool → (out : List ℕ) → Outcome Wrote
  pub finishes : Sender → (out : List ℕ) → Outcome Wrote
  pub hears : Sender → (piece carry scratch : List ℕ) → Listening

-- ours, which the contracts of the calls cite
abbrev pub ours : Machine
ours = record { sends = send_of; files = file_of; pieces = piece_of; finishes = finish_of; hears = hear_of }
