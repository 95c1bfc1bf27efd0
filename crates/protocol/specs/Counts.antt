-- The numbers kept in a session are those counted from its records, "true after every command, answer and drop".
use Rattle.std.specs.Prelude.{ℕ, ◌≡◌, List}
use Rattle.protocol.specs.Table.{session_at}
use Rattle.protocol.specs.Files.{finish_by_records, finish_of}
use Rattle.protocol.specs.Machine.{Machine, Call, start}
use Rattle.protocol.specs.Sound.{Counted}
use Rattle.protocol.specs.Cuts.{after}
use Rattle.protocol.specs.declared.Session.{Session}

-- "No answer changes": finish answers by the kept number what a search of the records answers
pub record RightCounts (s : Session) : Type 0 where
  pub counted : Counted s
  pub finish : finish_of s ≡ finish_by_records s

-- the claim: after any list of calls, refused ones too, whatever they are lent, of the session at any place
abbrev pub EveryCount : Machine → Type 0
EveryCount m = (carry : List ℕ) (calls : List Call) (i : ℕ) → RightCounts (session_at (after m (start carry) calls).receiver.table i)
