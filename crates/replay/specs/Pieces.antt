-- A whole piece: where it goes on after a turn, and what a replay of it leaves.
use Rattle.std.specs.Prelude.{ℕ, ◌+◌, ◌≤◌, ◌≡◌, true, List, ◌++◌, length}
use Rattle.protocol.specs.Replies.{reply_room}
use Rattle.protocol.specs.History.{bytes_of}
use Rattle.protocol.specs.Machine.{start}
use Rattle.protocol.specs.declared.Receiver.{Receiver}
use Rattle.streams.specs.Streams.{is_well}
use Rattle.streams.specs.declared.Run.{Run}
use Rattle.protocol.specs.Replay.{Turn, replayed, Answerable}
use Rattle.replay.specs.declared.console.Onward.{Onward}

-- so many bytes of a piece were used: where the run is well afterwards, it was well before, and the piece goes on behind them
abbrev pub OnAfter : (len used : ℕ) → Onward → Onward → Type 0
OnAfter len used o o' = is_well o'.run ≡ true → (is_well o.run ≡ true) × (o.at + used ≤ len → o'.at ≡ o.at + used)

-- a receiver and a carry that a replay of these bytes leaves, however they were cut, from a fresh receiver on
pub record ReplayOf (bs : List ℕ) (r : Receiver) (carry : List ℕ) : Type 0 where
  -- the carry at first
  pub first : List ℕ
  pub turns : List Turn
  pub answerable : Answerable turns
  pub receiver : (replayed (start first) turns).receiver ≡ r
  pub left : (replayed (start first) turns).carry ≡ carry
  pub bytes : bytes_of (replayed (start first) turns).history ≡ bs

-- a piece was taken: where the run is well, that was a replay of all of it, after whatever was replayed before
abbrev pub Takes : (piece reply : List ℕ) → Receiver → (carry : List ℕ) → Run → Receiver → (carry : List ℕ) → Type 0
Takes piece reply r carry run r' carry' =
    is_well run ≡ true → reply_room ≤ length reply → (bs : List ℕ) → ReplayOf bs r carry → ReplayOf (bs ++ piece) r' carry'
