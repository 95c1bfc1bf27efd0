-- The scratch always has room for a decoded value: three bytes for each four characters of a text of at most 8,192.
use Prim.Native.Nat.{ℕ, ◌+◌, ◌*◌, ◌≤◌}
use mathlib.Core.List.{List}
use native.Mathlib.Omega.{arith}
use lib.ListN.{length, get_or}
use Rattle.std.specs.Prelude.{is_some}
use Rattle.command.specs.Keys.{Kind, keys, kind_at}
use Rattle.command.specs.Values.{Got, value_read}
use Rattle.command.specs.Fields.{Turn}
use Rattle.command.specs.Slots.{free}
use Rattle.command.specs.Read.{Reader, kept_by, kept}
use Rattle.command.proofs.Cases.{by_test}
use Rattle.command.proofs.ReadValues.{Reads, reads, stored-room}

-- after a turn that goes on, at most m quarters of a byte are used
abbrev pub Within : ℕ → Turn Reader → Type 0
Within m (Turn.on s) = 4 * s.used ≤ m
Within m (Turn.off r s) = Unit {0}

module _ (n at : ℕ) (v : List ℕ) (s : Reader) where
  value-within : (k : Kind) (g : Got) → Reads k v g → Within (4 * s.used + 3 * length v) (kept_by k n at s g)
  value-within k (Got.got x) d = omega (arith, stored-room d)
  value-within k (Got.refused r) d = tt

  -- a value kept
  pub known-within : Within (4 * s.used + 3 * length v) (kept n at v s)
  unfolding kept
  known-within =
      by_test (Within (4 * s.used + 3 * length v)) (is_some (get_or s.slots n free))
      (λ e. tt) (λ e. value-within (kind_at keys n) (value_read (kind_at keys n) v) (reads (kind_at keys n) v))
