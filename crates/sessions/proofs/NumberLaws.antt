-- A file record put outside a session, which changes nothing.
use Prim.Native.Nat.{ℕ, ◌≤◌}
use mathlib.Core.Path.{◌≡◌}
use native.Mathlib.Omega.{arith}
use lib.ListN.{length, get_or-eq_default}
use lib.Seq.{set_out}
use Rattle.protocol.specs.Table.{no_file, adjusted, put_file}
use Rattle.protocol.specs.declared.FileRecord.{FileRecord}
use Rattle.protocol.specs.declared.Session.{Session}

abbrev largest : ℕ
largest = 18446744073709551615

-- free room for free room changes nothing
kept_as_it_is : (kept : ℕ) → kept ≤ largest → adjusted kept 0 0 ≡ kept
unfolding adjusted
kept_as_it_is kept h = omega arith

pub put-outside : (s : Session) (j : ℕ) (f : FileRecord) → length s.files ≤ j → s.started ≤ largest → s.done_bytes ≤ largest
    → s ≡ put_file s j f
put-outside s j f h x y =
    rw (set_out s.files j f h, get_or-eq_default s.files no_file {n = j} h)
    (rw (kept_as_it_is s.started x, kept_as_it_is s.done_bytes y))
