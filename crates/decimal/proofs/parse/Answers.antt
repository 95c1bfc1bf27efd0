use Prim.Native.Nat.{ℕ, ◌≤◌}
use mathlib.Core.Path.{◌≡◌, sym, ◌∙◌, ap}
use native.Mathlib.Omega.{arith}
use mathlib.Core.Bool.{Bool, true}
use mathlib.Core.List.{List}
use lib.ListN.{length}
use Rattle.octets.specs.Ascii.{ascii}
use Rattle.octets.specs.Slices.{starts_with}
use Rattle.octets.proofs.Lists.{part-rest}
use Rattle.octets.proofs.Compare.{starts-sound}
use Rattle.decimal.specs.Read.{parse_of}
use Rattle.decimal.proofs.Digits.{fixed-read}
use Rattle.decimal.proofs.RoundTrip.{read-writes}
use Rattle.decimal.proofs.parse.Goals as goal

-- a text that begins with `-` has a first byte
long : (t : List ℕ) (b : Bool) → b ≡ starts_with t (ascii "-") → b ≡ true → 1 ≤ length t
long t b e q = omega (arith, ap length (starts-sound t (ascii "-") (sym e ∙ q)))

pub slice_bounds-magnitude-count : goal.slice_bounds-magnitude-count
slice_bounds-magnitude-count c = omega (arith, long c.args.text.now _ c.starts_with.ensures c.if-starts_with.true)

pub slice_bounds-magnitude-start : goal.slice_bounds-magnitude-start
slice_bounds-magnitude-start c = omega (arith, long c.args.text.now _ c.starts_with.ensures c.if-starts_with.true)

pub returns-then-starts_with : goal.returns-then-starts_with
unfolding parse_of
returns-then-starts_with c = record {
  value = c.magnitude.ensures ∙ rw (part-rest c.args.text.now 1, ← c.starts_with.ensures, c.if-starts_with.true);
  read_writes = (read-writes, fixed-read);
}

pub returns : goal.returns
unfolding parse_of
returns c = record {
  value = c.magnitude-2.ensures ∙ rw (← c.starts_with.ensures, c.if-starts_with.false);
  read_writes = (read-writes, fixed-read);
}
