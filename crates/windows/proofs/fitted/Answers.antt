use Prim.Native.Nat.{◌≤◌, ◌<◌}
use mathlib.Core.Path.{◌≡◌}
use native.Mathlib.Omega.{arith}
use lib.ListN.{length}
use borrow.Author.Tests.{lt-ltb, le-ltb}
use Rattle.windows.specs.Compare.{listed}
use Rattle.windows.specs.Steps.{heard, lines_between, listed_in}
use Rattle.windows.proofs.LineLaws.{listed-length}
use Rattle.windows.proofs.fitted.Goals as goal

pub returns-then-needed-list : goal.returns-then-needed-list
unfolding listed_in
returns-then-needed-list c =
    let s = c.args in
    let first = heard s.first in
    let second = heard s.second in
    let lines = lines_between first second in
    let more : length s.list.now < length (listed lines) =
    omega (arith, listed-length lines, c.list-needed.ensures.1.rows, c.if-needed-list.true) in
    rw (lt-ltb (length s.list.now) (length (listed lines)) more)

pub returns : goal.returns
unfolding listed_in
returns c =
    let s = c.args in
    let first = heard s.first in
    let second = heard s.second in
    let lines = lines_between first second in
    let needed = c.list-needed.ensures.1 in
    let done = c.list.ensures.1 in
    let fits : length (listed lines) ≤ length s.list.now = omega (arith, listed-length lines, needed.rows, c.if-needed-list.false) in
    let n : c.list.result ≡ length lines = omega (arith, done.rows) in
    let e = done.stored (omega (arith, listed-length lines, n, fits)) in
    rw (le-ltb (length s.list.now) (length (listed lines)) fits, n, e)
