use mathlib.Core.Path.{sym, ◌∙◌, ap}
use native.Mathlib.Omega.{arith}
use lib.ListN.{length, length-append}
use Rattle.octets.specs.Ascii.{ascii}
use Rattle.octets.proofs.Compare.{starts-sound}
use Rattle.command_reader.proofs.read.Goals as goal

-- what starts with the mark has its bytes
pub read_fields-requires : goal.read_fields-requires
read_fields-requires c =
    let mark = sym c.starts_with.ensures ∙ c.if-not-starts_with.false in
    omega (arith, simp length-append at (ap length (starts-sound c.args.text.now (ascii "5113;") mark)))
