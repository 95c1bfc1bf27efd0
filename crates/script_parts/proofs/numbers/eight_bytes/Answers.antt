use Rattle.std.proofs.Common.{rules}
use Rattle.script_parts.proofs.NumberLaws.{of_eight}
use Rattle.script_parts.proofs.numbers.eight_bytes.Goals as goal

pub returns : goal.returns
returns c = let e = of_eight c.rest-t.result.now in search rules
