use mathlib.Core.Path.{◌≡◌}
use native.Mathlib.Omega.{arith}
use lib.ListN.{length}
use Rattle.session_rule.proofs.ArrayLaws.{length_mapped}
use Rattle.sessions.proofs.NumberLaws.{put-outside}
use borrow.Author.Rules.{rules}
use Rattle.sessions.proofs.changes.put_file.Goals as goal

pub returns-else-j-lt-FILES : goal.returns-else-j-lt-FILES
returns-else-j-lt-FILES c =
    let a = c.args in
    let e : length a.session.files ≡ 32 = search (rules, length_mapped) in
    put-outside a.session a.j a.file (omega arith) (search rules) (search rules)
