-- Components, as the library's `split` gives them and its `all` tests them.
use Rattle.std.specs.Prelude.{ℕ, ◌≡◌, ◌==◌, List}
use Rattle.std.proofs.Common.{◌∙◌, ap}
use Rattle.std.specs.List.{slice_split, list_all}
use Rattle.octets.specs.Split.{split}
use Rattle.octets.proofs.Everys.{every-all}
use Rattle.octets.proofs.Splits.{split_is}
use Rattle.pathname.specs.Name.{valid_component, valid_components}

pub components : (n : List ℕ) → list_all valid_component (slice_split (λ b. b == 47) n) ≡ valid_components n
unfolding valid_components
components n = ap (list_all valid_component) (split_is 47 n) ∙ every-all valid_component (split 47 n)
