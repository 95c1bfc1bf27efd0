-- The table of the code is the alphabet of RFC 4648: one test of all its entries, which the checker computes.
use Prim.Native.Nat.{ℕ, ◌<◌, ◌≤◌}
use mathlib.Core.Path.{◌≡◌, refl}
use mathlib.Core.Bool.{Bool, ◌&&◌}
use lib.ListN.{get_or}
use lib.Dec.{leb, eqb}
use borrow.Author.Tests.{eqb-true, leb-true}
use Rattle.octets.proofs.Below.{both_test, at}
use Rattle.base64_codec.specs.Alphabet.{value_of}
use Rattle.base64_codec.specs.Values.{values, values_from}

tabled : ℕ → Bool
tabled c = eqb (get_or values c 0) (value_of c) && leb (get_or values c 0) 64

pub table-value : (c : ℕ) → c < 256 → (get_or values c 0 ≡ value_of c) × (get_or values c 0 ≤ 64)
unfolding tabled values_from value_of
table-value c h =
    let b = both_test _ _ (at 256 tabled refl c h) in
    (eqb-true _ _ b.0, leb-true _ _ b.1)
