-- A byte below 80 stands alone in UTF-8: it starts no longer sequence, and none goes on with it.
use Prim.Native.Nat.{ℕ, suc, ◌≤◌, ◌<◌}
use mathlib.Core.Path.{◌≡◌, refl}
use mathlib.Core.Bool.{Bool, true, false, cond}
use Rattle.std.specs.Prelude.{Option, Some, None}
use mathlib.Core.List.{List, [], ◌∷◌, ◌++◌}
use native.Mathlib.Omega.{arith}
use lib.Dec.{leb}
use borrow.Author.Tests.{le-leb, lt-leb, leb-true}
use Rattle.std.specs.Str.{IsAscii}
use Rattle.octets.specs.Members.{every}
use Rattle.octets.proofs.Below.{both_test}
use Rattle.pathname.specs.Utf8.{Range, Row, inside, rows, followers_in, begun, sequences, utf8}
use Rattle.pathname.specs.Claims.{CutsCharactersNowhere}

no : {A : Type 0} → false ≡ true → A
no e = cc

-- ---- the bytes that follow are 80 or more
unfoldable high : List Range → Bool
high rs = every (λ r. leb 0x80 r.low) rs

high_row : Row → Bool
high_row r = high r.rest

high_in : (rs : List Row) (x : ℕ) (qs : List Range) → every high_row rs ≡ true → followers_in rs x ≡ Some qs → high qs ≡ true
unfolding every followers_in high_row
high_in [] x qs h e = cc
high_in (r ∷ rs) x qs h e =
    let here = both_test (high_row r) (every high_row rs) h in
    go (inside r.first x) here.0 (λ q. high_in rs x qs here.1 q) e
  where
    go : (t : Bool) → high r.rest ≡ true → (followers_in rs x ≡ Some qs → high qs ≡ true)
        → cond t (Some r.rest) (followers_in rs x) ≡ Some qs → high qs ≡ true
    go true first later q = let same : r.rest ≡ qs = cc in rw (← same) first
    go false first later q = later q

high_after : (x : ℕ) (qs : List Range) → followers_in rows x ≡ Some qs → high qs ≡ true
high_after x qs e = high_in rows x qs (unfold every high_row high in refl) e

-- ---- the byte itself
pub alone : (b : ℕ) → b < 0x80 → followers_in rows b ≡ Some []
unfolding followers_in
alone b h = rw (le-leb 0 b (omega arith), le-leb b 0x7F (omega arith))

-- nothing but such bytes
pub ascii : (s : List ℕ) → IsAscii s → utf8 s ≡ true
unfolding sequences
ascii [] h = refl
ascii (b ∷ s) h = rw (alone b (h 0)) (ascii s (λ i. h (suc i)))

-- ---- a cut where bytes of such ranges are due
cut : (a : List ℕ) (rs : List Range) (b : ℕ) (c : List ℕ) → b < 0x80 → high rs ≡ true → sequences rs (a ++ (b ∷ c)) ≡ true
    → (sequences rs a ≡ true) × (sequences [] c ≡ true)
unfolding sequences high every
cut [] [] b c h g e = (refl, rw (alone b h) at e)
cut [] (r ∷ rs) b c h g e =
    let low : 0x80 ≤ r.low = leb-true _ _ (both_test _ _ g).0 in
    let out : false ≡ true = rw (lt-leb r.low b (omega arith)) at e in
    no out
cut (x ∷ a) [] b c h g e = go (followers_in rows x) refl (λ qs k w. cut a qs b c h k w) e
  where
    Cut : List Range → Type 0
    Cut qs = sequences qs (a ++ (b ∷ c)) ≡ true → (sequences qs a ≡ true) × (sequences [] c ≡ true)

    go : (f : Option (List Range)) → followers_in rows x ≡ f → ((qs : List Range) → high qs ≡ true → Cut qs)
        → begun f (λ qs. sequences qs (a ++ (b ∷ c))) ≡ true → (begun f (λ qs. sequences qs a) ≡ true) × (sequences [] c ≡ true)
    go None q later w = no w
    go (Some qs) q later w = later qs (high_after x qs q) w
cut (x ∷ a) (r ∷ rs) b c h g e =
    let here = both_test (inside r x) (sequences rs (a ++ (b ∷ c))) e in
    let later = cut a rs b c h (both_test (leb 0x80 r.low) (high rs) g).1 here.1 in
    (rw (here.0, later.0), later.1)

pub cuts-nowhere : CutsCharactersNowhere
cuts-nowhere a b c h e = cut a [] b c h (unfold high every in refl) e
