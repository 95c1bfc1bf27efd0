-- A name that the rule admits is of bytes: no range of UTF-8's table ends past F4.
use Prim.Native.Nat.{ℕ, ◌≤◌}
use mathlib.Core.Path.{◌≡◌, refl, sym}
use mathlib.Core.Bool.{Bool, true, false, cond, ◌&&◌}
use mathlib.Core.List.{List, [], ◌∷◌}
use native.Mathlib.Omega.{arith}
use lib.ListN.{length}
use lib.Dec.{leb}
use borrow.Author.Tests.{leb-true, lt-ltb}
use Rattle.std.specs.Prelude.{Option, Some, None}
use Rattle.std.proofs.lemmas.Option.{same_Some}
use Rattle.octets.specs.Members.{every}
use Rattle.octets.proofs.Below.{both_test}
use Rattle.pathname.specs.Utf8.{Range, Row, rows, inside, followers_in, begun, sequences, utf8}
use Rattle.pathname.specs.Name.{name_limit, valid_name}
use Rattle.command.specs.Letters.{is_byte}
use Rattle.command.proofs.Every.{every_cons}
use Rattle.protocol.proofs.Laws.{no_way}

abbrev is_low : Range → Bool
is_low r = leb r.high 0xFF

abbrev is_low_row : Row → Bool
is_low_row r = is_low r.first && every is_low r.rest

-- a number in such a range
low_byte : (r : Range) (b : ℕ) → is_low r ≡ true → inside r b ≡ true → is_byte b ≡ true
low_byte r b l e =
    let high : r.high ≤ 0xFF = leb-true r.high 0xFF l in
    let under : b ≤ r.high = leb-true b r.high (both_test (leb r.low b) (leb b r.high) e).1 in
    lt-ltb b 256 (omega arith)

-- a first byte, and what must follow it
first_byte : (rs : List Row) → every is_low_row rs ≡ true → (b : ℕ) (x : List Range) → followers_in rs b ≡ Some x
    → (is_byte b ≡ true) × (every is_low x ≡ true)
unfolding followers_in
first_byte [] l b x e = let z : ◌≡◌ {A = ℕ} 0 1 = cc in absurd (omega arith)
first_byte (r ∷ rs) l b x e = go (inside r.first b) refl e (first_byte rs (every_cons is_low_row r rs l).1 b x)
  where
    low : (is_low_row r ≡ true) × (every is_low_row rs ≡ true)
    low = every_cons is_low_row r rs l

    go : (t : Bool) → inside r.first b ≡ t → cond t (Some r.rest) (followers_in rs b) ≡ Some x
        → (followers_in rs b ≡ Some x → (is_byte b ≡ true) × (every is_low x ≡ true)) → (is_byte b ≡ true) × (every is_low x ≡ true)
    go true q f more =
        let h = both_test (is_low r.first) _ low.0 in
        (low_byte r.first b h.0 q, rw (← same_Some _ _ f) h.1)
    go false q f more = more f

sequences-bytes : (rs : List Range) (s : List ℕ) → every is_low rs ≡ true → sequences rs s ≡ true → every is_byte s ≡ true
unfolding sequences every
sequences-bytes [] [] l e = refl
sequences-bytes (r ∷ rs) [] l e = refl
sequences-bytes [] (b ∷ s) l e = go (followers_in rows b) refl e (λ rs h f. sequences-bytes rs s h f)
  where
    low : every is_low_row rows ≡ true
    low = refl

    go : (o : Option (List Range)) → followers_in rows b ≡ o → begun o (λ rs. sequences rs s) ≡ true
        → ((rs : List Range) → every is_low rs ≡ true → sequences rs s ≡ true → every is_byte s ≡ true) → every is_byte (b ∷ s) ≡ true
    go None q f more = no_way (sym f)
    go (Some rs) q f more = let h = first_byte rows low b rs q in rw h.0 (more rs h.1 f)
sequences-bytes (r ∷ rs) (b ∷ s) l e =
    let c = every_cons is_low r rs l in
    let h = both_test (inside r b) _ e in
    rw (low_byte r b c.0 h.0) (sequences-bytes rs s c.1 h.1)

pub name-bytes : (n : List ℕ) → valid_name n ≡ true → every is_byte n ≡ true
unfolding valid_name every
name-bytes n e =
    let some = (both_test (leb 1 (length n)) _ e).1 in
    let short = (both_test (leb (length n) name_limit) _ some).1 in
    sequences-bytes [] n refl (both_test (utf8 n) _ short).0
