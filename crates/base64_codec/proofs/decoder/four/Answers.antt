use Prim.Native.Nat.{ℕ, ◌≤◌}
use mathlib.Core.Bool.{Bool, true, false, not, ◌&&◌}
use mathlib.Core.Path.{◌≡◌, refl}
use native.Mathlib.Omega.{arith}
use lib.Bits.{bit_or, or_lt, or_add_and, and_le_l, and_le_r}
use lib.Dec.{eqb, ltb}
use borrow.Author.Tests.{lt-ltb, le-ltb, eqb-true, eqb-false}
use Rattle.octets.specs.Members.{every}
use Rattle.base64_codec.proofs.Turns.{four-list}
use Rattle.base64_codec.proofs.decoder.four.Goals as goal

-- neither of two is more than both joined
first-within : (a b : ℕ) → a ≤ bit_or a b
first-within a b = omega (arith, or_add_and a b, and_le_r a b)

second-within : (a b : ℕ) → b ≤ bit_or a b
second-within a b = omega (arith, or_add_and a b, and_le_l a b)

module _ (a b c d : ℕ) (ha : a ≤ 64) (hb : b ≤ 64) (hc : c ≤ 64) (hd : d ≤ 64) where
  abbrev ab : ℕ
  ab = bit_or a b

  abbrev abc : ℕ
  abc = bit_or ab c

  abbrev joined : ℕ
  joined = bit_or abc d

  within : (ab ≤ joined) × (c ≤ joined) × (d ≤ joined)
  within =
      let f = first-within abc d in
      (omega (arith, f, first-within ab c), omega (arith, f, second-within ab c), second-within abc d)

  tested : ltb joined 64 ≡ (not (eqb a 64) && (not (eqb b 64) && (not (eqb c 64) && (not (eqb d 64) && true))))
  tested = go (eqb a 64) refl (eqb b 64) refl (eqb c 64) refl (eqb d 64) refl
    where
      go : (w : Bool) → eqb a 64 ≡ w → (x : Bool) → eqb b 64 ≡ x → (y : Bool) → eqb c 64 ≡ y → (z : Bool) → eqb d 64 ≡ z
          → ltb joined 64 ≡ (not w && (not x && (not y && (not z && true))))
      go true ew x ex y ey z ez = le-ltb joined 64 (omega (arith, eqb-true a 64 ew, first-within a b, within.0))
      go false ew true ex y ey z ez = le-ltb joined 64 (omega (arith, eqb-true b 64 ex, second-within a b, within.0))
      go false ew false ex true ey z ez = le-ltb joined 64 (omega (arith, eqb-true c 64 ey, within.1))
      go false ew false ex false ey true ez = le-ltb joined 64 (omega (arith, eqb-true d 64 ez, within.2))
      go false ew false ex false ey false ez =
          let na = eqb-false a 64 ew in
          let nb = eqb-false b 64 ex in
          let nc = eqb-false c 64 ey in
          let nd = eqb-false d 64 ez in
          let hab = or_lt 6 a b (omega arith) (omega arith) in
          lt-ltb joined 64 (or_lt 6 abc d (or_lt 6 ab c hab (omega arith)) (omega arith))

pub returns : goal.returns
unfolding every
returns c =
    let e1 = c.value.ensures in
    let e2 = c.value-2.ensures in
    let e3 = c.value-3.ensures in
    let e4 = c.value-4.ensures in
    rw (four-list c.args.group.now c.told-group, ← e1.0, ← e2.0, ← e3.0, ← e4.0)
    (tested _ _ _ _ e1.1 e2.1 e3.1 e4.1)
