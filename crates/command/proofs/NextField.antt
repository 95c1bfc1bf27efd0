-- The field of the next key in writing order, read where that key has not stood: the step of both round trips.
use Prim.Native.Nat.{ℕ, suc, ◌<◌}
use mathlib.Core.Path.{◌≡◌, refl, ap}
use mathlib.Core.Bool.{true}
use mathlib.Core.List.{List, [], ◌∷◌, ◌++◌}
use native.Mathlib.Omega.{arith}
use lib.ListN.{length, set, length-append}
use lib.Seq.{append_snoc, set_at, get_or_at, take-append_seam, drop-append-add}
use borrow.Author.Tests.{ne_eqb, lt-ltb, eqb-false, not-true}
use Rattle.octets.specs.Search.{index_of, index_after}
use Rattle.octets.specs.Members.{every}
use Rattle.octets.proofs.Below.{both_test}
use Rattle.command.specs.Keys.{Key, keys}
use Rattle.command.specs.Letters.{key_byte}
use Rattle.command.specs.Values.{Value, value_read}
use Rattle.command.specs.Fields.{field_read}
use Rattle.command.specs.Meaning.{Field, stored, meant}
use Rattle.command.proofs.Every.{every_cons}
use Rattle.command.proofs.Calm.{calm, plain, key-plain}
use Rattle.command.proofs.Table.{Named, key-letters}

-- the first `=` of a field stands after its key
equals-sign : (a v : List ℕ) → every key_byte a ≡ true → index_of 61 (a ++ 61 ∷ v) ≡ length a
unfolding index_of index_after plain
equals-sign [] v e = refl
equals-sign (c ∷ a) v e =
    let h = every_cons key_byte c a e in
    rw (ne_eqb c 61 (eqb-false c 61 (not-true _ (both_test (calm c) _ (key-plain c h.0)).1))) (ap suc (equals-sign a v h.1))

-- a key that has not stood takes its value
pub field_at : (k : Key) (n : ℕ) → Named n k → (us ws : List Field) → length us ≡ n → (at : ℕ) (v : List ℕ)
    → field_read meant at (k.name ++ 61 ∷ v) (us ++ Field.unseen ∷ ws) ≡ stored n (us ++ Field.unseen ∷ ws) (value_read k.kind v)
unfolding field_read
field_at k n h us ws l at v =
    let i : length k.name < length (k.name ++ 61 ∷ v) = omega (arith, length-append k.name (61 ∷ v)) in
    rw (
      equals-sign k.name v (key-letters k.name h.letters),
      lt-ltb (length k.name) (length (k.name ++ 61 ∷ v)) i,
      take-append_seam k.name (61 ∷ v),
      h.letters,
      h.found,
      lt-ltb n (length keys) h.inside,
      drop-append-add k.name (61 ∷ v) 1,
      get_or_at us Field.unseen ws Field.unseen n l,
      h.kinded,
    )

-- the fields so far are then one more
pub set_next : (us ws : List Field) (n : ℕ) → length us ≡ n → (x : Value)
    → set (us ++ Field.unseen ∷ ws) n (Field.seen x) ≡ (us ++ Field.seen x ∷ []) ++ ws
set_next us ws n l x = rw (set_at us Field.unseen ws (Field.seen x) n l, append_snoc us (Field.seen x) ws)

pub length-next : (us : List Field) (f : Field) (n : ℕ) → length us ≡ n → length (us ++ f ∷ []) ≡ suc n
length-next us f n e = omega (arith, length-append us (f ∷ []))
