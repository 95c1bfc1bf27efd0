-- What is known of a signature that was read.
use Prim.Native.Nat.{ℕ, ◌+◌, ◌-◌, ◌*◌, ◌/◌, ◌%◌, ◌≤◌, ◌<◌}
use mathlib.Core.Path.{◌≡◌, refl}
use mathlib.Core.Bool.{Bool, true, false, cond}
use mathlib.Core.List.{List}
use native.Mathlib.Omega.{arith}
use lib.ListN.{length}
use lib.Dec.{leb, ltb, eqb}
use borrow.Author.Tests.{ltb-true, ltb-false, leb-true, eqb-true}
use Rattle.octets.proofs.Below.{both_test}
use Rattle.delta.specs.Read.{limit, field_in, plain_in, is_signature, signature_of}
use Rattle.delta.specs.declared.Refusal.{Refusal}
use Rattle.delta.specs.declared.Signature.{Signature}
use Rattle.std.specs.Prelude.{Ok, Err}

pub record IsRead (s : List ℕ) (g : Signature) : Type 0 where
  pub size : g.block_size ≡ field_in s 8 4
  pub some : 0 < g.block_size
  pub whole : length s ≡ 12 + 20 * g.blocks
  pub fits : 12 + 20 * g.blocks ≤ length s
  pub short : length s ≤ limit
  pub plain : plain_in s ≡ true

pub signed-read : (s : List ℕ) {g : Signature} → signature_of s ≡ Ok g → IsRead s g
unfolding signature_of
signed-read s {g} e = by (ltb limit (length s)) refl (is_signature s) refl e
  where
    by : (u : Bool) → ltb limit (length s) ≡ u → (v : Bool) → is_signature s ≡ v
        → cond u (Err Refusal.TooLong)
        (cond v (Ok (record { block_size = field_in s 8 4; blocks = (length s - 12) / 20 })) (Err Refusal.Damaged))
        ≡ Ok g
        → IsRead s g
    by true p v q e = let z : ◌≡◌ {A = ℕ} 0 1 = cc in absurd (omega arith)
    by false p false q e = let z : ◌≡◌ {A = ℕ} 0 1 = cc in absurd (omega arith)
    by false p true q e =
        let size : g.block_size ≡ field_in s 8 4 = cc in
        let blocks : g.blocks ≡ (length s - 12) / 20 = cc in
        let a = both_test (leb 12 (length s)) _ q in
        let b = both_test (eqb ((length s - 12) % 20) 0) _ a.1 in
        let c = both_test (plain_in s) _ b.1 in
        let l = leb-true 12 (length s) a.0 in
        let m = eqb-true ((length s - 12) % 20) 0 b.0 in
        record {
          size = size;
          some = rw size (ltb-true 0 (field_in s 8 4) c.1);
          whole = omega arith;
          fits = omega arith;
          short = ltb-false limit (length s) p;
          plain = c.0;
        }

pub ruleset reading = (signed-read)
