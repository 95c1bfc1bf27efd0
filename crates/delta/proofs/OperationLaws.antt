-- An operation read from bytes, and by its place in the delta.
use Prim.Native.Nat.{ℕ, ◌+◌, ◌≤◌}
use mathlib.Core.Path.{◌≡◌, refl, ap, ◌∙◌}
use mathlib.Core.Bool.{Bool, true, false, cond}
use mathlib.Core.List.{List}
use native.Mathlib.Omega.{arith}
use lib.ListN.{length, take, drop, length-drop, length-append}
use lib.Seq.{length-take-le, drop-drop}
use lib.Dec.{leb, eqb}
use borrow.Author.Tests.{leb-true, eqb-true}
use Rattle.std.proofs.lemmas.Bool.{cond_both}
use Rattle.octets.specs.Little.{little}
use Rattle.octets.proofs.Littles.{length-little}
use Rattle.delta.specs.Layout.{Op, laid}
use Rattle.delta.specs.Read.{span, Read, field_in, step, block_in, blocks_in, payload_in, operation_of, placed}
use Rattle.delta.specs.Read.{payload_at}
use Rattle.std.specs.Prelude.{Result, Ok, Err}
use Rattle.delta.specs.declared.Refusal.{Refusal}
use Rattle.delta.specs.declared.Span.{Span}
use Rattle.delta.specs.declared.Step.{Step}
use Rattle.delta.specs.declared.Operation.{Operation}

-- where a payload stands, its operation
abbrev pub payload_step : (Span → Operation) → Result Span Refusal → Result Step Refusal
payload_step o (Ok p) = Ok (step (o p) (p.start + p.len))
payload_step o (Err why) = Err why

payload-placed : (at k : ℕ) (f : List ℕ → Op) (o : Span → Operation) (r : List ℕ)
    → ((bs : List ℕ) (m : ℕ) → placed at (Read.one (f bs) m) ≡ Ok (step (o (span (at + 1 + k) (length bs))) (at + 1 + m)))
    → payload_step o (payload_at at k r) ≡ placed at (payload_in k f r)
unfolding payload_at payload_in
payload-placed at k f o r e = by (leb (k + n) (length r)) refl
  where
    n : ℕ
    n = field_in r 0 k

    by : (u : Bool) → leb (k + n) (length r) ≡ u
        → payload_step o (cond u (Ok (span (at + 1 + k) n)) (Err Refusal.Damaged))
        ≡ placed at (cond u (Read.one (f (take n (drop k r))) (k + n)) Read.damaged)
    by true h =
        let l : length (take n (drop k r)) ≡ n =
        length-take-le n (drop k r) (omega (arith, length-drop k r, leb-true (k + n) (length r) h)) in
        let m : at + 1 + (k + n) ≡ at + 1 + k + n = omega arith in
        rw (e (take n (drop k r)) (k + n), l, m)
    by false h = unfold placed in refl

pub data-placed : (at : ℕ) (r : List ℕ)
    → payload_step (λ p. Operation.Data p) (payload_at at 4 r) ≡ placed at (payload_in 4 (λ bs. Op.bytes bs) r)
unfolding placed
data-placed at r = payload-placed at 4 (λ bs. Op.bytes bs) (λ p. Operation.Data p) r go
  where
    go : (bs : List ℕ) (m : ℕ)
        → placed at (Read.one (Op.bytes bs) m) ≡ Ok (step (Operation.Data (span (at + 1 + 4) (length bs))) (at + 1 + m))
    go bs m = let e : at + 1 + 4 ≡ at + 5 = omega arith in rw e

pub hash-placed : (at : ℕ) (r : List ℕ)
    → payload_step (λ p. Operation.Hash p) (payload_at at 2 r) ≡ placed at (payload_in 2 (λ bs. Op.hash bs) r)
unfolding placed
hash-placed at r = payload-placed at 2 (λ bs. Op.hash bs) (λ p. Operation.Hash p) r go
  where
    go : (bs : List ℕ) (m : ℕ)
        → placed at (Read.one (Op.hash bs) m) ≡ Ok (step (Operation.Hash (span (at + 1 + 2) (length bs))) (at + 1 + m))
    go bs m = let e : at + 1 + 2 ≡ at + 3 = omega arith in rw e

-- the second number of a range
pub range_more : (at : ℕ) (d : List ℕ) → drop 8 (drop (at + 1) d) ≡ drop (at + 9) d
range_more at d = let e : at + 1 + 8 ≡ at + 9 = omega arith in drop-drop 8 (at + 1) d ∙ ap (λ (k : ℕ). drop k d) e

-- ---- what is known of an operation that was read, from its type and the bytes after it
abbrev pub HeldPayload : ℕ → List ℕ → List ℕ → ℕ → Type 0
HeldPayload k r bs m = (m ≡ k + length bs) × (m ≤ length r) × (length bs ≡ field_in r 0 k) × (bs ≡ take (length bs) (drop k r))

abbrev pub Held : ℕ → List ℕ → Read → Type 0
Held t r Read.damaged = Unit {0}
Held t r (Read.one (Op.block i) m) = (t ≡ 0) × (m ≡ 8) × (8 ≤ length r) × (i ≡ field_in r 0 8)
Held t r (Read.one (Op.bytes bs) m) = (t ≡ 1) × HeldPayload 4 r bs m
Held t r (Read.one (Op.hash bs) m) = (t ≡ 2) × HeldPayload 2 r bs m
Held t r (Read.one (Op.blocks i n) m) = (t ≡ 3) × (m ≡ 12) × (12 ≤ length r) × (i ≡ field_in r 0 8) × (n ≡ field_in r 8 4)

payload-held : (k : ℕ) (r : List ℕ) → let n = field_in r 0 k in leb (k + n) (length r) ≡ true → HeldPayload k r (take n (drop k r)) (k + n)
payload-held k r h =
    let n = field_in r 0 k in
    let l : length (take n (drop k r)) ≡ n =
    length-take-le n (drop k r) (omega (arith, length-drop k r, leb-true (k + n) (length r) h)) in
    (rw l, leb-true (k + n) (length r) h, l, rw l)

pub held : (t : ℕ) (r : List ℕ) → Held t r (operation_of t r)
unfolding operation_of block_in blocks_in payload_in
held t r =
    cond_both (eqb t 0) _ _ (Held t r)
    (λ a. cond_both (leb 8 (length r)) _ _ (Held t r) (λ h. (eqb-true t 0 a, refl, leb-true 8 (length r) h, refl)) (λ _. tt))
    (λ _. cond_both (eqb t 1) _ _ (Held t r)
    (λ a. cond_both (leb (4 + field_in r 0 4) (length r)) _ _ (Held t r) (λ h. (eqb-true t 1 a, payload-held 4 r h)) (λ _. tt))
    (λ _. cond_both (eqb t 2) _ _ (Held t r)
    (λ a. cond_both (leb (2 + field_in r 0 2) (length r)) _ _ (Held t r) (λ h. (eqb-true t 2 a, payload-held 2 r h)) (λ _. tt))
    (λ _. cond_both (eqb t 3) _ _ (Held t r)
    (λ a. cond_both (leb 12 (length r)) _ _ (Held t r) (λ h. (eqb-true t 3 a, refl, leb-true 12 (length r) h, refl, refl)) (λ _. tt))
    (λ _. tt))))

-- its type and its operands
pub held-size : (t : ℕ) (r : List ℕ) (o : Op) (m : ℕ) → Held t r (Read.one o m) → length (laid o) ≡ 1 + m
unfolding laid
held-size t r (Op.block i) m h = omega (arith, h.1, length-little 8 i)
held-size t r (Op.bytes bs) m h = omega (arith, h.1.0, length-append (little 4 (length bs)) bs, length-little 4 (length bs))
held-size t r (Op.hash bs) m h = omega (arith, h.1.0, length-append (little 2 (length bs)) bs, length-little 2 (length bs))
held-size t r (Op.blocks i n) m h =
    omega (arith, h.1, length-append (little 8 i) (little 4 n), length-little 8 i, length-little 4 n)
