-- A delta is read as 001 lays it out, and only so.
use Prim.Native.Nat.{ℕ, zero, suc, ◌+◌, ◌^◌, ◌≤◌, ◌<◌}
use mathlib.Core.Path.{◌≡◌, refl, sym, ap, ◌∙◌}
use mathlib.Core.List.{List, [], ◌∷◌, ◌++◌, append_assoc}
use native.Mathlib.Omega.{arith}
use lib.ListN.{length, get_or, take, drop, length-append, length-drop, take-append-drop}
use lib.Seq.{take_at, drop_at, take-add, take-append_seam, length-take-le, get_or-append_seam, drop-append-add}
use borrow.Author.Tests.{le-leb, le-ltb, lt-ltb}
use Rattle.octets.specs.Bytes.{Bytes}
use Rattle.octets.specs.Little.{little, number}
use Rattle.octets.proofs.Littles.{length-little, number-little, little-number, number_lt}
use Rattle.delta.specs.Layout.{Op, laid, laid_all, Fits, AllFit}
use Rattle.delta.specs.Read.{limit, Read, block_in, blocks_in, payload_in, operation_of}
use Rattle.delta.specs.Read.{Delta, after, delta_from, delta_of, placed, step_of}
use Rattle.delta.specs.Laws.{listed, ReadsLaid, LaidReads, told_at, TellsEach}
use Rattle.delta.proofs.OperationLaws.{HeldPayload, Held, held}
use Rattle.delta.proofs.WalkLaws.{skip}
use Rattle.std.specs.Prelude.{Ok}

-- ---- a number at the front
module _ (k n : ℕ) (r : List ℕ) where
  pub take-little : take k (little k n ++ r) ≡ little k n
  take-little = take_at (little k n) r k (length-little k n)

  pub drop-little : drop k (little k n ++ r) ≡ r
  drop-little = drop_at (little k n) r k (length-little k n)

  pub field-little : n < 256 ^ k → number (take k (little k n ++ r)) ≡ n
  field-little h = ap number take-little ∙ number-little k n h

  pub length_front : length (little k n ++ r) ≡ k + length r
  length_front = omega (arith, length-append (little k n) r, length-little k n)

-- ---- laid out, and read
read-on : (t m : ℕ) (ps r : List ℕ) (o : Op) → length ps ≡ m → operation_of t (ps ++ r) ≡ Read.one o m
    → delta_of (t ∷ (ps ++ r)) ≡ Delta.next o (delta_of r)
read-on t m ps r o l e =
    let first : delta_of (t ∷ (ps ++ r)) ≡ Delta.next o (delta_from m (ps ++ r)) = unfold delta_from in rw e in
    first ∙ ap (λ (d : Delta). Delta.next o d) (skip m (ps ++ r) ∙ ap delta_of (drop_at ps r m l))

payload-read : (k : ℕ) (f : List ℕ → Op) (bs r : List ℕ) → length bs < 256 ^ k
    → payload_in k f ((little k (length bs) ++ bs) ++ r) ≡ Read.one (f bs) (k + length bs)
unfolding payload_in
payload-read k f bs r h =
    let n = length bs in
    let l : length (little k n ++ (bs ++ r)) ≡ k + (n + length r) = omega (arith, length_front k n (bs ++ r), length-append bs r) in
    rw (append_assoc (little k n) bs r, field-little k n (bs ++ r) h, le-leb (k + n) (length (little k n ++ (bs ++ r))) (omega arith))
    (rw (drop-little k n (bs ++ r), take-append_seam bs r))

blocks-read : (i n : ℕ) (r : List ℕ) → Fits (Op.blocks i n)
    → blocks_in ((little 8 i ++ little 4 n) ++ r) ≡ Read.one (Op.blocks i n) 12
unfolding blocks_in
blocks-read i n r h =
    let l : length (little 8 i ++ (little 4 n ++ r)) ≡ 12 + length r =
    omega (arith, length_front 8 i (little 4 n ++ r), length_front 4 n r) in
    rw (append_assoc (little 8 i) (little 4 n) r, le-leb 12 (length (little 8 i ++ (little 4 n ++ r))) (omega arith))
    (rw (field-little 8 i (little 4 n ++ r) h.0, drop-little 8 i (little 4 n ++ r), field-little 4 n r h.1))

block_read : (i : ℕ) (r : List ℕ) → Fits (Op.block i) → block_in (little 8 i ++ r) ≡ Read.one (Op.block i) 8
unfolding block_in
block_read i r h = rw (le-leb 8 (length (little 8 i ++ r)) (omega (arith, length_front 8 i r)), field-little 8 i r h)

-- an operation's type, its operands, and how many bytes those are
kind_of : Op → ℕ
kind_of (Op.block i) = 0
kind_of (Op.bytes bs) = 1
kind_of (Op.hash bs) = 2
kind_of (Op.blocks i n) = 3

operands_of : Op → List ℕ
operands_of (Op.block i) = little 8 i
operands_of (Op.bytes bs) = little 4 (length bs) ++ bs
operands_of (Op.hash bs) = little 2 (length bs) ++ bs
operands_of (Op.blocks i n) = little 8 i ++ little 4 n

size_of : Op → ℕ
size_of (Op.block i) = 8
size_of (Op.bytes bs) = 4 + length bs
size_of (Op.hash bs) = 2 + length bs
size_of (Op.blocks i n) = 12

laid-parts : (o : Op) → laid o ≡ kind_of o ∷ operands_of o
unfolding laid kind_of operands_of
laid-parts (Op.block i) = refl
laid-parts (Op.bytes bs) = refl
laid-parts (Op.hash bs) = refl
laid-parts (Op.blocks i n) = refl

operands-size : (o : Op) → length (operands_of o) ≡ size_of o
unfolding operands_of size_of
operands-size (Op.block i) = length-little 8 i
operands-size (Op.bytes bs) = length_front 4 (length bs) bs
operands-size (Op.hash bs) = length_front 2 (length bs) bs
operands-size (Op.blocks i n) = omega (arith, length_front 8 i (little 4 n), length-little 4 n)

operation-read : (o : Op) (r : List ℕ) → Fits o → operation_of (kind_of o) (operands_of o ++ r) ≡ Read.one o (size_of o)
unfolding operation_of kind_of operands_of size_of
operation-read (Op.block i) r h = block_read i r h
operation-read (Op.bytes bs) r h = payload-read 4 (λ bs. Op.bytes bs) bs r h
operation-read (Op.hash bs) r h = payload-read 2 (λ bs. Op.hash bs) bs r h
operation-read (Op.blocks i n) r h = blocks-read i n r h

reads-one : (o : Op) (r : List ℕ) → Fits o → delta_of (laid o ++ r) ≡ Delta.next o (delta_of r)
reads-one o r h =
    rw (laid-parts o) (read-on (kind_of o) (size_of o) (operands_of o) r o (operands-size o) (operation-read o r h))

told-placed : (at : ℕ) (o : Op) → placed at (Read.one o (size_of o)) ≡ Ok (told_at at o)
unfolding placed size_of
told-placed at (Op.block i) = let e : at + 1 + 8 ≡ at + 9 = omega arith in rw e
told-placed at (Op.bytes bs) = let e : at + 1 + (4 + length bs) ≡ at + 5 + length bs = omega arith in rw e
told-placed at (Op.hash bs) = let e : at + 1 + (2 + length bs) ≡ at + 3 + length bs = omega arith in rw e
told-placed at (Op.blocks i n) = let e : at + 1 + 12 ≡ at + 13 = omega arith in rw e

pub tells-each : TellsEach step_of
unfolding step_of
tells-each front back o h l =
    let at = length front in
    let rest = laid o ++ back in
    let d = front ++ rest in
    let k : rest ≡ kind_of o ∷ (operands_of o ++ back) = rw (laid-parts o) in
    let n : at < length d = omega (arith, length-append front rest, ap length k) in
    let t : get_or d at 0 ≡ kind_of o = rw k (get_or-append_seam front (kind_of o) (operands_of o ++ back) 0) in
    let r : drop (at + 1) d ≡ operands_of o ++ back = drop-append-add front rest 1 ∙ ap (drop 1) k in
    rw (le-ltb limit (length d) l, lt-ltb at (length d) n, t, r, operation-read o back h) (told-placed at o)

pub reads-laid : ReadsLaid delta_of
unfolding laid_all
reads-laid [] h = unfold delta_from in refl
reads-laid (o ∷ os) h = reads-one o (laid_all os) h.0 ∙ ap (λ (d : Delta). Delta.next o d) (reads-laid os h.1)

-- ---- read, and laid out
pub bytes_take : (k : ℕ) (s : List ℕ) → Bytes s → Bytes (take k s)
bytes_take zero s h = tt
bytes_take (suc k) [] h = tt
bytes_take (suc k) (b ∷ s) h = (h.0, bytes_take k s h.1)

pub bytes_drop : (k : ℕ) (s : List ℕ) → Bytes s → Bytes (drop k s)
bytes_drop zero s h = h
bytes_drop (suc k) [] h = tt
bytes_drop (suc k) (b ∷ s) h = bytes_drop k s h.1

-- the bytes of a field are those of its number
module _ (k : ℕ) (s : List ℕ) (h : k ≤ length s) (b : Bytes s) where
  pub field-laid : little k (number (take k s)) ≡ take k s
  field-laid =
      ap (λ (n : ℕ). little n (number (take k s))) (sym (length-take-le k s h)) ∙ little-number (take k s) (bytes_take k s b)

  pub field_lt : number (take k s) < 256 ^ k
  field_lt = rw (length-take-le k s h) at (number_lt (take k s) (bytes_take k s b))

payload-laid : (k : ℕ) (r bs : List ℕ) (m : ℕ) → Bytes r → HeldPayload k r bs m → (little k (length bs) ++ bs) ++ drop m r ≡ r
payload-laid k r bs m b h =
    let n : little k (length bs) ≡ take k r = rw h.2 (field-laid k r (omega (arith, h.0, h.1)) b) in
    rw (n, h.0) (ap (λ (x : List ℕ). (take k r ++ x) ++ drop (k + length bs) r) h.3
    ∙ ap (λ (x : List ℕ). x ++ drop (k + length bs) r) (sym (take-add k (length bs) r)) ∙ take-append-drop (k + length bs) r)

held-laid : (t : ℕ) (r : List ℕ) (o : Op) (m : ℕ) → Bytes r → Held t r (Read.one o m) → (laid o ++ drop m r ≡ t ∷ r) × Fits o
unfolding laid
held-laid t r (Op.block i) m b h = (
  rw (h.0, h.1, h.3, field-laid 8 r h.2 b) (ap (λ (x : List ℕ). 0 ∷ x) (take-append-drop 8 r)),
  rw h.3 (field_lt 8 r h.2 b),
)
held-laid t r (Op.bytes bs) m b h = (
  rw h.0 (ap (λ (x : List ℕ). 1 ∷ x) (payload-laid 4 r bs m b h.1)),
  rw h.1.2 (field_lt 4 r (omega (arith, h.1.0, h.1.1)) b),
)
held-laid t r (Op.hash bs) m b h = (
  rw h.0 (ap (λ (x : List ℕ). 2 ∷ x) (payload-laid 2 r bs m b h.1)),
  rw h.1.2 (field_lt 2 r (omega (arith, h.1.0, h.1.1)) b),
)
held-laid t r (Op.blocks i n) m b h =
    let k : 4 ≤ length (drop 8 r) = omega (arith, length-drop 8 r, h.2) in
    let c = bytes_drop 8 r b in (
      rw (h.0, h.1, h.3, h.4, field-laid 8 r (omega (arith, h.2)) b, field-laid 4 (drop 8 r) k c)
          (ap (λ (x : List ℕ). 3 ∷ (x ++ drop 12 r)) (sym (take-add 8 4 r)) ∙ ap (λ (x : List ℕ). 3 ∷ x) (take-append-drop 12 r)),
      (rw h.3 (field_lt 8 r (omega (arith, h.2)) b), rw h.4 (field_lt 4 (drop 8 r) k c)),
    )

-- the operations after k bytes
laid_from : (k : ℕ) (d : List ℕ) (os : List Op) → Bytes d → delta_from k d ≡ listed os → (laid_all os ≡ drop k d) × AllFit os
unfolding delta_from laid_all
laid_from zero [] [] b e = (refl, tt)
laid_from zero [] (o ∷ os) b e = let z : ◌≡◌ {A = ℕ} 0 1 = cc in absurd (omega arith)
laid_from (suc k) [] [] b e = (refl, tt)
laid_from (suc k) [] (o ∷ os) b e = let z : ◌≡◌ {A = ℕ} 0 1 = cc in absurd (omega arith)
laid_from (suc k) (t ∷ r) os b e = laid_from k r os b.1 e
laid_from zero (t ∷ r) os b e = go os (operation_of t r) (held t r) e (λ m ps q. laid_from m r ps b.1 q)
  where
    go : (os : List Op) (x : Read) → Held t r x → after x (λ k. delta_from k r) ≡ listed os
        → ((m : ℕ) (ps : List Op) → delta_from m r ≡ listed ps → (laid_all ps ≡ drop m r) × AllFit ps) → (laid_all os ≡ t ∷ r) × AllFit os
    go [] Read.damaged h q ih = let z : ◌≡◌ {A = ℕ} 0 1 = cc in absurd (omega arith)
    go (o ∷ os) Read.damaged h q ih = let z : ◌≡◌ {A = ℕ} 0 1 = cc in absurd (omega arith)
    go [] (Read.one o m) h q ih = let z : ◌≡◌ {A = ℕ} 0 1 = cc in absurd (omega arith)
    go (p ∷ ps) (Read.one o m) h q ih =
        let same : o ≡ p = cc in
        let rest = ih m ps (cc) in
        let l = held-laid t r o m b.1 h in
        (rw (← same, rest.0) l.0, (rw same at l.1, rest.1))

pub laid-reads : LaidReads delta_of
laid-reads d os b e = laid_from 0 d os b e
