-- The walk of a piece: a turn of it, the bounds of its count, and what it uses.
use Prim.Native.Nat.{ℕ, suc, ◌+◌, ◌-◌, ◌<◌, ◌≤◌}
use mathlib.Core.Path.{◌≡◌, refl, sym, ◌∙◌}
use mathlib.Core.List.{List, [], ◌∷◌}
use native.Mathlib.Nat.{le_trans}
use native.Mathlib.Omega.{arith}
use lib.ListN.{length, get_or, drop}
use mathlib.Core.Bool.{cond}
use lib.Dec.{ltb, leb, eqb}
use borrow.Author.Tests.{eqb-true, ne_eqb, le-ltb}
use Rattle.octets.specs.Slices.{starts_with}
use Rattle.octets.proofs.Lists.{drop_at}
use Rattle.frames.specs.Stream.{Mode, after_escape}
use Rattle.frames.specs.Framings.{mark_of, may_be, count, framing_of}
use Rattle.frames.specs.Steps.{first_byte, in_mark, in_text, step_of, after, walk_from}
use Rattle.frames.specs.Carry.{reported_at, held_of}
use Rattle.frames.specs.Steps.{framing_after}
use Rattle.frames.specs.declared.Framing.{Framing}
use Rattle.frames.specs.declared.Framing.TheVariants.{Plain, Escape, Text, TextEscape}
use Rattle.frames.specs.declared.Mark.{Mark}
use Rattle.frames.specs.declared.Mark.TheVariants.{Transfer, DragDrop}
use Rattle.frames.specs.declared.step.Event.{Event}
use Rattle.frames.specs.declared.step.Event.TheVariants.{On, Closed, Abandoned}
use Rattle.frames.specs.declared.walk.Walked.{Walked}
use Rattle.frames.specs.declared.carry.Held.{Held}
use Rattle.std.specs.Prelude.{Option, Some, IfSome}
use Rattle.frames.proofs.Choices.{by_cond}

-- the walk from i on is what the event at i makes of the walk from i + 1 on
pub turn : (f : Framing) (i : ℕ) (xs : List ℕ) (r : Event) → i < length xs → r ≡ step_of f (get_or xs i 0)
    → walk_from f i (drop i xs) ≡ after r (i + 1) (λ (g : Framing). walk_from g (i + 1) (drop (i + 1) xs))
unfolding walk_from
turn f i xs r h e = rw (drop_at xs i h, e)

-- a text that closes or is abandoned ends a walk
pub after-end : (r : Event) (i : ℕ) (k : Framing → Walked) → ((g : Framing) → r ≡ On g → ⊥) → after r i k ≡ record { used = i; event = r }
after-end (On g) i k n = absurd (n g refl)
after-end (Closed m) i k n = refl
after-end (Abandoned m g) i k n = refl

-- ---- the count
-- the byte after a 1B leads to one of three framings
pub by-escape : (P : Framing → Type 0) (b : ℕ) → P (Text Transfer 0) → P Escape → P Plain → P (framing_of (after_escape b))
unfolding may_be starts_with
by-escape P b p q r =
    let Q : Mode → Type 0 = λ m. P (framing_of m) in
    by_cond Q (eqb b 0x5D) (λ _. p) (λ _. by_cond Q (eqb b 0x1B) (λ _. q) (λ _. r))

-- a byte of a text leads to one of five
by-mark : (P : Framing → Type 0) (k : Mark) (n b : ℕ) → P Escape → P Plain → P (TextEscape n) → P (Text k (n + 1)) → P (in_mark k n b)
by-mark P k n b e p t g =
    by_cond P (ltb n (length (mark_of k)))
    (λ _. by_cond P (eqb b 0x1B) (λ _. e) (λ _. by_cond P (eqb b (get_or (mark_of k) n 0)) (λ _. g) (λ _. p)))
    (λ _. by_cond P (eqb b 0x1B) (λ _. t) (λ _. g))

pub by-text : (P : Framing → Type 0) (k : Mark) (n b : ℕ) → P Escape → P Plain → P (TextEscape n) → ((j : Mark) → P (Text j (n + 1)))
    → P (in_text k n b)
by-text P k n b e p t g =
    by_cond P (eqb n 0) (λ z. first (eqb-true n 0 z)) (λ _. by-mark P k n b e p t (g k))
  where
    one : n ≡ 0 → (j : Mark) → P (Text j 1)
    one z j = rw z at (g j)

    first : n ≡ 0 → P (first_byte b)
    first z =
        by_cond P (eqb b 0x1B) (λ _. e)
        (λ _. by_cond P (eqb b 0x35) (λ _. one z Transfer) (λ _. by_cond P (eqb b 0x37) (λ _. one z DragDrop) (λ _. p)))

-- past either mark a byte counts, or is the 1B
pub long-text : (k : Mark) (n b : ℕ) → 5 ≤ n → in_text k n b ≡ cond (eqb b 0x1B) (TextEscape n) (Text k (n + 1))
long-text Transfer n b h = rw (ne_eqb n 0 (λ z. omega arith), le-ltb n 5 h)
long-text DragDrop n b h = rw (ne_eqb n 0 (λ z. omega arith), le-ltb n (length (mark_of DragDrop)) (omega arith))

escape-count : (b n : ℕ) → count (framing_of (after_escape b)) ≤ n
escape-count b n = by-escape (λ g. count g ≤ n) b (omega arith) (omega arith) (omega arith)

-- a byte adds at most one to the count
grows : (f : Framing) (b : ℕ) → count (framing_after (step_of f b)) ≤ count f + 1
unfolding step_of
grows Plain b = by_cond (λ (g : Framing). count g ≤ 0 + 1) (eqb b 0x1B) (λ _. omega arith) (λ _. omega arith)
grows Escape b = escape-count b (0 + 1)
grows (Text k n) b = by-text (λ g. count g ≤ n + 1) k n b (omega arith) (omega arith) (omega arith) (λ j. omega arith)
grows (TextEscape n) b =
    by_cond (λ (e : Event). count (framing_after e) ≤ n + 1) (eqb b 0x5C) (λ _. omega arith) (λ _. escape-count b (n + 1))

pub grows-on : (f : Framing) (b : ℕ) (r : Event) (g : Framing) → r ≡ step_of f b → r ≡ On g → count g ≤ count f + 1
grows-on f b r g p q = rw (sym p ∙ q) at (grows f b)

-- ---- the bytes used
after-used : (r : Event) (i n : ℕ) (k : Framing → Walked) → i ≤ n → ((g : Framing) → (k g).used ≤ n) → (after r i k).used ≤ n
after-used (On g) i n k p h = h g
after-used (Closed m) i n k p h = p
after-used (Abandoned m g) i n k p h = p

pub used_le : (f : Framing) (i : ℕ) (xs : List ℕ) → (walk_from f i xs).used ≤ i + length xs
unfolding walk_from
used_le f i [] = omega arith
used_le f i (b ∷ xs) =
    after-used (step_of f b) (i + 1) (i + suc (length xs)) _ (omega arith) (λ g. le_trans (used_le g (i + 1) xs) (omega arith))

-- what is held ends within them
abbrev EndsWithin : ℕ → Option Held → Type 0
EndsWithin u o = IfSome o (λ h. h.end ≤ u)

reported-end : (u n : ℕ) → EndsWithin u (reported_at u n)
reported-end u n = by_cond (EndsWithin u) (leb n (u - 2)) (λ _. tt) (λ _. omega arith)

held-end : (e : Event) (u : ℕ) → EndsWithin u (held_of e u)
unfolding held_of
held-end (On Plain) u = tt
held-end (On Escape) u = tt
held-end (On (Text k n)) u = omega arith
held-end (On (TextEscape n)) u = omega arith
held-end (Closed n) u = reported-end u n
held-end (Abandoned n g) u = reported-end u n

pub held-within : (w : Walked) (f : Framing) (xs : List ℕ) (h : Held) → w ≡ walk_from f 0 xs → Some h ≡ held_of w.event w.used
    → h.end ≤ length xs
held-within w f xs h e q =
    let u : w.used ≤ length xs = rw e (le_trans (used_le f 0 xs) (omega arith)) in
    let k : h.end ≤ w.used = rw (← q) at (held-end w.event w.used) in
    le_trans k u
