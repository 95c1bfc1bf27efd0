-- Rows at a place: what is left of the happenings from there on, and what the definitions make of it.
use Prim.Native.Nat.{ℕ, zero, suc, ◌+◌, ◌-◌, ◌*◌, ◌≤◌, ◌<◌}
use mathlib.Core.Path.{◌≡◌, refl, ap, sym, ◌∙◌}
use mathlib.Core.Bool.{Bool, true, false, cond}
use mathlib.Core.List.{List, [], ◌∷◌, ◌++◌}
use native.Mathlib.Omega.{arith}
use native.Mathlib.Numerals.{towards_suc}
use lib.ListN.{length, get_or, take, drop, length-drop, take-append-drop}
use lib.Seq.{drop-cons, length-take-le}
use lib.Dec.{eqb}
use Rattle.std.specs.Prelude.{Some}
use Rattle.octets.specs.Slices.{part_of}
use Rattle.protocol.specs.Stretches.{Key}
use Rattle.hearing.specs.Hearing.{Place, Happening}
use Rattle.windows.specs.Compare.{same_key, Start, contents_of, starts_of}
use Rattle.windows.specs.Ranks.{count_of, nth}
use borrow.Author.Tests.{eqb-true}
use Rattle.hearing.specs.Rows.{happening_of, happenings_in, Apart, is_start, kind_of}
use Rattle.hearing.specs.declared.row.Kind.{Kind}
use Rattle.windows.specs.Steps.{Side, key_at, place_at, starts_at, starts_from, starts_in, start_at}

-- a place where a row begins, counted from the first
abbrev pub RowPlace : ℕ → Type 0
RowPlace at = (m : ℕ) × (at ≡ m * 7)

-- ---- the kind of a row
pub start_kind : (n : ℕ) → is_start (kind_of n) ≡ true → n ≡ 0 → ⊥
start_kind n e z = let i : ◌≡◌ {A = ℕ} 0 1 = ap (λ (b : Bool). cond b 0 1) (sym (rw z at e)) in absurd (omega arith)

pub part_kind : (n : ℕ) → is_start (kind_of n) ≡ false → n ≡ 0
part_kind n = by (eqb n 0) refl
  where
    by : (t : Bool) → eqb n 0 ≡ t → is_start (cond t Kind.Part Kind.Start) ≡ false → n ≡ 0
    by true k e = eqb-true n 0 k
    by false k e = let i : ◌≡◌ {A = ℕ} 0 1 = ap (λ (b : Bool). cond b 0 1) e in absurd (omega arith)

-- ---- the seven numbers of a row
drop-row : (ns : List ℕ) (at : ℕ) → at + 7 ≤ length ns
    → drop at ns
    ≡ get_or ns at 0 ∷ get_or ns (at + 1) 0 ∷ get_or ns (at + 2) 0 ∷ get_or ns (at + 3) 0 ∷ get_or ns (at + 4) 0 ∷ get_or ns (at + 5) 0
    ∷ get_or ns (at + 6) 0 ∷ drop (at + 7) ns
drop-row ns at h =
    simp towards_suc
    (rw (
      drop-cons ns at 0 (omega arith),
      drop-cons ns (suc at) 0 (omega arith),
      drop-cons ns (suc (suc at)) 0 (omega arith),
      drop-cons ns (suc (suc (suc at))) 0 (omega arith),
      drop-cons ns (suc (suc (suc (suc at)))) 0 (omega arith),
      drop-cons ns (suc (suc (suc (suc (suc at))))) 0 (omega arith),
      drop-cons ns (suc (suc (suc (suc (suc (suc at)))))) 0 (omega arith),
    ))

-- fewer are no row
short : (recording parts ns : List ℕ) → length ns < 7 → happenings_in recording parts ns ≡ []
unfolding happenings_in
short recording parts [] h = refl
short recording parts (k ∷ []) h = refl
short recording parts (k ∷ a ∷ []) h = refl
short recording parts (k ∷ a ∷ b ∷ []) h = refl
short recording parts (k ∷ a ∷ b ∷ c ∷ []) h = refl
short recording parts (k ∷ a ∷ b ∷ c ∷ d ∷ []) h = refl
short recording parts (k ∷ a ∷ b ∷ c ∷ d ∷ p ∷ []) h = refl
short recording parts (k ∷ a ∷ b ∷ c ∷ d ∷ p ∷ n ∷ ns) h = absurd (omega arith)

pub no_row : (recording parts ns : List ℕ) (at : ℕ) → length ns - at < 7 → happenings_in recording parts (drop at ns) ≡ []
no_row recording parts ns at h = short recording parts (drop at ns) (omega (arith, length-drop at ns))

-- ---- one happening more, by its kind
module _ (key : Key) (part : List ℕ) (place : Place) (hs : List Happening) where
  abbrev before : Bool → List Happening
  before t = cond t (Happening.hands key part) (Happening.starts key place) ∷ hs

  abbrev here : Start
  here = record { key = key; place = place; contents = contents_of key hs }

  starts_more : (t : Bool) → starts_of (before t) ≡ cond t (starts_of hs) (here ∷ starts_of hs)
  unfolding starts_of
  starts_more true = refl
  starts_more false = refl

  count-more : (t : Bool) (k : Key)
      → count_of k (starts_of (before t))
      ≡ cond (cond t false (same_key k key)) (suc (count_of k (starts_of hs))) (count_of k (starts_of hs))
  unfolding starts_of count_of
  count-more true k = refl
  count-more false k = refl

  nth-more : (t : Bool) (k : Key) (n : ℕ)
      → nth k n (starts_of (before t))
      ≡ cond (cond t false (same_key k key)) (cond (eqb n 0) (Some here) (nth k (n - 1) (starts_of hs))) (nth k n (starts_of hs))
  unfolding starts_of nth
  nth-more true k n = refl
  nth-more false k n = refl

  contents-more : (t : Bool) (k : Key)
      → contents_of k (before t) ≡ cond (same_key k key) (cond t (part ++ contents_of k hs) []) (contents_of k hs)
  unfolding contents_of
  contents-more true k = refl
  contents-more false k = refl

-- ---- the same of the row at a place
module _ (s : Side) (at : ℕ) (h : at + 7 ≤ length s.numbers) where
  abbrev ns : List ℕ
  ns = s.numbers

  abbrev key : Key
  key = key_at s.recording ns at

  abbrev part : List ℕ
  part = part_of s.parts (get_or ns (at + 5) 0) (get_or ns (at + 6) 0)

  abbrev ahead : ℕ → List Happening
  ahead i = happenings_in s.recording s.parts (drop i ns)

  row_next : ahead at ≡ before key part (place_at ns at) (ahead (at + 7)) (eqb (get_or ns at 0) 0)
  unfolding happenings_in
  row_next = rw (drop-row ns at h)

  pub starts-at : starts_from s at ≡ cond (eqb (get_or ns at 0) 0) (starts_from s (at + 7)) (start_at s at ∷ starts_from s (at + 7))
  starts-at = ap starts_of row_next ∙ starts_more key part (place_at ns at) (ahead (at + 7)) (eqb (get_or ns at 0) 0)

  pub count_at : (k : Key)
      → count_of k (starts_from s at)
      ≡ cond (starts_at s.recording ns at k) (suc (count_of k (starts_from s (at + 7)))) (count_of k (starts_from s (at + 7)))
  count_at k =
      ap (λ (hs : List Happening). count_of k (starts_of hs)) row_next
      ∙ count-more key part (place_at ns at) (ahead (at + 7)) (eqb (get_or ns at 0) 0) k

  pub nth-at : (k : Key) (n : ℕ)
      → nth k n (starts_from s at)
      ≡ cond (starts_at s.recording ns at k) (cond (eqb n 0) (Some (start_at s at)) (nth k (n - 1) (starts_from s (at + 7))))
      (nth k n (starts_from s (at + 7)))
  nth-at k n =
      ap (λ (hs : List Happening). nth k n (starts_of hs)) row_next
      ∙ nth-more key part (place_at ns at) (ahead (at + 7)) (eqb (get_or ns at 0) 0) k n

  pub contents-at : (k : Key)
      → contents_of k (ahead at)
      ≡ cond (same_key k key) (cond (eqb (get_or ns at 0) 0) (part ++ contents_of k (ahead (at + 7))) []) (contents_of k (ahead (at + 7)))
  contents-at k =
      ap (λ (hs : List Happening). contents_of k hs) row_next
      ∙ contents-more key part (place_at ns at) (ahead (at + 7)) (eqb (get_or ns at 0) 0) k

-- ---- rows before a place
happenings-append : (recording parts : List ℕ) (m : ℕ) (xs ys : List ℕ) → length xs ≡ m * 7
    → happenings_in recording parts (xs ++ ys) ≡ happenings_in recording parts xs ++ happenings_in recording parts ys
unfolding happenings_in
happenings-append recording parts zero [] ys e = refl
happenings-append recording parts zero (x ∷ xs) ys e = absurd (omega arith)
happenings-append recording parts (suc m) [] ys e = absurd (omega arith)
happenings-append recording parts (suc m) (k ∷ []) ys e = absurd (omega arith)
happenings-append recording parts (suc m) (k ∷ a ∷ []) ys e = absurd (omega arith)
happenings-append recording parts (suc m) (k ∷ a ∷ b ∷ []) ys e = absurd (omega arith)
happenings-append recording parts (suc m) (k ∷ a ∷ b ∷ c ∷ []) ys e = absurd (omega arith)
happenings-append recording parts (suc m) (k ∷ a ∷ b ∷ c ∷ d ∷ []) ys e = absurd (omega arith)
happenings-append recording parts (suc m) (k ∷ a ∷ b ∷ c ∷ d ∷ p ∷ []) ys e = absurd (omega arith)
happenings-append recording parts (suc m) (k ∷ a ∷ b ∷ c ∷ d ∷ p ∷ n ∷ xs) ys e =
    ap (λ (hs : List Happening). happening_of recording parts k a b c d p n ∷ hs) (happenings-append recording parts m xs ys (omega arith))

suc-first : (t : Bool) (a b : ℕ) → cond t (suc (a + b)) (a + b) ≡ cond t (suc a) a + b
suc-first true a b = omega arith
suc-first false a b = refl

count-append : (k : Key) (hs gs : List Happening)
    → count_of k (starts_of (hs ++ gs)) ≡ count_of k (starts_of hs) + count_of k (starts_of gs)
unfolding count_of starts_of
count-append k [] gs = omega arith
count-append k (Happening.starts j p ∷ hs) gs =
    rw (count-append k hs gs) (suc-first (same_key k j) (count_of k (starts_of hs)) (count_of k (starts_of gs)))
count-append k (Happening.hands j b ∷ hs) gs = count-append k hs gs

-- the starts of a pair before a row and from it on are all of them
pub count-split : (s : Side) (at : ℕ) (k : Key) → RowPlace at → at ≤ length s.numbers
    → count_of k (starts_of (happenings_in s.recording s.parts (take at s.numbers))) + count_of k (starts_from s at)
    ≡ count_of k (starts_in s)
count-split s at k r h =
    let ns = s.numbers in
    let l : length (take at ns) ≡ r.0 * 7 = length-take-le at ns h ∙ r.1 in
    sym (count-append k (happenings_in s.recording s.parts (take at ns)) (happenings_in s.recording s.parts (drop at ns)))
    ∙ ap (λ (hs : List Happening). count_of k (starts_of hs))
    (sym (happenings-append s.recording s.parts r.0 (take at ns) (drop at ns) l))
    ∙ ap (λ (xs : List ℕ). count_of k (starts_of (happenings_in s.recording s.parts xs))) (take-append-drop at ns)

-- ---- parts apart
pub apart-less : (low from to : ℕ) (ns : List ℕ) → low ≤ from → Apart from to ns → Apart low to ns
unfolding Apart
apart-less low from to [] l h = omega arith
apart-less low from to (k ∷ []) l h = omega arith
apart-less low from to (k ∷ a ∷ []) l h = omega arith
apart-less low from to (k ∷ a ∷ b ∷ []) l h = omega arith
apart-less low from to (k ∷ a ∷ b ∷ c ∷ []) l h = omega arith
apart-less low from to (k ∷ a ∷ b ∷ c ∷ d ∷ []) l h = omega arith
apart-less low from to (k ∷ a ∷ b ∷ c ∷ d ∷ p ∷ []) l h = omega arith
apart-less low from to (k ∷ a ∷ b ∷ c ∷ d ∷ p ∷ n ∷ ns) l h = (omega (arith, h.0), h.1)

pub apart-within : (from to : ℕ) (ns : List ℕ) → Apart from to ns → from ≤ to
unfolding Apart
apart-within from to [] h = h
apart-within from to (k ∷ []) h = h
apart-within from to (k ∷ a ∷ []) h = h
apart-within from to (k ∷ a ∷ b ∷ []) h = h
apart-within from to (k ∷ a ∷ b ∷ c ∷ []) h = h
apart-within from to (k ∷ a ∷ b ∷ c ∷ d ∷ []) h = h
apart-within from to (k ∷ a ∷ b ∷ c ∷ d ∷ p ∷ []) h = h
apart-within from to (k ∷ a ∷ b ∷ c ∷ d ∷ p ∷ n ∷ ns) h = omega (arith, h.0, apart-within (p + n) to ns h.1)

-- from a row on
pub apart-at : (from to : ℕ) (ns : List ℕ) (at : ℕ) → at + 7 ≤ length ns → Apart from to (drop at ns)
    → (from ≤ get_or ns (at + 5) 0) × Apart (get_or ns (at + 5) 0 + get_or ns (at + 6) 0) to (drop (at + 7) ns)
unfolding Apart
apart-at from to ns at l h = rw (drop-row ns at l) at h

seven : (m : ℕ) → suc m * 7 ≡ suc (suc (suc (suc (suc (suc (suc (m * 7)))))))
seven m = omega arith

apart-drop : (m from to : ℕ) (ns : List ℕ) → Apart from to ns → Apart from to (drop (m * 7) ns)
unfolding Apart
apart-drop zero from to ns h = h
apart-drop (suc m) from to [] h = rw (seven m) h
apart-drop (suc m) from to (k ∷ []) h = rw (seven m) h
apart-drop (suc m) from to (k ∷ a ∷ []) h = rw (seven m) h
apart-drop (suc m) from to (k ∷ a ∷ b ∷ []) h = rw (seven m) h
apart-drop (suc m) from to (k ∷ a ∷ b ∷ c ∷ []) h = rw (seven m) h
apart-drop (suc m) from to (k ∷ a ∷ b ∷ c ∷ d ∷ []) h = rw (seven m) h
apart-drop (suc m) from to (k ∷ a ∷ b ∷ c ∷ d ∷ p ∷ []) h = rw (seven m) h
apart-drop (suc m) from to (k ∷ a ∷ b ∷ c ∷ d ∷ p ∷ n ∷ ns) h =
    rw (seven m) (apart-drop m from to ns (apart-less from (p + n) to ns (omega (arith, h.0)) h.1))

pub apart_from : (from to : ℕ) (ns : List ℕ) (at : ℕ) → RowPlace at → Apart from to ns → Apart from to (drop at ns)
apart_from from to ns at r h = rw r.1 (apart-drop r.0 from to ns h)
