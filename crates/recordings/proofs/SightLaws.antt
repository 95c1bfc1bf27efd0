-- What the code sees next is what the pieces say.
use Prim.Native.Nat.{ℕ, ◌+◌, ◌-◌, ◌<◌, ◌≤◌}
use mathlib.Core.Path.{◌≡◌, refl, ap, sym, ◌∙◌}
use mathlib.Core.Bool.{Bool, true, false, cond}
use mathlib.Core.List.{List, [], ◌∷◌, ◌++◌, append_assoc, append-nil}
use native.Mathlib.Omega.{arith}
use mathlib.Core.Logic.{◌⊎◌, inl, inr}
use native.Mathlib.Decide.{dec_lt}
use lib.ListN.{length, get_or, take, drop, length-append}
use lib.Seq.{take_at, drop-length}
use lib.Dec.{leb, eqb}
use borrow.Author.Tests.{leb-true, leb-false, eqb-true, eqb-false}
use Rattle.octets.proofs.Lists.{drop_at, drop-end, part-rest}
use Rattle.frames.specs.Stream.{Mode, is_command, framed}
use Rattle.command.specs.Meaning.{Meaning, meaning_of}
use Rattle.recordings.specs.Pieces.{Piece, opened, by_meaning, closed_piece, abandoned_piece, cut, outside_first, joined, pieces_after}
use Rattle.recordings.specs.Walk.{next_escape, Seen, meant, closed_of, abandoned_of, text_at, escape_at}
use Rattle.recordings.proofs.Escapes.{Next, next-escape}
use Rattle.recordings.proofs.Runs.{run-outside, cut-closed, cut-abandoned, escape-on}
use Rattle.recordings.proofs.Runs.{plain_end, escape_end, open-end, open-escape-end}

-- the bytes from a place up to another
abbrev pub between : List ℕ → ℕ → ℕ → List ℕ
between xs from to = take (to - from) (drop from xs)

-- a sight at a place is right: it goes on, and the pieces from that place on are what it says and those from where it ends
abbrev pub Sees : List ℕ → ℕ → Seen → Type 0
Sees xs at (Seen.outside to) =
    (at < to) × (to ≤ length xs)
    × ((p : List ℕ) → pieces_after p (drop at xs) ≡ pieces_after (p ++ between xs at to) (drop to xs))
Sees xs at (Seen.keeps start end) =
    (at ≤ start) × (start < end) × (end ≤ length xs)
    × ((p : List ℕ) → pieces_after p (drop at xs)
    ≡ outside_first (p ++ between xs at start) (Piece.kept (between xs start end) ∷ pieces_after [] (drop end xs)))
Sees xs at (Seen.refuses start end n) =
    (at ≤ start) × (start < end) × (end ≤ length xs)
    × ((p : List ℕ) → pieces_after p (drop at xs)
    ≡ outside_first (p ++ between xs at start) (Piece.refused n (between xs start end) ∷ pieces_after [] (drop end xs)))

-- ---- a piece f that starts at the next 1B, at place i, and ends at place e
module _ (xs : List ℕ) (at i e : ℕ) (f : List ℕ) (n : Next xs at i) (s : i < e) (w : e ≤ length xs) (d : drop i xs ≡ f ++ drop e xs)
    (l : length f ≡ e - i) where
  abbrev Base : Piece → Type 0
  Base piece = (q : List ℕ) → pieces_after q (drop i xs) ≡ joined q (piece ∷ cut Mode.outside (drop e xs))

  base-at : (piece : Piece) → Base piece → (p : List ℕ)
      → pieces_after p (drop at xs) ≡ joined (p ++ between xs at i) (piece ∷ cut Mode.outside (drop e xs))
  base-at piece b p = ap (pieces_after p) n.parts ∙ run-outside (between xs at i) p (drop i xs) n.before ∙ b (p ++ between xs at i)

  here : between xs i e ≡ f
  here = ap (take (e - i)) d ∙ take_at f (drop e xs) (e - i) l

  whole : between xs at e ≡ between xs at i ++ f
  whole =
      ap (take (e - at)) (n.parts ∙ ap (λ (x : List ℕ). between xs at i ++ x) d ∙ sym (append_assoc (between xs at i) f (drop e xs)))
      ∙ take_at (between xs at i ++ f) (drop e xs) (e - at) (omega (arith, length-append (between xs at i) f, n.size, n.from))

  pub sees-outside : Base (Piece.outside f) → Sees xs at (Seen.outside e)
  unfolding joined
  sees-outside b = (
    omega (arith, n.from),
    w,
    λ p. base-at (Piece.outside f) b p
        ∙ ap (λ (q : List ℕ). pieces_after q (drop e xs)) (append_assoc p (between xs at i) f ∙ ap (λ (x : List ℕ). p ++ x) (sym whole)),
  )

  pub sees-kept : Base (Piece.kept f) → Sees xs at (Seen.keeps i e)
  unfolding joined
  sees-kept b = (n.from, s, w, λ p. rw here (base-at (Piece.kept f) b p))

  pub sees-refused : (k : ℕ) → Base (Piece.refused k f) → Sees xs at (Seen.refuses i e k)
  unfolding joined
  sees-refused k b = (n.from, s, w, λ p. rw here (base-at (Piece.refused k f) b p))

-- ---- nothing more ends
-- all that is left is outside
abbrev Ends : List ℕ → Type 0
Ends ys = (q : List ℕ) → pieces_after q ys ≡ outside_first (q ++ ys) []

sees-end : (xs : List ℕ) (at i : ℕ) → at < length xs → Next xs at i → Ends (drop i xs) → Sees xs at (Seen.outside (length xs))
unfolding cut joined
sees-end xs at i h n e = (
  h,
  omega arith,
  λ p. ap (pieces_after p) n.parts
      ∙ run-outside (between xs at i) p (drop i xs) n.before
      ∙ e (p ++ between xs at i)
      ∙ ap (λ (x : List ℕ). outside_first x []) (append_assoc p (between xs at i) (drop i xs) ∙ ap (λ (x : List ℕ). p ++ x) (sym n.parts))
      ∙ sym (rw (part-rest xs at, drop-length xs, append-nil)),
)

-- from the next 1B on, where no byte follows it
tail : (xs : List ℕ) (at i : ℕ) → Next xs at i → length xs < i + 2 → (drop i xs ≡ []) ⊎ (drop i xs ≡ 0x1B ∷ [])
tail xs at i n h = by (dec_lt i (length xs))
  where
    by : Dec (i < length xs) → (drop i xs ≡ []) ⊎ (drop i xs ≡ 0x1B ∷ [])
    by (yes l) = inr (n.there l ∙ ap (λ (r : List ℕ). 0x1B ∷ r) (drop-end xs (i + 1) (omega arith)))
    by (no l) = inl (drop-end xs i (omega arith))

-- where one does
two : (xs : List ℕ) (at i : ℕ) → Next xs at i → i + 2 ≤ length xs → drop i xs ≡ 0x1B ∷ get_or xs (i + 1) 0 ∷ drop (i + 2) xs
two xs at i n h =
    let e : i + 1 + 1 ≡ i + 2 = omega arith in
    n.there (omega arith) ∙ ap (λ (r : List ℕ). 0x1B ∷ r) (drop_at xs (i + 1) (omega arith) ∙ rw e)

-- ---- a text, whose opener is at place i and whose end is at place j
module _ (xs : List ℕ) (at i j : ℕ) (h : at < length xs) (n : Next xs at i) (o : drop i xs ≡ opened (drop (i + 2) xs))
    (m : Next xs (i + 2) j) where
  abbrev t : List ℕ
  t = between xs (i + 2) j

  opens : (z : List ℕ) → drop j xs ≡ z → drop i xs ≡ opened (t ++ z)
  opens z e = o ∙ ap opened (m.parts ∙ ap (λ (x : List ℕ). t ++ x) e)

  sees-open : length xs < j + 2 → Sees xs at (Seen.outside (length xs))
  sees-open l = sees-end xs at i h n (by (tail xs (i + 2) j m l))
    where
      by : (drop j xs ≡ []) ⊎ (drop j xs ≡ 0x1B ∷ []) → Ends (drop i xs)
      by (inl e) q = rw (opens [] e, append-nil) (open-end q t m.before)
      by (inr e) q = rw (opens (0x1B ∷ []) e) (open-escape-end q t m.before)

  module _ (l : j + 2 ≤ length xs) where
    abbrev c : ℕ
    c = get_or xs (j + 1) 0

    sees-closed : c ≡ 0x5C → Sees xs at (closed_of t i (j + 2))
    unfolding closed_of
    sees-closed e = by (is_command t) refl
      where
        d : drop i xs ≡ framed t ++ drop (j + 2) xs
        d = opens (0x1B ∷ 0x5C ∷ drop (j + 2) xs) (two xs (i + 2) j m l ∙ rw e)
            ∙ ap opened (sym (append_assoc t (0x1B ∷ 0x5C ∷ []) (drop (j + 2) xs)))

        base : (piece : Piece) → closed_piece t ≡ piece → (q : List ℕ)
            → pieces_after q (drop i xs) ≡ joined q (piece ∷ cut Mode.outside (drop (j + 2) xs))
        base piece k q =
            ap (pieces_after q) (opens (0x1B ∷ 0x5C ∷ drop (j + 2) xs) (two xs (i + 2) j m l ∙ rw e))
            ∙ ap (joined q) (cut-closed t (drop (j + 2) xs) m.before ∙ ap (λ (x : Piece). x ∷ cut Mode.outside (drop (j + 2) xs)) k)

        size : length (framed t) ≡ (j + 2) - i
        size = omega (arith, length-append t (0x1B ∷ 0x5C ∷ []), m.size, m.from)

        meaning : (v : Meaning) → closed_piece t ≡ by_meaning v (framed t) → Sees xs at (meant v i (j + 2))
        meaning (Meaning.command vs) k =
            sees-kept xs at i (j + 2) (framed t) n (omega (arith, m.from)) l d size (base (Piece.kept (framed t)) k)
        meaning (Meaning.refused r) k =
            sees-refused xs at i (j + 2) (framed t) n (omega (arith, m.from)) l d size r (base (Piece.refused r (framed t)) k)

        by : (u : Bool) → is_command t ≡ u → Sees xs at (cond u (meant (meaning_of t) i (j + 2)) (Seen.outside (j + 2)))
        by true k = meaning (meaning_of t) (rw k)
        by false k =
            sees-outside xs at i (j + 2) (framed t) n (omega (arith, m.from)) l d size (base (Piece.outside (framed t)) (rw k))

    sees-abandoned : (c ≡ 0x5C → ⊥) → Sees xs at (abandoned_of t i j)
    unfolding abandoned_of
    sees-abandoned e = by (is_command t) refl
      where
        d : drop i xs ≡ opened t ++ drop j xs
        d = opens (drop j xs) refl

        base : (piece : Piece) → abandoned_piece t ≡ piece → (q : List ℕ)
            → pieces_after q (drop i xs) ≡ joined q (piece ∷ cut Mode.outside (drop j xs))
        base piece k q =
            let z = two xs (i + 2) j m l in
            ap (pieces_after q) (opens (0x1B ∷ c ∷ drop (j + 2) xs) z)
            ∙ ap (joined q)
            (cut-abandoned t (drop (j + 2) xs) m.before c e
            ∙ ap (λ (x : Piece). x ∷ cut Mode.outside (0x1B ∷ c ∷ drop (j + 2) xs)) k
            ∙ ap (λ (x : List ℕ). piece ∷ cut Mode.outside x) (sym z))

        size : length (opened t) ≡ j - i
        size = omega (arith, m.size, m.from)

        by : (u : Bool) → is_command t ≡ u → Sees xs at (cond u (Seen.refuses i j 2) (Seen.outside j))
        by true k =
            sees-refused xs at i j (opened t) n (omega (arith, m.from)) m.within d size 2 (base (Piece.refused 2 (opened t)) (rw k))
        by false k =
            sees-outside xs at i j (opened t) n (omega (arith, m.from)) m.within d size (base (Piece.outside (opened t)) (rw k))

    sees-ended : (u : Bool) → eqb c 0x5C ≡ u → Sees xs at (cond u (closed_of t i (j + 2)) (abandoned_of t i j))
    sees-ended true e = sees-closed (eqb-true c 0x5C e)
    sees-ended false e = sees-abandoned (eqb-false c 0x5C e)

  pub sees-text : Sees xs at (text_at xs i j)
  unfolding text_at
  sees-text = by (leb (j + 2) (length xs)) refl
    where
      by : (u : Bool) → leb (j + 2) (length xs) ≡ u
          → Sees xs at (cond u (cond (eqb (get_or xs (j + 1) 0) 0x5C) (closed_of t i (j + 2)) (abandoned_of t i j))
          (Seen.outside (length xs)))
      by true e = sees-ended (leb-true (j + 2) (length xs) e) (eqb (get_or xs (j + 1) 0) 0x5C) refl
      by false e = sees-open (leb-false (j + 2) (length xs) e)

-- ---- from any place inside
module _ (xs : List ℕ) (at i : ℕ) (h : at < length xs) (n : Next xs at i) where
  escape-ends : (drop i xs ≡ []) ⊎ (drop i xs ≡ 0x1B ∷ []) → Ends (drop i xs)
  escape-ends (inl e) q = rw e (plain_end q [] tt)
  escape-ends (inr e) q = rw e (escape_end q)

  sees-lone : i + 2 ≤ length xs → (get_or xs (i + 1) 0 ≡ 0x5D → ⊥) → Sees xs at (Seen.outside (i + 1))
  unfolding joined
  sees-lone l e =
      let b = get_or xs (i + 1) 0 in
      let z = two xs at i n l in
      let d : drop i xs ≡ (0x1B ∷ []) ++ drop (i + 1) xs = n.there (omega arith) in
      let k : b ∷ drop (i + 2) xs ≡ drop (i + 1) xs = ap (drop 1) (sym z ∙ d) in
      sees-outside xs at i (i + 1) (0x1B ∷ []) n (omega arith) (omega arith) d (omega arith)
      (λ q. ap (pieces_after q) z
      ∙ escape-on q b (drop (i + 2) xs) e
      ∙ ap (pieces_after (q ++ 0x1B ∷ [])) k)

  sees-two : i + 2 ≤ length xs → (u : Bool) → eqb (get_or xs (i + 1) 0) 0x5D ≡ u
      → Sees xs at (cond u (text_at xs i (next_escape xs (i + 2))) (Seen.outside (i + 1)))
  sees-two l true e =
      let j = next_escape xs (i + 2) in
      sees-text xs at i j h n (two xs at i n l ∙ rw (eqb-true (get_or xs (i + 1) 0) 0x5D e)) (next-escape xs (i + 2) j l refl)
  sees-two l false e = sees-lone l (eqb-false (get_or xs (i + 1) 0) 0x5D e)

  sees-escape : Sees xs at (escape_at xs i)
  unfolding escape_at
  sees-escape = by (leb (i + 2) (length xs)) refl
    where
      by : (u : Bool) → leb (i + 2) (length xs) ≡ u
          → Sees xs at (cond u (cond (eqb (get_or xs (i + 1) 0) 0x5D) (text_at xs i (next_escape xs (i + 2))) (Seen.outside (i + 1)))
          (Seen.outside (length xs)))
      by true e = sees-two (leb-true (i + 2) (length xs) e) (eqb (get_or xs (i + 1) 0) 0x5D) refl
      by false e = sees-end xs at i h n (escape-ends (tail xs at i n (leb-false (i + 2) (length xs) e)))

pub next-sees : (xs : List ℕ) (at : ℕ) → at < length xs → Sees xs at (escape_at xs (next_escape xs at))
next-sees xs at h = let i = next_escape xs at in sees-escape xs at i h (next-escape xs at i (omega arith) refl)
