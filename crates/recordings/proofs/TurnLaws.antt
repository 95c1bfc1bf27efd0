-- One turn of the walk, and the whole walk: what is left of the pieces, what was counted, and what was stored.
use Prim.Native.Nat.{ℕ, suc, ◌+◌, ◌-◌, ◌*◌, ◌<◌, ◌≤◌}
use mathlib.Core.Path.{◌≡◌, refl, ap, sym, ◌∙◌}
use mathlib.Core.Bool.{Bool, true, false, cond}
use mathlib.Core.List.{List, [], ◌∷◌, ◌++◌, append-nil}
use native.Mathlib.Omega.{arith}
use native.Mathlib.Nat.{zero-add}
use lib.ListN.{length, drop, length-append, length-drop}
use lib.Seq.{sets, length-sets, length-take-le, drop-drop, take-add}
use lib.Dec.{ltb, leb}
use borrow.Author.Tests.{ltb-true, ltb-false, le-leb}
use Rattle.octets.specs.Outcome.{Outcome, outcome}
use Rattle.octets.specs.Slices.{part_of, copy_at}
use Rattle.std.specs.Prelude.{Option}
use Rattle.octets.proofs.Stores.{sets-append}
use Rattle.octets.proofs.Lists.{drop-end}
use Rattle.frames.proofs.Choices.{by_cond}
use Rattle.recordings.specs.Pieces.{Piece, cut, outside_first, joined, pieces_after, pieces_of, kept_bytes, rows_from, dropped}
use Rattle.recordings.specs.Pieces.{mended_of, list_of}
use Rattle.recordings.specs.Walk.{next_escape, Seen, escape_at, with_row, tallied, outside_to, refused_to, kept_to, Walk, walk}
use Rattle.recordings.specs.Walk.{turn_of, Walked}
use Rattle.recordings.specs.declared.walk.Tally.{Tally}
use Rattle.recordings.proofs.PieceLaws.{rows-length}
use Rattle.recordings.proofs.SightLaws.{between, Sees, next-sees}

-- what a stretch outside a command does to the counts
pub outside-counts : (t : Tally) (to : ℕ) (list : List ℕ) → let a = (outside_to t to list).answer in
    (a.kept ≡ t.kept) × (a.rows ≤ t.rows + 1)
unfolding outside_to
outside-counts t to list =
    by_cond (λ (o : Outcome Tally). (o.answer.kept ≡ t.kept) × (o.answer.rows ≤ t.rows + 1)) (ltb t.mark to)
    (λ _. (refl, omega arith)) (λ _. (refl, omega arith))

outside-mark : (t : Tally) (to : ℕ) (list : List ℕ) → (outside_to t to list).answer.mark ≡ to
unfolding outside_to
outside-mark t to list = by_cond (λ (o : Outcome Tally). o.answer.mark ≡ to) (ltb t.mark to) (λ _. refl) (λ _. refl)

-- ---- parts of a recording
between-length : (xs : List ℕ) (from to : ℕ) → to ≤ length xs → length (between xs from to) ≡ to - from
between-length xs from to h = length-take-le (to - from) (drop from xs) (omega (arith, length-drop from xs))

between_join : (xs : List ℕ) (a b c : ℕ) → a ≤ b → b ≤ c → between xs a b ++ between xs b c ≡ between xs a c
between_join xs a b c h k =
    let n : c - a ≡ (b - a) + (c - b) = omega arith in
    let m : a + (b - a) ≡ b = omega arith in
    sym (rw (n, take-add (b - a) (c - b) (drop a xs), drop-drop (b - a) a xs, m))

-- ---- stores
row_put : (list : List ℕ) (row a b c : ℕ) (r : List ℕ) → row * 3 + 3 ≤ length list
    → sets (with_row list row a b c) ((row + 1) * 3) r ≡ sets list (row * 3) (a ∷ b ∷ c ∷ r)
unfolding with_row
row_put list row a b c r h =
    let n : (row + 1) * 3 ≡ row * 3 + 3 = omega arith in
    rw (le-leb (row * 3 + 3) (length list) h, n) (sets-append (a ∷ b ∷ c ∷ []) r list (row * 3))

row-size : (list : List ℕ) (row a b c : ℕ) → length (with_row list row a b c) ≡ length list
unfolding with_row
row-size list row a b c =
    by_cond (λ (l : List ℕ). length l ≡ length list) (leb (row * 3 + 3) (length list))
    (λ _. length-sets list (row * 3) (a ∷ b ∷ c ∷ [])) (λ _. refl)

bytes-put : (f out : List ℕ) (at : ℕ) → at + length f ≤ length out → (copy_at f out at).buffer ≡ sets out at f
unfolding copy_at
bytes-put f out at h = rw (le-leb (at + length f) (length out) h)

bytes-size : (f out : List ℕ) (at : ℕ) → length (copy_at f out at).buffer ≡ length out
unfolding copy_at
bytes-size f out at =
    by_cond (λ (o : Outcome (Option ℕ)). length o.buffer ≡ length out) (leb (at + length f) (length out))
    (λ _. length-sets out at f) (λ _. refl)

module _ (xs out₀ list₀ : List ℕ) where
  -- pieces are left from a place on: what was counted before them, and what is stored once they are
  pub record Left (mark kept rows : ℕ) (out list : List ℕ) (ps : List Piece) : Type 0 where
    pub few_kept : kept ≤ mark
    pub few_rows : rows ≤ mark
    pub output_size : length out ≡ length out₀
    pub list_size : length list ≡ length list₀
    pub all_kept : kept + length (kept_bytes ps) ≡ length (mended_of xs)
    pub all_rows : rows + dropped ps ≡ dropped (pieces_of xs)
    pub stored : length (mended_of xs) ≤ length out₀ → sets out kept (kept_bytes ps) ≡ sets out₀ 0 (mended_of xs)
    pub listed : length (list_of xs) ≤ length list₀ → sets list (rows * 3) (rows_from mark ps) ≡ sets list₀ 0 (list_of xs)

  module _ (mark kept rows : ℕ) (out list : List ℕ) where
    -- past a piece with a row
    past_row : (piece : Piece) (ps : List Piece) (len why : ℕ) → 0 < len → dropped (piece ∷ ps) ≡ suc (dropped ps)
        → kept_bytes (piece ∷ ps) ≡ kept_bytes ps → rows_from mark (piece ∷ ps) ≡ mark ∷ len ∷ why ∷ rows_from (mark + len) ps
        → Left mark kept rows out list (piece ∷ ps)
        → Left (mark + len) kept (rows + 1) out (with_row list rows mark len why) ps
    past_row piece ps len why some d k r s =
        record {
          few_kept = omega arith;
          few_rows = omega arith;
          output_size = s.output_size;
          list_size = row-size list rows mark len why ∙ s.list_size;
          all_kept = rw k at s.all_kept;
          all_rows = omega arith;
          stored = rw k at s.stored;
          listed = λ h. row_put list rows mark len why (rows_from (mark + len) ps) (fits h) ∙ (rw r at s.listed) h;
        }
      where
        fits : length (list_of xs) ≤ length list₀ → rows * 3 + 3 ≤ length list
        fits h = omega (arith, rows-length 0 (pieces_of xs))

    past-kept : (f : List ℕ) (ps : List Piece) → Left mark kept rows out list (Piece.kept f ∷ ps)
        → Left (mark + length f) (kept + length f) rows (copy_at f out kept).buffer list ps
    unfolding kept_bytes dropped rows_from
    past-kept f ps s =
        record {
          few_kept = omega arith;
          few_rows = omega arith;
          output_size = bytes-size f out kept ∙ s.output_size;
          list_size = s.list_size;
          all_kept = omega (arith, length-append f (kept_bytes ps), s.all_kept);
          all_rows = s.all_rows;
          stored = λ h. rw (bytes-put f out kept (fits h)) (sets-append f (kept_bytes ps) out kept ∙ s.stored h);
          listed = s.listed;
        }
      where
        fits : length (mended_of xs) ≤ length out₀ → kept + length f ≤ length out
        fits h = omega (arith, length-append f (kept_bytes ps), s.all_kept)

  -- ---- the same of the definitions' moves, which go from the mark to a place
  first_some : (bs : List ℕ) (ps : List Piece) → 0 < length bs → outside_first bs ps ≡ Piece.outside bs ∷ ps
  first_some [] ps h = absurd (omega arith)
  first_some (b ∷ bs) ps h = refl

  abbrev Ahead : Tally → List ℕ → List ℕ → List Piece → Type 0
  Ahead t out list ps = Left t.mark t.kept t.rows out list ps

  module _ (t : Tally) (to : ℕ) (out list : List ℕ) (ps : List Piece) (h : t.mark ≤ to) (k : to ≤ length xs) where
    abbrev part : List ℕ
    part = between xs t.mark to

    size : length part ≡ to - t.mark
    size = between-length xs t.mark to k

    ended : t.mark + (to - t.mark) ≡ to
    ended = omega arith

    outside-left : Ahead t out list (outside_first part ps) → let o = outside_to t to list in Ahead o.answer out o.buffer ps
    unfolding outside_to dropped kept_bytes rows_from
    outside-left s = by (ltb t.mark to) refl
      where
        by : (u : Bool) → ltb t.mark to ≡ u
            → let o = cond u (outcome (tallied to t.kept (t.rows + 1)) (with_row list t.rows t.mark (to - t.mark) 0))
            (outcome (tallied to t.kept t.rows) list) in Ahead o.answer out o.buffer ps
        by true e =
            let l = ltb-true t.mark to e in
            let some : 0 < length part = omega (arith, size) in
            rw (size, ended) at
            (past_row t.mark t.kept t.rows out list (Piece.outside part) ps (length part) 0 some refl refl refl
            (rw (first_some part ps some) at s))
        by false e =
            let l = ltb-false t.mark to e in
            let z : to - t.mark ≡ 0 = omega arith in
            let q : t.mark ≡ to = omega arith in
            rw (z, q) at s

    kept-left : (f : List ℕ) → f ≡ part → Ahead t out list (Piece.kept f ∷ ps)
        → let o = kept_to t to xs out in Ahead o.answer o.buffer list ps
    unfolding kept_to part_of
    kept-left f e s =
        let n : t.mark + (to - t.mark) ≤ length xs = omega arith in
        rw (le-leb (t.mark + (to - t.mark)) (length xs) n, ← e)
        (rw (ap (λ (x : ℕ). t.mark + x) (ap length e ∙ size) ∙ ended) at (past-kept t.mark t.kept t.rows out list f ps s))

    refused-left : (n : ℕ) (bs : List ℕ) → bs ≡ part → t.mark < to → Ahead t out list (Piece.refused n bs ∷ ps)
        → let o = refused_to t to n list in Ahead o.answer out o.buffer ps
    unfolding refused_to dropped kept_bytes rows_from
    refused-left n bs e l s =
        let m : length bs ≡ to - t.mark = ap length e ∙ size in
        rw (m, ended) at
        (past_row t.mark t.kept t.rows out list (Piece.refused n bs) ps (length bs) n (omega arith) refl refl refl s)

  -- ---- a walk on its way
  -- the pieces that are left
  abbrev rest : Tally → List Piece
  rest t = pieces_after (between xs t.mark t.at) (drop t.at xs)

  pub record Walking (w : Walk) : Type 0 where
    pub ordered : w.tally.mark ≤ w.tally.at
    pub within : w.tally.at ≤ length xs
    pub left : Ahead w.tally w.output w.list (rest w.tally)

  -- right after a piece
  anew : (t : Tally) (out list : List ℕ) → t.mark ≡ t.at → t.at ≤ length xs → Ahead t out list (pieces_after [] (drop t.at xs))
      → Walking (walk t out list)
  anew t out list e h s =
      let z : t.at - t.mark ≡ 0 = omega arith in
      record { ordered = omega arith; within = h; left = rw z s }

  turn-walks : (t : Tally) (out list : List ℕ) (s : Seen) → Walking (walk t out list) → Sees xs t.at s
      → Walking (turn_of s t xs out list)
  unfolding turn_of kept_to refused_to
  turn-walks t out list (Seen.outside to) w e =
      let q = e.2 (between xs t.mark t.at) in
      record {
        ordered = omega (arith, w.ordered, e.0);
        within = e.1;
        left = rw (q, between_join xs t.mark t.at to w.ordered (omega (arith, e.0))) at w.left;
      }
  turn-walks t out list (Seen.keeps start end) w e =
      let q = e.3 (between xs t.mark t.at) in
      let ps : List Piece = Piece.kept (between xs start end) ∷ pieces_after [] (drop end xs) in
      let s = rw (q, between_join xs t.mark t.at start w.ordered e.0) at w.left in
      let o = outside_to t start list in
      let m = outside-mark t start list in
      let a = outside-left t start out list ps (omega (arith, w.ordered, e.0)) (omega (arith, e.1, e.2)) s in
      let k = kept_to o.answer end xs out in
      anew k.answer k.buffer o.buffer refl e.2
      (kept-left o.answer end out o.buffer (pieces_after [] (drop end xs)) (omega (arith, m, e.1)) e.2 (between xs start end)
      (ap (λ (i : ℕ). between xs i end) (sym m)) a)
  turn-walks t out list (Seen.refuses start end n) w e =
      let q = e.3 (between xs t.mark t.at) in
      let ps : List Piece = Piece.refused n (between xs start end) ∷ pieces_after [] (drop end xs) in
      let s = rw (q, between_join xs t.mark t.at start w.ordered e.0) at w.left in
      let o = outside_to t start list in
      let m = outside-mark t start list in
      let a = outside-left t start out list ps (omega (arith, w.ordered, e.0)) (omega (arith, e.1, e.2)) s in
      let k = refused_to o.answer end n o.buffer in
      anew k.answer out k.buffer refl e.2
      (refused-left o.answer end out o.buffer (pieces_after [] (drop end xs)) (omega (arith, m, e.1)) e.2 n (between xs start end)
      (ap (λ (i : ℕ). between xs i end) (sym m)) (omega (arith, m, e.1)) a)

  -- each turn goes on
  turn-goes : (t : Tally) (out list : List ℕ) (s : Seen) → Sees xs t.at s → t.at < (turn_of s t xs out list).tally.at
  unfolding turn_of kept_to refused_to
  turn-goes t out list (Seen.outside to) e = e.0
  turn-goes t out list (Seen.keeps start end) e = omega (arith, e.0, e.1)
  turn-goes t out list (Seen.refuses start end n) e = omega (arith, e.0, e.1)

  -- a turn of the loop, and that it comes nearer to the end
  pub turned : {w : Walk} (t : Tally) (out list : List ℕ) (s : Seen) → Walking (walk t out list) → t.at < length xs
      → s ≡ escape_at xs (next_escape xs t.at) → w ≡ turn_of s t xs out list
      → Walking w × (length xs - w.tally.at < length xs - t.at)
  turned t out list s w h e k =
      let v : Sees xs t.at s = rw e (next-sees xs t.at h) in
      (rw k (turn-walks t out list s w v), rw k (omega (arith, turn-goes t out list s v)))

  -- ---- from its start to its end
  pub start-walks : Walking (walk (record { at = 0; mark = 0; kept = 0; rows = 0 }) out₀ list₀)
  unfolding pieces_of
  start-walks =
      record {
        ordered = omega arith;
        within = omega arith;
        left = record {
          few_kept = omega arith;
          few_rows = omega arith;
          output_size = refl;
          list_size = refl;
          all_kept = zero-add (length (mended_of xs));
          all_rows = zero-add (dropped (pieces_of xs));
          stored = λ h. refl;
          listed = λ h. refl;
        };
      }

  pub walked : (t : Tally) (out list : List ℕ) → Walking (walk t out list) → length xs ≤ t.at
      → let o = outside_to t (length xs) list in Walked xs out₀ list₀ (walk o.answer out o.buffer)
  unfolding cut joined kept_bytes dropped rows_from
  walked t out list w h =
      let e : t.at ≡ length xs = omega (arith, w.within) in
      let q : rest t ≡ outside_first (between xs t.mark (length xs)) [] = rw (drop-end xs t.at h, append-nil, e) in
      let a = outside-left t (length xs) out list [] (omega (arith, w.ordered, w.within)) (omega arith) (rw q at w.left) in
      record {
        kept = omega (arith, a.all_kept);
        rows = omega (arith, a.all_rows);
        stored = a.stored;
        listed = a.listed;
      }
