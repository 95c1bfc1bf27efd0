-- The list: by its rows alone the recording is taken apart, and it has few of them.
use Prim.Native.Nat.{ℕ, ◌+◌, ◌-◌, ◌*◌, ◌<◌, ◌≤◌}
use mathlib.Core.Path.{◌≡◌, refl, ap, sym, ◌∙◌}
use mathlib.Core.Bool.{true}
use mathlib.Core.List.{List, [], ◌∷◌, ◌++◌, append_assoc}
use native.Mathlib.Omega.{arith}
use native.Mathlib.Nat.{add-zero, add-sub_cancel_left}
use native.Mathlib.Decide.{dec_lt}
use lib.ListN.{length, drop, length-append}
use lib.Seq.{take_at, drop_at}
use Rattle.octets.proofs.Compare.{starts-short}
use Rattle.frames.specs.Stream.{mark, is_command}
use Rattle.recordings.specs.Pieces.{Piece, pieces_of, bytes_of, kept_bytes, rows_from, dropped}
use Rattle.recordings.specs.Laws.{text_in, Frame, IsRefused, NoneOutside, Settled, without, ListsTheRest, FewRows}
use Rattle.recordings.proofs.PieceLaws.{rows-length}
use Rattle.recordings.proofs.CutLaws.{covers}
use Rattle.recordings.proofs.SettledLaws.{settles}

-- ---- taken apart
-- a row at the end of `before`, the bytes kept just before it
row_out : (at : ℕ) (before bs r : List ℕ) (why : ℕ) (rows : List ℕ)
    → without at ((at + length before) ∷ length bs ∷ why ∷ rows) (before ++ (bs ++ r))
    ≡ before ++ without ((at + length before) + length bs) rows r
unfolding without
row_out at before bs r why rows =
    let n : (at + length before) - at ≡ length before = add-sub_cancel_left at (length before) in
    let m : ((at + length before) + length bs) - at ≡ length (before ++ bs) = omega (arith, length-append before bs) in
    rw (
      n,
      m,
      take_at before (bs ++ r) (length before) refl,
      ← append_assoc before bs r,
      drop_at (before ++ bs) r (length (before ++ bs)) refl,
    )

rows_out : (ps : List Piece) (at : ℕ) (before : List ℕ)
    → without at (rows_from (at + length before) ps) (before ++ bytes_of ps) ≡ before ++ kept_bytes ps
unfolding without rows_from bytes_of kept_bytes
rows_out [] at before = refl
rows_out (Piece.outside bs ∷ ps) at before =
    row_out at before bs (bytes_of ps) 0 (rows_from ((at + length before) + length bs) ps)
    ∙ ap (λ (x : List ℕ). before ++ x) (rw add-zero at (rows_out ps ((at + length before) + length bs) []))
rows_out (Piece.kept f ∷ ps) at before =
    let n : (at + length before) + length f ≡ at + length (before ++ f) = omega (arith, length-append before f) in
    rw (n, ← append_assoc before f (bytes_of ps), ← append_assoc before f (kept_bytes ps)) (rows_out ps at (before ++ f))
rows_out (Piece.refused w bs ∷ ps) at before =
    row_out at before bs (bytes_of ps) w (rows_from ((at + length before) + length bs) ps)
    ∙ ap (λ (x : List ℕ). before ++ x) (rw add-zero at (rows_out ps ((at + length before) + length bs) []))

pub lists_the-rest : ListsTheRest pieces_of
lists_the-rest xs = ap (without 0 (rows_from 0 (pieces_of xs))) (sym (covers xs)) ∙ rows_out (pieces_of xs) 0 []

-- ---- few rows
command-length : (t : List ℕ) → is_command t ≡ true → 5 ≤ length t
command-length t c = by (dec_lt (length t) 5)
  where
    by : Dec (length t < 5) → 5 ≤ length t
    by (yes l) = let z : ◌≡◌ {A = ℕ} 0 1 = cc (starts-short t mark l) in absurd (omega arith)
    by (no l) = omega arith

frame-length : (f : List ℕ) → Frame f → 9 ≤ length f
frame-length f h =
    omega (arith, ap length h.whole, length-append (text_in f) (0x1B ∷ 0x5C ∷ []), command-length (text_in f) h.command)

refused-length : (n : ℕ) (bs r : List ℕ) → IsRefused n bs r → 7 ≤ length bs
refused-length n bs r (IsRefused.closed h e) = omega (arith, frame-length bs h)
refused-length n bs r (IsRefused.abandoned e o c l a) = omega (arith, ap length o, command-length (drop 2 bs) c)

-- where none stands outside first, three bytes fewer will do
abbrev Few : List Piece → Type 0
Few ps = (4 * dropped ps ≤ length (bytes_of ps) + 3) × (NoneOutside ps → 4 * dropped ps ≤ length (bytes_of ps))

few : (ps : List Piece) → Settled ps → Few ps
unfolding dropped bytes_of
few [] s = (omega arith, λ n. omega arith)
few (Piece.outside bs ∷ ps) s =
    let h = (few ps s.2).1 s.1 in
    (omega (arith, length-append bs (bytes_of ps), s.0), λ n. absurd n)
few (Piece.kept f ∷ ps) s =
    let h = (few ps s.2).0 in
    let l = frame-length f s.0 in
    (omega (arith, length-append f (bytes_of ps)), λ n. omega (arith, length-append f (bytes_of ps)))
few (Piece.refused n bs ∷ ps) s =
    let h = (few ps s.2).0 in
    let l = refused-length n bs (bytes_of ps) s.1 in
    (omega (arith, length-append bs (bytes_of ps)), λ n. omega (arith, length-append bs (bytes_of ps)))

pub few-rows : FewRows pieces_of
few-rows xs = (rows-length 0 (pieces_of xs), rw (covers xs) at (few (pieces_of xs) (settles xs)).0)
