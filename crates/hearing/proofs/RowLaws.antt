-- Rows of seven numbers: what stands in them, one more of them, and bytes stored after their parts.
use Prim.Native.Nat.{ℕ, ◌+◌, ◌*◌, ◌≤◌}
use mathlib.Core.Path.{◌≡◌, refl, ap, ◌∙◌}
use mathlib.Core.List.{List, [], ◌∷◌, ◌++◌}
use native.Mathlib.Omega.{arith}
use lib.ListN.{length, take, drop, length-append}
use lib.Seq.{sets, sets-eq, length-sets, length-take-le, take_at}
use borrow.Author.Tests.{le-leb}
use Rattle.octets.specs.Slices.{part_of}
use Rattle.octets.proofs.Stores.{part-stored, part-kept}
use Rattle.command.specs.declared.Command.{Command}
use Rattle.recordings.specs.Mend.{recording_limit}
use Rattle.hearing.specs.Hearing.{Happening}
use Rattle.hearing.specs.Rows.{happening_of, happenings_in, Apart}
use Rattle.hearing.specs.Steps.{row_of, with_row}

-- whole rows
pub data Rowed : List ℕ → Type 0 where
  none : Rowed []
  more : (k a b c d p n : ℕ) {ns : List ℕ} → Rowed ns → Rowed (k ∷ a ∷ b ∷ c ∷ d ∷ p ∷ n ∷ ns)

rowed-append : {l m : List ℕ} → Rowed l → Rowed m → Rowed (l ++ m)
rowed-append none s = s
rowed-append (more k a b c d p n r) s = more k a b c d p n (rowed-append r s)

-- ---- parts that lie apart
apart_le : {from to : ℕ} {l : List ℕ} → Rowed l → Apart from to l → from ≤ to
unfolding Apart
apart_le none h = h
apart_le {from = from} (more k a b c d p n r) h = omega (arith, h.0, apart_le {from = p + n} r h.1)

pub apart-later : (from : ℕ) {to end : ℕ} {l : List ℕ} → to ≤ end → Rowed l → Apart from to l → Apart from end l
unfolding Apart
apart-later from e none h = omega arith
apart-later from e (more k a b c d p n r) h = (h.0, apart-later (p + n) e r h.1)

-- with a row more, whose part lies after the others
apart-row : (from : ℕ) {to end : ℕ} {l : List ℕ} (k a b c d p n : ℕ) → to ≤ p → p + n ≤ end → Rowed l → Apart from to l
    → Apart from end (l ++ (k ∷ a ∷ b ∷ c ∷ d ∷ p ∷ n ∷ []))
unfolding Apart
apart-row from k a b c d p n h e none s = (omega arith, e)
apart-row from k a b c d p n h e (more k' a' b' c' d' p' n' r) s = (s.0, apart-row (p' + n') k a b c d p n h e r s.1)

-- ---- what stands in them
part_same : (bs l : List ℕ) (o p n : ℕ) → p + n ≤ o → part_of (sets l o bs) p n ≡ part_of l p n
unfolding part_of
part_same bs l o p n h = rw (length-sets l o bs, part-kept bs l o p n h)

pub part-there : (bs l : List ℕ) (o : ℕ) → o + length bs ≤ length l → part_of (sets l o bs) o (length bs) ≡ bs
unfolding part_of
part-there bs l o h = rw (length-sets l o bs, le-leb (o + length bs) (length l) h) (part-stored bs l o h)

module _ (xs : List ℕ) where
  happenings-append : {l : List ℕ} (bytes m : List ℕ) → Rowed l
      → happenings_in xs bytes (l ++ m) ≡ happenings_in xs bytes l ++ happenings_in xs bytes m
  unfolding happenings_in
  happenings-append bytes m none = refl
  happenings-append bytes m (more k a b c d p n r) =
      ap (λ (hs : List Happening). happening_of xs bytes k a b c d p n ∷ hs) (happenings-append bytes m r)

  -- bytes stored after the parts change nothing
  happenings-kept : (from : ℕ) {to : ℕ} {l : List ℕ} (bytes bs : List ℕ) (o : ℕ) → to ≤ o → Rowed l → Apart from to l
      → happenings_in xs (sets bytes o bs) l ≡ happenings_in xs bytes l
  unfolding happenings_in Apart
  happenings-kept from bytes bs o h none s = refl
  happenings-kept from bytes bs o h (more k a b c d p n r) s =
      let e : part_of (sets bytes o bs) p n ≡ part_of bytes p n = part_same bs bytes o p n (omega (arith, apart_le r s.1)) in
      rw (e, happenings-kept (p + n) bytes bs o h r s.1)

  -- ---- the rows that are noted when the recording is heard up to a place
  pub record Stored (at rows : ℕ) (events bytes : List ℕ) (hs : List Happening) : Type 0 where
    pub events_room : recording_limit ≤ length events
    pub bytes_room : recording_limit ≤ length bytes
    pub few : rows * 7 ≤ at
    pub rowed : Rowed (take (rows * 7) events)
    pub apart : Apart 0 at (take (rows * 7) events)
    pub heard : happenings_in xs bytes (take (rows * 7) events) ≡ hs

  pub stored-later : {at to rows : ℕ} {events bytes : List ℕ} {hs : List Happening} → at ≤ to → Stored at rows events bytes hs
      → Stored to rows events bytes hs
  stored-later h s =
      record {
        events_room = s.events_room;
        bytes_room = s.bytes_room;
        few = omega (arith, s.few);
        rowed = s.rowed;
        apart = apart-later 0 h s.rowed s.apart;
        heard = s.heard;
      }

  -- what a row of a command says, once its part is stored
  abbrev pub row_says : (bytes : List ℕ) (kind from : ℕ) → Command → ℕ → Happening
  row_says bytes kind from c len =
      happening_of xs bytes kind (from + c.id.start) c.id.len (from + c.file_id.start) c.file_id.len from len

  module _ (at rows kind from end : ℕ) (events bytes part : List ℕ) (c : Command) (hs : List Happening)
      (s : Stored at rows events bytes hs) (after : at ≤ from) (short : from + length part ≤ end) (long : at + 7 ≤ end)
      (fits : end ≤ recording_limit) where
    abbrev row : List ℕ
    row = row_of kind from c (length part)

    row_fits : rows * 7 + 7 ≤ length events
    row_fits = omega (arith, s.few, s.events_room)

    with-row : with_row events rows kind from c (length part) ≡ sets events (rows * 7) row
    unfolding with_row
    with-row = rw (le-leb (rows * 7 + 7) (length events) row_fits)

    rows_then : take ((rows + 1) * 7) (sets events (rows * 7) row) ≡ take (rows * 7) events ++ row
    rows_then =
        let n : (rows + 1) * 7 ≡ rows * 7 + 7 = omega arith in
        let front : length (take (rows * 7) events) ≡ rows * 7 = length-take-le (rows * 7) events (omega (arith, row_fits)) in
        rw (n, sets-eq row events (rows * 7) row_fits)
        (take_at (take (rows * 7) events ++ row) (drop (rows * 7 + 7) events) (rows * 7 + 7)
        (omega (arith, length-append (take (rows * 7) events) row, front)))

    -- one row more
    pub row-stored : (h : Happening) → row_says (sets bytes from part) kind from c (length part) ≡ h
        → Stored end (rows + 1) (with_row events rows kind from c (length part)) (sets bytes from part) (hs ++ (h ∷ []))
    unfolding happenings_in
    row-stored h e =
        rw with-row
        (record {
          events_room = omega (arith, length-sets events (rows * 7) row, s.events_room);
          bytes_room = omega (arith, length-sets bytes from part, s.bytes_room);
          few = omega (arith, s.few);
          rowed = rw rows_then (rowed-append s.rowed (more _ _ _ _ _ _ _ none));
          apart = rw rows_then (apart-row 0 _ _ _ _ _ _ _ after short s.rowed s.apart);
          heard = rw rows_then
              (happenings-append (sets bytes from part) row s.rowed
              ∙ rw (happenings-kept 0 bytes part from after s.rowed s.apart, s.heard, e));
        })
