-- The numbers kept of a session's files: a record put at a place adjusts them, and finish by them is finish by the records.
use Prim.Native.Nat.{ℕ, zero, suc, ◌+◌, ◌*◌, ◌≤◌}
use mathlib.Core.Path.{◌≡◌, refl, sym, ap, ◌∙◌}
use mathlib.Core.Bool.{Bool, true, false, cond}
use mathlib.Core.List.{List, [], ◌∷◌}
use native.Mathlib.Omega.{arith}
use lib.ListN.{length, length-set, get_or, set}
use lib.Dec.{eqb}
use borrow.Author.Tests.{eq-eqb, ne_eqb}
use Rattle.std.specs.Prelude.{Option, Some, None}
use Rattle.protocol.specs.Table.{file_room, no_file, file_at, here_or, first, is_started, is_done, total, started_share, done_share}
use Rattle.protocol.specs.Table.{adjusted, put_file}
use Rattle.protocol.specs.Change.{asks, drops}
use Rattle.protocol.specs.Files.{count_limit, finish_found, finish_of}
use Rattle.protocol.specs.Sound.{SoundFile, Counted}
use Rattle.protocol.specs.Counts.{RightCounts}
use Rattle.protocol.specs.Replies.{session_reply}
use Rattle.protocol.specs.declared.FileRecord.{FileRecord}
use Rattle.protocol.specs.declared.Session.{Session}
use Rattle.protocol.specs.declared.Due.TheVariants as Due
use Rattle.protocol.specs.declared.Status.TheVariants as Status
use Rattle.protocol.specs.declared.Told.TheVariants as Told
use Rattle.protocol.specs.declared.Change.{Change}
use Rattle.protocol.proofs.Laws.{no_way}

-- ---- sums of shares, one share for another
module _ (g : FileRecord → ℕ) where
  abbrev at : List FileRecord → ℕ → ℕ
  at fs j = g (get_or fs j no_file)

  put-total : (fs : List FileRecord) (j : ℕ) (f : FileRecord) → total g (set fs j f) + at fs j ≡ total g fs + at (set fs j f) j
  put-total [] j f = refl
  put-total (x ∷ fs) zero f = omega arith
  put-total (x ∷ fs) (suc j) f =
      let rest : total g (set fs j f) + at fs j ≡ total g fs + at (set fs j f) j = put-total fs j f in omega arith

  share_le : g no_file ≡ 0 → (fs : List FileRecord) (j : ℕ) → at fs j ≤ total g fs
  share_le z [] j = rw z (omega arith)
  share_le z (x ∷ fs) zero = omega arith
  share_le z (x ∷ fs) (suc j) = let rest : at fs j ≤ total g fs = share_le z fs j in omega arith

  total_le : (limit : ℕ) (fs : List FileRecord) → ((j : ℕ) → at fs j ≤ limit) → total g fs ≤ length fs * limit
  total_le limit [] h = omega arith
  total_le limit (x ∷ fs) h =
      let here : g x ≤ limit = h 0 in
      let rest : total g fs ≤ length fs * limit = total_le limit fs (λ j. h (suc j)) in
      omega arith

  -- a number that was the sum is it again, where each share is at most 2^40
  put-kept : g no_file ≡ 0 → (fs : List FileRecord) (j : ℕ) (f : FileRecord) (kept : ℕ) → length fs ≡ file_room
      → ((n : ℕ) → at (set fs j f) n ≤ count_limit) → kept ≡ total g fs
      → adjusted kept (at fs j) (at (set fs j f) j) ≡ total g (set fs j f)
  unfolding adjusted
  put-kept z fs j f kept room small e =
      let swap = put-total fs j f in
      let old = share_le z fs j in
      let most = rw (length-set fs j f ∙ room) at (total_le count_limit (set fs j f) small) in
      omega arith

-- ---- a session's numbers
one-small : (b : Bool) → cond b 1 0 ≤ count_limit
one-small true = omega arith
one-small false = omega arith

done-small : (b : Bool) (n : ℕ) → n ≤ count_limit → cond b n 0 ≤ count_limit
done-small true n h = h
done-small false n h = omega arith

pub put-counted : (s : Session) (j : ℕ) (f : FileRecord) → length s.files ≡ file_room → ((n : ℕ) → SoundFile (file_at (put_file s j f) n))
    → Counted s → Counted (put_file s j f)
put-counted s j f room sound c =
    record {
      started =
          put-kept started_share refl s.files j f s.started room (λ n. one-small (is_started (file_at (put_file s j f) n))) c.started;
      done_bytes =
          put-kept done_share refl s.files j f s.done_bytes room
          (λ n. let x = file_at (put_file s j f) n in done-small (is_done x.state) x.count (sound n).counted) c.done_bytes;
    }

-- ---- finish
abbrev is_nowhere : Option ℕ → Bool
is_nowhere None = true
is_nowhere (Some j) = false

none-started : (fs : List FileRecord) → eqb (total started_share fs) 0 ≡ is_nowhere (first is_started fs)
unfolding first
none-started [] = refl
none-started (x ∷ fs) = go (is_started x) (first is_started fs) (none-started fs)
  where
    same : 0 + total started_share fs ≡ total started_share fs
    same = omega arith

    go : (b : Bool) (r : Option ℕ) → eqb (total started_share fs) 0 ≡ is_nowhere r
        → eqb (cond b 1 0 + total started_share fs) 0 ≡ is_nowhere (here_or b r)
    go true r e = ne_eqb (1 + total started_share fs) 0 (omega arith)
    go false None e = rw same e
    go false (Some j) e = rw same e

nowhere-is : (f : Option ℕ) → is_nowhere f ≡ true → f ≡ None
nowhere-is None e = refl
nowhere-is (Some j) e = no_way (sym e)

-- no file is started where the kept number is zero
pub zero-started : {s : Session} → Counted s → s.started ≡ 0 → first is_started s.files ≡ None
zero-started {s} c e = nowhere-is (first is_started s.files) (sym (none-started s.files) ∙ eq-eqb _ _ (sym c.started ∙ e))

pub right-counts : (s : Session) → Counted s → RightCounts s
unfolding finish_of
right-counts s c = record { counted = c; finish = ap finishing (zero ∙ none-started s.files) ∙ go (first is_started s.files) }
  where
    finishing : Bool → Change
    finishing b = cond b (asks Due.Commit) (drops Told.Discarded (Some (session_reply Status.Einval s)))

    zero : eqb s.started 0 ≡ eqb (total started_share s.files) 0
    zero = ap (λ (n : ℕ). eqb n 0) c.started

    go : (f : Option ℕ) → finishing (is_nowhere f) ≡ finish_found s f
    go None = refl
    go (Some j) = refl
