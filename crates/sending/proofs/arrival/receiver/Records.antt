-- The receiver's files at a point: where a file's record is found, and what becomes of the session when one is put back.
use Prim.Native.Nat.{ℕ, suc, ◌+◌, ◌-◌, ◌*◌, ◌≤◌}
use mathlib.Core.Path.{◌≡◌, refl, ap, ◌∙◌}
use mathlib.Core.Bool.{true, not}
use mathlib.Core.List.{List, [], ◌∷◌, ◌++◌, map, map-append, append-nil}
use native.Mathlib.Omega.{arith}
use lib.ListN.{length, length-map, length-append}
use Rattle.std.specs.Prelude.{Some, None}
use Rattle.octets.specs.Members.{every}
use Rattle.octets.specs.Slices.{equals}
use Rattle.octets.proofs.Compare.{equals_refl}
use Rattle.command.proofs.Every.{every_cons}
use Rattle.protocol.specs.Table.{file_room, free_file, no_file, file_at, first, is_used, is_free, has_file_id}
use Rattle.protocol.specs.Table.{started_share, done_share, adjusted, put_file}
use Rattle.protocol.specs.Files.{count_limit}
use Rattle.protocol.specs.Sound.{IsId}
use Rattle.protocol.specs.declared.FileState.{FileState}
use Rattle.protocol.specs.declared.FileRecord.{FileRecord}
use Rattle.protocol.specs.declared.Session.{Session}
use Rattle.protocol.proofs.Laws.{padded-id}
use Rattle.sending.proofs.arrival.lists.Members.{every-over, every-same}
use Rattle.sending.proofs.arrival.lists.Seams.{seam_getD, seam_set, free_getD, free_set, seam-first, seam-none, free-first}
use Rattle.sending.proofs.arrival.lists.Seams.{total_snoc}
use Rattle.sending.proofs.arrival.path.Points.{Sent, NotIn, AllIds, Now}
use Rattle.sending.proofs.arrival.path.States.{record_of, records_of, open_session, bytes_of, keeping}

-- ---- past files
abbrev pub past_records : List Sent → List FileRecord
past_records past = map (record_of FileState.Done) past

places : (past : List Sent) → length (past_records past) ≡ length past
places past = length-map past (record_of FileState.Done)

-- none has an id that none of them has, and none is free
none_has : (k : List ℕ) (past : List Sent) → AllIds past → NotIn k past
    → every (λ (r : FileRecord). not (has_file_id k r)) (past_records past) ≡ true
unfolding every
none_has k [] ids new = refl
none_has k (f ∷ past) ids new =
    let c = every_cons (λ (g : Sent). not (equals g.id k)) f past new in
    rw (padded-id f.id ids.0.short, c.0) (none_has k past ids.2 c.1)

none-is-free : (past : List Sent) → every (λ (r : FileRecord). not (is_free r)) (past_records past) ≡ true
none-is-free past =
    every-over (λ (r : FileRecord). not (is_free r)) (record_of FileState.Done) past
    ∙ every-same (λ (f : Sent). not (is_free (record_of FileState.Done f))) past (λ f. refl)

-- their bytes
past_bytes : (past : List Sent) → AllIds past → bytes_of past ≤ length past * count_limit
past_bytes [] ids = omega arith
past_bytes (f ∷ past) ids = omega (arith, ids.1, past_bytes past ids.2)

-- ---- finding
module _ (past : List Sent) (ids : AllIds past) where
  pub find_none : (k : List ℕ) → NotIn k past → first (has_file_id k) (records_of past []) ≡ None
  find_none k new =
      seam-none (has_file_id k) (past_records past) (none_has k past ids new) (file_room - (length past + 0)) free_file refl

  pub find-now : (g : FileState) (f : Sent) → is_used g ≡ true → IsId f.id → NotIn f.id past
      → first (has_file_id f.id) (records_of past (record_of g f ∷ [])) ≡ Some (length past)
  find-now g f used id new =
      seam-first (has_file_id f.id) (past_records past) (none_has f.id past ids new) (record_of g f) _
      (rw (used, padded-id f.id id.short) (equals_refl f.id))
      ∙ ap Some (places past)

pub find-free : (past : List Sent) → suc (length past) ≤ file_room → first is_free (records_of past []) ≡ Some (length past)
find-free past room =
    free-first is_free (past_records past) (none-is-free past) file_room (length past) free_file room refl
    ∙ ap Some (places past)

-- ---- a record put back
module _ (id : List ℕ) (n : ℕ) (past : List Sent) where
  pub now-at : (r : FileRecord) → file_at (open_session id n past (r ∷ [])) (length past) ≡ r
  now-at r = seam_getD (past_records past) (length past) (places past) r _ no_file

  -- for the one that was there
  put-now : (r a : FileRecord) → put_file (open_session id n past (r ∷ [])) (length past) a
      ≡ keeping id (adjusted n (started_share r) (started_share a)) (adjusted (bytes_of past) (done_share r) (done_share a))
      (records_of past (a ∷ []))
  put-now r a = rw (seam_set (past_records past) (length past) (places past) r _ a, now-at r, now-at a)

  -- for a free one
  put-new : (a : FileRecord) → suc (length past) ≤ file_room → put_file (open_session id n past []) (length past) a
      ≡ keeping id (adjusted n 0 (started_share a)) (adjusted (bytes_of past) 0 (done_share a)) (records_of past (a ∷ []))
  put-new a room =
      rw (
        free_set (past_records past) (length past) (places past) file_room free_file a room,
        now-at a,
        free_getD (past_records past) (length past) (places past) file_room free_file no_file room,
      )

-- ---- a file as it is sent
-- a sum that a u64 holds is kept
held : (kept new : ℕ) → kept + new ≤ file_room * count_limit → adjusted kept 0 new ≡ kept + new
unfolding adjusted
held kept new h = omega arith

-- one started file more or fewer
no_more : adjusted 0 0 0 ≡ 0
unfolding adjusted
no_more = refl

one_more : adjusted 0 0 1 ≡ 1
unfolding adjusted
one_more = refl

one-still : adjusted 1 1 1 ≡ 1
unfolding adjusted
one-still = refl

one_fewer : adjusted 1 1 0 ≡ 0
unfolding adjusted
one_fewer = refl

-- the record of the last file is one of the past ones
past_snoc : (past : List Sent) (f : Sent) → records_of past (record_of FileState.Done f ∷ []) ≡ records_of (past ++ f ∷ []) []
past_snoc past f =
    let e : length (past ++ f ∷ []) + 0 ≡ length past + 1 = omega (arith, length-append past (f ∷ [])) in
    rw (append-nil (past_records (past ++ f ∷ [])), map-append (record_of FileState.Done) past (f ∷ []), e)

module _ (id : List ℕ) (past : List Sent) (f : Sent) (now : Now past f) where
  abbrev busy : (started : ℕ) → FileState → Sent → Session
  busy started g x = open_session id started past (record_of g x ∷ [])

  few_bytes : bytes_of past + count_limit ≤ file_room * count_limit
  few_bytes = omega (arith, past_bytes past now.before.ids, now.room)

  same_bytes : adjusted (bytes_of past) 0 0 ≡ bytes_of past
  same_bytes = let e : bytes_of past + 0 ≡ bytes_of past = omega arith in held (bytes_of past) 0 (omega (arith, few_bytes)) ∙ e

  -- its command is read, its open is answered, a piece is written, and the last one
  pub put-opening : put_file (open_session id 0 past []) (length past) (record_of FileState.Opening f) ≡ busy 0 FileState.Opening f
  put-opening = put-new id 0 past (record_of FileState.Opening f) now.room ∙ rw (no_more, same_bytes)

  pub put-started : (x : Sent)
      → put_file (busy 0 FileState.Opening f) (length past) (record_of FileState.Started x) ≡ busy 1 FileState.Started x
  put-started x = put-now id 0 past (record_of FileState.Opening f) (record_of FileState.Started x) ∙ rw (one_more, same_bytes)

  pub put-grown : (x : Sent)
      → put_file (busy 1 FileState.Started f) (length past) (record_of FileState.Started x) ≡ busy 1 FileState.Started x
  put-grown x = put-now id 1 past (record_of FileState.Started f) (record_of FileState.Started x) ∙ rw (one-still, same_bytes)

  pub put-closed : (x : Sent) → x.total ≤ count_limit
      → put_file (busy 1 FileState.Started f) (length past) (record_of FileState.Done x) ≡ open_session id 0 (past ++ x ∷ []) []
  put-closed x h =
      let sum : bytes_of (past ++ x ∷ []) ≡ bytes_of past + x.total = total_snoc (λ (y : Sent). y.total) past x in
      put-now id 1 past (record_of FileState.Started f) (record_of FileState.Done x)
      ∙ rw (one_fewer, held (bytes_of past) x.total (omega (arith, few_bytes)), past_snoc past x, sum)
