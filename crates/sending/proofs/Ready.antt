-- What the session has ready is what the story says.
use Prim.Native.Nat.{ℕ, zero, suc}
use mathlib.Core.Path.{◌≡◌, refl, sym, ◌∙◌}
use mathlib.Core.Bool.{Bool, true, false, not, ◌&&◌, ◌||◌}
use mathlib.Core.List.{List}
use native.Mathlib.Omega.{arith}
use lib.Dec.{leb}
use Rattle.std.specs.Prelude.{Option, Some, None}
use Rattle.octets.specs.Slices.{equals}
use Rattle.octets.proofs.Compare.{equals_refl, equals-sound}
use Rattle.protocol.specs.Table.{file_room}
use Rattle.protocol.proofs.Laws.{no_way}
use Rattle.sending.specs.Transfers.{file_at, current_place, current_file, id_of, file_id_of, find_file, is_known}
use Rattle.sending.specs.Transfers.{is_fresh, is_open, is_sending}
use Rattle.sending.specs.Calls.{is_idle, is_busy, is_found, is_taken}
use Rattle.sending.specs.Story.{Mark}
use Rattle.sending.specs.Telling.{session_in, pending_in, files_in, equals_some, is_among, allowed_in, finished_in}
use Rattle.sending.specs.Telling.{file_stopped_in, is_unsent, open_in, goes_on, sending_in, idle_in, busy_in, taken_in}
use Rattle.sending.specs.declared.Stage.{Stage}
use Rattle.sending.specs.declared.FileStage.{FileStage}
use Rattle.sending.specs.declared.Transfer.{Transfer}
use Rattle.sending.proofs.Kept.{is_sending_for, Counted, FileOK, SessionOK, PendingOK, Kept}

-- ---- the session, by its stage
fresh-told : (id : List ℕ) (m : List Mark) (g : Stage) → SessionOK id m g → is_unsent (session_in m) ≡ is_fresh g
fresh-told id m Stage.Fresh s = rw s.session
fresh-told id m Stage.Waiting s = rw s.session
fresh-told id m Stage.Open s = rw s.session
fresh-told id m Stage.Finished s = rw s.session
fresh-told id m Stage.Stopped s = rw s.0

stopped-closed : (a b : Bool) → (a && not (true || b)) ≡ false
stopped-closed true b = refl
stopped-closed false b = refl

open_told : (id : List ℕ) (m : List Mark) (g : Stage) → SessionOK id m g → open_in m ≡ is_open g
open_told id m Stage.Fresh s = rw s.allowed
open_told id m Stage.Waiting s = rw s.allowed
open_told id m Stage.Open s = rw (s.allowed, s.stopped, s.finished)
open_told id m Stage.Finished s = rw (s.allowed, s.stopped, s.finished)
open_told id m Stage.Stopped s = rw s.1 (stopped-closed (allowed_in m) (finished_in m))

open-session : (id : List ℕ) (m : List Mark) (g : Stage) → SessionOK id m g → is_open g ≡ true → session_in m ≡ Some id
open-session id m Stage.Fresh s e = no_way (sym e)
open-session id m Stage.Waiting s e = no_way (sym e)
open-session id m Stage.Open s e = s.session
open-session id m Stage.Finished s e = no_way (sym e)
open-session id m Stage.Stopped s e = no_way (sym e)

unknown-idle : (g : FileStage) → is_known g ≡ false → is_sending g ≡ false
unknown-idle FileStage.Free e = refl
unknown-idle FileStage.Sending e = no_way e
unknown-idle FileStage.Sent e = refl
unknown-idle FileStage.Closed e = refl
unknown-idle FileStage.Stopped e = refl

-- a pending file is being sent just when it is that of its id
pending-sends : (k : List ℕ) (m : List Mark) (p : Option (List ℕ)) → PendingOK k p
    → goes_on p m ≡ (equals_some k p && not (file_stopped_in k m))
pending-sends k m None o = refl
pending-sends k m (Some j) o = rw (o, equals_refl k)

-- and where none is being sent, no id's file is
pub idle_for : (k : List ℕ) (m : List Mark) → sending_in m ≡ false → is_sending_for k m ≡ false
idle_for k m e = go (pending_in m) e
  where
    go : (p : Option (List ℕ)) → goes_on p m ≡ false → (equals_some k p && not (file_stopped_in k m)) ≡ false
    go None q = refl
    go (Some j) q = by (equals j k) refl
      where
        by : (b : Bool) → equals j k ≡ b → (b && not (file_stopped_in k m)) ≡ false
        by true r = rw (← equals-sound j k r) q
        by false r = refl

module _ {t : Transfer} {m : List Mark} (kept : Kept t m) where
  -- the current file's place, with what is kept of it
  pub current-file : (c : ℕ) → t.count ≡ suc c → Counted m (file_id_of (file_at t c)) c (file_at t c)
  current-file c n = rw (kept.current c n).there at (kept.files (file_id_of (file_at t c)))

  pub sending-told : sending_in m ≡ is_sending (current_file t).stage
  sending-told = go t.count refl
    where
      go : (n : ℕ) → t.count ≡ n → sending_in m ≡ is_sending (current_file t).stage
      go zero e = rw (kept.none e) (sym (unknown-idle (current_file t).stage (kept.free (current_place t) (omega arith))))
      go (suc c) e =
          let here : current_place t ≡ c = omega (arith, e) in
          rw here (pending-sends (file_id_of (file_at t c)) m (pending_in m) (kept.current c e).pending ∙ sym (current-file c e).going)

  pub unsent-told : is_unsent (session_in m) ≡ is_fresh t.stage
  unsent-told = fresh-told (id_of t) m t.stage kept.session

  pub opened-told : open_in m ≡ is_open t.stage
  opened-told = open_told (id_of t) m t.stage kept.session

  pub idle-told : idle_in m ≡ is_idle t
  idle-told = rw (opened-told, sending-told)

  pub busy-told : busy_in m ≡ is_busy t
  busy-told = rw (opened-told, sending-told)

  pub taken-told : (id : List ℕ) → taken_in id m ≡ is_taken t id
  taken-told id = rw (← kept.many) (go (find_file t id) (kept.files id))
    where
      go : (f : Option ℕ) → FileOK t.files m id f
          → (leb file_room t.count || is_among id (files_in m)) ≡ (leb file_room t.count || is_found f)
      go None u = rw u.filed
      go (Some i) u = rw u.filed

  -- ---- the ids that are written
  pub session-id : is_open t.stage ≡ true → session_in m ≡ Some (id_of t)
  session-id e = open-session (id_of t) m t.stage kept.session e

  -- a file is being sent: there is a current one, and it is the pending one
  pub sending-place : is_sending (current_file t).stage ≡ true → (c : ℕ) × (t.count ≡ suc c)
  sending-place e = go t.count refl
    where
      go : (n : ℕ) → t.count ≡ n → (c : ℕ) × (t.count ≡ suc c)
      go zero q =
          no_way (sym e ∙ unknown-idle (current_file t).stage (kept.free (current_place t) (omega arith)))
      go (suc c) q = (c, q)

  pub pending-file : (c : ℕ) → t.count ≡ suc c → sending_in m ≡ true → pending_in m ≡ Some (file_id_of (file_at t c))
  pending-file c n e = go (pending_in m) refl (kept.current c n).pending e
    where
      go : (p : Option (List ℕ)) → pending_in m ≡ p → PendingOK (file_id_of (file_at t c)) p → goes_on p m ≡ true
          → pending_in m ≡ Some (file_id_of (file_at t c))
      go None q o s = no_way (sym s)
      go (Some j) q o s = rw (q, o)

  pub pending-current : is_sending (current_file t).stage ≡ true → pending_in m ≡ Some (file_id_of (current_file t))
  pending-current e = go t.count refl
    where
      go : (n : ℕ) → t.count ≡ n → pending_in m ≡ Some (file_id_of (current_file t))
      go zero q = no_way (sym e ∙ unknown-idle (current_file t).stage (kept.free (current_place t) (omega arith)))
      go (suc c) q =
          let here : current_place t ≡ c = omega (arith, q) in
          rw here (pending-file c q (sending-told ∙ e))
