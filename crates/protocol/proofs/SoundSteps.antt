-- The rule of one session keeps it sound: every command while nothing is due, every answer to what is due, every decision.
use Prim.Native.Nat.{ℕ, ◌≤◌, ◌<◌}
use mathlib.Core.Path.{◌≡◌, refl, sym, ap, ◌∙◌}
use mathlib.Core.Bool.{Bool, true, false}
use mathlib.Core.Logic.{◌⊎◌, inl, inr}
use mathlib.Core.List.{List}
use native.Mathlib.Omega.{arith}
use lib.ListN.{length}
use Rattle.std.proofs.lemmas.Option.{same_Some}
use Rattle.std.specs.Prelude.{Option, Some, None}
use Rattle.octets.specs.Members.{every}
use Rattle.frames.proofs.Choices.{by_cond}
use Rattle.command.specs.Letters.{safe_byte}
use Rattle.command.specs.declared.FileType.{FileType}
use Rattle.protocol.specs.Table.{id_room, no_file, file_at, file_id_of, is_present, session_used, file_used, is_free}
use Rattle.protocol.specs.Replies.{session_reply, failure_status}
use Rattle.protocol.specs.Change.{asks, opens}
use Rattle.protocol.specs.Files.{Request, opening, link_like, declared_by, is_directory, open_due, write_due}
use Rattle.protocol.specs.Receives.{request_fails}
use Rattle.protocol.specs.Rule.{obeyed_by, grown, done_by, failed_by, unlisted_by, is_asked, opened_from, allowed, decided_by}
use Rattle.protocol.specs.Supplies.{Supply, is_listing, change_for}
use Rattle.protocol.specs.Sound.{IsId, IsFileId, FileIs, PartFits, SoundSession}
use Rattle.protocol.specs.declared.FileState.TheVariants as FileState
use Rattle.protocol.specs.declared.SessionState.{SessionState}
use Rattle.protocol.specs.declared.Session.{Session}
use Rattle.protocol.specs.declared.Due.{Due}
use Rattle.protocol.specs.declared.Status.{Status}
use Rattle.protocol.specs.declared.Failure.{Failure}
use Rattle.protocol.specs.declared.Decision.{Decision}
use Rattle.protocol.specs.declared.Told.TheVariants as Told
use Rattle.protocol.specs.declared.Change.{Change}
use Rattle.protocol.proofs.Laws.{no_way, equals-same, first-at, found_at, found_nowhere}
use Rattle.protocol.proofs.Ways.{brought, NewFile, PartOf, Way, nothing, dropped, open_asked, part_failed, write_asked, commit_asked}
use Rattle.protocol.proofs.Ways.{path_named, last_named, request_asked, way}
use Rattle.protocol.proofs.Counts.{zero-started}
use Rattle.protocol.proofs.SoundRule.{Steps, tells-steps, drops-steps, waits-steps, clears-steps, is_shut, turns-steps}
use Rattle.protocol.proofs.SoundRule.{settled-steps, file-failed-steps, none-opens, asks-steps, opens-steps, path-steps}
use Rattle.protocol.proofs.SoundRule.{request-steps, grown-held}

-- ---- a command while nothing is due
-- a file id that was read: it may be empty
pub record IsReadId (k : List ℕ) : Type 0 where
  pub safe : every safe_byte k ≡ true
  pub short : length k ≤ id_room

module _ {s : Session} (ok : SoundSession s None) (q : Request) (id : IsReadId q.file) where
  abbrev Kept : Change → Type 0
  Kept = Steps true s None

  -- a new file or path has a free place, and an id that no other has
  module _ (j : ℕ) (n : NewFile s q j) where
    within : j < length s.files
    within = (first-at is_free no_file s.files j n.room).0

    differs : (k : ℕ) → file_used (file_at s k) ≡ true → file_id_of (file_at s k) ≡ q.file → ⊥
    differs k u e =
        no_way (sym (equals-same _ _ e) ∙ found_nowhere file_used file_id_of no_file s.files q.file refl n.new k u)

  -- of a path, and of a file that is asked for
  named-id : IsFileId FileState.Named q.file
  named-id = record { safe = id.safe; some = λ n. absurd (n refl); short = id.short }

  -- a new file's record
  open-steps : (j : ℕ) → s.state ≡ SessionState.Open → NewFile s q j → link_like q.type ≡ false
      → Kept (opens j (opening q.file (declared_by q.type q.size)) (open_due (is_directory q.type) j))
  open-steps j o n = go q.type
    where
      the-id : IsId q.file
      the-id = let some = n.some in record { safe = id.safe; some = omega arith; short = id.short }

      go : (type : FileType) → link_like type ≡ false
          → Kept (opens j (opening q.file (declared_by type q.size)) (open_due (is_directory type) j))
      go FileType.Regular _ =
          opens-steps ok o j q.file _ (Due.OpenFile j) (within j n) the-id (differs j n) refl refl (λ f _. f)
      go FileType.Directory _ =
          opens-steps ok o j q.file 0 (Due.OpenDirectory j) (within j n) the-id (differs j n) refl refl
          (λ f d. record { file = f; undeclared = d })
      go FileType.Symlink e = no_way e
      go FileType.Link e = no_way e

  -- a part of a started file
  started : (j : ℕ) → PartOf s q j → FileIs s j FileState.Started
  started j p = record { within = (found_at file_used file_id_of no_file s.files q.file j p.found).0; state = p.started }

  write-steps : (last : Bool) (j n : ℕ) → s.state ≡ SessionState.Open → PartFits s (brought last) j n → Kept (asks (write_due last j n))
  write-steps true j n o fits = asks-steps ok (Due.WriteLast j n) o fits
  write-steps false j n o fits = asks-steps ok (Due.Write j n) o fits

  way-steps : {c : Change} → Way s q c → Kept c
  way-steps (nothing w r _ _ _ _) = tells-steps w r ok
  way-steps (dropped w r _ _) = drops-steps w r
  way-steps (open_asked j o n l) = open-steps j o n l
  way-steps (part_failed j w o p) = file-failed-steps ok o j FileState.Started refl (started j p) (λ i. none-opens) w
  way-steps (write_asked last j o p short fits held) =
      write-steps last j q.long o (record { file = started j p; short = short; fits = fits; held = held })
  way-steps (commit_asked o _ e) = asks-steps ok Due.Commit o (zero-started ok.counted e)
  way-steps (path_named j o n) = path-steps ok o j q.file Told.Path None (within j n) named-id (differs j n)
  way-steps (last_named o _) = waits-steps Told.LastPath None ok o
  way-steps (request_asked o _) = request-steps ok o q.file named-id

  pub obeyed-steps : session_used s ≡ true → Kept (obeyed_by s q)
  obeyed-steps u = way-steps (way s q u)

-- ---- an answer to what is due
-- the file whose open is due is the only one that is opening
opens-only : {n j : ℕ} → Some j ≡ Some n → n ≡ j
opens-only {n} {j} e = sym (same_Some j n e)

module _ {s : Session} where
  -- the count is at most the cap, whatever was written
  pub done-steps : (d : Due) → SoundSession s (Some d) → Steps false s (Some d) (done_by s d)
  unfolding done_by
  done-steps (Due.OpenFile j) ok =
      let f = ok.fits in
      settled-steps ok f.0 j FileState.Opening refl f.1 (λ n. opens-only) FileState.Started refl 0 (omega arith)
      (λ _. omega arith) Status.Started 0
  done-steps (Due.OpenDirectory j) ok =
      let f = ok.fits in
      settled-steps ok f.0 j FileState.Opening refl f.1.file (λ n. opens-only) FileState.Done refl 0 (omega arith)
      (λ some. let none = f.1.undeclared in absurd (omega arith)) Status.Ok 0
  done-steps (Due.Write j n) ok =
      let f = ok.fits in
      settled-steps ok f.0 j FileState.Started refl f.1.file (λ i. none-opens) FileState.Started refl (grown s j n) (omega arith)
      (grown-held f.1) Status.Progress (grown s j n)
  done-steps (Due.WriteLast j n) ok =
      let f = ok.fits in
      settled-steps ok f.0 j FileState.Started refl f.1.file (λ i. none-opens) FileState.Done refl (grown s j n) (omega arith)
      (grown-held f.1) Status.Ok (grown s j n)
  done-steps Due.Commit ok = drops-steps Told.Committed None
  done-steps Due.Request ok = tells-steps (Told.Refused 18) None ok

  request-failed : (w : Status) → SoundSession s (Some Due.Request) → Steps false s (Some Due.Request) (request_fails w s)
  request-failed w ok = clears-steps (Told.Status w) _ ok

  pub failed-steps : (e : Failure) (d : Due) → SoundSession s (Some d) → Steps false s (Some d) (failed_by e s d)
  unfolding failed_by
  failed-steps e (Due.OpenFile j) ok =
      file-failed-steps ok ok.fits.0 j FileState.Opening refl ok.fits.1 (λ n. opens-only) (failure_status e)
  failed-steps e (Due.OpenDirectory j) ok =
      file-failed-steps ok ok.fits.0 j FileState.Opening refl ok.fits.1.file (λ n. opens-only) (failure_status e)
  failed-steps e (Due.Write j n) ok =
      file-failed-steps ok ok.fits.0 j FileState.Started refl ok.fits.1.file (λ i. none-opens) (failure_status e)
  failed-steps e (Due.WriteLast j n) ok =
      file-failed-steps ok ok.fits.0 j FileState.Started refl ok.fits.1.file (λ i. none-opens) (failure_status e)
  failed-steps e Due.Commit ok = drops-steps Told.Discarded (Some (session_reply (failure_status e) s))
  failed-steps e Due.Request ok = request-failed (failure_status e) ok

  pub unlisted-steps : (d : Due) → SoundSession s (Some d) → Steps false s (Some d) (unlisted_by s d)
  unfolding unlisted_by
  unlisted-steps (Due.OpenFile j) ok = tells-steps (Told.Refused 18) None ok
  unlisted-steps (Due.OpenDirectory j) ok = tells-steps (Told.Refused 18) None ok
  unlisted-steps (Due.Write j n) ok = tells-steps (Told.Refused 18) None ok
  unlisted-steps (Due.WriteLast j n) ok = tells-steps (Told.Refused 18) None ok
  unlisted-steps Due.Commit ok = tells-steps (Told.Refused 18) None ok
  unlisted-steps Due.Request ok = request-failed Status.Einval ok

-- ---- a decision, whatever is due
pub asked-state : (g : SessionState) → is_asked g ≡ true → (g ≡ SessionState.Asked) ⊎ (g ≡ SessionState.Waiting)
asked-state SessionState.Absent e = no_way (sym e)
asked-state SessionState.Asked e = inl refl
asked-state SessionState.Open e = no_way (sym e)
asked-state SessionState.Naming e = no_way (sym e)
asked-state SessionState.Waiting e = inr refl
asked-state SessionState.Listing e = no_way (sym e)
asked-state SessionState.Serving e = no_way (sym e)

pub decided-steps : {s : Session} {due : Option Due} → SoundSession s due → (d : Decision) → Steps false s due (decided_by d s)
unfolding decided_by
decided-steps {s} {due} ok Decision.Allow =
    by_cond (Steps false s due) (is_asked s.state) (λ e. allows (asked-state s.state e))
    (λ _. tells-steps (Told.Refused 12) None ok)
  where
    -- from either state
    turns : (g : SessionState) → s.state ≡ g → is_shut g ≡ true → is_present g ≡ true → is_present (opened_from g) ≡ true
        → Steps false s due (allowed s)
    turns g e shut used next = turns-steps _ (Some (session_reply Status.Ok s)) ok (rw e shut) (rw e used) (rw e next)

    allows : (s.state ≡ SessionState.Asked) ⊎ (s.state ≡ SessionState.Waiting) → Steps false s due (allowed s)
    allows (inl e) = turns SessionState.Asked e refl refl refl
    allows (inr e) = turns SessionState.Waiting e refl refl refl
decided-steps {s} {due} ok Decision.Deny =
    by_cond (Steps false s due) (is_asked s.state)
    (λ _. drops-steps Told.Nothing (Some (session_reply Status.Eperm s)))
    (λ _. tells-steps (Told.Refused 12) None ok)
decided-steps ok Decision.Drop = drops-steps Told.Nothing None

-- ---- what the console supplies
pub listing-state : (g : SessionState) → is_listing g ≡ true → g ≡ SessionState.Listing
listing-state SessionState.Absent e = no_way (sym e)
listing-state SessionState.Asked e = no_way (sym e)
listing-state SessionState.Open e = no_way (sym e)
listing-state SessionState.Naming e = no_way (sym e)
listing-state SessionState.Waiting e = no_way (sym e)
listing-state SessionState.Listing e = refl
listing-state SessionState.Serving e = no_way (sym e)

-- the session in which it is in turn
abbrev pub InTurn : Session → Option Due → Supply → Type 0
InTurn s due (Supply.list e text contents) = s.state ≡ SessionState.Listing
InTurn s due (Supply.list_failed text id path code) = s.state ≡ SessionState.Listing
InTurn s due (Supply.home id path) = s.state ≡ SessionState.Listing
InTurn s due (Supply.part last bytes) = due ≡ Some Due.Request

pub supplied-steps : {s : Session} {due : Option Due} → SoundSession s due → (u : Supply) → InTurn s due u
    → Steps false s due (change_for u)
supplied-steps ok (Supply.list e text contents) o = tells-steps Told.Nothing None ok
supplied-steps ok (Supply.list_failed text id path code) o = tells-steps Told.Nothing None ok
supplied-steps ok (Supply.home id path) o = turns-steps SessionState.Serving None ok (ap is_shut o) (ap is_present o) refl
supplied-steps ok (Supply.part false bytes) e = tells-steps Told.Nothing None ok
supplied-steps ok (Supply.part true bytes) e = rw e (clears-steps Told.Nothing None (rw e at ok))
