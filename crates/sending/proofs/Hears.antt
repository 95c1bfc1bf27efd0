-- A hear: what is kept, and what is told.
use Rattle.frames.specs.Stream.{is_drag_drop}
use Prim.Native.Nat.{ℕ, ◌≤◌, ◌<◌}
use mathlib.Core.Path.{◌≡◌, refl, sym}
use mathlib.Core.Bool.{Bool, true, false, not, cond, ◌&&◌, ◌||◌}
use mathlib.Core.List.{List, [], ◌∷◌}
use lib.ListN.{length}
use lib.Dec.{eqb}
use Rattle.octets.specs.Outcome.{Outcome, outcome}
use Rattle.octets.specs.Slices.{equals}
use Rattle.frames.specs.Stream.{Told}
use Rattle.frames.specs.Follows.{told_of}
use Rattle.frames.specs.declared.Report.{Report}
use Rattle.command.specs.Values.{Value}
use Rattle.command.specs.Meaning.{Meaning, meaning_of, action_code, id_of, file_id_of, size_of, status_of}
use Rattle.command.specs.Slots.{slots_of, values_of}
use Rattle.command.specs.Slots as Slots
use Rattle.command.specs.Read.{scratch_room, Answer, read_of}
use Rattle.command.specs.declared.Action.{Action}
use Rattle.command.specs.declared.Command.{Command}
use Rattle.command.proofs.Simulation.{read-means}
use Rattle.protocol.specs.Readings.{read_mark, told_marks}
use Rattle.protocol.specs.Sessions.{string_in, id_in, file_id_in}
use Rattle.protocol.proofs.Means.{string-means}
use Rattle.protocol.proofs.TextLaws.{meaning-refusal}
use Rattle.protocol.proofs.Laws.{text-taken}
use Rattle.sending.specs.Transfers as Transfers
use Rattle.sending.specs.Transfers.{is_fresh, sent_limit}
use Rattle.sending.specs.Heeding.{heeded, word_of, is_status, is_ours, status_heed, heed_of}
use Rattle.sending.specs.Calls.{read_heed, report_heed}
use Rattle.sending.specs.Sayings.{saying}
use Rattle.sending.specs.Story.{Mark, is_unheard}
use Rattle.sending.specs.Telling.{session_in, equals_some, is_reply, for_session, for_file, allowed_in}
use Rattle.sending.specs.Every.{saying_of}
use Rattle.sending.specs.declared.Stage.{Stage}
use Rattle.sending.specs.declared.Transfer.{Transfer}
use Rattle.sending.specs.declared.News.TheVariants as News
use Rattle.sending.specs.declared.Heeded.{Heeded}
use Rattle.sending.specs.declared.Word.{Word}
use Rattle.sending.proofs.Kept.{SessionOK, Kept}
use Rattle.sending.proofs.KeptWrites.{allowed-as}
use Rattle.sending.proofs.KeptReads.{Marked, unmoved}
use Rattle.sending.proofs.Heeds.{unagreed, status-heard}
use Rattle.sending.proofs.Sizes.{size_small}

-- ---- a command by places, and by values
pub status-code : (a : Action) → is_status a ≡ eqb (Slots.action_code a) 8
status-code Action.None = refl
status-code Action.Send = refl
status-code Action.Receive = refl
status-code Action.File = refl
status-code Action.Data = refl
status-code Action.EndData = refl
status-code Action.Finish = refl
status-code Action.Cancel = refl
status-code Action.Status = refl

pub record Reads (c : Command) (text after : List ℕ) (d : List Value) : Type 0 where
  pub code : action_code d ≡ Slots.action_code c.action
  pub id : id_in c text ≡ id_of d
  pub file : file_id_in c text ≡ file_id_of d
  pub size : c.size ≡ size_of d
  pub status : string_in after c.status ≡ status_of d

pub values-read : (c : Command) (text after : List ℕ) → Reads c text after (values_of c text after)
unfolding values_of slots_of
values-read c text after =
    record {
      code = refl;
      id = string-means text c.id;
      file = string-means text c.file_id;
      size = refl;
      status = string-means after c.status;
    }

session-is : (own id : List ℕ) (m : List Mark) (g : Stage) → SessionOK own m g
    → (not (is_fresh g) && equals own id) ≡ equals_some id (session_in m)
session-is own id m Stage.Fresh o = rw o.session
session-is own id m Stage.Waiting o = rw o.session
session-is own id m Stage.Open o = rw o.session
session-is own id m Stage.Finished o = rw o.session
session-is own id m Stage.Stopped o = rw o.0

module _ {t : Transfer} {m : List Mark} (k : Kept t m) where
  ours-reply : (c : Command) (text after : List ℕ) (d : List Value) → Reads c text after d
      → is_reply d m ≡ is_ours t c.action (id_in c text)
  unfolding is_ours
  ours-reply c text after d r =
      rw (r.code, status-code c.action, r.id, session-is (Transfers.id_of t) (id_of d) m t.stage k.session)

  heed-heard : (c : Command) (text after : List ℕ) (d : List Value) → Reads c text after d → (size_of d).magnitude < sent_limit
      → Marked m d after (heed_of t c text after)
  unfolding heed_of
  heed-heard c text after d r small = go (is_ours t c.action (id_in c text)) (ours-reply c text after d r)
    where
      go : (b : Bool) → is_reply d m ≡ b
          → Marked m d after (cond b (status_heed t (file_id_in c text) c.size c.status (word_of (string_in after c.status)))
          (heeded t News.Ignored))
      go true e = rw (r.file, r.size, r.status) (status-heard d k c.status after r.status e small)
      go false e =
          let s : (x : Word) → for_session x d m ≡ false = λ x. rw e in
          let f : (x : Word) → for_file x d m ≡ false = λ x. rw e in
          let a : (for_session Word.Ok d m || allowed_in m) ≡ allowed_in m = rw (s Word.Ok) in
          let kept = unmoved d k (s Word.Other) (allowed-as a t.stage) (f Word.Other) (unagreed d m (f Word.Ok)) in
          record { kept = kept; said = rw e; taken = refl }

-- ---- a report
pub record Reported (m ms : List Mark) (ds : List Told) (h : Outcome Heeded) : Type 0 where
  pub kept : Kept h.answer.transfer ms
  pub tells : saying h.answer.news h.buffer ≡ saying_of m ds
  pub taken : is_unheard h.answer.news ≡ false

pub or_left : (a b : Bool) → (a || b) ≡ false → a ≡ false
or_left true b e = e
or_left false b e = refl

module _ {t : Transfer} {m : List Mark} (k : Kept t m) where
  read-reported : (text scratch : List ℕ) → scratch_room ≤ length scratch
      → Reported m (read_mark Mark.read (meaning_of text) m) (Told.command text ∷ []) (read_heed t text (read_of text scratch))
  read-reported text scratch enough = go (read_of text scratch).answer refl
    where
      after : List ℕ
      after = (read_of text scratch).buffer

      go : (a : Answer) → (read_of text scratch).answer ≡ a
          → Reported m (read_mark Mark.read (meaning_of text) m) (Told.command text ∷ []) (read_heed t text (outcome a after))
      go (Answer.read c) e =
          let w : Meaning.command (values_of c text after) ≡ meaning_of text = rw e at (read-means text scratch enough) in
          let h = heed-heard k c text after (values_of c text after) (values-read c text after)
          (size_small text (values_of c text after) (sym w)) in
          record { kept = rw (← w) h.kept; tells = rw (← w) h.said; taken = h.taken }
      go (Answer.refused n) e =
          let w : Meaning.refused n ≡ meaning_of text = rw e at (read-means text scratch enough) in
          let o = text-taken n (meaning-refusal text n (sym w)) in
          record { kept = rw (← w) k; tells = rw (← w); taken = or_left (eqb n 9) (eqb n 10) o }

  text-heard : (text scratch : List ℕ) → scratch_room ≤ length scratch → (d : Bool)
      → let told = cond d (Told.drag_drop text) (Told.command text) ∷ [] in
      Reported m (told_marks Mark.read told m) told
      (cond d (outcome (heeded t News.Ignored) scratch) (read_heed t text (read_of text scratch)))
  text-heard text scratch enough true = record { kept = k; tells = refl; taken = refl }
  text-heard text scratch enough false = read-reported text scratch enough

  pub report-heard : (r : Report) (text scratch : List ℕ) → scratch_room ≤ length scratch → (r ≡ Report.ShortCarry → ⊥)
      → Reported m (told_marks Mark.read (told_of r text) m) (told_of r text) (report_heed t r text scratch)
  unfolding report_heed
  report-heard Report.Nothing text scratch enough n = record { kept = k; tells = refl; taken = refl }
  report-heard (Report.InPiece start l) text scratch enough n = text-heard text scratch enough (is_drag_drop text)
  report-heard (Report.InCarry l) text scratch enough n = text-heard text scratch enough (is_drag_drop text)
  report-heard Report.TooLong text scratch enough n = record { kept = k; tells = refl; taken = refl }
  report-heard Report.Abandoned text scratch enough n = record { kept = k; tells = refl; taken = refl }
  report-heard Report.ShortCarry text scratch enough n = absurd (n refl)
