-- An answer keeps the invariant: done and failed, where an answer is owed.
use Prim.Native.Nat.{ℕ, ◌<◌}
use mathlib.Core.Path.{◌≡◌, refl, sym, ap, subst, ◌∙◌}
use mathlib.Core.Bool.{Bool, true, false}
use mathlib.Core.List.{List, ◌∷◌}
use native.Mathlib.Omega.{arith}
use lib.ListN.{length, set}
use Rattle.std.specs.Prelude.{Option, Some, None}
use Rattle.octets.specs.Slices.{equals}
use Rattle.command.specs.Slots.{nowhere}
use Rattle.command.specs.Meaning as Meaning
use Rattle.protocol.specs.Table.{absent_session, no_file, no_session, session_at, file_at, id_of, file_id_of, session_used, file_used}
use Rattle.protocol.specs.Table.{is_present, is_used, put_file, moved}
use Rattle.protocol.specs.Replies.{session_reply, failure_status}
use Rattle.protocol.specs.Change.{drops, cleared, told_by, after, step_by}
use Rattle.protocol.specs.Files.{failed_file}
use Rattle.protocol.specs.Receives.{request_fails}
use Rattle.protocol.specs.Rule.{grown, done_by, failed_by, unlisted_by}
use Rattle.protocol.specs.Sessions.{answered_with, settle_done, settle_failed, settle_unlisted}
use Rattle.protocol.specs.History.{Command, Mark, Question, last_ask}
use Rattle.protocol.specs.Stretches.{Key, is_for, starts_for, part_for}
use Rattle.protocol.specs.Machine.{is_refused}
use Rattle.protocol.specs.Sound.{FileIs, PartFits, Fits, due_in, SoundSession, Sound}
use Rattle.protocol.specs.declared.FileState.{FileState}
use Rattle.protocol.specs.declared.SessionState.TheVariants as SessionState
use Rattle.protocol.specs.declared.Session.{Session}
use Rattle.protocol.specs.declared.Due.{Due}
use Rattle.protocol.specs.declared.Table.{Table}
use Rattle.protocol.specs.declared.Status.{Status}
use Rattle.protocol.specs.declared.Failure.{Failure}
use Rattle.protocol.specs.declared.Told.{Told}
use Rattle.protocol.specs.declared.Reply.{Reply}
use Rattle.protocol.specs.declared.Change.{Change}
use Rattle.protocol.proofs.Laws.{no_way, is_past, equals-other, equals-same, unique-other}
use Rattle.protocol.proofs.Backs.{table, same-sessions, own-cleared}
use Rattle.protocol.proofs.Tellings.{plain, AnswerTold, taken, refused, done-told, failed-told, unlisted-told}
use Rattle.protocol.proofs.Invariant.{key_of, file_key, FileOK, RecordOK, commits_for, OpenOK, SessionOK, IsFile, OpenAsked, PartAsked}
use Rattle.protocol.proofs.Invariant.{is_supplied, write_heard, Asking, TableOK}
use Rattle.protocol.proofs.Marks.{none-answered, file-other, file-done, file-starts, file-answered, holds-answered, session-answered}
use Rattle.protocol.proofs.Done.{NoneDone}
use Rattle.protocol.proofs.Puts.{noted_marks, put-ok, absent-ok, put-file, free-files, none-same, none-put, none_free, none-file}
use Rattle.protocol.proofs.SoundRule.{grown-fits}
use Rattle.protocol.proofs.SoundTable.{owed-session, owed-inside}
use Rattle.protocol.proofs.Obeyed.{session_in}

-- what is due is due for a session that is present
due-present : (d : Due) → is_present (due_in d) ≡ true
due-present (Due.OpenFile j) = refl
due-present (Due.OpenDirectory j) = refl
due-present (Due.Write j n) = refl
due-present (Due.WriteLast j n) = refl
due-present Due.Commit = refl
due-present Due.Request = refl

-- the file that is due is the command's
pub is-for : (s : Session) (j : ℕ) (d : Command) → id_of s ≡ Meaning.id_of d → IsFile s j d → is_for (key_of s (file_at s j)) d ≡ true
is-for s j d id file = rw (equals-same _ _ id, equals-same _ _ file)

-- an ask of a part: it commits nothing, starts nothing, and hands over its part for the file
writes-commit : (last : Bool) (i : List ℕ) (d : Command) (p : List ℕ) → commits_for i (Question.asks d (write_heard last p)) ≡ false
writes-commit true i d p = refl
writes-commit false i d p = refl

writes_start : (last : Bool) (k : Key) (d : Command) (p : List ℕ) → starts_for k (Question.asks d (write_heard last p)) ≡ false
writes_start true k d p = refl
writes_start false k d p = refl

writes-part : (last : Bool) (k : Key) (d : Command) (p : List ℕ) → is_for k d ≡ true → part_for k (Question.asks d (write_heard last p)) ≡ p
writes-part true k d p e = rw e
writes-part false k d p e = rw e

-- states that differ
done-start : {A : Type 0} → FileState.Done ≡ FileState.Started → A
done-start e = let z : ◌≡◌ {A = ℕ} 0 1 = cc in absurd (omega arith)

failed-start : {A : Type 0} → FileState.Failed ≡ FileState.Started → A
failed-start e = let z : ◌≡◌ {A = ℕ} 0 1 = cc in absurd (omega arith)

module _ {ss : List Session} {i : ℕ} {due : Due} {m : List Mark} (sound : Sound (table ss (Some (i, due))))
    (ok : TableOK (table ss (Some (i, due))) m) where
  -- what is due for it, and the ask told last
  pub sound-here : SoundSession (session_in ss i) (Some due)
  sound-here = owed-session sound refl

  pub inside : i < length ss
  inside = owed-inside sound refl

  present : session_used (session_in ss i) ≡ true
  present = ap is_present sound-here.fits.0 ∙ due-present due

  pub fits : Fits (session_in ss i) due
  fits = sound-here.fits.1

  pub asking : Asking (session_in ss i) (last_ask m) due
  asking = ok.owed

  -- the marks after the answer
  abbrev answered : Bool → List Mark
  answered v = Mark.answer v (last_ask m) ∷ m

  others-ok : (v : Bool) (j : ℕ) → (j ≡ i → ⊥) → SessionOK false (answered v) (session_in ss j)
  others-ok v j n =
      session-answered asking.command asking.heard v asking.asked (session_in ss j)
      (λ q. let id = Meaning.id_of asking.command in
      unique-other session_used id_of no_session ss i id sound.alone present asking.id j n q)
      (ok.each j)

  -- the session is put back as x, and nothing is owed
  put-answered : (v : Bool) (x : Session) → SessionOK false (answered v) x → TableOK (table (set ss i x) None) (answered v)
  put-answered v x here = put-ok (table ss (Some (i, due))) i x None inside (others-ok v) here tt ok.told ok.served

-- ---- in an open send session
module _ {ss : List Session} {i : ℕ} {due : Due} {m : List Mark} (sound : Sound (table ss (Some (i, due))))
    (ok : TableOK (table ss (Some (i, due))) m) (sends : due_in due ≡ SessionState.Open) where
  abbrev s : Session
  s = session_in ss i

  pub is_open : s.state ≡ SessionState.Open
  is_open = (sound-here sound ok).fits.0 ∙ sends

  pub s-ok : OpenOK true m s
  s-ok = (ok.each i).sends is_open

  abbrev asked_of : Asking s (last_ask m) due
  asked_of = asking sound ok

  abbrev answered-by : Bool → List Mark
  answered-by v = Mark.answer v (last_ask m) ∷ m

  -- the answer moves its file to the state g with the count n
  settle-file : (v : Bool) (j : ℕ) (old : FileState) → is_used old ≡ true → FileIs s j old → IsFile s j asked_of.command
      → ((k : List ℕ) → commits_for k (Question.asks asked_of.command asked_of.heard) ≡ false)
      → (g : FileState) → is_past g ≡ true → (n : ℕ)
      → (g ≡ FileState.Started → RecordOK false (answered-by v) s (moved (file_at s j) g n))
      → TableOK (table (set ss i (put_file s j (moved (file_at s j) g n))) None) (answered-by v)
  settle-file v j old u at its nc g gp n here =
      put-answered sound ok v (put_file s j (moved (file_at s j) g n))
      (record {
        sends = λ _. put-file s j (moved (file_at s j) g n) s-ok at.within
            (holds-answered (Question.asks asked_of.command asked_of.heard) v asked_of.asked (nc (id_of s)) s-ok.stand)
            (λ k r w. let other = file-other (key_of s (file_at s k)) asked_of.command (differs k r w) in
            file-answered asked_of.command asked_of.heard v asked_of.asked other (s-ok.each k w))
            here (λ _. (gp, refl))
            (λ h p. none-answered m (file_key s h) asked_of.command asked_of.heard v asked_of.asked
            (file-other (file_key s h) asked_of.command (equals-other _ _ (λ e. p gp (its ∙ sym e)))));
        serves = λ e. no_way (sym e ∙ ap is_supplied is_open);
      })
    where
      used : file_used (file_at s j) ≡ true
      used = ap is_used at.state ∙ u

      differs : (k : ℕ) → (k ≡ j → ⊥) → (file_at s k).state ≡ FileState.Started
          → equals (file_id_of (file_at s k)) (Meaning.file_id_of asked_of.command) ≡ false
      differs k r w =
          let id = Meaning.file_id_of asked_of.command in
          unique-other file_used file_id_of no_file s.files j id (sound-here sound ok).alone used its k r (ap is_used w)

  -- to an open
  settle-open : (type : ℕ) (v : Bool) (j : ℕ) → FileIs s j FileState.Opening → OpenAsked type s asked_of.command asked_of.heard j
      → (g : FileState) → is_past g ≡ true → (n : ℕ) → (g ≡ FileState.Started → RecordOK false (answered-by v) s (moved (file_at s j) g n))
      → TableOK (table (set ss i (put_file s j (moved (file_at s j) g n))) None) (answered-by v)
  settle-open type v j at w = settle-file v j FileState.Opening refl at w.file (λ k. rw w.heard)

  -- to a part
  settle-part : (last v : Bool) {x : FileState} (j n : ℕ) → PartFits s x j n → PartAsked last s asked_of.command asked_of.heard j n
      → (g : FileState) → is_past g ≡ true → (c : ℕ) → (g ≡ FileState.Started → RecordOK false (answered-by v) s (moved (file_at s j) g c))
      → TableOK (table (set ss i (put_file s j (moved (file_at s j) g c))) None) (answered-by v)
  settle-part last v j n at w =
      settle-file v j FileState.Started refl at.file w.file (λ k. rw w.heard (writes-commit last k asked_of.command w.part))

  -- ---- the file's own part of the invariant
  -- an open of a regular file answered done
  start-file : (j : ℕ) → OpenAsked 0 s asked_of.command asked_of.heard j
      → FileOK false (answered-by true) (key_of s (file_at s j)) 0 (file_at s j).declared
  start-file j w =
      let its = is-for s j asked_of.command asked_of.id w.file in
      file-starts {m = m} asked_of.command asked_of.heard asked_of.asked (rw (w.heard, w.action, w.kind) its) (w.declares refl)

  -- a part answered done: the count grows by its length, and the cap is not met
  pub part-done : (last : Bool) {x : FileState} (j n : ℕ) → PartFits s x j n → PartAsked last s asked_of.command asked_of.heard j n
      → FileOK false (answered-by true) (key_of s (file_at s j)) (grown s j n) (file_at s j).declared
  part-done last j n at w =
      let k : Key = key_of s (file_at s j) in
      let q : Question = Question.asks asked_of.command (write_heard last w.part) in
      let ask : last_ask m ≡ q = rw (asked_of.asked, w.heard) in
      let f = file-done q ask (writes_start last k asked_of.command w.part) (s-ok.each j at.file.state) in
      let p = writes-part last k asked_of.command w.part (is-for s j asked_of.command asked_of.id w.file) in
      rw (grown-fits at, w.long) (rw p at f)

-- ---- the calls
-- what was due, and the table after the answer
abbrev Before : List Session → ℕ → List Mark → Due → Type 0
Before ss i m due = Sound (table ss (Some (i, due))) × TableOK (table ss (Some (i, due))) m

abbrev After : List Session → ℕ → List Mark → Bool → Due → Change → Type 0
After ss i m v due c = TableOK (step_by (table ss (Some (i, due))) i nowhere c).table (Mark.answer v (last_ask m) ∷ m)

module _ (ss : List Session) (i : ℕ) (m : List Mark) where
  dropped-kept : (v : Bool) (due : Due) (w : Told) (r : Option Reply) → Before ss i m due → After ss i m v due (drops w r)
  dropped-kept v due w r b = rw (own-cleared i due) (put-answered b.0 b.1 v absent_session absent-ok)

  done-kept : (due : Due) → is_refused (told_by nowhere (done_by (session_in ss i) due).news) ≡ false → Before ss i m due
      → After ss i m true due (done_by (session_in ss i) due)
  unfolding done_by
  done-kept (Due.OpenFile j) _ b =
      let ask = (asking b.0 b.1).about in
      rw (own-cleared i (Due.OpenFile j))
      (settle-open b.0 b.1 refl 0 true j (fits b.0 b.1) ask FileState.Started refl 0 (λ _. start-file b.0 b.1 refl j ask))
  done-kept (Due.OpenDirectory j) _ b =
      rw (own-cleared i (Due.OpenDirectory j))
      (settle-open b.0 b.1 refl 1 true j (fits b.0 b.1).file (asking b.0 b.1).about FileState.Done refl 0 done-start)
  done-kept (Due.Write j n) _ b =
      let ask = (asking b.0 b.1).about in
      let at = fits b.0 b.1 in
      rw (own-cleared i (Due.Write j n))
      (settle-part b.0 b.1 refl false true j n at ask FileState.Started refl _ (λ _. part-done b.0 b.1 refl false j n at ask))
  done-kept (Due.WriteLast j n) _ b =
      rw (own-cleared i (Due.WriteLast j n))
      (settle-part b.0 b.1 refl true true j n (fits b.0 b.1) (asking b.0 b.1).about FileState.Done refl _ done-start)
  done-kept Due.Commit _ b = dropped-kept true Due.Commit Told.Committed None b
  done-kept Due.Request q b = no_way q

  -- a file that fails, at its open or at a part
  open-failed : (type : ℕ) (due : Due) (j : ℕ) (b : Before ss i m due) → FileIs (session_in ss i) j FileState.Opening
      → OpenAsked type (session_in ss i) (asking b.0 b.1).command (asking b.0 b.1).heard j → (w : Status)
      → due_in due ≡ SessionState.Open → After ss i m false due (failed_file (session_in ss i) j w)
  open-failed type due j b at ask w sends =
      rw (own-cleared i due) (settle-open b.0 b.1 sends type false j at ask FileState.Failed refl _ failed-start)

  part-failed : (last : Bool) {x : FileState} (due : Due) (j n : ℕ) (b : Before ss i m due) → PartFits (session_in ss i) x j n
      → PartAsked last (session_in ss i) (asking b.0 b.1).command (asking b.0 b.1).heard j n → (w : Status)
      → due_in due ≡ SessionState.Open → After ss i m false due (failed_file (session_in ss i) j w)
  part-failed last due j n b at ask w sends =
      rw (own-cleared i due) (settle-part b.0 b.1 sends last false j n at ask FileState.Failed refl _ failed-start)

  -- a request that fails: the session serves on
  request-failed : (b : Before ss i m Due.Request) (w : Status) → After ss i m false Due.Request (request_fails w (session_in ss i))
  request-failed b w =
      let state = (sound-here b.0 b.1).fits.0 in
      rw (own-cleared i Due.Request)
      (put-answered b.0 b.1 false (session_in ss i)
      (record {
        sends = λ (z : (session_in ss i).state ≡ SessionState.Open). let x : SessionState.Serving ≡ SessionState.Open = sym state ∙ z in
            let y : ◌≡◌ {A = ℕ} 0 1 = cc in absurd (omega arith);
        serves = (b.1.each i).serves;
      }))

  failed-kept : (e : Failure) (due : Due) → Before ss i m due → After ss i m false due (failed_by e (session_in ss i) due)
  unfolding failed_by
  failed-kept e (Due.OpenFile j) b =
      open-failed 0 (Due.OpenFile j) j b (fits b.0 b.1) (asking b.0 b.1).about (failure_status e) refl
  failed-kept e (Due.OpenDirectory j) b =
      open-failed 1 (Due.OpenDirectory j) j b (fits b.0 b.1).file (asking b.0 b.1).about (failure_status e) refl
  failed-kept e (Due.Write j n) b =
      part-failed false (Due.Write j n) j n b (fits b.0 b.1) (asking b.0 b.1).about (failure_status e) refl
  failed-kept e (Due.WriteLast j n) b =
      part-failed true (Due.WriteLast j n) j n b (fits b.0 b.1) (asking b.0 b.1).about (failure_status e) refl
  failed-kept e Due.Commit b =
      dropped-kept false Due.Commit Told.Discarded (Some (session_reply (failure_status e) (session_in ss i))) b
  failed-kept e Due.Request b = request-failed b (failure_status e)

  unlisted-kept : (due : Due) → is_refused (told_by nowhere (unlisted_by (session_in ss i) due).news) ≡ false → Before ss i m due
      → After ss i m false due (unlisted_by (session_in ss i) due)
  unfolding unlisted_by
  unlisted-kept (Due.OpenFile j) q b = no_way q
  unlisted-kept (Due.OpenDirectory j) q b = no_way q
  unlisted-kept (Due.Write j n) q b = no_way q
  unlisted-kept (Due.WriteLast j n) q b = no_way q
  unlisted-kept Due.Commit q b = no_way q
  unlisted-kept Due.Request q b = request-failed b Status.Einval

-- ---- answers, also where none is owed
-- one that is refused adds nothing, and leaves the table
step-noted : (v : Bool) (ss : List Session) (i : ℕ) (d : Due) (m : List Mark) (c : Change) → AnswerTold c
    → (is_refused (told_by nowhere c.news) ≡ false → Before ss i m d → After ss i m v d c)
    → Sound (table ss (Some (i, d))) → TableOK (table ss (Some (i, d))) m
    → let out = step_by (table ss (Some (i, d))) i nowhere c in
    TableOK out.table (noted_marks m (Mark.answer v (last_ask m)) out)
step-noted v ss i d m c (taken q) keeps sound ok = let u = (plain (told_by nowhere c.news) q).accepted in rw u (keeps u (sound, ok))
step-noted v ss i d m c (refused q) keeps sound ok =
    let t = table ss (Some (i, d)) in
    let left : Change → Type 0 =
    λ x. let out = step_by t i nowhere x in TableOK out.table (noted_marks m (Mark.answer v (last_ask m)) out) in
    subst left (sym q) (subst (λ (x : Table). TableOK x m) (sym (same-sessions t i t.owed)) ok)

answered-noted : (v : Bool) (ss : List Session) (o : Option (ℕ × Due)) (m : List Mark) (f : Session → Due → Change)
    → ((x : Session) (d : Due) → AnswerTold (f x d))
    → ((i : ℕ) (d : Due) → is_refused (told_by nowhere (f (session_in ss i) d).news) ≡ false → Before ss i m d
    → After ss i m v d (f (session_in ss i) d))
    → Sound (table ss o) → TableOK (table ss o) m
    → TableOK (answered_with (table ss o) f o).table (noted_marks m (Mark.answer v (last_ask m)) (answered_with (table ss o) f o))
answered-noted v ss None m f told keeps sound ok = ok
answered-noted v ss (Some (i, d)) m f told keeps sound ok =
    step-noted v ss i d m (f (session_in ss i) d) (told (session_in ss i) d) (keeps i d) sound ok

pub done-noted : (ss : List Session) (o : Option (ℕ × Due)) (m : List Mark) → Sound (table ss o) → TableOK (table ss o) m
    → TableOK (settle_done (table ss o)).table (noted_marks m (Mark.answer true (last_ask m)) (settle_done (table ss o)))
unfolding settle_done
done-noted ss o m = answered-noted true ss o m done_by done-told (λ i. done-kept ss i m)

pub failed-noted : (ss : List Session) (e : Failure) (o : Option (ℕ × Due)) (m : List Mark) → Sound (table ss o) → TableOK (table ss o) m
    → TableOK (settle_failed (table ss o) e).table (noted_marks m (Mark.answer false (last_ask m)) (settle_failed (table ss o) e))
unfolding settle_failed
failed-noted ss e o m = answered-noted false ss o m (failed_by e) (failed-told e) (λ i d _. failed-kept ss i m e d)

pub unlisted-noted : (ss : List Session) (o : Option (ℕ × Due)) (m : List Mark) → Sound (table ss o) → TableOK (table ss o) m
    → TableOK (settle_unlisted (table ss o)).table (noted_marks m (Mark.answer false (last_ask m)) (settle_unlisted (table ss o)))
unfolding settle_unlisted
unlisted-noted ss None m sound ok = ok
unlisted-noted ss (Some (i, d)) m sound ok =
    step-noted false ss i d m (unlisted_by (session_in ss i) d) (unlisted-told (session_in ss i) d) (unlisted-kept ss i m d) sound ok

-- a session put back as it was turns no record done
pub same_none : (ss : List Session) (i : ℕ) (d : Due) (o : Option (ℕ × Due))
    → NoneDone (table ss (Some (i, d))) (table (set ss i (session_in ss i)) o)
same_none ss i d o = none-put (table ss (Some (i, d))) i (session_in ss i) o (λ j w. (w, refl, refl, refl))

-- failed turns no record done
pub failed-none : (ss : List Session) (e : Failure) (o : Option (ℕ × Due)) → NoneDone (table ss o) (settle_failed (table ss o) e).table
unfolding settle_failed failed_by
failed-none ss e None = none-same (table ss None) None
failed-none ss e (Some (i, due)) = go due
  where
    record-failed : (t : Table) (j : ℕ) → NoneDone t (after t i (failed_file (session_at t i) j (failure_status e)))
    record-failed t j =
        let f = file_at (session_at t i) j in
        none-file t i j (moved f FileState.Failed f.count) (cleared i t.owed)
        (λ (x : FileState.Failed ≡ FileState.Done). let z : ◌≡◌ {A = ℕ} 0 1 = cc in omega arith)

    go : (d : Due) → let t = table ss (Some (i, d)) in NoneDone t (after t i (failed_by e (session_in ss i) d))
    go (Due.OpenFile j) = record-failed (table ss (Some (i, Due.OpenFile j))) j
    go (Due.OpenDirectory j) = record-failed (table ss (Some (i, Due.OpenDirectory j))) j
    go (Due.Write j n) = record-failed (table ss (Some (i, Due.Write j n))) j
    go (Due.WriteLast j n) = record-failed (table ss (Some (i, Due.WriteLast j n))) j
    go Due.Commit = none_free (table ss (Some (i, Due.Commit))) i absent_session (cleared i (Some (i, Due.Commit))) free-files
    go Due.Request = same_none ss i Due.Request (cleared i (Some (i, Due.Request)))

-- nor does unlisted
pub unlisted-none : (ss : List Session) (o : Option (ℕ × Due)) → NoneDone (table ss o) (settle_unlisted (table ss o)).table
unfolding settle_unlisted unlisted_by
unlisted-none ss None = none-same (table ss None) None
unlisted-none ss (Some (i, due)) = go due
  where
    go : (d : Due) → let t = table ss (Some (i, d)) in NoneDone t (after t i (unlisted_by (session_in ss i) d))
    go (Due.OpenFile j) = same_none ss i (Due.OpenFile j) (Some (i, Due.OpenFile j))
    go (Due.OpenDirectory j) = same_none ss i (Due.OpenDirectory j) (Some (i, Due.OpenDirectory j))
    go (Due.Write j n) = same_none ss i (Due.Write j n) (Some (i, Due.Write j n))
    go (Due.WriteLast j n) = same_none ss i (Due.WriteLast j n) (Some (i, Due.WriteLast j n))
    go Due.Commit = same_none ss i Due.Commit (Some (i, Due.Commit))
    go Due.Request = same_none ss i Due.Request (cleared i (Some (i, Due.Request)))
