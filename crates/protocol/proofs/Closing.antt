-- What done turns done: a directory at its open, and a regular file that closes whole at its last part; and a last part answered done
-- closes its file.
use Prim.Native.Nat.{ℕ, ◌≤◌, ◌<◌}
use mathlib.Core.Path.{◌≡◌, refl, sym, ap, ◌∙◌}
use mathlib.Core.Bool.{Bool, true, false, ◌&&◌}
use mathlib.Core.Logic.{◌⊎◌, inl, inr}
use mathlib.Core.List.{List, ◌∷◌, append-nil}
use native.Mathlib.Omega.{arith}
use lib.ListN.{length, get_or, set}
use lib.Seq.{get_or-set_same}
use borrow.Author.Tests.{le-ltb, eqb-true, eq-eqb}
use lib.Dec.{eqb}
use Rattle.std.specs.Prelude.{Option, Some, None}
use Rattle.octets.specs.Slices.{equals}
use Rattle.octets.proofs.Below.{both_test}
use Rattle.octets.proofs.Compare.{equals_refl, equals-sound}
use Rattle.frames.specs.declared.Framing.{Framing}
use Rattle.protocol.specs.Table.{no_file, no_session, session_at, file_at, id_of, file_id_of, is_present, is_used, file_used, is_done}
use Rattle.protocol.specs.Table.{put_file, moved}
use Rattle.protocol.specs.Replies.{reply_room}
use Rattle.protocol.specs.Change.{cleared, after}
use Rattle.protocol.specs.Rule.{grown, done_by}
use Rattle.protocol.specs.Sessions.{settle_done}
use Rattle.protocol.specs.Calls.{is_owed, replied, guarded, done_of}
use Rattle.protocol.specs.History.{Command, Heard, Event, Mark, marks_of, Question, last_ask}
use Rattle.protocol.specs.Stretches.{Key, parts, contents}
use Rattle.protocol.specs.Machine.{Call, World}
use Rattle.protocol.specs.Sound.{IsId, SoundFile}
use Rattle.protocol.specs.Claim.{is_done_as, Closes, DirectoryAsked, key_in, Closed}
use Rattle.protocol.specs.declared.FileState.{FileState}
use Rattle.protocol.specs.declared.FileRecord.{FileRecord}
use Rattle.protocol.specs.declared.Session.{Session}
use Rattle.protocol.specs.declared.Due.{Due}
use Rattle.protocol.specs.declared.Table.{Table}
use Rattle.protocol.proofs.Ours.{step, ClosedWhole}
use Rattle.protocol.proofs.Laws.{past-used, no_way}
use Rattle.protocol.proofs.Backs.{table}
use Rattle.protocol.proofs.Invariant.{key_of, FileOK, Asking}
use Rattle.protocol.proofs.Done.{key_at, WasDone, NoneDone, counts-done, each_le, was_le, put-more}
use Rattle.protocol.proofs.Puts.{free-files, none-same, none_free, only-there, none-file, none-closes}
use Rattle.protocol.proofs.SoundRule.{grown-held}
use Rattle.protocol.proofs.Obeyed.{session_in}
use Rattle.protocol.proofs.Settled.{is-for, sound-here, inside, is_open, fits, asking, s-ok, part-done, same_none}
use Rattle.protocol.proofs.Worlds.{WorldOK}
use Rattle.protocol.proofs.Feeds.{world}
use Rattle.protocol.proofs.ClosingReplies.{ReplyLaw, closing-reply}

-- an ask that is no last part
abbrev is_last : Question → Bool
is_last Question.none = false
is_last (Question.asks d Heard.opens) = false
is_last (Question.asks d (Heard.writes p)) = false
is_last (Question.asks d (Heard.writes_last p)) = true
is_last (Question.asks d Heard.commits) = false
is_last (Question.asks d Heard.requests) = false

no_last : {A : Type 0} {q : Question} {c d : Command} {a : Heard} {p : List ℕ} → q ≡ Question.asks c a → is_last (Question.asks c a) ≡ false
    → q ≡ Question.asks d (Heard.writes_last p) → A
no_last x y z = no_way (sym (ap is_last (sym x ∙ z)) ∙ y)

-- a done that is not refused with 9
pub done-is : (w : World) (reply : List ℕ) → reply_room ≤ length reply
    → done_of w.receiver reply ≡ replied w.receiver.framing (settle_done w.receiver.table) reply
unfolding done_of guarded
done-is w reply h = rw (le-ltb (length reply) reply_room h)

-- a file that is started has an id that is not empty
named-id : {f : FileRecord} → SoundFile f → file_used f ≡ true → (f.state ≡ FileState.Named → ⊥) → IsId (file_id_of f)
named-id ok used n = let k = ok.named used in record { safe = k.safe; some = k.some n; short = k.short }

started-named : {g : FileState} → g ≡ FileState.Started → g ≡ FileState.Named → ⊥
started-named {g} e z =
    let x : FileState.Started ≡ FileState.Named = sym e ∙ z in let y : ◌≡◌ {A = ℕ} 0 1 = cc in omega arith

not_done : FileState.Started ≡ FileState.Done → ⊥
not_done e = let z : ◌≡◌ {A = ℕ} 0 1 = cc in omega arith

-- what a record is done as
done-as : (k : Key) (c quiet : ℕ) (s : Session) (f : FileRecord) → is_done_as k c quiet s f ≡ true
    → (k ≡ key_of s f) × (c ≡ f.count) × (quiet ≡ s.quiet)
done-as k c quiet s f e =
    let ids : Bool = (equals (file_id_of f) k.file && (eqb f.count c && eqb s.quiet quiet)) in
    let a = both_test (is_done f.state) (equals (id_of s) k.id && ids) e in
    let b = both_test (equals (id_of s) k.id) ids a.1 in
    let d = both_test (equals (file_id_of f) k.file) (eqb f.count c && eqb s.quiet quiet) b.1 in
    let g = both_test (eqb f.count c) (eqb s.quiet quiet) d.1 in
    let id : id_of s ≡ k.id = equals-sound _ _ b.0 in
    let file : file_id_of f ≡ k.file = equals-sound _ _ d.0 in
    (rw (id, file) refl, sym (eqb-true _ _ g.0), sym (eqb-true _ _ g.1))

-- ---- a file that an answer moves to done, with a count
module _ (ss : List Session) (o o' : Option (ℕ × Due)) (i j n : ℕ)
    (inside : i < length ss) (within : j < length (session_in ss i).files) where
  abbrev file : FileRecord
  file = moved (file_at (session_in ss i) j) FileState.Done n

  abbrev closed_table : Table
  closed_table = table (set ss i (put_file (session_in ss i) j file)) o'

  same-session : get_or (set ss i (put_file (session_in ss i) j file)) i no_session ≡ put_file (session_in ss i) j file
  same-session = get_or-set_same ss i (put_file (session_in ss i) j file) no_session inside

  same-file : file_at (put_file (session_in ss i) j file) j ≡ file
  same-file = get_or-set_same (session_in ss i).files j file no_file within

  -- one record more is done, with the ids that it had
  closes-more : is_done (file_at (session_in ss i) j).state ≡ false
      → Closes (table ss o) closed_table (key_at (table ss o) i j) n (session_in ss i).quiet
  closes-more e =
      let s = session_in ss i in
      put-more (key_of s (file_at s j)) n s.quiet (table ss o) i j file o' inside within (rw e)
      (rw (equals_refl (id_of s), equals_refl (file_id_of (file_at s j)), eq-eqb n n refl, eq-eqb s.quiet s.quiet refl))

  -- and no other file closes
  only-closes : (k : Key) (c quiet : ℕ) → Closes (table ss o) closed_table k c quiet
      → (k ≡ key_at (table ss o) i j) × (c ≡ n) × (quiet ≡ (session_in ss i).quiet)
  only-closes k c quiet more = go (is_done_as k c quiet (session_in ss i) file) refl
    where
      go : (b : Bool) → is_done_as k c quiet (session_in ss i) file ≡ b
          → (k ≡ key_at (table ss o) i j) × (c ≡ n) × (quiet ≡ (session_in ss i).quiet)
      go true e = done-as k c quiet (session_in ss i) file e
      go false e = absurd (omega (arith, each_le k c quiet (table ss o) closed_table still))
        where
          still : (i' j' : ℕ) → is_done_as k c quiet (session_at closed_table i') (file_at (session_at closed_table i') j') ≡ true
              → is_done_as k c quiet (session_in ss i') (file_at (session_in ss i') j') ≡ true
          still i' j' h =
              let s = session_at closed_table i' in
              by (only-there (table ss o) i j file o' i' j' (counts-done k c quiet s (file_at s j') h))
            where
              by : WasDone (session_in ss i') (session_at closed_table i') j' ⊎ ((i' ≡ i) × (j' ≡ j) × (file.state ≡ FileState.Done))
                  → is_done_as k c quiet (session_in ss i') (file_at (session_in ss i') j') ≡ true
              by (inl was) = was_le k c quiet (table ss o) closed_table i' j' was h
              by (inr q) = no_way (sym (rw (q.0, q.1, same-session, same-file) at h) ∙ e)

module _ (g : Framing) (ss : List Session) (carry : List ℕ) (h : List Event) (reply : List ℕ) (room : reply_room ≤ length reply)
    (i : ℕ) where
  -- the world with something owed for the session at place i, and what is owed after the answer
  abbrev before : Due → World
  before d = world g ss (Some (i, d)) carry h

  abbrev left : Due → Option (ℕ × Due)
  left d = cleared i (Some (i, d))

  abbrev s : Session
  s = session_in ss i

  -- ---- the open of a directory
  directory-turns : (j : ℕ) → WorldOK (before (Due.OpenDirectory j)) → DirectoryAsked (key_of s (file_at s j)) (marks_of h)
  directory-turns j ok =
      let a = asking ok.sound ok.table in
      let at = (fits ok.sound ok.table).file in
      record {
        command = a.command;
        asked = rw (← a.about.heard) a.asked;
        action = rw a.about.action;
        directory = rw a.about.kind;
        for_it = is-for s j a.command a.id a.about.file;
        unstarted = (s-ok ok.sound ok.table refl).unstarted (file_id_of (file_at s j)) (λ n p e.
            let used = past-used (file_at s n).state p in
            let q : n ≡ j = (sound-here ok.sound ok.table).alone n j used (ap is_used at.state) e in
            no_way (sym (rw (q, at.state) at p)));
      }

  -- ---- the last part of a file
  module _ (j n : ℕ) (ok : WorldOK (before (Due.WriteLast j n))) where
    abbrev w : World
    w = before (Due.WriteLast j n)

    abbrev k : Key
    k = key_of s (file_at s j)

    abbrev size : ℕ
    size = grown s j n

    a : Asking s (last_ask (marks_of h)) (Due.WriteLast j n)
    a = asking ok.sound ok.table

    marks-after : marks_of (step w (Call.done reply)).history ≡ Mark.answer true (last_ask (marks_of h)) ∷ marks_of h
    unfolding settle_done done_by marks_of
    marks-after = rw (done-is w reply room)

    file-after : FileOK false (Mark.answer true (last_ask (marks_of h)) ∷ marks_of h) k size (file_at s j).declared
    file-after =
        part-done ok.sound ok.table refl true j n (fits ok.sound ok.table) (asking ok.sound ok.table).about

    joined-after : contents k file-after.stretch.marks ≡ parts k file-after.stretch.marks
    joined-after = rw append-nil at file-after.joined

    whole : ReplyLaw → ClosedWhole w reply k size s.quiet
    unfolding settle_done done_by
    whole law =
        let t = sound-here ok.sound ok.table in
        let at = (fits ok.sound ok.table).file in
        record {
          last_part = record {
            command = a.command;
            part = a.about.part;
            asked = rw (← a.about.heard) a.asked;
            for_it = is-for s j a.command a.id a.about.file;
          };
          stretch = file-after.stretch;
          started = rw marks-after file-after.started;
          joined = sym joined-after;
          counted = file-after.counted ∙ ap length (sym joined-after);
          declared = λ some. grown-held (fits ok.sound ok.table) (rw file-after.declares some) ∙ file-after.declares;
          replied =
              rw (done-is w reply room)
              (closing-reply s (file_at s j) size law (t.named (ap is_present (is_open ok.sound ok.table refl)))
              (named-id (t.each j) (ap is_used at.state) (started-named at.state)) (omega arith) g _ reply refl room);
        }

    closes : (d : Command) (p : List ℕ) → last_ask (marks_of h) ≡ Question.asks d (Heard.writes_last p)
        → Closed w.receiver.table (step w (Call.done reply)).receiver.table d
    unfolding settle_done done_by
    closes d p e =
        let at = (fits ok.sound ok.table).file in
        let x : Question.asks a.command a.heard ≡ Question.asks d (Heard.writes_last p) = sym a.asked ∙ e in
        let y : a.command ≡ d = cc in
        let key : key_in d ≡ k = rw (← y, a.id, a.about.file) in
        record {
          count = size;
          quiet = s.quiet;
          closes =
              rw (key, done-is w reply room)
              (closes-more ss (Some (i, Due.WriteLast j n)) (left (Due.WriteLast j n)) i j size (inside ok.sound ok.table)
              at.within (ap is_done at.state));
        }

  -- ---- whatever is due
  -- no record turns done
  no-turn : {A : Type 0} (d : Due) (k : Key) (c quiet : ℕ)
      → NoneDone (table ss (Some (i, d))) (after (table ss (Some (i, d))) i (done_by s d))
      → Closes (table ss (Some (i, d))) (after (table ss (Some (i, d))) i (done_by s d)) k c quiet → A
  no-turn d k c quiet none closes =
      let t = table ss (Some (i, d)) in absurd (none-closes t (after t i (done_by s d)) k c quiet none closes)

  pub turned-due : ReplyLaw → (d : Due) → WorldOK (before d) → (k : Key) (c quiet : ℕ)
      → Closes (table ss (Some (i, d))) (after (table ss (Some (i, d))) i (done_by s d)) k c quiet
      → DirectoryAsked k (marks_of h) ⊎ ClosedWhole (before d) reply k c quiet
  unfolding done_by
  turned-due law (Due.OpenFile j) ok k c quiet x =
      no-turn (Due.OpenFile j) k c quiet (none-file (table ss (Some (i, Due.OpenFile j))) i j _ (left (Due.OpenFile j)) not_done) x
  turned-due law (Due.OpenDirectory j) ok k c quiet x =
      let at = (fits ok.sound ok.table).file in
      let in_table = inside ok.sound ok.table in
      let e = only-closes ss (Some (i, Due.OpenDirectory j)) (left (Due.OpenDirectory j)) i j 0 in_table at.within k c quiet x in
      rw e.0 (inl (directory-turns j ok))
  turned-due law (Due.Write j n) ok k c quiet x =
      no-turn (Due.Write j n) k c quiet (none-file (table ss (Some (i, Due.Write j n))) i j _ (left (Due.Write j n)) not_done) x
  turned-due law (Due.WriteLast j n) ok k c quiet x =
      let at = (fits ok.sound ok.table).file in
      let in_table = inside ok.sound ok.table in
      let e = only-closes ss (Some (i, Due.WriteLast j n)) (left (Due.WriteLast j n)) i j _ in_table at.within k c quiet x in
      rw (e.0, e.1, e.2) (inr (whole j n ok law))
  turned-due law Due.Commit ok k c quiet x =
      no-turn Due.Commit k c quiet (none_free (table ss (Some (i, Due.Commit))) i _ (left Due.Commit) free-files) x
  turned-due law Due.Request ok k c quiet x =
      no-turn Due.Request k c quiet (same_none ss i Due.Request (Some (i, Due.Request))) x

  -- a last part asked last and answered is the one that is due
  pub closed-due : (due : Due) → WorldOK (before due) → (d : Command) (p : List ℕ)
      → last_ask (marks_of h) ≡ Question.asks d (Heard.writes_last p)
      → Closed (table ss (Some (i, due))) (step (before due) (Call.done reply)).receiver.table d
  closed-due (Due.OpenFile j) ok d p e = let a = asking ok.sound ok.table in no_last a.asked (rw a.about.heard) e
  closed-due (Due.OpenDirectory j) ok d p e = let a = asking ok.sound ok.table in no_last a.asked (rw a.about.heard) e
  closed-due (Due.Write j n) ok d p e = let a = asking ok.sound ok.table in no_last a.asked (rw a.about.heard) e
  closed-due (Due.WriteLast j n) ok d p e = closes j n ok d p e
  closed-due Due.Commit ok d p e = let a = asking ok.sound ok.table in no_last a.asked (rw a.about) e
  closed-due Due.Request ok d p e = let a = asking ok.sound ok.table in no_last a.asked (rw a.about.0) e

-- ---- whatever is owed
module _ (g : Framing) (ss : List Session) (carry : List ℕ) (h : List Event) (reply : List ℕ) (room : reply_room ≤ length reply) where
  pub turned : ReplyLaw → (o : Option (ℕ × Due)) → WorldOK (world g ss o carry h) → (k : Key) (c quiet : ℕ)
      → Closes (table ss o) (settle_done (table ss o)).table k c quiet
      → DirectoryAsked k (marks_of h) ⊎ ClosedWhole (world g ss o carry h) reply k c quiet
  unfolding settle_done
  turned law None ok k c quiet x =
      let t = table ss None in absurd (none-closes t t k c quiet (none-same t None) x)
  turned law (Some (i, d)) ok k c quiet x = turned-due g ss carry h reply room i law d ok k c quiet x

  pub closed : (o : Option (ℕ × Due)) → WorldOK (world g ss o carry h) → (d : Command) (p : List ℕ)
      → last_ask (marks_of h) ≡ Question.asks d (Heard.writes_last p)
      → is_owed o ≡ true → Closed (table ss o) (step (world g ss o carry h) (Call.done reply)).receiver.table d
  closed None ok d p e b = no_way (sym b)
  closed (Some (i, due)) ok d p e b = closed-due g ss carry h reply room i due ok d p e
