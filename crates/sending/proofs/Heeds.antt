-- A status of the session that is read: what is kept, and what is told of it.
use Prim.Native.Nat.{ℕ, ◌<◌}
use mathlib.Core.Path.{◌≡◌, refl, sym, ◌∙◌, subst}
use mathlib.Core.Bool.{Bool, true, false, not, cond, ◌&&◌, ◌||◌, and-false, or-true}
use mathlib.Core.List.{List, ◌∷◌}
use lib.ListN.{length, get_or}
use lib.Dec.{eqb}
use Rattle.std.proofs.lemmas.Option.{none-some}
use Rattle.std.specs.Prelude.{Option, Some, None}
use Rattle.octets.specs.Slices.{equals}
use Rattle.octets.proofs.Below.{both_test}
use Rattle.octets.proofs.Compare.{equals_refl, equals-sound}
use Rattle.command.specs.Values.{Value}
use Rattle.command.specs.Meaning.{action_code, id_of, file_id_of, size_of, status_of}
use Rattle.command.specs.declared.Place.{Place}
use Rattle.protocol.specs.Sessions.{string_in}
use Rattle.protocol.proofs.Laws.{no_way, first-at}
use Rattle.sending.specs.Transfers as Transfers
use Rattle.sending.specs.Transfers.{free_file, is_known, has_file_id, find_file, is_waiting, is_sending, closed_stage, with_stage}
use Rattle.sending.specs.Transfers.{sent_limit}
use Rattle.sending.specs.Heeding.{heeded, word_of, session_heed, is_count, ok_heed, stop_heed, file_heed, found_heed, status_heed}
use Rattle.sending.specs.Story.{Mark}
use Rattle.sending.specs.Telling.{session_in, pending_in, equals_some, sum_in, is_word, is_reply, for_session, for_file}
use Rattle.sending.specs.Telling.{some_read, allowed_in, stopped_in, file_stopped_in, session_saying, file_saying, command_saying}
use Rattle.sending.specs.Telling.{agrees_for, agreed_in}
use Rattle.sending.specs.Every.{stage_by, stage_in}
use Rattle.sending.specs.declared.Stage.{Stage}
use Rattle.sending.specs.declared.FileStage.{FileStage}
use Rattle.sending.specs.declared.SentFile.{SentFile}
use Rattle.sending.specs.declared.Transfer.{Transfer}
use Rattle.sending.specs.declared.News.TheVariants as News
use Rattle.sending.specs.declared.Word.{Word}
use Rattle.sending.proofs.Kept.{Counted, Unknown, Says, SessionOK, found, Kept}
use Rattle.sending.proofs.KeptWrites.{same-file, AllowedAs, allowed-as}
use Rattle.sending.proofs.KeptReads.{Marked, unmoved, kept_put}
use Rattle.sending.proofs.Sizes.{count-or-sum}

-- the session is the one that send began
known-session : (id x : List ℕ) (m : List Mark) (g : Stage) → SessionOK id m g → equals_some x (session_in m) ≡ true
    → session_in m ≡ Some id
known-session id x m Stage.Fresh o e = no_way (sym (rw o.session at e))
known-session id x m Stage.Waiting o e = o.session
known-session id x m Stage.Open o e = o.session
known-session id x m Stage.Finished o e = o.session
known-session id x m Stage.Stopped o e = o.0

-- it waits for its OK; or it has one, or is stopped
waiting-says : (id : List ℕ) (m : List Mark) (g : Stage) → SessionOK id m g → is_waiting g ≡ true
    → Says m (Some id) false false false
waiting-says id m Stage.Fresh o e = no_way (sym e)
waiting-says id m Stage.Waiting o e = o
waiting-says id m Stage.Open o e = no_way (sym e)
waiting-says id m Stage.Finished o e = no_way (sym e)
waiting-says id m Stage.Stopped o e = no_way (sym e)

record Decided (m : List Mark) (a : Bool) (g : Stage) : Type 0 where
  allowed : AllowedAs (a || allowed_in m) (allowed_in m) g
  told : (allowed_in m || stopped_in m) ≡ true

decided : (id : List ℕ) (m : List Mark) (a : Bool) (g : Stage) → SessionOK id m g → session_in m ≡ Some id → is_waiting g ≡ false
    → Decided m a g
decided id m a Stage.Fresh o s e = absurd (none-some id (sym o.session ∙ s))
decided id m a Stage.Waiting o s e = no_way e
decided id m a Stage.Open o s e = record { allowed = rw o.allowed (or-true a); told = rw o.allowed }
decided id m a Stage.Finished o s e = record { allowed = rw o.allowed (or-true a); told = rw o.allowed }
decided id m a Stage.Stopped o s e = record { allowed = tt; told = rw o.1 (or-true (allowed_in m)) }

closed-known : (g : FileStage) → is_known (closed_stage g) ≡ is_known g
closed-known FileStage.Free = refl
closed-known FileStage.Sending = refl
closed-known FileStage.Sent = refl
closed-known FileStage.Closed = refl
closed-known FileStage.Stopped = refl

closed-sending : (g : FileStage) → is_sending (closed_stage g) ≡ is_sending g
closed-sending FileStage.Free = refl
closed-sending FileStage.Sending = refl
closed-sending FileStage.Sent = refl
closed-sending FileStage.Closed = refl
closed-sending FileStage.Stopped = refl

-- an OK that agrees
closed-by : (s a p : Bool) → closed_stage (stage_by s a p) ≡ stage_by s (not p || a) p
closed-by true a p = refl
closed-by false true true = refl
closed-by false true false = refl
closed-by false false true = refl
closed-by false false false = refl

all_false : (a b : Bool) → (a && (b && false)) ≡ false
all_false true b = and-false b
all_false false b = refl

-- a command that is no OK for a file closes none
pub unagreed : (c : List Value) (m : List Mark) → for_file Word.Ok c m ≡ false → (j : List ℕ) → agrees_for j c m ≡ false
unagreed c m e j = rw e (and-false (equals (file_id_of c) j))

module _ {t : Transfer} {m : List Mark} (c : List Value) (k : Kept t m) (p : Place) (after : List ℕ)
    (status : string_in after p ≡ status_of c) (ours : is_reply c m ≡ true) (small : (size_of c).magnitude < sent_limit) where
  id-session : session_in m ≡ Some (Transfers.id_of t)
  id-session =
      known-session (Transfers.id_of t) (id_of c) m t.stage k.session
      (both_test (eqb (action_code c) 8) (equals_some (id_of c) (session_in m)) ours).1

  -- ---- without fid
  module _ (e : eqb (length (file_id_of c)) 0 ≡ true) where
    no-file : (x : Word) → for_file x c m ≡ false
    no-file x = rw (ours, e)

    of-session : (x w : Word) → word_of (status_of c) ≡ w → for_session x c m ≡ is_word x w
    of-session x w q = rw (ours, e, q)

    told-session : (w : Word) → word_of (status_of c) ≡ w → command_saying m c ≡ session_saying m c w
    told-session w q = rw (ours, e, q)

    -- the session in another stage
    moved-session : (g : Stage) → SessionOK (Transfers.id_of t) (Mark.read c ∷ m) g → Kept (with_stage t g) (Mark.read c ∷ m)
    unfolding some_read
    moved-session g s =
        record {
          sized = k.sized;
          session = s;
          safe = k.safe;
          short = k.short;
          files =
              λ j. same-file m (Mark.read c ∷ m) j t.files refl refl refl (rw (no-file Word.Other, and-false (equals (file_id_of c) j)))
              (rw (unagreed c m (no-file Word.Ok) j)) (found t.files j) (k.files j);
          free = k.free;
          many = k.many;
          none = k.none;
          current = λ d q. let o = k.current d q in record { pending = o.pending; there = o.there };
        }

    session-heard : (w : Word) → word_of (status_of c) ≡ w → Marked m c after (session_heed t p w)
    unfolding session_heed some_read
    session-heard Word.Ok q = go (is_waiting t.stage) refl
      where
        go : (b : Bool) → is_waiting t.stage ≡ b
            → Marked m c after (cond b (heeded (with_stage t Stage.Open) News.Allowed) (heeded t News.Noted))
        go true r =
            let s = waiting-says (Transfers.id_of t) m t.stage k.session r in
            record {
              kept =
                  moved-session Stage.Open
                  (record {
                    session = id-session;
                    allowed = rw (of-session Word.Ok Word.Ok q);
                    stopped = rw (of-session Word.Other Word.Ok q) s.stopped;
                    finished = s.finished;
                  });
              said = rw (told-session Word.Ok q, s.allowed, s.stopped);
              taken = refl;
            }
        go false r =
            let d = decided (Transfers.id_of t) m (for_session Word.Ok c m) t.stage k.session id-session r in
            record {
              kept = unmoved c k (of-session Word.Other Word.Ok q) d.allowed (no-file Word.Other) (unagreed c m (no-file Word.Ok));
              said = rw (told-session Word.Ok q, d.told);
              taken = refl;
            }
    session-heard Word.Going q =
        let a : (for_session Word.Ok c m || allowed_in m) ≡ allowed_in m = rw (of-session Word.Ok Word.Going q) in
        record {
          kept =
              unmoved c k (of-session Word.Other Word.Going q) (allowed-as a t.stage) (no-file Word.Other)
              (unagreed c m (no-file Word.Ok));
          said = rw (told-session Word.Going q);
          taken = refl;
        }
    session-heard Word.Other q =
        record {
          kept = moved-session Stage.Stopped (id-session, rw (of-session Word.Other Word.Other q));
          said = rw (told-session Word.Other q, status);
          taken = refl;
        }

  -- ---- with one
  module _ (e : eqb (length (file_id_of c)) 0 ≡ false) where
    no-session : (x : Word) → for_session x c m ≡ false
    no-session x = rw (ours, e)

    as_before : AllowedAs (for_session Word.Ok c m || allowed_in m) (allowed_in m) t.stage
    as_before = allowed-as (rw (no-session Word.Ok)) t.stage

    unknown-heard : found t.files (file_id_of c) ≡ None → Marked m c after (heeded t News.Ignored)
    unknown-heard f =
        let u : Unknown m (file_id_of c) = rw f at (k.files (file_id_of c)) in
        let none : (x : Word) → for_file x c m ≡ false = λ x. rw (ours, e, u.filed) in
        let kept = unmoved c k (no-session Word.Other) as_before (none Word.Other) (unagreed c m (none Word.Ok)) in
        record { kept = kept; said = rw (ours, e, u.filed); taken = refl }

    module _ (i : ℕ) (f : found t.files (file_id_of c) ≡ Some i) where
      abbrev file : SentFile
      file = get_or t.files i free_file

      known : Counted m (file_id_of c) i file
      known = rw f at (k.files (file_id_of c))

      there : (i < length t.files) × (has_file_id (file_id_of c) file ≡ true)
      there = first-at (has_file_id (file_id_of c)) free_file t.files i f

      of-file : (x w : Word) → word_of (status_of c) ≡ w → for_file x c m ≡ is_word x w
      of-file x w q = rw (ours, e, known.filed, q)

      told-file : (w : Word) → word_of (status_of c) ≡ w → command_saying m c ≡ file_saying m c w
      told-file w q = rw (ours, e, known.filed, q)

      -- the ids of the file at this place, and of another
      same_id : (j : List ℕ) → found t.files j ≡ Some i → file_id_of c ≡ j
      same_id j a =
          let here = (first-at (has_file_id j) free_file t.files i a).1 in
          let x = equals-sound (Transfers.file_id_of file) j (both_test (is_known file.stage) _ here).1 in
          let y = equals-sound (Transfers.file_id_of file) (file_id_of c) (both_test (is_known file.stage) _ there.1).1 in
          sym y ∙ x

      other-id : (j : List ℕ) → (found t.files j ≡ Some i → ⊥) → equals (file_id_of c) j ≡ false
      other-id j a = go (equals (file_id_of c) j) refl
        where
          go : (b : Bool) → equals (file_id_of c) j ≡ b → equals (file_id_of c) j ≡ false
          go false r = r
          go true r = absurd (a (rw (← equals-sound (file_id_of c) j r) f))

      ok-heard : word_of (status_of c) ≡ Word.Ok → Marked m c after (ok_heed t i (size_of c))
      unfolding ok_heed some_read
      ok-heard q = go (is_count (size_of c) file.sent) refl
        where
          quiet : (j : List ℕ) → file_stopped_in j (Mark.read c ∷ m) ≡ file_stopped_in j m
          quiet j = rw (of-file Word.Other Word.Ok q, and-false (equals (file_id_of c) j))

          summed : (b : Bool) → is_count (size_of c) file.sent ≡ b → is_count (size_of c) (sum_in (file_id_of c) m) ≡ b
          summed b r = rw (← count-or-sum (size_of c) (sum_in (file_id_of c) m) small, ← known.counted) r

          -- a size that agrees closes the file, once its last piece is written
          closes : is_count (size_of c) (sum_in (file_id_of c) m) ≡ true → (j : List ℕ) → found t.files j ≡ Some i
              → closed_stage file.stage ≡ stage_in j (Mark.read c ∷ m)
          closes r j a =
              let here : closed_stage file.stage ≡ stage_in (file_id_of c) (Mark.read c ∷ m) =
              rw (quiet (file_id_of c), equals_refl (file_id_of c), of-file Word.Ok Word.Ok q, r, known.staged)
              (closed-by (file_stopped_in (file_id_of c) m) (agreed_in (file_id_of c) m) (equals_some (file_id_of c) (pending_in m))) in
              subst (λ (k : List ℕ). closed_stage file.stage ≡ stage_in k (Mark.read c ∷ m)) (same_id j a) here

          -- one that differs closes none
          differs : is_count (size_of c) (sum_in (file_id_of c) m) ≡ false → (j : List ℕ) → agrees_for j c m ≡ false
          differs r j = by (equals (file_id_of c) j) refl
            where
              by : (b : Bool) → equals (file_id_of c) j ≡ b → agrees_for j c m ≡ false
              by true x =
                  rw (← equals-sound (file_id_of c) j x, r)
                  (all_false (equals (file_id_of c) (file_id_of c)) (for_file Word.Ok c m))
              by false x = rw x

          go : (b : Bool) → is_count (size_of c) file.sent ≡ b
              → Marked m c after (cond b (heeded (Transfers.put_file t i (Transfers.moved file (closed_stage file.stage) file.sent))
              News.Noted) (heeded t (News.Differs i (size_of c))))
          go true r =
              record {
                kept =
                    kept_put c k (no-session Word.Other) as_before i (closed_stage file.stage) there.0 (closed-known file.stage)
                    (λ j a. closed-sending file.stage ∙ (let o : Counted m j i file = rw a at (k.files j) in rw (quiet j) o.going))
                    (closes (summed true r)) (λ j a. quiet j) (λ j a. rw (other-id j a));
                said = rw (told-file Word.Ok q, summed true r);
                taken = refl;
              }
          go false r =
              record {
                kept = unmoved c k (no-session Word.Other) as_before (of-file Word.Other Word.Ok q) (differs (summed false r));
                said = rw (told-file Word.Ok q, summed false r, ← known.place);
                taken = refl;
              }

      stop-heard : word_of (status_of c) ≡ Word.Other → Marked m c after (stop_heed t i p)
      unfolding some_read
      stop-heard q =
          record {
            kept =
                kept_put c k (no-session Word.Other) as_before i FileStage.Stopped there.0
                (sym (both_test (is_known file.stage) _ there.1).0)
                (λ j a. rw (of-file Word.Other Word.Other q, same j a) (sym (and-false (equals_some j (pending_in m)))))
                (λ j a. rw (of-file Word.Other Word.Other q, same j a))
                (λ j a. rw (other-id j a)) (λ j a. rw (other-id j a));
            said = rw (told-file Word.Other q, status, ← known.place);
            taken = refl;
          }
        where
          same : (j : List ℕ) → found t.files j ≡ Some i → equals (file_id_of c) j ≡ true
          same j a = rw (same_id j a) (equals_refl j)

      file-heard : (w : Word) → word_of (status_of c) ≡ w → Marked m c after (file_heed t i (size_of c) p w)
      unfolding file_heed
      file-heard Word.Ok q = ok-heard q
      file-heard Word.Going q =
          record {
            kept =
                unmoved c k (no-session Word.Other) as_before (of-file Word.Other Word.Going q)
                (unagreed c m (of-file Word.Ok Word.Going q));
            said = rw (told-file Word.Going q);
            taken = refl;
          }
      file-heard Word.Other q = stop-heard q

    found-heard : (f : Option ℕ) → found t.files (file_id_of c) ≡ f → (w : Word) → word_of (status_of c) ≡ w
        → Marked m c after (found_heed t (size_of c) p w f)
    unfolding found_heed
    found-heard None f w q = unknown-heard f
    found-heard (Some i) f w q = file-heard i f w q

  pub status-heard : Marked m c after (status_heed t (file_id_of c) (size_of c) p (word_of (status_of c)))
  unfolding status_heed
  status-heard = go (eqb (length (file_id_of c)) 0) refl
    where
      go : (b : Bool) → eqb (length (file_id_of c)) 0 ≡ b
          → Marked m c after (cond b (session_heed t p (word_of (status_of c)))
          (found_heed t (size_of c) p (word_of (status_of c)) (find_file t (file_id_of c))))
      go true e = session-heard e (word_of (status_of c)) refl
      go false e = found-heard e (find_file t (file_id_of c)) refl (word_of (status_of c)) refl
