-- Allow, deny and drop keep the invariant, also while an answer is owed.
use Prim.Native.Nat.{ℕ, ◌<◌}
use mathlib.Core.Path.{◌≡◌, refl, sym, ap, ◌∙◌}
use mathlib.Core.Bool.{Bool, true, false, cond}
use mathlib.Core.List.{List, [], ◌∷◌}
use native.Mathlib.Decide.{ℕ_discrete}
use native.Mathlib.Omega.{arith}
use lib.ListN.{length, set}
use borrow.Author.Tests.{ne_eqb, eq-eqb}
use Rattle.std.specs.Prelude.{Option, Some, None}
use Rattle.octets.specs.Slices.{equals}
use Rattle.frames.proofs.Choices.{by_cond}
use Rattle.command.specs.Slots.{nowhere}
use Rattle.command.specs.Meaning as Meaning
use Rattle.protocol.specs.Table.{free_file, absent_session, no_session, file_at, id_of, session_used, find_session, with_state}
use Rattle.protocol.specs.Change.{cleared, telling, step_by}
use Rattle.protocol.specs.Rule.{is_asked, not_asked, opened_from, decided_by}
use Rattle.protocol.specs.Sessions.{decided_at, decided_of}
use Rattle.protocol.specs.Calls.{is_owed}
use Rattle.protocol.specs.History.{Mark, last_ask}
use Rattle.protocol.specs.Stretches.{Key, part_for, longer, since, stands}
use Rattle.protocol.specs.Sound.{due_in, FileFor, SoundSession, Sound}
use Rattle.protocol.specs.declared.FileState.TheVariants as FileState
use Rattle.protocol.specs.declared.FileRecord.{FileRecord}
use Rattle.protocol.specs.declared.SessionState.{SessionState}
use Rattle.protocol.specs.declared.Session.{Session}
use Rattle.protocol.specs.declared.Due.{Due}
use Rattle.protocol.specs.declared.Table.{Table}
use Rattle.protocol.specs.declared.Decision.{Decision}
use Rattle.protocol.specs.declared.Told.TheVariants as Told
use Rattle.protocol.specs.declared.Change.{Change}
use Rattle.protocol.specs.declared.Stepped.{Stepped}
use Rattle.protocol.proofs.Laws.{no_way, equals-same, found_at, unique-other}
use Rattle.protocol.proofs.Backs.{table, told-step}
use Rattle.protocol.proofs.Invariant.{key_of, file_key, FileOK, commits_for, Holds, standing, committing, SessionOK, Asking}
use Rattle.protocol.proofs.Invariant.{AskedLast, TableOK}
use Rattle.protocol.proofs.Marks.{id_other, part-other, commits-other, none_allowed, none-noted, open-used, supplied-used}
use Rattle.protocol.proofs.Marks.{session_map}
use Rattle.protocol.proofs.Done.{NoneDone}
use Rattle.protocol.proofs.Puts.{noted_marks, put-ok, absent-ok, free-files, asked-other, none-same, none-put, none_free}
use Rattle.protocol.proofs.SoundTable.{owed-session}
use Rattle.protocol.proofs.Obeyed.{session_in}

-- ---- marks that bring a file nothing
file-allowed : (b : Bool) {m : List Mark} {k : Key} {n l : ℕ} (i : List ℕ) → FileOK b m k n l → FileOK b (Mark.allow i ∷ m) k n l
file-allowed true i f =
    record {
      stretch = longer (Mark.allow i) f.stretch;
      started = rw f.started;
      joined = f.joined;
      counted = f.counted;
      declares = f.declares;
    }
file-allowed false i f =
    record {
      stretch = longer (Mark.allow i) f.stretch;
      started = rw f.started;
      joined = f.joined;
      counted = f.counted;
      declares = f.declares;
    }

file-dropped : (b : Bool) {m : List Mark} {k : Key} {n l : ℕ} (i : List ℕ) → FileOK b m k n l → FileOK b (Mark.drop i ∷ m) k n l
file-dropped true i f =
    record {
      stretch = longer (Mark.drop i) f.stretch;
      started = rw f.started;
      joined = f.joined;
      counted = f.counted;
      declares = f.declares;
    }
file-dropped false i f =
    record {
      stretch = longer (Mark.drop i) f.stretch;
      started = rw f.started;
      joined = f.joined;
      counted = f.counted;
      declares = f.declares;
    }

-- what was pending is cleared: it was not the file's
file-cleared : {m : List Mark} {k : Key} {n l : ℕ} (i : List ℕ) → part_for k (last_ask m) ≡ [] → FileOK true m k n l
    → FileOK false (Mark.drop i ∷ m) k n l
file-cleared i e f =
    record {
      stretch = longer (Mark.drop i) f.stretch;
      started = rw f.started;
      joined = rw e at f.joined;
      counted = f.counted;
      declares = f.declares;
    }

stands-allowed : (i k : List ℕ) (m : List Mark) → stands i m ≡ true → stands i (Mark.allow k ∷ m) ≡ true
stands-allowed i k m h = go (equals i k)
  where
    go : (t : Bool) → cond t true (stands i m) ≡ true
    go true = refl
    go false = h

holds-allowed : {b : Bool} {i : List ℕ} {m : List Mark} (k : List ℕ) → Holds b i m → Holds b i (Mark.allow k ∷ m)
holds-allowed {b} {i} {m} k (standing h) = standing (stands-allowed i k m h)
holds-allowed k (committing f g) = committing f g

holds-dropped : {b : Bool} {i : List ℕ} {m : List Mark} (k : List ℕ) → equals i k ≡ false → Holds b i m → Holds b i (Mark.drop k ∷ m)
holds-dropped k e (standing h) = standing (rw e h)
holds-dropped k e (committing f g) = committing f g

holds-cleared : {i : List ℕ} {m : List Mark} (k : List ℕ) → equals i k ≡ false → commits_for i (last_ask m) ≡ false → Holds true i m
    → Holds false i (Mark.drop k ∷ m)
holds-cleared k e n (standing h) = standing (rw e h)
holds-cleared k e n (committing f g) = no_way (sym g ∙ n)

-- nothing is due for a session of which the user is asked
due-asked : (d : Due) → is_asked (due_in d) ≡ false
due-asked (Due.OpenFile j) = refl
due-asked (Due.OpenDirectory j) = refl
due-asked (Due.Write j n) = refl
due-asked (Due.WriteLast j n) = refl
due-asked Due.Commit = refl
due-asked Due.Request = refl

-- and it has no file
asked-files : {s : Session} {due : Option Due} → SoundSession s due → is_asked s.state ≡ true → (j : ℕ) → file_at s j ≡ free_file
asked-files {s} ok a j = go s.state a (ok.file_for j)
  where
    go : (g : SessionState) → is_asked g ≡ true → FileFor g j (file_at s j) → file_at s j ≡ free_file
    go SessionState.Absent e f = f
    go SessionState.Asked e f = f
    go SessionState.Open e f = no_way (sym e)
    go SessionState.Naming e f = no_way (sym e)
    go SessionState.Waiting e f = f
    go SessionState.Listing e f = f
    go SessionState.Serving e f = no_way (sym e)

-- a free record is not started
no_start : {A : Type 0} {f : FileRecord} → f ≡ free_file → f.state ≡ FileState.Started → A
no_start e w =
    let x : FileState.Free ≡ FileState.Started = sym (ap (λ (y : FileRecord). y.state) e) ∙ w in
    let z : ◌≡◌ {A = ℕ} 0 1 = cc in absurd (omega arith)

-- ---- a step that leaves these marks, and turns no record done
pub record Moved (t : Table) (m : List Mark) (out : Stepped) : Type 0 where
  pub ok : TableOK out.table m
  pub none : NoneDone t out.table

-- noted by a mark, unless it is refused
abbrev pub Noted : Table → List Mark → Mark → Stepped → Type 0
Noted t m x out = Moved t (noted_marks m x out) out

module _ {ss : List Session} {o : Option (ℕ × Due)} {m : List Mark} (sound : Sound (table ss o))
    (ok : TableOK (table ss o) m) (k : List ℕ) where
  abbrev t : Table
  t = table ss o

  -- ---- the session i has the id k
  module _ (i : ℕ) (e : find_session t k ≡ Some i) where
    abbrev s : Session
    s = session_in ss i

    found : (i < length ss) × (session_used s ≡ true) × (id_of s ≡ k)
    found = found_at session_used id_of no_session ss k i e

    others : (j : ℕ) → (j ≡ i → ⊥) → session_used (session_in ss j) ≡ true → equals (id_of (session_in ss j)) k ≡ false
    others j n p = unique-other session_used id_of no_session ss i k sound.alone found.1 found.2 j n p

    -- ---- one that is only asked owes nothing, and has no file
    module _ (p : is_asked s.state ≡ true) where
      owes_not : (n : ℕ) (d : Due) → o ≡ Some (n, d) → n ≡ i → ⊥
      owes_not n d q r = no_way (sym p ∙ ap is_asked (rw r at (owed-session sound q).fits.0) ∙ due-asked d)

      elsewhere : (x : Session) (o' : Option (ℕ × Due)) → o ≡ o' → AskedLast ss (last_ask m) o' → AskedLast (set ss i x) (last_ask m) o'
      elsewhere x None q a = tt
      elsewhere x (Some (n, d)) q a = asked-other ss i n x (last_ask m) d (owes_not n d q) a

      uncleared : (o' : Option (ℕ × Due)) → o ≡ o' → cleared i o' ≡ o'
      uncleared None q = refl
      uncleared (Some (n, d)) q = rw (ne_eqb n i (owes_not n d q))

      abbrev opened : Session
      opened = with_state s (opened_from s.state)

      allowed-ok : SessionOK (is_owed o) (Mark.allow k ∷ m) opened
      allowed-ok =
          record {
            sends = λ _. record {
              stand = standing (rw (equals-same _ _ found.2));
              each = λ j w. no_start (asked-files (sound.each i) p j) w;
              unstarted = λ f _. none_allowed (file_key s f) k (since (file_key s f) m) (equals-same _ _ found.2);
            };
            serves = λ _. rw (equals-same _ _ found.2);
          }

      allow-ok : TableOK (table (set ss i opened) o) (Mark.allow k ∷ m)
      allow-ok =
          put-ok t i opened o found.0
          (λ j n. session_map (λ _. holds-allowed k) (λ _ j' _. file-allowed (is_owed o) k)
          (λ _ f q. (none-noted m (file_key (session_in ss j) f) k q).0) (λ _. stands-allowed (id_of (session_in ss j)) k m) (ok.each j))
          allowed-ok (elsewhere opened o refl ok.owed) ok.told ok.served

      deny-ok : TableOK (table (set ss i absent_session) (cleared i o)) m
      deny-ok =
          rw (uncleared o refl)
          (put-ok t i absent_session o found.0 (λ j n. ok.each j) absent-ok (elsewhere absent_session o refl ok.owed) ok.told
          ok.served)

    -- ---- drop
    dropped-ok : (b : Bool) (j : ℕ) → (j ≡ i → ⊥) → SessionOK b m (session_in ss j) → SessionOK b (Mark.drop k ∷ m) (session_in ss j)
    dropped-ok b j n =
        session_map (λ p. holds-dropped k (others j n (open-used p))) (λ _ j' _. file-dropped b k)
        (λ _ f q. (none-noted m (file_key (session_in ss j) f) k q).1)
        (λ p h. rw (others j n (supplied-used (session_in ss j).state p)) h)

    -- the session that is dropped owed the answer
    cleared-ok : (d : Due) → Asking s (last_ask m) d → (j : ℕ) → (j ≡ i → ⊥) → SessionOK true m (session_in ss j)
        → SessionOK false (Mark.drop k ∷ m) (session_in ss j)
    cleared-ok d a j n =
        session_map
        (λ p. let other = for-other (open-used p) in
        holds-cleared k (others j n (open-used p)) (rw a.asked (commits-other (id_of (session_in ss j)) a.command a.heard other)))
        (λ p j' _. let f = key_of (session_in ss j) (file_at (session_in ss j) j') in
        file-cleared k (rw a.asked (part-other f a.command a.heard (id_other f a.command (for-other (open-used p))))))
        (λ _ f q. (none-noted m (file_key (session_in ss j) f) k q).1)
        (λ p h. rw (others j n (supplied-used (session_in ss j).state p)) h)
      where
        for-other : session_used (session_in ss j) ≡ true → equals (id_of (session_in ss j)) (Meaning.id_of a.command) ≡ false
        for-other p = rw (← a.id, found.2) (others j n p)

    -- it is put back as free room, with this owed
    put-dropped : (o' : Option (ℕ × Due)) → ((j : ℕ) → (j ≡ i → ⊥) → SessionOK (is_owed o') (Mark.drop k ∷ m) (session_in ss j))
        → AskedLast (set ss i absent_session) (last_ask m) o' → TableOK (table (set ss i absent_session) o') (Mark.drop k ∷ m)
    put-dropped o' there asked = put-ok t i absent_session o' found.0 there absent-ok asked ok.told ok.served

    drop-ok : (o' : Option (ℕ × Due)) → o ≡ o' → TableOK (table ss o') m
        → TableOK (table (set ss i absent_session) (cleared i o')) (Mark.drop k ∷ m)
    drop-ok None q w = put-dropped None (λ j n. dropped-ok false j n (w.each j)) tt
    drop-ok (Some (n, d)) q w = go (ℕ_discrete n i)
      where
        go : Dec (n ≡ i) → TableOK (table (set ss i absent_session) (cleared i (Some (n, d)))) (Mark.drop k ∷ m)
        go (yes r) =
            rw (eq-eqb n i r) (put-dropped None (λ j z. cleared-ok d (rw r at w.owed) j z (w.each j)) tt)
        go (no r) =
            rw (ne_eqb n i r) (put-dropped (Some (n, d)) (λ j z. dropped-ok true j z (w.each j))
            (asked-other ss i n absent_session (last_ask m) d r w.owed))

    -- ---- what is decided of it
    refused : (x : Mark) → Noted t m x (step_by t i nowhere not_asked)
    refused x = rw (told-step t i nowhere _ _) (record { ok = ok; none = none-same t o })

    allow-step : Noted t m (Mark.allow k) (step_by t i nowhere (decided_by Decision.Allow s))
    unfolding decided_by
    allow-step =
        by_cond (λ (c : Change). Noted t m (Mark.allow k) (step_by t i nowhere c)) (is_asked s.state)
        (λ q. record { ok = allow-ok q; none = none-put t i (opened q) o (λ j w. (w, refl, refl, refl)) })
        (λ _. refused (Mark.allow k))

    deny-step : Moved t m (step_by t i nowhere (decided_by Decision.Deny s))
    unfolding decided_by
    deny-step =
        by_cond (λ (c : Change). Moved t m (step_by t i nowhere c)) (is_asked s.state)
        (λ q. record { ok = deny-ok q; none = none_free t i absent_session (cleared i o) free-files })
        (λ _. rw (told-step t i nowhere _ _) (record { ok = ok; none = none-same t o }))

    drop-step : Noted t m (Mark.drop k) (step_by t i nowhere (decided_by Decision.Drop s))
    unfolding decided_by
    drop-step = record { ok = drop-ok o refl ok; none = none_free t i absent_session (cleared i o) free-files }

  -- ---- the calls: a step with P, which no refusal lacks
  decided : (P : Stepped → Type 0) (d : Decision) → P (telling t (Told.Refused 12))
      → ((i : ℕ) → find_session t k ≡ Some i → P (step_by t i nowhere (decided_by d (session_in ss i)))) → P (decided_of t d k)
  unfolding decided_of
  decided P d refusal step = go (find_session t k) refl
    where
      go : (f : Option ℕ) → find_session t k ≡ f → P (decided_at t d f)
      go None e = refusal
      go (Some i) e = step i e

  pub allow-noted : Noted t m (Mark.allow k) (decided_of t Decision.Allow k)
  allow-noted = decided (Noted t m (Mark.allow k)) Decision.Allow (record { ok = ok; none = none-same t o }) allow-step

  -- deny adds nothing
  pub deny-moved : Moved t m (decided_of t Decision.Deny k)
  deny-moved = decided (Moved t m) Decision.Deny (record { ok = ok; none = none-same t o }) deny-step

  pub drop-noted : Noted t m (Mark.drop k) (decided_of t Decision.Drop k)
  drop-noted = decided (Noted t m (Mark.drop k)) Decision.Drop (record { ok = ok; none = none-same t o }) drop-step
