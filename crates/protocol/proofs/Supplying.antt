-- A call that supplies something keeps the invariant: what is written for a file is what was supplied for it, in a session that stands.
use Prim.Native.Nat.{ℕ}
use mathlib.Core.Path.{◌≡◌, refl, sym, ap, subst, ◌∙◌}
use mathlib.Core.Bool.{Bool, true, false, cond}
use mathlib.Core.List.{List, [], ◌∷◌}
use native.Mathlib.Omega.{arith}
use lib.ListN.{take, set}
use Rattle.std.specs.Prelude.{Option, Some, None}
use Rattle.octets.specs.Outcome.{Outcome, outcome}
use Rattle.frames.specs.declared.Framing.{Framing}
use Rattle.command.specs.Slots.{nowhere}
use Rattle.command.specs.Framed.{framed_of}
use Rattle.protocol.specs.Table.{session_at, file_at, id_of, file_id_of, with_state}
use Rattle.protocol.specs.Written.{piece_values}
use Rattle.protocol.specs.Change.{tells, cleared, step_by}
use Rattle.protocol.specs.Calls.{answered_by}
use Rattle.protocol.specs.Supplies.{Supply, values_for, is_listing, turn_of, is_held_back, change_for, supply_of}
use Rattle.protocol.specs.History.{Command, Heard, Mark, Part, Question, last_ask, commands_in}
use Rattle.protocol.specs.Stretches.{Key, is_for, longer, stands, EachStands}
use Rattle.protocol.specs.Supplied.{parts_among, part_taken}
use Rattle.protocol.specs.Machine.{is_refused, part_of}
use Rattle.protocol.specs.Sound.{due_in, Sound}
use Rattle.protocol.specs.declared.SessionState.{SessionState}
use Rattle.protocol.specs.declared.Session.{Session}
use Rattle.protocol.specs.declared.Due.{Due}
use Rattle.protocol.specs.declared.Table.{Table}
use Rattle.protocol.specs.declared.Receiver.{Receiver}
use Rattle.protocol.specs.declared.Told.TheVariants as Told
use Rattle.protocol.specs.declared.Change.{Change}
use Rattle.protocol.specs.declared.Answered.{Answered}
use Rattle.protocol.proofs.Laws.{no_way}
use Rattle.protocol.proofs.Frames.{nothing-told, written-told}
use Rattle.protocol.proofs.SupplyWays.{Way, refused, held, wrote, way, Lists, turn-lists, lists-no-part, turn-owes}
use Rattle.protocol.proofs.SupplyWays.{piece-id, piece-file, piece-part}
use Rattle.protocol.proofs.Backs.{table, same-sessions, own-cleared}
use Rattle.protocol.proofs.Invariant.{pending, FileOK, commits_for, Holds, standing, committing, is_supplied, SessionOK, Asking}
use Rattle.protocol.proofs.Invariant.{AskedLast, Served, TableOK}
use Rattle.protocol.proofs.Marks.{none-wrote, session_map}
use Rattle.protocol.proofs.Invariant.{file_key}
use Rattle.protocol.proofs.Done.{NoneDone}
use Rattle.protocol.proofs.Puts.{put-ok, asked-other, none-same, none-put}
use Rattle.protocol.proofs.SoundTable.{owed-session}

-- ---- the mark of such a call
module _ (m : List Mark) (p : Option Part) (bs : List ℕ) where
  abbrev marks : List Mark
  marks = Mark.wrote p bs ∷ m

  -- what was written stands, and has the part that was taken and no other
  pub record Writes : Type 0 where
    pub stand : EachStands (commands_in bs) m
    pub part : (k : Key) → parts_among k (commands_in bs) ≡ part_taken k (last_ask m) p

  wrote-served : Writes → Served m → Served marks
  wrote-served w h k = rw (h k, w.part k)

  -- what is pending stays so, or was nothing; a commit that is owed is owed still
  record Goes (b b' : Bool) : Type 0 where
    part : (k : Key) → pending b k m ≡ pending b' k m
    commit : (i : List ℕ) → b ≡ true → commits_for i (last_ask m) ≡ true → b' ≡ true

  file-wrote : (b b' : Bool) {k : Key} {n l : ℕ} → pending b k m ≡ pending b' k m → FileOK b m k n l → FileOK b' marks k n l
  file-wrote b true e f =
      record {
        stretch = longer (Mark.wrote p bs) f.stretch;
        started = rw f.started;
        joined = rw (← e) f.joined;
        counted = f.counted;
        declares = f.declares;
      }
  file-wrote b false e f =
      record {
        stretch = longer (Mark.wrote p bs) f.stretch;
        started = rw f.started;
        joined = rw e at f.joined;
        counted = f.counted;
        declares = f.declares;
      }

  session-wrote : {b b' : Bool} → Goes b b' → (s : Session) → SessionOK b m s → SessionOK b' marks s
  session-wrote {b} {b'} g s =
      session_map (λ _. holds) (λ _ j _. file-wrote b b' (g.part _)) (λ _ f. none-wrote m (file_key s f) p bs) (λ _ h. h)
    where
      holds : Holds b (id_of s) m → Holds b' (id_of s) marks
      holds (standing h) = standing h
      holds (committing e c) = committing (g.commit (id_of s) e c) c

  goes_on : {b : Bool} → Goes b b
  goes_on = record { part = λ _. refl; commit = λ _ e _. e }

  -- the table stays as it is
  same-wrote : {t : Table} → Writes → TableOK t m → TableOK t marks
  same-wrote w ok =
      record {
        each = λ i. session-wrote goes_on _ (ok.each i);
        owed = ok.owed;
        told = (w.stand, ok.told);
        served = wrote-served w ok.served;
      }

nothing_written : (m : List Mark) → Writes m None []
nothing_written m = record { stand = rw nothing-told tt; part = λ k. rw nothing-told }

-- ---- in a session that lists
is-listing : (g : SessionState) → is_listing g ≡ true → g ≡ SessionState.Listing
is-listing SessionState.Absent e = no_way (sym e)
is-listing SessionState.Asked e = no_way (sym e)
is-listing SessionState.Open e = no_way (sym e)
is-listing SessionState.Naming e = no_way (sym e)
is-listing SessionState.Waiting e = no_way (sym e)
is-listing SessionState.Listing e = refl
is-listing SessionState.Serving e = no_way (sym e)

due-lists : (d : Due) → is_listing (due_in d) ≡ false
due-lists (Due.OpenFile j) = refl
due-lists (Due.OpenDirectory j) = refl
due-lists (Due.Write j n) = refl
due-lists (Due.WriteLast j n) = refl
due-lists Due.Commit = refl
due-lists Due.Request = refl

module _ {t : Table} {m : List Mark} (sound : Sound t) (ok : TableOK t m) {u : Supply} {i : ℕ} (none : part_of u ≡ None)
    (lists : Lists t u i) where
  abbrev s : Session
  s = session_at t i

  its-state : s.state ≡ SessionState.Listing
  its-state = is-listing s.state lists.listing

  stands_here : stands (id_of s) m ≡ true
  stands_here = (ok.each i).serves (ap is_supplied its-state)

  -- what the writer wrote is one command of the session, and brings no part
  entry-writes : (bs : List ℕ) → commands_in bs ≡ values_for s u ∷ [] → Writes m (part_of u) bs
  entry-writes bs e =
      record {
        stand = rw e (rw lists.id stands_here, tt);
        part = λ k. rw (e, none) (lists-no-part k s u none);
      }

  -- nothing is due for it
  owed-elsewhere : (n : ℕ) (d : Due) → t.owed ≡ Some (n, d) → n ≡ i → ⊥
  owed-elsewhere n d q r =
      no_way (sym lists.listing ∙ ap is_listing (rw r at (owed-session sound q).fits.0) ∙ due-lists d)

  -- the home path: it serves from now on
  home-kept : (bs : List ℕ) → Writes m (part_of u) bs
      → TableOK (table (set t.sessions i (with_state s SessionState.Serving)) t.owed) (Mark.wrote (part_of u) bs ∷ m)
  home-kept bs w =
      let x = with_state s SessionState.Serving in
      put-ok t i x t.owed lists.inside (λ j _. session-wrote m (part_of u) bs (goes_on m (part_of u) bs) _ (ok.each j))
      (record {
        sends = λ (z : SessionState.Serving ≡ SessionState.Open). let y : ◌≡◌ {A = ℕ} 0 1 = cc in absurd (omega arith);
        serves = λ _. stands_here;
      })
      (elsewhere t.owed refl ok.owed) (w.stand, ok.told) (wrote-served m (part_of u) bs w ok.served)
    where
      elsewhere : (o : Option (ℕ × Due)) → t.owed ≡ o → AskedLast t.sessions (last_ask m) o
          → AskedLast (set t.sessions i (with_state s SessionState.Serving)) (last_ask m) o
      elsewhere None q a = tt
      elsewhere (Some (n, d)) q a =
          asked-other t.sessions i n (with_state s SessionState.Serving) (last_ask m) d (owed-elsewhere n d q) a

-- ---- a part of the file that is asked for
module _ {ss : List Session} {i : ℕ} {m : List Mark} (sound : Sound (table ss (Some (i, Due.Request))))
    (ok : TableOK (table ss (Some (i, Due.Request))) m) (last : Bool) (bytes : List ℕ) where
  abbrev asked-for : Session
  asked-for = session_at (table ss (Some (i, Due.Request))) i

  abbrev piece : Command
  piece = piece_values (id_of asked-for) (file_id_of (file_at asked-for 0)) bytes last

  abbrev given : Option Part
  given = Some (record { last = last; bytes = bytes })

  asking : Asking asked-for (last_ask m) Due.Request
  asking = ok.owed

  requests : last_ask m ≡ Question.asks asking.command Heard.requests
  requests = rw (← asking.about.0) asking.asked

  same-file : (k : Key) → is_for k piece ≡ is_for k asking.command
  same-file k =
      rw (
        piece-id (id_of asked-for) (file_id_of (file_at asked-for 0)) bytes last,
        piece-file (id_of asked-for) (file_id_of (file_at asked-for 0)) bytes last,
        asking.id,
        asking.about.1,
      )

  serves : stands (id_of asked-for) m ≡ true
  serves = (ok.each i).serves (ap is_supplied (owed-session sound refl).fits.0)

  part-writes : (bs : List ℕ) → commands_in bs ≡ piece ∷ [] → Writes m given bs
  part-writes bs e =
      record {
        stand = rw e (rw (piece-id (id_of asked-for) (file_id_of (file_at asked-for 0)) bytes last) serves, tt);
        part = λ k. rw (e, requests, piece-part (id_of asked-for) (file_id_of (file_at asked-for 0)) bytes k last, same-file k);
      }

  -- nothing is owed after the last one
  no_more : (bs : List ℕ) → Goes m given bs true false
  no_more bs = record { part = λ k. rw requests; commit = λ k _ c. no_way (sym c ∙ rw requests) }

  last-kept : (bs : List ℕ) → Writes m given bs → TableOK (table ss None) (Mark.wrote given bs ∷ m)
  last-kept bs w =
      record {
        each = λ j. session-wrote m given bs (no_more bs) _ (ok.each j);
        owed = tt;
        told = (w.stand, ok.told);
        served = wrote-served m given bs w ok.served;
      }

-- ---- the call
-- the table after it, and the framing; the marks are those of what it wrote and of the part that it took
pub record Supplied (r : Receiver) (m : List Mark) (u : Supply) (o : Outcome Answered) : Type 0 where
  pub framing : o.answer.receiver.framing ≡ r.framing
  pub ok : TableOK o.answer.receiver.table
      (Mark.wrote (cond (is_refused o.answer.told) None (part_of u)) (take o.answer.reply_len o.buffer) ∷ m)
  pub none : NoneDone r.table o.answer.receiver.table

-- the bytes of it: one command, or none where it is held back
data Bytes (x : Session) (u : Supply) (bs : List ℕ) : Type 0 where
  told : commands_in bs ≡ values_for x u ∷ [] → Bytes x u bs
  silent : bs ≡ [] → is_held_back x u ≡ true → Bytes x u bs

-- a step of the session at place i, which wrote n bytes of the buffer b
abbrev Steps : Framing → Table → List Mark → Supply → ℕ → ℕ → List ℕ → Type 0
Steps f t m u i n b = Supplied (record { framing = f; table = t }) m u (outcome (answered_by f (step_by t i nowhere (change_for u)) n) b)

module _ (f : Framing) {t : Table} {m : List Mark} (sound : Sound t) (ok : TableOK t m) where
  -- the session stays as it is
  same-steps : (u : Supply) (i n : ℕ) (b : List ℕ) → change_for u ≡ tells Told.Nothing None → Writes m (part_of u) (take n b)
      → Steps f t m u i n b
  same-steps u i n b e w =
      subst (λ (c : Change). Supplied (record { framing = f; table = t }) m u (outcome (answered_by f (step_by t i nowhere c) n) b)) (sym e)
      (record {
        framing = refl;
        ok = subst (λ (y : Table). TableOK y (Mark.wrote (part_of u) (take n b) ∷ m)) (sym (same-sessions t i t.owed))
            (same-wrote m (part_of u) (take n b) w ok);
        none = none-put t i (session_at t i) t.owed (λ j q. (q, refl, refl, refl));
      })

  -- of the listing, its bytes written or held back
  list-writes : (u : Supply) (i : ℕ) (bs : List ℕ) → part_of u ≡ None → turn_of t u ≡ Some i → Bytes (session_at t i) u bs
      → Writes m (part_of u) bs
  list-writes u i bs none q (told c) = entry-writes sound ok none (turn-lists t u i none q) bs c
  list-writes u i bs none q (silent c _) = rw (none, c) (nothing_written m)

  home-steps : (id path : List ℕ) (i n : ℕ) (b : List ℕ) → let u = Supply.home id path in
      turn_of t u ≡ Some i → Bytes (session_at t i) u (take n b) → Steps f t m u i n b
  home-steps id path i n b q c =
      let u = Supply.home id path in
      record {
        framing = refl;
        ok = home-kept sound ok refl (turn-lists t u i refl q) (take n b) (list-writes u i (take n b) refl q c);
        none = none-put t i (with_state (session_at t i) SessionState.Serving) t.owed (λ j w. (w, refl, refl, refl));
      }

-- a part
part-steps : (f : Framing) (ss : List Session) (o : Option (ℕ × Due)) {m : List Mark} → Sound (table ss o)
    → TableOK (table ss o) m → (last : Bool)
    (bytes : List ℕ) (i n : ℕ) (b : List ℕ) → o ≡ Some (i, Due.Request)
    → Bytes (session_at (table ss o) i) (Supply.part last bytes) (take n b) → Steps f (table ss o) m (Supply.part last bytes) i n b
part-steps f ss o {m} sound ok last bytes i n b e c =
    subst (λ (x : Option (ℕ × Due)). Sound (table ss x) → TableOK (table ss x) m
    → Bytes (session_at (table ss x) i) (Supply.part last bytes) (take n b)
    → Steps f (table ss x) m (Supply.part last bytes) i n b) (sym e) (go last) sound ok c
  where
    t : Table
    t = table ss (Some (i, Due.Request))

    go : (v : Bool) → Sound t → TableOK t m → Bytes (session_at t i) (Supply.part v bytes) (take n b)
        → Steps f t m (Supply.part v bytes) i n b
    go v sound ok (silent _ h) = no_way (sym h)
    go false sound ok (told c) =
        same-steps f sound ok (Supply.part false bytes) i n b refl (part-writes sound ok false bytes (take n b) c)
    go true sound ok (told c) =
        record {
          framing = refl;
          ok =
              rw (own-cleared i Due.Request)
              (subst (λ (y : Table). TableOK y (Mark.wrote (part_of (Supply.part true bytes)) (take n b) ∷ m))
              (sym (same-sessions t i None))
              (last-kept sound ok true bytes (take n b) (part-writes sound ok true bytes (take n b) c)));
          none = none-put t i (session_at t i) (cleared i (Some (i, Due.Request))) (λ j q. (q, refl, refl, refl));
        }

steps : (f : Framing) (t : Table) {m : List Mark} → Sound t → TableOK t m → (u : Supply) (i n : ℕ) (b : List ℕ)
    → turn_of t u ≡ Some i → Bytes (session_at t i) u (take n b) → Steps f t m u i n b
steps f t sound ok (Supply.list e text contents) i n b q c =
    let u = Supply.list e text contents in same-steps f sound ok u i n b refl (list-writes f sound ok u i (take n b) refl q c)
steps f t sound ok (Supply.list_failed text id path code) i n b q c =
    let u = Supply.list_failed text id path code in same-steps f sound ok u i n b refl (list-writes f sound ok u i (take n b) refl q c)
steps f t sound ok (Supply.home id path) i n b q c = home-steps f sound ok id path i n b q c
steps f t sound ok (Supply.part last bytes) i n b q c =
    part-steps f t.sessions t.owed sound ok last bytes i n b (turn-owes t last bytes i q) c

pub supplied : (r : Receiver) {m : List Mark} → Sound r.table → TableOK r.table m → (u : Supply) (out : List ℕ)
    → Supplied r m u (supply_of r u out)
supplied r {m} sound ok u out = go (way r u out)
  where
    go : {o : Outcome Answered} → Way r u out o → Supplied r m u o
    go (refused n) =
        record {
          framing = refl;
          ok = same-wrote m None [] (nothing_written m) ok;
          none = none-same r.table r.table.owed;
        }
    go (held i n q w h _ _) = steps r.framing r.table sound ok u i 0 out q (silent refl h)
    go (wrote i n q w _ _ _) =
        let c = values_for (session_at r.table i) u in
        steps r.framing r.table sound ok u i n (framed_of c out).buffer q (told (written-told c out n w))
