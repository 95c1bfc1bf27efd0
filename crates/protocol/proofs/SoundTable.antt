-- The table stays sound at a step of one of its sessions: a command while nothing is owed, an answer, a decision.
use Prim.Native.Nat.{ℕ, ◌≤◌, ◌<◌}
use mathlib.Core.Path.{◌≡◌, refl, sym, ap, ◌∙◌}
use mathlib.Core.Bool.{Bool, true, false, cond}
use mathlib.Core.List.{List}
use lib.ListN.{length, set, length-set, get_or-eq_default}
use lib.Dec.{ltb, eqb}
use borrow.Author.Tests.{ltb-true, ltb-false, eqb-true, eq-eqb, ne_eqb}
use Rattle.std.specs.Prelude.{Option, Some, None}
use Rattle.octets.specs.Outcome.{Outcome}
use Rattle.decimal.specs.declared.Number.{Number}
use Rattle.frames.proofs.Choices.{by_cond}
use Rattle.command.specs.declared.Command.{Command}
use Rattle.protocol.specs.Table.{empty_table, session_room, no_session, session_at, id_of, is_present, session_used}
use Rattle.protocol.specs.Table.{find_session, first, is_absent, put_session}
use Rattle.protocol.specs.Actions.{kind_of}
use Rattle.protocol.specs.Change.{owed_after, after}
use Rattle.protocol.specs.Files.{Request}
use Rattle.protocol.specs.Receives.{bad_paths}
use Rattle.protocol.specs.Rule.{obeyed_by, done_by, failed_by, unlisted_by, decided_by}
use Rattle.protocol.specs.Sessions.{id_in, file_id_in, request_in, asked_session, naming_session, send_room, receive_room, absent_result}
use Rattle.protocol.specs.Sessions.{found_result, obey_of, answered_with, settle_done, settle_failed, unlisted_for, settle_unlisted}
use Rattle.protocol.specs.Sessions.{decided_at, decided_of}
use Rattle.protocol.specs.Supplies.{Supply, turn_of, change_for, supply_of}
use Rattle.protocol.specs.Machine.{part_of}
use Rattle.protocol.specs.Sound.{IsId, SoundSession, due_of, Sound}
use Rattle.protocol.specs.declared.SessionState.TheVariants as SessionState
use Rattle.protocol.specs.declared.Session.{Session}
use Rattle.protocol.specs.declared.Kind.{Kind}
use Rattle.protocol.specs.declared.Due.{Due}
use Rattle.protocol.specs.declared.Table.{Table}
use Rattle.protocol.specs.declared.Receiver.{Receiver}
use Rattle.protocol.specs.declared.Failure.{Failure}
use Rattle.protocol.specs.declared.Decision.{Decision}
use Rattle.protocol.specs.declared.News.{News}
use Rattle.protocol.specs.declared.Change.{Change}
use Rattle.protocol.specs.declared.Stepped.{Stepped}
use Rattle.protocol.specs.declared.Answered.{Answered}
use Rattle.protocol.proofs.Laws.{set_at, no_way, equals-same, first-at, found_at, found_nowhere, set-unique, replicate-each}
use Rattle.protocol.proofs.Laws.{padded-id}
use Rattle.protocol.proofs.SupplyWays as SupplyWays
use Rattle.protocol.proofs.SupplyWays.{turn-lists, turn-owes}
use Rattle.protocol.proofs.SoundRule.{due_after, asks_something, edited_by, Steps, absent-sound, asked-sound, naming-sound}
use Rattle.protocol.proofs.SoundRule.{due-present}
use Rattle.protocol.proofs.SoundSteps.{IsReadId, obeyed-steps, done-steps, failed-steps, unlisted-steps, decided-steps}
use Rattle.protocol.proofs.SoundSteps.{listing-state, InTurn, supplied-steps}

pub empty-sound : Sound empty_table
empty-sound =
    record {
      room = refl;
      alone = λ j j' p _ _. no_way (sym p ∙ replicate-each (λ (s : Session). session_used s ≡ false) refl refl session_room j);
      each = replicate-each (λ (s : Session). SoundSession s None) absent-sound absent-sound session_room;
    }

-- ---- what is due after a step of the session at place i
pub due-here : (o : Option (ℕ × Due)) (i : ℕ) (w : News) → due_of (owed_after o i w) i ≡ due_after (due_of o i) w
due-here o i (News.Tells w) = refl
due-here None i (News.Clears w) = refl
due-here (Some (k, d)) i (News.Clears w) = go (eqb k i) refl
  where
    go : (b : Bool) → eqb k i ≡ b → due_of (cond b None (Some (k, d))) i ≡ None
    go true e = refl
    go false e = rw e
due-here o i (News.Asks d) = rw (eq-eqb i i refl)

-- the other sessions keep theirs: an ask is put where nothing is owed
pub due-other : (o : Option (ℕ × Due)) (i : ℕ) (w : News) (n : ℕ) → (n ≡ i → ⊥) → (asks_something w ≡ true → o ≡ None)
    → due_of (owed_after o i w) n ≡ due_of o n
due-other o i (News.Tells w) n h f = refl
due-other None i (News.Clears w) n h f = refl
due-other (Some (k, d)) i (News.Clears w) n h f = go (eqb k i) refl
  where
    go : (b : Bool) → eqb k i ≡ b → due_of (cond b None (Some (k, d))) n ≡ due_of (Some (k, d)) n
    go true e = let z : k ≡ i = eqb-true k i e in rw (ne_eqb k n (λ q. h (sym q ∙ z)))
    go false e = refl
due-other o i (News.Asks d) n h f = rw (f refl, ne_eqb i n (λ q. h (sym q)))

module _ {t : Table} (ok : Sound t) where
  -- ---- a session put at a place, with what is owed then
  put-sound : (i : ℕ) (s : Session) (o : Option (ℕ × Due)) → i < length t.sessions
      → (session_used s ≡ true → (j : ℕ) → (j ≡ i → ⊥) → session_used (session_at t j) ≡ true → id_of (session_at t j) ≡ id_of s → ⊥)
      → SoundSession s (due_of o i)
      → ((j : ℕ) → (j ≡ i → ⊥) → due_of o j ≡ due_of t.owed j)
      → Sound (record { sessions = set t.sessions i s; owed = o })
  put-sound i s o h new here there =
      record {
        room = length-set t.sessions i s ∙ ok.room;
        alone = set-unique session_used id_of no_session t.sessions i s h ok.alone new;
        each =
            set_at (λ (j : ℕ) (x : Session). SoundSession x (due_of o j)) no_session t.sessions i s h here
            (λ j n. rw (there j n) (ok.each j));
      }

  -- a step of the session at a place
  pub after-sound : {idle : Bool} (i : ℕ) (c : Change) → i < length t.sessions → (idle ≡ true → t.owed ≡ None)
      → Steps idle (session_at t i) (due_of t.owed i) c → Sound (after t i c)
  after-sound i c h free s =
      put-sound i (edited_by (session_at t i) c) (owed_after t.owed i c.news) h
      (λ u j n p e. let same = s.same_id u in n (ok.alone j i p same.0 (e ∙ same.1)))
      (rw (due-here t.owed i c.news) s.sound)
      (λ j n. due-other t.owed i c.news j n (λ a. free (s.asking a)))

  -- ---- done and failed
  due_for : {i : ℕ} {d : Due} → t.owed ≡ Some (i, d) → due_of t.owed i ≡ Some d
  due_for {i} e = rw (e, eq-eqb i i refl)

  -- what is owed is due for an open session
  pub owed-session : {i : ℕ} {d : Due} → t.owed ≡ Some (i, d) → SoundSession (session_at t i) (Some d)
  owed-session {i} e = rw (due_for e) at (ok.each i)

  -- so its place is inside
  pub owed-inside : {i : ℕ} {d : Due} → t.owed ≡ Some (i, d) → i < length t.sessions
  owed-inside {i} {d} e = go (ltb i (length t.sessions)) refl
    where
      go : (b : Bool) → ltb i (length t.sessions) ≡ b → i < length t.sessions
      go true q = ltb-true _ _ q
      go false q =
          let z : session_at t i ≡ no_session = get_or-eq_default t.sessions no_session (ltb-false _ _ q) in
          no_way (sym (due-present d) ∙ sym (ap is_present (owed-session e).fits.0) ∙ ap session_used z)

  -- an answer, by what it makes of a session
  module _ (f : Session → Due → Change)
      (steps : (s : Session) (d : Due) → SoundSession s (Some d) → Steps false s (Some d) (f s d)) where
    answer-sound : (i : ℕ) (d : Due) → t.owed ≡ Some (i, d) → Sound (after t i (f (session_at t i) d))
    answer-sound i d e =
        after-sound i (f (session_at t i) d) (owed-inside e) (λ z. no_way (sym z))
        (rw (due_for e) (steps (session_at t i) d (owed-session e)))

    answered-sound : (o : Option (ℕ × Due)) → t.owed ≡ o → Sound (answered_with t f o).table
    answered-sound None e = ok
    answered-sound (Some (i, d)) e = answer-sound i d e

  unlisted-for : (o : Option (ℕ × Due)) → t.owed ≡ o → Sound (unlisted_for t o).table
  unlisted-for None e = ok
  unlisted-for (Some (i, d)) e = answer-sound unlisted_by (λ s d. unlisted-steps d) i d e

  -- ---- what the console supplies
  listing-turn : (u : Supply) (i : ℕ) → part_of u ≡ None → turn_of t u ≡ Some i
      → (i < length t.sessions) × ((session_at t i).state ≡ SessionState.Listing)
  listing-turn u i n e = let l = turn-lists t u i n e in (l.inside, listing-state (session_at t i).state l.listing)

  pub in-turn : (u : Supply) (i : ℕ) → turn_of t u ≡ Some i
      → (i < length t.sessions) × InTurn (session_at t i) (due_of t.owed i) u
  in-turn (Supply.list x text contents) i e = listing-turn (Supply.list x text contents) i refl e
  in-turn (Supply.list_failed text id path code) i e = listing-turn (Supply.list_failed text id path code) i refl e
  in-turn (Supply.home id path) i e = listing-turn (Supply.home id path) i refl e
  in-turn (Supply.part last bytes) i e = let o = turn-owes t last bytes i e in (owed-inside o, due_for o)

  supplied-sound : (u : Supply) (i : ℕ) → turn_of t u ≡ Some i → Sound (after t i (change_for u))
  supplied-sound u i e =
      let turn = in-turn u i e in
      after-sound i (change_for u) turn.0 (λ z. no_way (sym z)) (supplied-steps (ok.each i) u turn.1)

-- ---- a command that was read
-- what reading tells of it: its ids are safe strings of at most 32 bytes, that of the session not empty, and its quiet 0, 1 or 2
pub record ReadWell (c : Command) (text : List ℕ) : Type 0 where
  pub id : IsId (id_in c text)
  pub file : IsReadId (file_id_in c text)
  pub quiet : c.quiet ≤ 2

module _ {t : Table} (ok : Sound t) (free : t.owed ≡ None) {c : Command} {text : List ℕ} (well : ReadWell c text) where
  none-due : (i : ℕ) → due_of t.owed i ≡ None
  none-due i = rw free

  abbrev made : Session
  made = asked_session c.quiet (id_in c text)

  -- a new session with the command's id
  new-sound : find_session t (id_in c text) ≡ None → (i : ℕ) → first is_absent t.sessions ≡ Some i
      → (s : Session) → id_of s ≡ id_in c text → SoundSession s None → Sound (put_session t i s)
  new-sound e i p s same sound =
      put-sound ok i s t.owed (first-at is_absent no_session t.sessions i p).0 (λ _. differs) (rw (none-due i) sound) (λ j n. refl)
    where
      differs : (j : ℕ) → (j ≡ i → ⊥) → session_used (session_at t j) ≡ true → id_of (session_at t j) ≡ id_of s → ⊥
      differs j n u z =
          no_way (sym (equals-same _ _ (z ∙ same)) ∙ found_nowhere session_used id_of no_session t.sessions (id_in c text) refl e j u)

  -- "four present: EBUSY; else asked"
  send-sound : find_session t (id_in c text) ≡ None → (f : Option ℕ) → first is_absent t.sessions ≡ f
      → Sound (send_room t made f).table
  send-sound e None p = ok
  send-sound e (Some i) p =
      new-sound e i p made (padded-id (id_in c text) well.id.short) (asked-sound c.quiet (id_in c text) well.quiet well.id)

  receive-sound : find_session t (id_in c text) ≡ None → (n : Number) (f : Option ℕ) → first is_absent t.sessions ≡ f
      → Sound (receive_room t made n f).table
  receive-sound e n None p = ok
  receive-sound e n (Some i) p =
      by_cond (λ (x : Stepped). Sound x.table) (bad_paths n) (λ _. ok)
      (λ _. new-sound e i p (naming_session made n.magnitude) (padded-id (id_in c text) well.id.short)
      (naming-sound c.quiet (id_in c text) well.quiet well.id n.magnitude))

  absent-kept : find_session t (id_in c text) ≡ None → (n : Number) (k : Kind) → Sound (absent_result t made n k).table
  absent-kept e n Kind.Ignore = ok
  absent-kept e n Kind.Ask = send-sound e (first is_absent t.sessions) refl
  absent-kept e n Kind.Receive = receive-sound e n (first is_absent t.sessions) refl
  absent-kept e n Kind.Invalid = ok
  absent-kept e n Kind.Cancel = ok
  absent-kept e n Kind.Withdraw = ok
  absent-kept e n Kind.File = ok
  absent-kept e n Kind.Data = ok
  absent-kept e n Kind.EndData = ok
  absent-kept e n Kind.Finish = ok
  absent-kept e n Kind.Path = ok
  absent-kept e n Kind.Request = ok

  obeyed-sound : (scratch : List ℕ) → Sound (obey_of t c text scratch).table
  unfolding obey_of
  obeyed-sound scratch = go (find_session t (id_in c text)) refl
    where
      q : Request
      q = request_in c text scratch

      go : (f : Option ℕ) → find_session t (id_in c text) ≡ f → Sound (found_result t c (id_in c text) q f).table
      go None e = absent-kept e c.size (kind_of SessionState.Absent c.action)
      go (Some i) e =
          let at = found_at session_used id_of no_session t.sessions (id_in c text) i e in
          let s : SoundSession (session_at t i) None = rw (none-due i) at (ok.each i) in
          after-sound ok {idle = true} i (obeyed_by (session_at t i) q) at.0 (λ _. free)
          (rw (none-due i) (obeyed-steps s q well.file at.1))

-- ---- the steps of the calls
pub obey-sound : (t : Table) → Sound t → t.owed ≡ None → (c : Command) (text scratch : List ℕ) → ReadWell c text
    → Sound (obey_of t c text scratch).table
obey-sound t ok free c text scratch well = obeyed-sound ok free well scratch

pub done-sound : (t : Table) → Sound t → Sound (settle_done t).table
unfolding settle_done
done-sound t ok = answered-sound ok done_by (λ s d. done-steps d) t.owed refl

pub failed-sound : (t : Table) (e : Failure) → Sound t → Sound (settle_failed t e).table
unfolding settle_failed
failed-sound t e ok = answered-sound ok (failed_by e) (λ s d. failed-steps e d) t.owed refl

pub unlisted-sound : (t : Table) → Sound t → Sound (settle_unlisted t).table
unfolding settle_unlisted
unlisted-sound t ok = unlisted-for ok t.owed refl

pub decided-sound : (t : Table) (d : Decision) (k : List ℕ) → Sound t → Sound (decided_of t d k).table
unfolding decided_of
decided-sound t d k ok = go (find_session t k) refl
  where
    go : (f : Option ℕ) → find_session t k ≡ f → Sound (decided_at t d f).table
    go None e = ok
    go (Some i) e =
        let inside = (found_at session_used id_of no_session t.sessions k i e).0 in
        after-sound ok i (decided_by d (session_at t i)) inside (λ z. no_way (sym z)) (decided-steps (ok.each i) d)

pub supply-sound : (r : Receiver) (u : Supply) (out : List ℕ) → Sound r.table → Sound (supply_of r u out).answer.receiver.table
supply-sound r u out ok = go (SupplyWays.way r u out)
  where
    go : {o : Outcome Answered} → SupplyWays.Way r u out o → Sound o.answer.receiver.table
    go (SupplyWays.refused n) = ok
    go (SupplyWays.held i n e _ _ _ _) = supplied-sound ok u i e
    go (SupplyWays.wrote i n e _ _ _ _) = supplied-sound ok u i e
