-- Between the turns of a replay nothing is owed and no session serves, for it lists nothing. A command then tells something plain, or asks
-- for what is settled when it is answered done.
use Prim.Native.Nat.{ℕ}
use mathlib.Core.Path.{◌≡◌, refl, sym, ap, ◌∙◌}
use mathlib.Core.Bool.{Bool, true, false, cond}
use mathlib.Core.List.{List}
use lib.ListN.{get_or, set}
use lib.Dec.{eqb}
use Rattle.std.specs.Prelude.{Option, Some, None}
use Rattle.frames.proofs.Choices.{by_cond}
use Rattle.decimal.specs.declared.Number.{Number}
use Rattle.command.specs.Slots.{nowhere}
use Rattle.command.specs.declared.Action.TheVariants as Action
use Rattle.command.specs.declared.Command.{Command}
use Rattle.protocol.specs.Table.{session_room, absent_session, empty_table, no_session, id_of, session_used, is_absent, find_session, first}
use Rattle.protocol.specs.Actions.{kind_of}
use Rattle.protocol.specs.Change.{ask_of, stepped, step_by}
use Rattle.protocol.specs.Files.{Request, is_directory, open_due, write_due}
use Rattle.protocol.specs.Receives.{bad_paths}
use Rattle.protocol.specs.Rule.{done_by, is_asked, opened_from, decided_by}
use Rattle.protocol.specs.Sessions.{id_in, request_in, asked_session, naming_session, send_room, receive_room, absent_result}
use Rattle.protocol.specs.Sessions.{found_result, obey_of, settle_done, decided_at, decided_of}
use Rattle.protocol.specs.Machine.{is_refused}
use Rattle.protocol.specs.declared.SessionState.{SessionState}
use Rattle.protocol.specs.declared.Session.{Session}
use Rattle.protocol.specs.declared.Kind.{Kind}
use Rattle.protocol.specs.declared.Due.{Due}
use Rattle.protocol.specs.declared.Table.{Table}
use Rattle.protocol.specs.declared.Decision.TheVariants as Decision
use Rattle.protocol.specs.declared.Told.{Told}
use Rattle.protocol.specs.declared.Reply.{Reply}
use Rattle.protocol.specs.declared.Change.{Change}
use Rattle.protocol.specs.declared.Stepped.{Stepped}
use Rattle.protocol.proofs.Laws.{no_way, set-any, replicate-each, found_at}
use Rattle.protocol.proofs.Tellings.{is_plain}
use Rattle.protocol.proofs.Ways.{Way, nothing, dropped, open_asked, part_failed, write_asked, commit_asked, path_named, last_named}
use Rattle.protocol.proofs.Ways.{request_asked, way}
use Rattle.protocol.proofs.Backs.{table, own-cleared}
use Rattle.protocol.proofs.Obeyed.{idle}

-- ---- no session serves
abbrev is_serving : SessionState → Bool
is_serving SessionState.Absent = false
is_serving SessionState.Asked = false
is_serving SessionState.Open = false
is_serving SessionState.Naming = false
is_serving SessionState.Waiting = false
is_serving SessionState.Listing = false
is_serving SessionState.Serving = true

abbrev Unserving : Session → Type 0
Unserving s = is_serving s.state ≡ false

abbrev pub Unserved : List Session → Type 0
Unserved ss = (i : ℕ) → Unserving (get_or ss i no_session)

pub record Rests (t : Table) : Type 0 where
  pub owed : t.owed ≡ None
  pub unserved : Unserved t.sessions

pub empty-rests : Rests empty_table
empty-rests =
    record { owed = refl; unserved = replicate-each Unserving {a = absent_session} {d = no_session} refl refl session_room }

put-unserved : (ss : List Session) → Unserved ss → (i : ℕ) (s : Session) → Unserving s → Unserved (set ss i s)
put-unserved ss h i s k = set-any (λ (n : ℕ). Unserving) ss i s no_session k h

-- ---- a command
-- opens are asked for file commands; a request, which only a serving session gets, is never asked
abbrev pub AskedBy : Command → Due → Type 0
AskedBy c (Due.OpenFile j) = c.action ≡ Action.File
AskedBy c (Due.OpenDirectory j) = c.action ≡ Action.File
AskedBy c (Due.Write j n) = Unit {0}
AskedBy c (Due.WriteLast j n) = Unit {0}
AskedBy c Due.Commit = Unit {0}
AskedBy c Due.Request = ⊥

pub data Obeys (c : Command) : Stepped → Type 0 where
  tells : {ss : List Session} {w : Told} {r : Option Reply} → is_plain w ≡ true → Unserved ss → Obeys c (stepped (idle ss) w r)
  asks : {ss : List Session} {r : Option Reply} (i : ℕ) (d : Due) → AskedBy c d → Unserved ss
      → Obeys c (stepped (table ss (Some (i, d))) (Told.Ask (ask_of c.payload d)) r)

-- in a session that is present
module _ (ss : List Session) (h : Unserved ss) (i : ℕ) (c : Command) (q : Request) (acts : q.action ≡ c.action) where
  abbrev here : Session
  here = get_or ss i no_session

  way-obeys : {x : Change} → Way here q x → Obeys c (step_by (idle ss) i c.payload x)
  way-obeys (nothing w r e _ _ _) = tells e (put-unserved ss h i _ (h i))
  way-obeys (dropped w r e _) = tells e (put-unserved ss h i _ refl)
  way-obeys (open_asked j _ n _) = asks i _ (opens (is_directory q.type)) (put-unserved ss h i _ (h i))
    where
      opens : (b : Bool) → AskedBy c (open_due b j)
      opens true = sym acts ∙ n.action
      opens false = sym acts ∙ n.action
  way-obeys (part_failed j w _ _) = tells refl (put-unserved ss h i _ (h i))
  way-obeys (write_asked last j _ _ _ _ _) = asks i _ (writes last) (put-unserved ss h i _ (h i))
    where
      writes : (b : Bool) → AskedBy c (write_due b j q.long)
      writes true = tt
      writes false = tt
  way-obeys (commit_asked _ _ _) = asks i Due.Commit tt (put-unserved ss h i _ (h i))
  way-obeys (path_named j _ _) = tells refl (put-unserved ss h i _ (h i))
  way-obeys (last_named _ _) = tells refl (put-unserved ss h i _ refl)
  way-obeys (request_asked o _) = no_way (sym (ap is_serving o) ∙ h i)

-- in one that is absent
module _ (ss : List Session) (h : Unserved ss) (c : Command) (text : List ℕ) where
  abbrev made : Session
  made = asked_session c.quiet (id_in c text)

  send-obeys : (f : Option ℕ) → Obeys c (send_room (idle ss) made f)
  send-obeys None = tells refl h
  send-obeys (Some i) = tells refl (put-unserved ss h i made refl)

  receive-obeys : (n : Number) (f : Option ℕ) → Obeys c (receive_room (idle ss) made n f)
  receive-obeys n None = tells refl h
  receive-obeys n (Some i) =
      by_cond (Obeys c) (bad_paths n) (λ _. tells refl h)
      (λ _. tells refl (put-unserved ss h i (naming_session made n.magnitude) refl))

  absent-obeys : (n : Number) (k : Kind) → Obeys c (absent_result (idle ss) made n k)
  absent-obeys n Kind.Ignore = tells refl h
  absent-obeys n Kind.Ask = send-obeys (first is_absent ss)
  absent-obeys n Kind.Receive = receive-obeys n (first is_absent ss)
  absent-obeys n Kind.Invalid = tells refl h
  absent-obeys n Kind.Cancel = tells refl h
  absent-obeys n Kind.Withdraw = tells refl h
  absent-obeys n Kind.File = tells refl h
  absent-obeys n Kind.Data = tells refl h
  absent-obeys n Kind.EndData = tells refl h
  absent-obeys n Kind.Finish = tells refl h
  absent-obeys n Kind.Path = tells refl h
  absent-obeys n Kind.Request = tells refl h

  idle-obeys : (scratch : List ℕ) → Obeys c (obey_of (idle ss) c text scratch)
  unfolding obey_of
  idle-obeys scratch = go (find_session (idle ss) (id_in c text)) refl
    where
      q : Request
      q = request_in c text scratch

      go : (f : Option ℕ) → find_session (idle ss) (id_in c text) ≡ f → Obeys c (found_result (idle ss) c (id_in c text) q f)
      go None e = absent-obeys c.size (kind_of SessionState.Absent c.action)
      go (Some i) e =
          way-obeys ss h i c q refl (way (get_or ss i no_session) q (found_at session_used id_of no_session ss (id_in c text) i e).1)

owed-obeys : (ss : List Session) (o : Option (ℕ × Due)) → o ≡ None → Unserved ss → (c : Command) (text scratch : List ℕ)
    → Obeys c (obey_of (table ss o) c text scratch)
owed-obeys ss o e h c text scratch = rw e (idle-obeys ss h c text scratch)

pub obeys : {t : Table} → Rests t → (c : Command) (text scratch : List ℕ) → Obeys c (obey_of t c text scratch)
obeys {t} h c text scratch = owed-obeys t.sessions t.owed h.owed h.unserved c text scratch

-- ---- done
-- an answer that is no refusal, and leaves nothing owed
pub record Settles (s : Stepped) : Type 0 where
  pub rests : Rests s.table
  pub taken : is_refused s.told ≡ false

module _ (ss : List Session) (h : Unserved ss) (i : ℕ) where
  filed-rests : (d : Due) (s : Session) → Unserving s
      → Rests (record { sessions = set ss i s; owed = cond (eqb i i) None (Some (i, d)) })
  filed-rests d s k = record { owed = own-cleared i d; unserved = put-unserved ss h i s k }

  pub done-settles : (c : Command) (d : Due) → AskedBy c d → Settles (settle_done (table ss (Some (i, d))))
  unfolding settle_done done_by
  done-settles c (Due.OpenFile j) a = record { rests = filed-rests (Due.OpenFile j) _ (h i); taken = refl }
  done-settles c (Due.OpenDirectory j) a = record { rests = filed-rests (Due.OpenDirectory j) _ (h i); taken = refl }
  done-settles c (Due.Write j n) a = record { rests = filed-rests (Due.Write j n) _ (h i); taken = refl }
  done-settles c (Due.WriteLast j n) a = record { rests = filed-rests (Due.WriteLast j n) _ (h i); taken = refl }
  done-settles c Due.Commit a = record { rests = filed-rests Due.Commit _ refl; taken = refl }
  done-settles c Due.Request a = absurd a

-- ---- allow
opened-unserving : (g : SessionState) → is_serving (opened_from g) ≡ false
opened-unserving SessionState.Absent = refl
opened-unserving SessionState.Asked = refl
opened-unserving SessionState.Open = refl
opened-unserving SessionState.Naming = refl
opened-unserving SessionState.Waiting = refl
opened-unserving SessionState.Listing = refl
opened-unserving SessionState.Serving = refl

pub allow-rests : (t : Table) → Rests t → (id : List ℕ) → Rests (decided_of t Decision.Allow id).table
unfolding decided_of decided_by
allow-rests t h id = go (find_session t id)
  where
    go : (f : Option ℕ) → Rests (decided_at t Decision.Allow f).table
    go None = h
    go (Some i) =
        let s = get_or t.sessions i no_session in
        by_cond (λ (x : Change). Rests (step_by t i nowhere x).table) (is_asked s.state)
        (λ _. record { owed = h.owed; unserved = put-unserved t.sessions h.unserved i _ (opened-unserving s.state) })
        (λ _. record { owed = h.owed; unserved = put-unserved t.sessions h.unserved i _ (h.unserved i) })
