-- Arrays of ids that have at most 32 bytes, as those of every receiver that code can make: each step of the rule keeps them so, and what it
-- replies has ids of at most 32 bytes and a size of at most 2^40. With it, what a command can tell.
use Prim.Native.Nat.{ℕ, ◌≤◌}
use mathlib.Core.Path.{◌≡◌, refl}
use mathlib.Core.Bool.{true, false}
use mathlib.Core.List.{List, ◌++◌}
use native.Mathlib.Omega.{arith}
use lib.ListN.{length, length-take}
use Rattle.std.specs.Prelude.{Option, Some, None}
use Rattle.octets.specs.Outcome.{Outcome}
use Rattle.decimal.specs.declared.Number.{Number}
use Rattle.command.specs.Slots.{nowhere}
use Rattle.command.specs.declared.Place.{Place}
use Rattle.command.specs.declared.Command.{Command}
use Rattle.protocol.specs.Table.{zeros, id_room, file_room, session_room, free_file, absent_session, empty_table, no_file, no_session}
use Rattle.protocol.specs.Table.{session_at, file_at, id_of, padded, find_session, first, session_used, is_absent, put_session, put_file}
use Rattle.protocol.specs.Actions.{kind_of}
use Rattle.protocol.specs.Replies.{session_reply, failure_status}
use Rattle.protocol.specs.Change.{change, telling, drops, edited, told_by, after, step_by}
use Rattle.protocol.specs.Files.{Request, count_limit, is_directory, open_due, settled, failed_file, write_due}
use Rattle.protocol.specs.Receives.{bad_paths, named, request_fails}
use Rattle.protocol.specs.Rule.{obeyed_by, grown, done_by, failed_by, unlisted_by, is_asked, decided_by}
use Rattle.protocol.specs.Sessions.{id_in, request_in, asked_session, naming_session, absent_status, send_room, receive_room, absent_result}
use Rattle.protocol.specs.Sessions.{found_result, obey_of, answered_with, settle_done, settle_failed, unlisted_for, settle_unlisted}
use Rattle.protocol.specs.Sessions.{decided_at, decided_of}
use Rattle.protocol.specs.Supplies.{Supply, change_for, supply_of}
use Rattle.protocol.specs.Promises.{SizedSession, Sized}
use Rattle.protocol.specs.declared.FileState.{FileState}
use Rattle.protocol.specs.declared.FileRecord.{FileRecord}
use Rattle.protocol.specs.declared.SessionState.TheVariants as SessionState
use Rattle.protocol.specs.declared.Session.{Session}
use Rattle.protocol.specs.declared.Kind.{Kind}
use Rattle.protocol.specs.declared.Due.{Due}
use Rattle.protocol.specs.declared.Table.{Table}
use Rattle.protocol.specs.declared.Receiver.{Receiver}
use Rattle.protocol.specs.declared.Status.{Status}
use Rattle.protocol.specs.declared.Failure.{Failure}
use Rattle.protocol.specs.declared.Decision.{Decision}
use Rattle.protocol.specs.declared.Told.{Told}
use Rattle.protocol.specs.declared.Reply.{Reply}
use Rattle.protocol.specs.declared.Edit.TheVariants as Edit
use Rattle.protocol.specs.declared.News.{News}
use Rattle.protocol.specs.declared.Change.{Change}
use Rattle.protocol.specs.declared.Stepped.{Stepped}
use Rattle.protocol.specs.declared.Answered.{Answered}
use Rattle.frames.proofs.Choices.{by_cond}
use Rattle.protocol.proofs.Laws.{set-any, replicate-each, found_at}
use Rattle.protocol.proofs.Tellings.{is_plain, Tells}
use Rattle.protocol.proofs.Tellings as Tellings
use Rattle.protocol.proofs.Ways.{About, nobody, session, file, Way, nothing, dropped, open_asked, part_failed, write_asked}
use Rattle.protocol.proofs.Ways.{commit_asked, path_named, last_named, request_asked, way}
use Rattle.protocol.proofs.SupplyWays as SupplyWays
use Rattle.protocol.proofs.ReplyBytes.{SizedReply}

-- what a step gives, and what a change leaves of a session
pub record SizedStep (s : Stepped) : Type 0 where
  pub table : Sized s.table
  pub reply : SizedReply s.reply

record SizedChange (s : Session) (c : Change) : Type 0 where
  session : SizedSession (edited s c.file c.edit)
  reply : SizedReply c.reply

-- ---- what is stored
padded-length : (k : List ℕ) → length (padded k) ≤ id_room
padded-length k = omega (arith, length-take id_room (k ++ zeros))

free-files : (j : ℕ) → length (file_at absent_session j).id.bytes ≤ id_room
free-files j =
    replicate-each (λ (f : FileRecord). length f.id.bytes ≤ id_room) {a = free_file} {d = no_file} (omega arith) (omega arith) file_room j

absent-sized : SizedSession absent_session
absent-sized = record { id = omega arith; files = free-files }

pub empty-sized : Sized empty_table
empty-sized i = replicate-each SizedSession {a = absent_session} {d = no_session} absent-sized absent-sized session_room i

put-sized : (t : Table) (i : ℕ) (s : Session) → Sized t → SizedSession s → Sized (put_session t i s)
put-sized t i s h k j = set-any (λ (n : ℕ) (x : Session). SizedSession x) t.sessions i s no_session k h j

file-sized : (s : Session) (j : ℕ) (f : FileRecord) → SizedSession s → length f.id.bytes ≤ id_room → SizedSession (put_file s j f)
file-sized s j f h l =
    record { id = h.id; files = set-any (λ (n : ℕ) (x : FileRecord). length x.id.bytes ≤ id_room) s.files j f no_file l h.files }

-- ---- what is replied
pub none-sized : SizedReply None
none-sized = tt

session-sized : (w : Status) (s : Session) → SizedSession s → SizedReply (Some (session_reply w s))
session-sized w s h = record { id = h.id; file = omega arith; size = omega arith }

-- ---- the rule of one session
module _ (s : Session) (h : SizedSession s) where
  dropped-sized : (w : Told) (r : Option Reply) → SizedReply r → SizedChange s (drops w r)
  dropped-sized w r k = record { session = absent-sized; reply = k }

  settled-sized : (j : ℕ) (g : FileState) (n : ℕ) (w : Status) (size : ℕ) → size ≤ count_limit → SizedChange s (settled s j g n w size)
  settled-sized j g n w size l =
      record { session = file-sized s j _ h (h.files j); reply = record { id = h.id; file = h.files j; size = l } }

  code-sized : (j : ℕ) (w : Status) → SizedChange s (failed_file s j w)
  code-sized j w = settled-sized j FileState.Failed (file_at s j).count w 0 (omega arith)

  about-sized : (q : Request) {r : Option Reply} → About s q r → SizedReply r
  about-sized q nobody = none-sized
  about-sized q (session w) = session-sized w s h
  about-sized q (file w) = record { id = h.id; file = padded-length q.file; size = omega arith }

  -- nothing but something told or asked
  same-sized : {w : News} → SizedChange s (change Edit.Same no_file w None)
  same-sized = record { session = h; reply = none-sized }

  -- a record with the command's file id
  filed-sized : (q : Request) (j : ℕ) (f : FileRecord) → f.id.bytes ≡ padded q.file → {w : News}
      → SizedChange s (change (Edit.Filed j) f w None)
  filed-sized q j f e = record { session = file-sized s j f h (rw e (padded-length q.file)); reply = none-sized }

  way-sized : (q : Request) {c : Change} → Way s q c → SizedChange s c
  way-sized q (nothing w r _ a _ _) = record { session = h; reply = about-sized q a }
  way-sized q (dropped w r _ a) = dropped-sized w r (about-sized q a)
  way-sized q (open_asked j _ _ _) = filed-sized q j _ refl
  way-sized q (part_failed j w _ _) = code-sized j w
  way-sized q (write_asked last j _ _ _ _ _) = same-sized
  way-sized q (commit_asked _ _ _) = same-sized
  way-sized q (path_named j _ _) = filed-sized q j (named q.file) refl
  way-sized q (last_named _ _) = record { session = record { id = h.id; files = free-files }; reply = none-sized }
  way-sized q (request_asked _ _) = filed-sized q 0 (named q.file) refl

  done-change : (d : Due) → SizedChange s (done_by s d)
  unfolding done_by
  done-change (Due.OpenFile j) = settled-sized j FileState.Started 0 Status.Started 0 (omega arith)
  done-change (Due.OpenDirectory j) = settled-sized j FileState.Done 0 Status.Ok 0 (omega arith)
  done-change (Due.Write j n) = settled-sized j FileState.Started (grown s j n) Status.Progress (grown s j n) (omega arith)
  done-change (Due.WriteLast j n) = settled-sized j FileState.Done (grown s j n) Status.Ok (grown s j n) (omega arith)
  done-change Due.Commit = dropped-sized Told.Committed None none-sized
  done-change Due.Request = same-sized

  request-sized : (w : Status) → SizedChange s (request_fails w s)
  request-sized w = record { session = h; reply = record { id = h.id; file = h.files 0; size = omega arith } }

  failed-change : (e : Failure) (d : Due) → SizedChange s (failed_by e s d)
  unfolding failed_by
  failed-change e (Due.OpenFile j) = code-sized j (failure_status e)
  failed-change e (Due.OpenDirectory j) = code-sized j (failure_status e)
  failed-change e (Due.Write j n) = code-sized j (failure_status e)
  failed-change e (Due.WriteLast j n) = code-sized j (failure_status e)
  failed-change e Due.Commit = dropped-sized Told.Discarded _ (session-sized _ s h)
  failed-change e Due.Request = request-sized (failure_status e)

  unlisted-change : (d : Due) → SizedChange s (unlisted_by s d)
  unfolding unlisted_by
  unlisted-change (Due.OpenFile j) = same-sized
  unlisted-change (Due.OpenDirectory j) = same-sized
  unlisted-change (Due.Write j n) = same-sized
  unlisted-change (Due.WriteLast j n) = same-sized
  unlisted-change Due.Commit = same-sized
  unlisted-change Due.Request = request-sized Status.Einval

  supplied-change : (u : Supply) → SizedChange s (change_for u)
  supplied-change (Supply.list e text contents) = same-sized
  supplied-change (Supply.list_failed text id path code) = same-sized
  supplied-change (Supply.home id path) = record { session = record { id = h.id; files = h.files }; reply = none-sized }
  supplied-change (Supply.part false bytes) = same-sized
  supplied-change (Supply.part true bytes) = same-sized

  decided-change : (d : Decision) → SizedChange s (decided_by d s)
  unfolding decided_by
  decided-change Decision.Allow =
      by_cond (SizedChange s) (is_asked s.state)
      (λ _. record { session = record { id = h.id; files = h.files }; reply = session-sized _ s h }) (λ _. same-sized)
  decided-change Decision.Deny =
      by_cond (SizedChange s) (is_asked s.state) (λ _. dropped-sized Told.Nothing _ (session-sized _ s h))
      (λ _. same-sized)
  decided-change Decision.Drop = dropped-sized Told.Nothing None none-sized

-- what the change of a command tells
way-tells : (s : Session) (q : Request) (p : Place) {c : Change} → Way s q c → Tells p (told_by p c.news)
way-tells s q p (nothing w r e _ _ _) = Tellings.tells e
way-tells s q p (dropped w r e _) = Tellings.tells e
way-tells s q p (open_asked j _ _ _) = Tellings.asks (open_due (is_directory q.type) j)
way-tells s q p (part_failed j w _ _) = Tellings.tells refl
way-tells s q p (write_asked last j _ _ _ _ _) = Tellings.asks (write_due last j q.long)
way-tells s q p (commit_asked _ _ _) = Tellings.asks Due.Commit
way-tells s q p (path_named j _ _) = Tellings.tells refl
way-tells s q p (last_named _ _) = Tellings.tells refl
way-tells s q p (request_asked _ _) = Tellings.asks Due.Request

-- ---- the table
module _ (t : Table) (h : Sized t) where
  telling-sized : (w : Told) → SizedStep (telling t w)
  telling-sized w = record { table = h; reply = none-sized }

  step-sized : (i : ℕ) (p : Place) (c : Change) → SizedChange (session_at t i) c → SizedStep (step_by t i p c)
  step-sized i p c k = record { table = put-sized t i _ h k.session; reply = k.reply }

  -- a command
  pub record Obeyed (c : Command) (s : Stepped) : Type 0 where
    pub sized : SizedStep s
    pub told : Tells c.payload s.told

  module _ (c : Command) (text scratch : List ℕ) where
    abbrev made : Session
    made = asked_session c.quiet (id_in c text)

    made-sized : SizedSession made
    made-sized = record { id = padded-length (id_in c text); files = free-files }

    ignored-sized : Obeyed c (telling t Told.Ignored)
    ignored-sized = record { sized = telling-sized Told.Ignored; told = Tellings.tells refl }

    status-sized : (w : Status) → Obeyed c (absent_status t made w)
    status-sized w = record { sized = record { table = h; reply = session-sized w _ made-sized }; told = Tellings.tells refl }

    new-sized : (i : ℕ) (s : Session) → SizedSession s → (w : Told) → is_plain w ≡ true → Obeyed c (telling (put_session t i s) w)
    new-sized i s k w e = record { sized = record { table = put-sized t i s h k; reply = none-sized }; told = Tellings.tells e }

    room-send : (f : Option ℕ) → Obeyed c (send_room t made f)
    room-send None = status-sized Status.Ebusy
    room-send (Some i) = new-sized i made made-sized Told.Asked refl

    room-receive : (n : Number) (f : Option ℕ) → Obeyed c (receive_room t made n f)
    room-receive n None = status-sized Status.Ebusy
    room-receive n (Some i) =
        by_cond (Obeyed c) (bad_paths n) (λ _. status-sized Status.Einval)
        (λ _. new-sized i (naming_session made n.magnitude) (record { id = made-sized.id; files = free-files }) Told.Naming refl)

    absent-sized-by : (n : Number) (k : Kind) → Obeyed c (absent_result t made n k)
    absent-sized-by n Kind.Ignore = ignored-sized
    absent-sized-by n Kind.Ask = room-send (first is_absent t.sessions)
    absent-sized-by n Kind.Receive = room-receive n (first is_absent t.sessions)
    absent-sized-by n Kind.Invalid = ignored-sized
    absent-sized-by n Kind.Cancel = ignored-sized
    absent-sized-by n Kind.Withdraw = ignored-sized
    absent-sized-by n Kind.File = ignored-sized
    absent-sized-by n Kind.Data = ignored-sized
    absent-sized-by n Kind.EndData = ignored-sized
    absent-sized-by n Kind.Finish = ignored-sized
    absent-sized-by n Kind.Path = ignored-sized
    absent-sized-by n Kind.Request = ignored-sized

    pub obey-sized : Obeyed c (obey_of t c text scratch)
    unfolding obey_of
    obey-sized = go (find_session t (id_in c text)) refl
      where
        q : Request
        q = request_in c text scratch

        go : (f : Option ℕ) → find_session t (id_in c text) ≡ f → Obeyed c (found_result t c (id_in c text) q f)
        go None e = absent-sized-by c.size (kind_of SessionState.Absent c.action)
        go (Some i) e =
            let s = session_at t i in
            let x = way s q (found_at session_used id_of no_session t.sessions (id_in c text) i e).1 in
            record { sized = step-sized i c.payload (obeyed_by s q) (way-sized s (h i) q x); told = way-tells s q c.payload x }

  -- an answer, and a decision
  answered-sized : (f : Session → Due → Change) → ((s : Session) → SizedSession s → (d : Due) → SizedChange s (f s d))
      → (o : Option (ℕ × Due))
      → SizedStep (answered_with t f o)
  answered-sized f k None = telling-sized (Told.Refused 11)
  answered-sized f k (Some (i, d)) = step-sized i _ (f (session_at t i) d) (k (session_at t i) (h i) d)

  pub done-sized : SizedStep (settle_done t)
  unfolding settle_done
  done-sized = answered-sized done_by done-change t.owed

  pub failed-sized : (e : Failure) → SizedStep (settle_failed t e)
  unfolding settle_failed
  failed-sized e = answered-sized (failed_by e) (λ s k. failed-change s k e) t.owed

  pub unlisted-sized : SizedStep (settle_unlisted t)
  unfolding settle_unlisted
  unlisted-sized = go t.owed
    where
      go : (o : Option (ℕ × Due)) → SizedStep (unlisted_for t o)
      go None = telling-sized (Told.Refused 18)
      go (Some (i, d)) = step-sized i _ (unlisted_by (session_at t i) d) (unlisted-change (session_at t i) (h i) d)

  pub decided-sized : (d : Decision) (k : List ℕ) → SizedStep (decided_of t d k)
  unfolding decided_of
  decided-sized d k = go (find_session t k)
    where
      go : (f : Option ℕ) → SizedStep (decided_at t d f)
      go None = telling-sized (Told.Refused 12)
      go (Some i) = step-sized i _ (decided_by d (session_at t i)) (decided-change (session_at t i) (h i) d)

-- what the console supplies
pub supply-sized : (r : Receiver) (u : Supply) (out : List ℕ) → Sized r.table → Sized (supply_of r u out).answer.receiver.table
supply-sized r u out h = go (SupplyWays.way r u out)
  where
    step : (i : ℕ) → Sized (after r.table i (change_for u))
    step i = (step-sized r.table h i nowhere (change_for u) (supplied-change (session_at r.table i) (h i) u)).table

    go : {o : Outcome Answered} → SupplyWays.Way r u out o → Sized o.answer.receiver.table
    go (SupplyWays.refused n) = h
    go (SupplyWays.held i n _ _ _ _ _) = step i
    go (SupplyWays.wrote i n _ _ _ _ _) = step i
