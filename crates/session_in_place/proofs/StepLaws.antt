-- One session copied out, stepped and put back is what the definitions say of the table.
use Prim.Native.Nat.{ℕ, ◌≤◌, ◌<◌}
use mathlib.Core.Path.{◌≡◌, refl, ◌∙◌}
use mathlib.Core.Bool.{Bool, true, false, cond}
use mathlib.Core.List.{List}
use native.Mathlib.Omega.{arith}
use borrow.Author.Tests.{ltb-false, lt-ltb, le-leb, not-true}
use lib.ListN.{length, set}
use lib.Seq.{set_out, set-get_or}
use lib.Dec.{ltb}
use Rattle.std.specs.Prelude.{Option, None, Some}
use Rattle.octets.specs.Outcome.{outcome}
use Rattle.octets.proofs.Below.{both_test}
use Rattle.command.specs.Slots.{nowhere}
use Rattle.command.specs.declared.Command.{Command}
use Rattle.protocol.specs.Table.{session_room, no_session, session_at, first, has_id, is_absent, is_present, find_session, put_session}
use Rattle.protocol.specs.Actions.{kind_of}
use Rattle.protocol.specs.Change.{stepped, telling, step_by, edited}
use Rattle.protocol.specs.Replies.{reply_bytes, replied_of}
use Rattle.protocol.specs.Receives.{bad_paths}
use Rattle.protocol.specs.Rule.{done_by, failed_by, unlisted_by, decided_by}
use Rattle.protocol.specs.Sessions.{asked_session, naming_session, id_in, request_in, obey_of}
use Rattle.protocol.specs.Sessions.{absent_status, send_room, receive_room, absent_result, found_result}
use Rattle.protocol.specs.Sessions.{decided_at, answered_with, unlisted_for, settle_done, settle_failed, settle_unlisted, decided_of}
use Rattle.protocol.specs.declared.SessionState.TheVariants as SessionState
use Rattle.protocol.specs.declared.Session.{Session}
use Rattle.protocol.specs.declared.Kind.{Kind}
use Rattle.protocol.specs.declared.Status.TheVariants as Status
use Rattle.protocol.specs.declared.Table.{Table}
use Rattle.protocol.specs.declared.Told.{Told}
use Rattle.protocol.specs.declared.Reply.{Reply}
use Rattle.protocol.specs.declared.Due.{Due}
use Rattle.protocol.specs.declared.Change.{Change}
use Rattle.protocol.specs.declared.Decision.{Decision}
use Rattle.protocol.specs.declared.Stepped.{Stepped}
use Rattle.protocol.proofs.Laws.{first-at}
use Rattle.sessions.specs.declared.next.Next.{Next}
use Rattle.session_in_place.specs.Steps.{place_of, staying}
use Rattle.session_in_place.specs.Calls.{refusal_of, owner_of, due_of, concerned, change_by, next_at, next_for}
use Rattle.session_in_place.specs.Feeds.{new_seat, seat_at, seat_of, status_in, turned_away, seated, new_in, obey_in, obey_by}
use Rattle.session_in_place.specs.declared.Call.{Call}
use Rattle.session_in_place.proofs.ArrayLaws.{outside}

-- no reply is none in the buffer
pub no-reply : (buf : List ℕ) → replied_of None buf ≡ outcome 0 buf
unfolding replied_of reply_bytes
no-reply buf = rw (le-leb 0 (length buf) (omega arith))

-- ---- put back
-- what a step leaves, at a place of the table
abbrev pub put : Table → ℕ → Next → Stepped
put t i n = stepped (record { sessions = set t.sessions i n.session; owed = n.owed }) n.told n.reply

-- as it was
stays : (t : Table) (w : Told) (r : Option Reply) → put t 0 (staying (session_at t 0) t.owed w r) ≡ stepped t w r
stays t w r = rw (set-get_or t.sessions 0 no_session)

-- ---- a call of the console
abbrev stepped_at : Table → ℕ → (Session → Change) → Option ℕ → Stepped
stepped_at t n g None = telling t (Told.Refused n)
stepped_at t n g (Some i) = step_by t i nowhere (g (session_at t i))

abbrev step_for : Call → Table → Option ℕ → Stepped
step_for k t f = stepped_at t (refusal_of k) (λ s. change_by k s t.owed) f

call_at : (k : Call) (t : Table) (f : Option ℕ) → length t.sessions ≡ 4
    → put t (place_of f) (next_for k f (session_at t (place_of f)) t.owed) ≡ step_for k t f
unfolding next_at
call_at k t None e = stays t (Told.Refused (refusal_of k)) None
call_at k t (Some i) e = go (ltb i session_room) refl
  where
    go : (b : Bool) → ltb i session_room ≡ b
        → put t (place_of (Some i)) (next_for k (Some i) (session_at t (place_of (Some i))) t.owed) ≡ step_for k t (Some i)
    go true q = rw q
    go false q =
        let past : length t.sessions ≤ i = omega (arith, ltb-false i 4 q, e) in
        rw (
          q,
          set-get_or t.sessions 0 no_session,
          outside t.sessions i no_session past,
          set_out t.sessions i (edited no_session (change_by k no_session t.owed).file (change_by k no_session t.owed).edit) past,
        )

-- each is the step that its call by value takes
decides : (d : Decision) (t : Table) (f : Option ℕ) → stepped_at t 12 (decided_by d) f ≡ decided_at t d f
decides d t None = refl
decides d t (Some i) = refl

settles : (g : Session → Due → Change) (t : Table) (o : Option (ℕ × Due))
    → stepped_at t 11 (λ s. g s (due_of o)) (owner_of o) ≡ answered_with t g o
settles g t None = refl
settles g t (Some (i, d)) = refl

unlists : (t : Table) (o : Option (ℕ × Due)) → stepped_at t 18 (λ s. unlisted_by s (due_of o)) (owner_of o) ≡ unlisted_for t o
unlists t None = refl
unlists t (Some (i, d)) = refl

abbrev pub stepped_by : Table → Call → List ℕ → Stepped
stepped_by t Call.Allow id = decided_of t Decision.Allow id
stepped_by t Call.Deny id = decided_of t Decision.Deny id
stepped_by t Call.Drop id = decided_of t Decision.Drop id
stepped_by t Call.Done id = settle_done t
stepped_by t (Call.Failed e) id = settle_failed t e
stepped_by t Call.Unlisted id = settle_unlisted t

concerns : (k : Call) (t : Table) (id : List ℕ) → length t.sessions ≡ 4
    → step_for k t (concerned k t.owed t.sessions id) ≡ stepped_by t k id
unfolding concerned change_by decided_of settle_done settle_failed settle_unlisted
concerns Call.Allow t id e = decides Decision.Allow t (find_session t id)
concerns Call.Deny t id e = decides Decision.Deny t (find_session t id)
concerns Call.Drop t id e = decides Decision.Drop t (find_session t id)
concerns Call.Done t id e = settles done_by t t.owed
concerns (Call.Failed w) t id e = settles (failed_by w) t t.owed
concerns Call.Unlisted t id e = unlists t t.owed

pub call-steps : (k : Call) (t : Table) (id : List ℕ) → length t.sessions ≡ 4
    → (let f = concerned k t.owed t.sessions id in
    put t (place_of f) (next_for k f (session_at t (place_of f)) t.owed) ≡ stepped_by t k id)
call-steps k t id e = call_at k t (concerned k t.owed t.sessions id) e ∙ concerns k t id e

-- ---- a command
seated-at : (t : Table) (c : Command) (text scratch : List ℕ) (k : Kind) (i : ℕ) (present : Bool) → i < 4
    → is_present (session_at t i).state ≡ present
    → put t (place_of (Some i)) (obey_in k i (session_at t (place_of (Some i))) t.owed c text scratch)
    ≡ cond present (found_result t c (id_in c text) (request_in c text scratch) (Some i))
    (put t i (new_in k i (session_at t i) t.owed (asked_session c.quiet (id_in c text)) c.size))
unfolding obey_in
seated-at t c text scratch k i true l p = rw (lt-ltb i 4 l, p)
seated-at t c text scratch k i false l p = rw (lt-ltb i 4 l, p)

-- where its session is absent
module _ (t : Table) (c : Command) (text scratch : List ℕ) (e : length t.sessions ≡ 4) where
  abbrev asked : Session
  asked = asked_session c.quiet (id_in c text)

  abbrev by : Kind → Option ℕ → Stepped
  by k f = put t (place_of f) (obey_by k f (session_at t (place_of f)) t.owed c text scratch)

  -- at free room
  new-at : (k : Kind) (i : ℕ) → first is_absent t.sessions ≡ Some i
      → by k (Some i) ≡ put t i (new_in k i (session_at t i) t.owed asked c.size)
  new-at k i q =
      let at = first-at is_absent no_session t.sessions i q in
      seated-at t c text scratch k i false (omega (arith, at.0, e)) (not-true _ at.1)

  sends : (f : Option ℕ) → first is_absent t.sessions ≡ f → by Kind.Ask f ≡ send_room t asked f
  unfolding turned_away
  sends None q = stays t _ _
  sends (Some i) q = new-at Kind.Ask i q

  receives : (f : Option ℕ) → first is_absent t.sessions ≡ f → by Kind.Receive f ≡ receive_room t asked c.size f
  unfolding turned_away
  receives None q = stays t _ _
  receives (Some i) q = new-at Kind.Receive i q ∙ go (bad_paths c.size)
    where
      go : (b : Bool)
          → put t i (cond b (status_in (session_at t i) t.owed asked Status.Einval)
          (seated i (naming_session asked c.size.magnitude) t.owed Told.Naming))
          ≡ cond b (absent_status t asked Status.Einval) (telling (put_session t i (naming_session asked c.size.magnitude)) Told.Naming)
      go true = rw (set-get_or t.sessions i no_session)
      go false = refl

  absent : (k : Kind) → by k (new_seat t.sessions k) ≡ absent_result t asked c.size k
  unfolding turned_away
  absent Kind.Ignore = stays t Told.Ignored None
  absent Kind.Ask = sends (first is_absent t.sessions) refl
  absent Kind.Receive = receives (first is_absent t.sessions) refl
  absent Kind.Invalid = stays t Told.Ignored None
  absent Kind.Cancel = stays t Told.Ignored None
  absent Kind.Withdraw = stays t Told.Ignored None
  absent Kind.File = stays t Told.Ignored None
  absent Kind.Data = stays t Told.Ignored None
  absent Kind.EndData = stays t Told.Ignored None
  absent Kind.Finish = stays t Told.Ignored None
  absent Kind.Path = stays t Told.Ignored None
  absent Kind.Request = stays t Told.Ignored None

  found : (f : Option ℕ) → find_session t (id_in c text) ≡ f
      → (let k = kind_of SessionState.Absent c.action in by k (seat_at t.sessions k f) ≡ found_result t c (id_in c text) (request_in c
      text scratch) f)
  found None q = absent (kind_of SessionState.Absent c.action)
  found (Some i) q =
      let at = first-at (has_id (id_in c text)) no_session t.sessions i q in
      seated-at t c text scratch _ i true (omega (arith, at.0, e)) (both_test _ _ at.1).0

  pub command-steps : by (kind_of SessionState.Absent c.action) (seat_of t.sessions c text) ≡ obey_of t c text scratch
  unfolding seat_of obey_of
  command-steps = found (find_session t (id_in c text)) refl
