-- DEMAND 3: every list of calls from a fresh receiver.
use Prim.Native.Nat.{ℕ, ◌≤◌}
use mathlib.Core.Path.{◌≡◌, refl}
use mathlib.Core.Bool.{Bool, true, false}
use mathlib.Core.Logic.{◌⊎◌}
use mathlib.Core.List.{List, [], ◌∷◌}
use lib.ListN.{length}
use lib.Dec.{ltb}
use borrow.Author.Tests.{ltb-false}
use Rattle.protocol.specs.Replies.{reply_room}
use Rattle.protocol.specs.Sessions.{settle_done, settle_failed, settle_unlisted, decided_of}
use Rattle.protocol.specs.Calls.{is_owed, guarded, allow_of, deny_of, drop_of, done_of, failed_of, unlisted_of}
use Rattle.protocol.specs.History.{Command, Heard, Event, Mark, marks_of, Question, last_ask}
use Rattle.protocol.specs.Stretches.{Key}
use Rattle.protocol.specs.Machine.{ours, Call, World, is_refused, after_call, start}
use Rattle.protocol.specs.Claim.{DirectoryAsked, Closes, Closed, EveryHistory}
use Rattle.protocol.specs.declared.Decision.TheVariants as Decision
use Rattle.protocol.specs.declared.Stepped.{Stepped}
use Rattle.protocol.specs.declared.Answered.{Answered}
use Rattle.protocol.proofs.Ours.{Lent, step, ClosedWhole, TurnedDone, Right, Everywhere}
use Rattle.protocol.proofs.Laws.{no_way}
use Rattle.protocol.proofs.Done.{NoneDone}
use Rattle.protocol.proofs.Backs.{not-owed}
use Rattle.protocol.proofs.Puts.{none-same, none-closes}
use Rattle.protocol.proofs.SoundTable.{done-sound, failed-sound, unlisted-sound, supply-sound, decided-sound}
use Rattle.protocol.proofs.Settled.{done-noted, failed-noted, failed-none, unlisted-noted, unlisted-none}
use Rattle.protocol.proofs.Supplying.{supplied}
use Rattle.protocol.proofs.Console.{allow-noted, deny-moved, drop-noted}
use Rattle.protocol.proofs.Worlds.{WorldOK, start-ok, noted-ok, guarded-ok, by_guard}
use Rattle.protocol.proofs.Feeds.{feed-ok}
use Rattle.protocol.proofs.ClosingReplies.{ReplyLaw}
use Rattle.protocol.proofs.Closing.{done-is, turned, closed}

-- ---- every call keeps the invariant
pub step_ok : (w : World) → WorldOK w → (c : Call) → Lent w c → WorldOK (step w c)
unfolding marks_of allow_of deny_of drop_of done_of failed_of unlisted_of
step_ok w ok (Call.feed piece carry scratch reply) lent = (feed-ok w ok piece carry scratch reply lent).ok
step_ok w ok (Call.allow id reply) _ =
    let t = w.receiver.table in
    guarded-ok ok (Event.allowed id) (Mark.allow id) refl refl (decided_of t Decision.Allow id) reply
    (decided-sound t Decision.Allow id ok.sound) (allow-noted ok.sound ok.table id).ok
step_ok w ok (Call.deny id reply) _ =
    let t = w.receiver.table in
    by_guard (λ (a : Answered). WorldOK (after_call w a w.history)) w (decided_of t Decision.Deny id) reply
    (record { follows = ok.follows; sound = ok.sound; table = ok.table })
    (λ n. record {
      follows = ok.follows;
      sound = decided-sound t Decision.Deny id ok.sound;
      table = (deny-moved ok.sound ok.table id).ok;
    })
step_ok w ok (Call.drop id) _ =
    let t = w.receiver.table in
    noted-ok ok (Event.dropped id) (Mark.drop id) refl refl (decided_of t Decision.Drop id) 0 (decided-sound t Decision.Drop id ok.sound)
    (drop-noted ok.sound ok.table id).ok
step_ok w ok (Call.done reply) _ =
    let t = w.receiver.table in
    let m = marks_of w.history in
    guarded-ok ok (Event.answered true) (Mark.answer true (last_ask m)) refl refl (settle_done t) reply (done-sound t ok.sound)
    (done-noted t.sessions t.owed m ok.sound ok.table)
step_ok w ok (Call.failed code reply) _ =
    let t = w.receiver.table in
    let m = marks_of w.history in
    guarded-ok ok (Event.answered false) (Mark.answer false (last_ask m)) refl refl (settle_failed t code) reply
    (failed-sound t code ok.sound) (failed-noted t.sessions code t.owed m ok.sound ok.table)
step_ok w ok (Call.unlisted reply) _ =
    let t = w.receiver.table in
    let m = marks_of w.history in
    guarded-ok ok (Event.answered false) (Mark.answer false (last_ask m)) refl refl (settle_unlisted t) reply
    (unlisted-sound t ok.sound) (unlisted-noted t.sessions t.owed m ok.sound ok.table)
step_ok w ok (Call.supply u out) _ =
    let s = supplied w.receiver ok.sound ok.table u out in
    record {
      follows = rw s.framing ok.follows;
      sound = supply-sound w.receiver u out ok.sound;
      table = s.ok;
    }

-- ---- which call turns a record done
-- a console call with a reply buffer turns none done that its step does not
guarded-none : (w : World) (s : Stepped) (reply : List ℕ) → NoneDone w.receiver.table s.table
    → NoneDone w.receiver.table (guarded w.receiver s reply).answer.receiver.table
guarded-none w s reply none =
    let t = w.receiver.table in
    by_guard (λ (a : Answered). NoneDone t a.receiver.table) w s reply (none-same t t.owed) (λ n. none)

-- nor does a call at which none turns done
never : (w : World) (c : Call) → NoneDone w.receiver.table (step w c).receiver.table → (k : Key) (s quiet : ℕ)
    → Closes w.receiver.table (step w c).receiver.table k s quiet → TurnedDone w c k s quiet
never w c none k s quiet closes = absurd (none-closes w.receiver.table (step w c).receiver.table k s quiet none closes)

module _ (law : ReplyLaw) where
  done-turns : (w : World) → WorldOK w → (reply : List ℕ) (k : Key) (s quiet : ℕ)
      → Closes w.receiver.table (step w (Call.done reply)).receiver.table k s quiet
      → DirectoryAsked k (marks_of w.history) ⊎ ClosedWhole w reply k s quiet
  unfolding done_of guarded
  done-turns w ok reply k s quiet c = go (ltb (length reply) reply_room) refl c
    where
      go : (b : Bool) → ltb (length reply) reply_room ≡ b → Closes w.receiver.table (step w (Call.done reply)).receiver.table k s quiet
          → DirectoryAsked k (marks_of w.history) ⊎ ClosedWhole w reply k s quiet
      go true e c =
          let t = w.receiver.table in absurd (none-closes t t k s quiet (none-same t t.owed) (rw e at c))
      go false e c =
          let room : reply_room ≤ length reply = ltb-false _ _ e in
          let t = w.receiver.table in
          turned w.receiver.framing t.sessions w.carry w.history reply room law t.owed ok k s quiet
          (rw (done-is w reply room) at c)

  turned-done : (w : World) → WorldOK w → (c : Call) → Lent w c → (k : Key) (s quiet : ℕ)
      → Closes w.receiver.table (step w c).receiver.table k s quiet → TurnedDone w c k s quiet
  unfolding allow_of deny_of drop_of failed_of unlisted_of
  turned-done w ok (Call.feed piece carry scratch reply) lent =
      never w (Call.feed piece carry scratch reply) (feed-ok w ok piece carry scratch reply lent).none
  turned-done w ok (Call.allow id reply) _ =
      let t = w.receiver.table in
      never w (Call.allow id reply) (guarded-none w (decided_of t Decision.Allow id) reply (allow-noted ok.sound ok.table id).none)
  turned-done w ok (Call.deny id reply) _ =
      let t = w.receiver.table in
      never w (Call.deny id reply) (guarded-none w (decided_of t Decision.Deny id) reply (deny-moved ok.sound ok.table id).none)
  turned-done w ok (Call.drop id) _ = never w (Call.drop id) (drop-noted ok.sound ok.table id).none
  turned-done w ok (Call.done reply) _ = λ k s quiet c. record { reply = reply; by_done = refl; right = done-turns w ok reply k s quiet c }
  turned-done w ok (Call.failed code reply) _ =
      let t = w.receiver.table in
      never w (Call.failed code reply) (guarded-none w (settle_failed t code) reply (failed-none t.sessions code t.owed))
  turned-done w ok (Call.unlisted reply) _ =
      let t = w.receiver.table in
      never w (Call.unlisted reply) (guarded-none w (settle_unlisted t) reply (unlisted-none t.sessions t.owed))
  turned-done w ok (Call.supply u out) _ = never w (Call.supply u out) (supplied w.receiver ok.sound ok.table u out).none

-- ---- a last part answered done closes its file
done-closes : (w : World) → WorldOK w → (d : Command) (p reply : List ℕ)
    → last_ask (marks_of w.history) ≡ Question.asks d (Heard.writes_last p)
    → is_refused (done_of w.receiver reply).answer.told ≡ false
    → Closed w.receiver.table (step w (Call.done reply)).receiver.table d
unfolding done_of guarded settle_done
done-closes w ok d p reply ask q = go (ltb (length reply) reply_room) refl (is_owed w.receiver.table.owed) refl q
  where
    go : (b : Bool) → ltb (length reply) reply_room ≡ b → (o : Bool) → is_owed w.receiver.table.owed ≡ o
        → is_refused (done_of w.receiver reply).answer.told ≡ false
        → Closed w.receiver.table (step w (Call.done reply)).receiver.table d
    go true e o u q = no_way (rw e at q)
    go false e true u q =
        let t = w.receiver.table in
        closed w.receiver.framing t.sessions w.carry w.history reply (ltb-false _ _ e) t.owed ok d p ask u
    go false e false u q = no_way (rw (e, not-owed w.receiver.table.owed u) at q)

-- ---- the theorem
module _ (law : ReplyLaw) where
  right : (w : World) → WorldOK w → (c : Call) → Lent w c → Right w c
  right w ok c lent =
      record {
        closes = turned-done law w ok c lent;
        closed = λ d p reply ask e q. rw e (done-closes w ok d p reply ask q);
        parts_stand = (step_ok w ok c lent).table.told;
        supplies = (step_ok w ok c lent).table.served;
      }

  everywhere : (w : World) → WorldOK w → (calls : List Call) → Everywhere w calls
  everywhere w ok [] = tt
  everywhere w ok (c ∷ cs) = λ lent. (right w ok c lent, everywhere (step w c) (step_ok w ok c lent) cs)

  pub every : EveryHistory ours
  every carry calls = everywhere (start carry) (start-ok carry) calls
