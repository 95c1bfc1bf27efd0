-- WHAT EVERY CALL PROMISES, of the receiver's own: a refused one changes nothing, a feed goes on, and no reply is over 124 bytes, nothing
-- supplied over a frame.
use Prim.Native.Nat.{ℕ}
use mathlib.Core.Path.{◌≡◌, refl, sym, ap, ◌∙◌}
use mathlib.Core.Bool.{Bool, true, false, cond}
use mathlib.Core.List.{List}
use native.Mathlib.Omega.{arith}
use lib.ListN.{length}
use lib.Dec.{ltb}
use borrow.Author.Tests.{ltb-false}
use Rattle.std.specs.Prelude.{Option, Some, None}
use Rattle.octets.specs.Outcome.{Outcome, outcome}
use Rattle.frames.specs.Calls.{scan_of, text_of}
use Rattle.frames.proofs.CallLaws.{call-report, consumed_le, consumes}
use Rattle.protocol.specs.Table.{session_at, find_session}
use Rattle.protocol.specs.Replies.{reply_room}
use Rattle.command.specs.Slots.{nowhere}
use Rattle.frames.proofs.Choices.{by_cond}
use Rattle.protocol.specs.Change.{tells, told_by, telling, step_by}
use Rattle.protocol.specs.Rule.{done_by, failed_by, unlisted_by, is_asked, not_asked, allowed, denied, decided_by}
use Rattle.protocol.specs.Sessions.{answered_with, settle_done, settle_failed, unlisted_for, settle_unlisted, decided_at, decided_of}
use Rattle.protocol.specs.Calls.{is_owed, Feeding, feeding, feed_refused, scanned_feed, is_short, feed_of}
use Rattle.protocol.specs.Calls.{answered_by, replied, guarded, allow_of, deny_of, drop_of, done_of, failed_of, unlisted_of}
use Rattle.protocol.specs.Supplies.{Supply, values_for, change_for, supply_of}
use Rattle.protocol.specs.Machine.{ours, is_unfed, is_refused}
use Rattle.protocol.specs.Promises.{Sized, FeedPromise, CallPromise, SupplyPromise, EveryCall}
use Rattle.protocol.specs.declared.Session.{Session}
use Rattle.protocol.specs.declared.Due.{Due}
use Rattle.protocol.specs.declared.Table.{Table}
use Rattle.protocol.specs.declared.Receiver.{Receiver}
use Rattle.protocol.specs.declared.Failure.{Failure}
use Rattle.protocol.specs.declared.Decision.{Decision}
use Rattle.protocol.specs.declared.Told.TheVariants as Told
use Rattle.protocol.specs.declared.Change.{Change}
use Rattle.protocol.specs.declared.Stepped.{Stepped}
use Rattle.protocol.specs.declared.Answered.{Answered}
use Rattle.protocol.proofs.Laws.{no_way}
use Rattle.protocol.proofs.Backs.{told-step}
use Rattle.protocol.proofs.Tellings.{plain, AnswerTold, done-told, failed-told, unlisted-told}
use Rattle.protocol.proofs.Frames.{written-length}
use Rattle.protocol.proofs.SupplyWays as SupplyWays
use Rattle.protocol.proofs.ReplyBytes.{reply-sent, not-due}
use Rattle.protocol.proofs.Sizes.{SizedStep, done-sized, failed-sized, unlisted-sized, decided-sized}
use Rattle.protocol.proofs.ReplyLengths.{roomy, report-sized}
use Rattle.protocol.proofs.CutsCalls.{report-taken}

-- ---- a step that is a refusal leaves the table, and replies nothing
abbrev Leaves : Table → Stepped → Type 0
Leaves t s = is_refused s.told ≡ true → (s.table ≡ t) × (s.reply ≡ None)

-- by a change of one session that is not refused, or that only tells the refusal
module _ (t : Table) (i : ℕ) where
  refusal-leaves : (n : ℕ) → Leaves t (step_by t i nowhere (tells (Told.Refused n) None))
  refusal-leaves n e = let s = told-step t i nowhere (Told.Refused n) None in (ap (λ (x : Stepped). x.table) s, refl)

  asked-leaves : (c : Change) → is_refused (told_by nowhere c.news) ≡ false
      → Leaves t (step_by t i nowhere (cond (is_asked (session_at t i).state) c not_asked))
  asked-leaves c e =
      by_cond (λ (x : Change). Leaves t (step_by t i nowhere x)) (is_asked (session_at t i).state) (λ _ q. no_way (sym q ∙ e))
      (λ _. refusal-leaves 12)

decided-leaves : (t : Table) (d : Decision) (id : List ℕ) → Leaves t (decided_of t d id)
unfolding decided_of decided_by
decided-leaves t d id = found (find_session t id)
  where
    step : (i : ℕ) (x : Decision) → Leaves t (step_by t i nowhere (decided_by x (session_at t i)))
    step i Decision.Allow = asked-leaves t i (allowed (session_at t i)) refl
    step i Decision.Deny = asked-leaves t i (denied (session_at t i)) refl
    step i Decision.Drop = λ e. no_way (sym e)

    found : (f : Option ℕ) → Leaves t (decided_at t d f)
    found None = λ _. (refl, refl)
    found (Some i) = step i d

-- an answer is refused where nothing is owed, and for one that is out of turn
module _ (t : Table) (f : Session → Due → Change) (told : (s : Session) (d : Due) → AnswerTold (f s d)) where
  answer-leaves : (i : ℕ) (d : Due) → Leaves t (step_by t i nowhere (f (session_at t i) d))
  answer-leaves i d = go (told (session_at t i) d)
    where
      go : {c : Change} → AnswerTold c → Leaves t (step_by t i nowhere c)
      go {c} (AnswerTold.taken l) e = no_way (sym e ∙ (plain (told_by nowhere c.news) l).accepted)
      go {c} (AnswerTold.refused z) e = rw z (refusal-leaves t i 18 refl)

  answered-leaves : (o : Option (ℕ × Due)) → Leaves t (answered_with t f o)
  answered-leaves None = λ _. (refl, refl)
  answered-leaves (Some (i, d)) = answer-leaves i d

done-leaves : (t : Table) → Leaves t (settle_done t)
unfolding settle_done
done-leaves t = answered-leaves t done_by done-told t.owed

failed-leaves : (t : Table) (code : Failure) → Leaves t (settle_failed t code)
unfolding settle_failed
failed-leaves t code = answered-leaves t (failed_by code) (failed-told code) t.owed

unlisted-leaves : (t : Table) → Leaves t (settle_unlisted t)
unfolding settle_unlisted
unlisted-leaves t = go t.owed
  where
    go : (o : Option (ℕ × Due)) → Leaves t (unlisted_for t o)
    go None = λ _. (refl, refl)
    go (Some (i, d)) = answer-leaves t unlisted_by unlisted-told i d

-- ---- a call that is lent a reply buffer
call-promise : (r : Receiver) (s : Stepped) (reply : List ℕ) → Leaves r.table s → SizedStep s → CallPromise r reply (guarded r s reply)
unfolding guarded
call-promise r s reply leaves z = go (ltb (length reply) reply_room) refl
  where
    go : (b : Bool) → ltb (length reply) reply_room ≡ b
        → let short = outcome (answered_by r.framing (telling r.table (Told.Refused 9)) 0) reply in
        CallPromise r reply (cond b short (replied r.framing s reply))
    go true e = record { refused = λ _. (refl, refl, refl); short = omega arith }
    go false e =
        record {
          refused = λ q. let l = leaves q in rw (l.0, l.1, not-due reply) (refl, refl, refl);
          short = (reply-sent s.reply reply z.reply (ltb-false _ _ e)).short;
        }

-- ---- feed
module _ (r : Receiver) (h : Sized r.table) (piece carry scratch reply : List ℕ) where
  abbrev taken : Feeding
  taken = scanned_feed r.table piece (scan_of r.framing piece carry) scratch reply

  abbrev no : ℕ → Feeding
  no n = feeding (feed_refused r n) carry scratch reply

  abbrev Keeps : Feeding → Type 0
  Keeps f = FeedPromise r piece carry scratch reply f

  refused_promise : (n : ℕ) → is_unfed (no n).fed.told ≡ true → Keeps (no n)
  refused_promise n u =
      record {
        unfed = λ _. (refl, refl, refl, refl, refl, refl);
        progress = λ e _. no_way (sym u ∙ e);
        within = omega arith;
        short = omega arith;
      }

  taken_promise : is_short carry scratch reply ≡ false → Keeps taken
  unfolding scanned_feed
  taken_promise e =
      let long = roomy carry scratch reply e in
      let k = scan_of r.framing piece carry in
      let report = k.answer.report in
      let whole = call-report r.framing piece carry long.carry in
      let u = report-taken r.table h scratch reply long.scratch long.reply report piece k.buffer whole in
      record {
        unfed = λ q. no_way (sym q ∙ u);
        progress = λ _ l. (consumes r.framing piece carry long.carry).2 l;
        within = consumed_le r.framing piece carry;
        short = (reply-sent _ reply (report-sized r.table h report (text_of piece k.buffer report) scratch).reply long.reply).short;
      }

  feed-promise : Keeps (feed_of r piece carry scratch reply)
  unfolding feed_of
  feed-promise = go (is_short carry scratch reply) refl (is_owed r.table.owed)
    where
      go : (s : Bool) → is_short carry scratch reply ≡ s → (b : Bool) → Keeps (cond s (no 9) (cond b (no 10) taken))
      go true e b = refused_promise 9 refl
      go false e true = refused_promise 10 refl
      go false e false = taken_promise e

-- ---- a call that supplies something
supply-promise : (r : Receiver) (u : Supply) (out : List ℕ) → SupplyPromise r out (supply_of r u out)
supply-promise r u out = go (SupplyWays.way r u out)
  where
    -- what is taken is not refused
    told : (v : Supply) → is_refused (told_by nowhere (change_for v).news) ≡ false
    told (Supply.list e text contents) = refl
    told (Supply.list_failed text id path code) = refl
    told (Supply.home id path) = refl
    told (Supply.part false bytes) = refl
    told (Supply.part true bytes) = refl

    go : {o : Outcome Answered} → SupplyWays.Way r u out o → SupplyPromise r out o
    go (SupplyWays.refused n) = record { refused = λ _. (refl, refl, refl); short = omega arith }
    go (SupplyWays.held i n _ _ _ _ _) = record { refused = λ q. no_way (sym q ∙ told u); short = omega arith }
    go (SupplyWays.wrote i n _ e _ _ _) =
        record { refused = λ q. no_way (sym q ∙ told u); short = written-length (values_for (session_at r.table i) u) out n e }

-- ---- every call
pub every_call : EveryCall ours
unfolding allow_of deny_of drop_of done_of failed_of unlisted_of
every_call r h piece carry scratch reply id code u out =
    let t = r.table in
    let leaves : (d : Decision) → Leaves t (decided_of t d id) = λ d. decided-leaves t d id in
    let sized : (d : Decision) → SizedStep (decided_of t d id) = λ d. decided-sized t h d id in
    record {
      feeds = feed-promise r h piece carry scratch reply;
      allows = call-promise r (decided_of t Decision.Allow id) reply (leaves Decision.Allow) (sized Decision.Allow);
      denies = call-promise r (decided_of t Decision.Deny id) reply (leaves Decision.Deny) (sized Decision.Deny);
      dones = call-promise r (settle_done t) reply (done-leaves t) (done-sized t h);
      fails = call-promise r (settle_failed t code) reply (failed-leaves t code) (failed-sized t h code);
      drops = λ e. rw (leaves Decision.Drop e).0;
      unlists = call-promise r (settle_unlisted t) reply (unlisted-leaves t) (unlisted-sized t h);
      supplies = supply-promise r u out;
    }
