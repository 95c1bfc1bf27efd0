-- The laws of the calls in place: what they do with one session is what the calls by value give, for every receiver of four
-- sessions.
use Prim.Native.Nat.{ℕ, ◌≤◌}
use mathlib.Core.Path.{◌≡◌, refl, sym, ◌∙◌, ap}
use mathlib.Core.Bool.{Bool, true, false, cond}
use mathlib.Core.List.{List}
use native.Mathlib.Omega.{arith}
use borrow.Author.Tests.{ltb-false}
use lib.ListN.{length}
use lib.Seq.{set_out, set-get_or}
use lib.Dec.{ltb}
use Rattle.std.specs.Prelude.{None, Option, Some, Result, Ok, Err}
use Rattle.octets.specs.Outcome.{Outcome, outcome}
use Rattle.frames.specs.Calls.{scan_of, text_of}
use Rattle.frames.specs.declared.Scanned.{Scanned}
use Rattle.protocol.specs.Table.{session_room, no_session, session_at, find_session}
use Rattle.protocol.specs.Change.{telling}
use Rattle.protocol.specs.Replies.{reply_room, replied_of}
use Rattle.protocol.specs.Rule.{decided_by}
use Rattle.protocol.specs.Sessions.{decided_at, decided_of}
use Rattle.protocol.specs.Calls.{
  Feeding,
  feeding,
  Acted,
  acted,
  fed_by,
  feed_refused,
  is_short,
  is_owed,
  scanned_feed,
  feed_of,
  replied,
  guarded,
  answered_by,
  allow_of,
  deny_of,
  drop_of,
  done_of,
  failed_of,
  unlisted_of,
}
use Rattle.protocol.specs.Supplies.{Supply, supply_of}
use Rattle.protocol.specs.declared.Table.{Table}
use Rattle.protocol.specs.declared.Receiver.{Receiver}
use Rattle.protocol.specs.declared.Decision.TheVariants as Decision
use Rattle.protocol.specs.declared.Told.{Told}
use Rattle.protocol.specs.declared.Answered.{Answered}
use Rattle.protocol.specs.declared.Stepped.{Stepped}
use Rattle.sessions.specs.declared.next.Next.{Next}
use Rattle.receiver.specs.Said.{said_of, acted_on}
use Rattle.command.specs.declared.Command.{Command}
use Rattle.receiver.proofs.SaidLaws.{said-acts}
use Rattle.supplying.specs.Supplied.{given_in, leaves}
use Rattle.supplying.specs.Turns as Turns
use Rattle.supplying.specs.declared.Given.{Given}
use Rattle.supplying.specs.declared.Left.{Left}
use Rattle.supplying.proofs.SupplyLaws.{put_back, supplied-back}
use Rattle.session_in_place.specs.Steps.{place_of, left_by, takes, left_in}
use Rattle.session_in_place.specs.Calls.{answered, called_of, concerned, is_guarded, next_for, answer_at}
use Rattle.session_in_place.specs.Feeds.{unheard, heard_in, Hearing, hearing, scanned_hear, hear_of, act_of, fed_in}
use Rattle.session_in_place.specs.Supplies.{supplied_by, supply_at}
use Rattle.session_in_place.proofs.Halves.{unread_fed, left_fed, reframed}
use Rattle.session_in_place.specs.declared.Call.{Call}
use Rattle.session_in_place.proofs.ArrayLaws.{outside}
use Rattle.session_in_place.proofs.StepLaws.{no-reply, put, call-steps, command-steps}

-- ---- answer
-- the receiver with what is left at a place, and the answer
abbrev pub answers : Receiver → ℕ → Outcome Left → Outcome Answered
answers r i l = outcome (answered (takes r i l.answer) (left_in l.answer)) l.buffer

-- a call with a reply: 9 first
guards : (r : Receiver) (k : Call) (f : Option ℕ) (s : Stepped) (reply : List ℕ) → is_guarded k ≡ true
    → put r.table (place_of f) (next_for k f (session_at r.table (place_of f)) r.table.owed) ≡ s
    → answers r (place_of f) (answer_at k f (session_at r.table (place_of f)) r.table.owed reply) ≡ guarded r s reply
unfolding answer_at left_by guarded
guards r k f s reply g e = rw g (go (ltb (length reply) reply_room))
  where
    n : Next
    n = next_for k f (session_at r.table (place_of f)) r.table.owed

    go : (b : Bool) → answers r (place_of f) (cond b (outcome (leaves (session_at r.table (place_of f)) r.table.owed (Told.Refused
        9) 0) reply) (left_by n reply))
        ≡ cond b (outcome (answered_by r.framing (telling r.table (Told.Refused 9)) 0) reply) (replied r.framing s reply)
    go true = rw (set-get_or r.table.sessions (place_of f) no_session)
    go false = ap (λ (x : Stepped). replied r.framing x reply) e

-- a drop has no reply, and no guard
drop-silent : (t : Table) (f : Option ℕ) → (decided_at t Decision.Drop f).reply ≡ None
unfolding decided_by
drop-silent t None = refl
drop-silent t (Some i) = refl

dropped : (r : Receiver) (id reply : List ℕ) → replied r.framing (decided_of r.table Decision.Drop id) reply ≡ outcome (drop_of r
    id) reply
unfolding drop_of decided_of
dropped r id reply = rw (drop-silent r.table (find_session r.table id), no-reply reply)

drops : (r : Receiver) (f : Option ℕ) (s : Stepped) (reply : List ℕ)
    → put r.table (place_of f) (next_for Call.Drop f (session_at r.table (place_of f)) r.table.owed) ≡ s
    → answers r (place_of f) (answer_at Call.Drop f (session_at r.table (place_of f)) r.table.owed reply) ≡ replied r.framing s
    reply
unfolding answer_at left_by
drops r f s reply e = ap (λ (x : Stepped). replied r.framing x reply) e

pub in-place-answer : (r : Receiver) (k : Call) (id reply : List ℕ) → length r.table.sessions ≡ 4
    → (let f = concerned k r.table.owed r.table.sessions id in
    answers r (place_of f) (answer_at k f (session_at r.table (place_of f)) r.table.owed reply) ≡ called_of r k id reply)
unfolding called_of allow_of deny_of done_of failed_of unlisted_of
in-place-answer r Call.Allow id reply e = guards r Call.Allow _ _ reply refl (call-steps Call.Allow r.table id e)
in-place-answer r Call.Deny id reply e = guards r Call.Deny _ _ reply refl (call-steps Call.Deny r.table id e)
in-place-answer r Call.Drop id reply e = drops r _ _ reply (call-steps Call.Drop r.table id e) ∙ dropped r id reply
in-place-answer r Call.Done id reply e = guards r Call.Done _ _ reply refl (call-steps Call.Done r.table id e)
in-place-answer r (Call.Failed w) id reply e = guards r (Call.Failed w) _ _ reply refl (call-steps (Call.Failed w) r.table id e)
in-place-answer r Call.Unlisted id reply e = guards r Call.Unlisted _ _ reply refl (call-steps Call.Unlisted r.table id e)

-- ---- supply
module _ (r : Receiver) (g : Given) (out : List ℕ) where
  abbrev table : Table
  table = r.table

  abbrev u : Supply
  u = given_in g

  abbrev supplied : ℕ → Option ℕ → Outcome Left
  supplied k f = supplied_by g f (session_at table k) table.owed out

  abbrev in_place : Option ℕ → Outcome Answered
  in_place f = answers r (place_of f) (supply_at g f (session_at table (place_of f)) table.owed out)

  -- wherever the session lies that is found, put back at its place
  supplies : (f : Option ℕ) → length table.sessions ≡ 4 → in_place f ≡ put_back r (Turns.seat_of f) (supplied (Turns.seat_of f) f)
  unfolding supply_at
  supplies None e = refl
  supplies (Some i) e = go (ltb i session_room) refl
    where
      go : (b : Bool) → ltb i session_room ≡ b → in_place (Some i) ≡ put_back r i (supplied i (Some i))
      go true q = rw q
      go false q =
          let past : length table.sessions ≤ i = omega (arith, ltb-false i 4 q, e) in
          rw (
            q,
            set-get_or table.sessions 0 no_session,
            outside table.sessions i no_session past,
            set_out table.sessions i _ past,
          )

  pub in-place-supply : length table.sessions ≡ 4
      → in_place (Turns.concerned g.supplying table.owed g.text.now (find_session table)) ≡ supply_of r u out
  in-place-supply e =
      supplies (Turns.concerned g.supplying table.owed g.text.now (find_session table)) e
      ∙ supplied-back g.supplying g.text.now g.contents.now r out

-- ---- feed
module _ (r : Receiver) (piece reply : List ℕ) where
  abbrev t : Table
  t = r.table

  -- where a command was read, what is done with its session
  abbrev pub acts : Hearing → Command → Outcome Left
  acts h c =
      let f = h.heard.found in
      act_of f (session_at t (place_of f)) t.owed c (text_of piece h.carry h.heard.report) h.scratch reply

  -- the feed where no command was read, but something was told
  abbrev pub without_step : Hearing → Told → Feeding
  without_step h w = feeding (fed_in (reframed r h.heard.framing) (unread_fed h.heard w)) h.carry h.scratch reply

  -- the feed, by what was said
  abbrev pub by_said : Hearing → Result Command Told → Feeding
  by_said h (Err w) = without_step h w
  by_said h (Ok c) =
      let a = acts h c in
      feeding (fed_in (takes (reframed r h.heard.framing) (place_of h.heard.found) a.answer) (left_fed h.heard c a.answer)) h.carry
      h.scratch a.buffer

  module _ (k : Outcome Scanned) (scratch : List ℕ) where
    abbrev text : List ℕ
    text = text_of piece k.buffer k.answer.report

    abbrev x : Outcome (Result Command Told)
    x = said_of k.answer.report text scratch

    abbrev h : Hearing
    h = scanned_hear k t.sessions piece scratch

    -- what the scanned feed gives, by what was said
    abbrev given : Acted → Feeding
    given a =
        let b = replied_of a.step.reply reply in
        feeding (fed_by k.answer a.step a.command b.answer) k.buffer a.scratch b.buffer

    said : given (acted_on t text x) ≡ scanned_feed t piece k scratch reply
    unfolding scanned_feed
    said = ap given (said-acts t k.answer.report text scratch)

    -- no session is asked for, so the table may have any length
    unread : (w : Told) → x.answer ≡ Err w → by_said h h.heard.said ≡ scanned_feed t piece k scratch reply
    unfolding heard_in
    unread w q = rw (← said, q, no-reply reply)

    heard-is : length t.sessions ≡ 4 → by_said h h.heard.said ≡ scanned_feed t piece k scratch reply
    unfolding heard_in act_of left_by
    heard-is e = go x.answer refl
      where
        go : (a : Result Command Told) → x.answer ≡ a → by_said h h.heard.said ≡ scanned_feed t piece k scratch reply
        go (Err w) q = unread w q
        go (Ok c) q = rw (← said, q) (ap (λ (s : Stepped). given (acted s c x.buffer)) (command-steps t c text x.buffer e))

  module _ (carry scratch : List ℕ) where
    abbrev k : Outcome Scanned
    k = scan_of r.framing piece carry

    abbrev at : Bool → Bool → Hearing
    at s o =
        cond s (hearing (unheard r.framing 9) carry scratch)
        (cond o (hearing (unheard r.framing 10) carry scratch) (scanned_hear k t.sessions piece scratch))

    abbrev fed_at : Bool → Bool → Feeding
    fed_at s o =
        cond s (feeding (feed_refused r 9) carry scratch reply)
        (cond o (feeding (feed_refused r 10) carry scratch reply) (scanned_feed t piece k scratch reply))

    abbrev pub heard : Hearing
    heard = hear_of r.framing t.owed t.sessions piece carry scratch (length reply)

    -- the feed is what was told, whatever the table's length
    pub in-place-unread : (w : Told) → heard.heard.said ≡ Err w → without_step heard w ≡ feed_of r piece carry scratch reply
    unfolding hear_of heard_in feed_of
    in-place-unread w = go (is_short carry scratch reply) (is_owed t.owed)
      where
        go : (s o : Bool) → (at s o).heard.said ≡ Err w → without_step (at s o) w ≡ fed_at s o
        go true o q = ap (by_said (at true o)) (sym q)
        go false true q = ap (by_said (at false true)) (sym q)
        go false false q = ap (by_said (at false false)) (sym q) ∙ unread k scratch w q

    pub in-place-feed : length t.sessions ≡ 4 → by_said heard heard.heard.said ≡ feed_of r piece carry scratch reply
    unfolding hear_of feed_of
    in-place-feed e = go (is_short carry scratch reply) (is_owed t.owed)
      where
        go : (s o : Bool) → by_said (at s o) (at s o).heard.said ≡ fed_at s o
        go true o = refl
        go false true = refl
        go false false = heard-is k scratch e
