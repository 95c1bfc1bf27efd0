-- The console's answers in an exchange: an allow answers a send, a done any other order that is read; every other one is refused.
use Prim.Native.Nat.{ℕ, ◌≤◌}
use mathlib.Core.Path.{◌≡◌, refl, sym, ap, ◌∙◌}
use mathlib.Core.Bool.{Bool, true, false, cond}
use mathlib.Core.List.{List, [], ◌∷◌, ◌++◌, append-nil, map}
use native.Mathlib.Omega.{arith}
use lib.ListN.{length, take}
use lib.Dec.{ltb}
use borrow.Author.Tests.{ltb-false}
use Rattle.octets.specs.Outcome.{Outcome, outcome}
use Rattle.octets.specs.Slices.{equals}
use Rattle.octets.proofs.Compare.{equals-sound}
use Rattle.protocol.specs.Replies.{reply_room}
use Rattle.protocol.specs.Change.{telling}
use Rattle.protocol.specs.Sessions.{settle_done, decided_of}
use Rattle.protocol.specs.Calls.{answered_by, replied, guarded, allow_of, done_of}
use Rattle.protocol.specs.History.{Event, bytes_of, marks_of}
use Rattle.protocol.specs.Machine.{Call, World, is_refused, noted, after_call}
use Rattle.protocol.specs.declared.Decision.TheVariants as Decision
use Rattle.protocol.specs.declared.Told.TheVariants as Told
use Rattle.protocol.specs.declared.Receiver.{Receiver}
use Rattle.protocol.specs.declared.Table.{Table}
use Rattle.protocol.specs.declared.Stepped.{Stepped}
use Rattle.protocol.specs.declared.Answered.{Answered}
use Rattle.protocol.proofs.Ours.{step}
use Rattle.protocol.proofs.Laws.{no_way}
use Rattle.protocol.proofs.Sizes.{SizedStep, done-sized, decided-sized}
use Rattle.protocol.proofs.ReplyBytes.{reply-sent}
use Rattle.protocol.proofs.CutsCalls.{Kept, steps}
use Rattle.sending.specs.Plans.{Order}
use Rattle.sending.proofs.arrival.path.Points.{Point, next, Goes, Path, command_at, reply_at, said_text, frames, reached}
use Rattle.sending.proofs.arrival.path.Ends.{is_answered}
use Rattle.sending.proofs.arrival.path.States.{table_of, owing_of, asked_for, answer_mark}
use Rattle.sending.proofs.arrival.path.Paths.{path-append, reach-append, marks_at-append}
use Rattle.sending.proofs.arrival.receiver.Reads.{no_bytes}
use Rattle.sending.proofs.arrival.receiver.Answers.{AnsweredAs, allow-order, done_order, done_at, done-asked, allow-at, allow-owing}
use Rattle.sending.proofs.arrival.receiver.Answers.{allow-other}
use Rattle.sending.proofs.arrival.exchange.Feeds.{Receives}

-- a step that answers the order, and one that is refused
abbrev StepAnswers : List ℕ → Point → Order → Stepped → Type 0
StepAnswers id p o s = AnsweredAs s (table_of id (next p o)) (frames (map (said_text id) (reply_at p o)))

abbrev StepRefuses : Table → Stepped → Type 0
StepRefuses t s = (n : ℕ) × (s ≡ telling t (Told.Refused n))

-- what an allow of the session k makes of the order that is read
data Allows (id : List ℕ) (p : Point) (o : Order) (k : List ℕ) : Type 0 where
  allowed : o ≡ Order.send id → k ≡ id → StepAnswers id p o (decided_of (owing_of id p o) Decision.Allow k) → Allows id p o k
  unasked : StepRefuses (owing_of id p o) (decided_of (owing_of id p o) Decision.Allow k) → Allows id p o k

allows : {id : List ℕ} {p : Point} {o : Order} → Goes id p o → (k : List ℕ) → Allows id p o k
allows {id} (Goes.sends i) k = go (equals id k) refl
  where
    go : (b : Bool) → equals id k ≡ b → Allows id Point.fresh (Order.send id) k
    go true e = let q = equals-sound id k e in allowed refl (sym q) (rw (← q) (allow-order id i))
    go false e = unasked (12, allow-other id Point.fresh id k i e)
allows {id} (Goes.files past j name size i now valid bytes) k =
    unasked (12, allow-owing id (Point.idle past) (Order.file j name size) k refl)
allows {id} (Goes.pieces past f c i now fit long within) k =
    unasked (12, allow-owing id (Point.busy past f) (Order.piece c false) k refl)
allows {id} (Goes.lasts past f c i now fit long whole) k =
    unasked (12, allow-owing id (Point.busy past f) (Order.piece c true) k refl)
allows {id} (Goes.finishes past i before) k =
    unasked (12, allow-owing id (Point.idle past) Order.finish k refl)

-- a done answers every order but send
done_refused : (id : List ℕ) (p : Point) (o : Order) → is_answered o ≡ false → StepRefuses (owing_of id p o) (settle_done (owing_of id p o))
done_refused id p (Order.send k) e = (11, done-asked id p k)
done_refused id p (Order.file k name size) e = no_way e
done_refused id p (Order.piece c last) e = no_way e
done_refused id p Order.finish e = no_way e

-- the reply that a call stored
abbrev pub sent_by : Outcome Answered → List ℕ
sent_by a = take a.answer.reply_len a.buffer

-- a call that is lent a reply buffer, by its step: refused with 9, or what the step says
pub record Gives (t : Table) (told : Bool) (bytes : List ℕ) (a : Outcome Answered) : Type 0 where
  pub table : a.answer.receiver.table ≡ t
  pub refused : is_refused a.answer.told ≡ told
  pub reply : sent_by a ≡ bytes

refused-gives : (r : Receiver) (s : Stepped) (reply : List ℕ) → SizedStep s → StepRefuses r.table s
    → Gives r.table true [] (guarded r s reply)
unfolding guarded
refused-gives r s reply z x = go (ltb (length reply) reply_room) refl
  where
    go : (b : Bool) → ltb (length reply) reply_room ≡ b
        → Gives r.table true [] (cond b (outcome (answered_by r.framing (telling r.table (Told.Refused 9)) 0) reply)
        (replied r.framing s reply))
    go true e = record { table = refl; refused = refl; reply = refl }
    go false e =
        record {
          table = rw x.1;
          refused = rw x.1;
          reply = (reply-sent s.reply reply z.reply (ltb-false _ _ e)).bytes ∙ rw x.1 no_bytes;
        }

-- either the buffer is short, or the order is answered
pub data Answering (id : List ℕ) (p : Point) (o : Order) (t : Table) (a : Outcome Answered) : Type 0 where
  short : Gives t true [] a → Answering id p o t a
  taken : Gives (table_of id (next p o)) false (frames (map (said_text id) (reply_at p o))) a → Answering id p o t a

answered-gives : (id : List ℕ) (p : Point) (o : Order) (r : Receiver) (s : Stepped) (reply : List ℕ) → SizedStep s → StepAnswers id p o s
    → Answering id p o r.table (guarded r s reply)
unfolding guarded
answered-gives id p o r s reply z x = go (ltb (length reply) reply_room) refl
  where
    go : (b : Bool) → ltb (length reply) reply_room ≡ b
        → Answering id p o r.table (cond b (outcome (answered_by r.framing (telling r.table (Told.Refused 9)) 0) reply)
        (replied r.framing s reply))
    go true e = short (record { table = refl; refused = refl; reply = refl })
    go false e =
        taken (record {
          table = x.table;
          refused = x.taken;
          reply = (reply-sent s.reply reply z.reply (ltb-false _ _ e)).bytes ∙ x.bytes;
        })

-- ---- what an answer may be
pub data Answers (id : List ℕ) (done owed unread : List Order) (w : World) (there reply : List ℕ) : Type 0 where
  same : reply ≡ [] → Receives id done owed unread w there → Answers id done owed unread w there reply
  answers : (o : Order) → owed ≡ o ∷ [] → reply ≡ frames (map (said_text id) (reply_at (reached done) o))
      → Receives id (done ++ o ∷ []) [] unread w there → Answers id done owed unread w there reply

module _ (id : List ℕ) (done unread : List Order) (w : World) (there : List ℕ) where
  -- a refused call changes nothing
  refused-turn : (owed : List Order) → Receives id done owed unread w there → (a : Outcome Answered) (e : Event)
      → Kept (after_call w a.answer (noted a.answer.told e w.history)) → Gives w.receiver.table true [] a
      → Receives id done owed unread (after_call w a.answer (noted a.answer.told e w.history)) there
  refused-turn owed r a e k x =
      record { kept = k; table = x.table ∙ r.table; line = rw x.refused r.line; marks = rw x.refused r.marks }

  -- one that answers adds its mark
  answered-turn : (o : Order) → Receives id done (o ∷ []) unread w there → (a : Outcome Answered) (e : Event)
      → Kept (after_call w a.answer (noted a.answer.told e w.history))
      → Gives (table_of id (next (reached done) o)) false (frames (map (said_text id) (reply_at (reached done) o))) a
      → bytes_of (e ∷ w.history) ≡ bytes_of w.history
      → marks_of (e ∷ w.history) ≡ answer_mark (command_at id (reached done) o) (asked_for o) id ∷ marks_of w.history
      → Receives id (done ++ o ∷ []) [] unread (after_call w a.answer (noted a.answer.told e w.history)) there
  answered-turn o r a e k x b m =
      let q = reach-append Point.fresh done (o ∷ []) in
      record {
        kept = k;
        table = x.table ∙ ap (table_of id) (sym q);
        line = rw (x.refused, b, append-nil (done ++ o ∷ [])) r.line;
        marks = rw x.refused (m ∙ rw (r.marks, marks_at-append id Point.fresh done (o ∷ []) []));
      }

  -- the mark of a done, where something is asked
  done-mark : (o : Order) → is_answered o ≡ true → Receives id done (o ∷ []) unread w there
      → marks_of (Event.answered true ∷ w.history) ≡ answer_mark (command_at id (reached done) o) (asked_for o) id ∷ marks_of w.history
  unfolding marks_of
  done-mark (Order.send k) e r = no_way (sym e)
  done-mark (Order.file k name size) e r = rw r.marks
  done-mark (Order.piece c false) e r = rw r.marks
  done-mark (Order.piece c true) e r = rw r.marks
  done-mark Order.finish e r = rw r.marks

  -- a call by its step, which refuses or answers what is read
  module _ (e : Event) (s : Stepped) (reply : List ℕ) (z : SizedStep s)
      (k : let a = (guarded w.receiver s reply).answer in Kept (after_call w a (noted a.told e w.history))) where
    abbrev a : Outcome Answered
    a = guarded w.receiver s reply

    abbrev world : World
    world = after_call w a.answer (noted a.answer.told e w.history)

    refused : (owed : List Order) → Receives id done owed unread w there → StepRefuses w.receiver.table s
        → Answers id done owed unread world there (sent_by a)
    refused owed r x =
        let g = refused-gives w.receiver s reply z x in
        same g.reply (refused-turn owed r a e k g)

    settled : (o : Order) → Receives id done (o ∷ []) unread w there → StepAnswers id (reached done) o s
        → bytes_of (e ∷ w.history) ≡ bytes_of w.history
        → marks_of (e ∷ w.history) ≡ answer_mark (command_at id (reached done) o) (asked_for o) id ∷ marks_of w.history
        → Answers id done (o ∷ []) unread world there (sent_by a)
    settled o r x b m = go (answered-gives id (reached done) o w.receiver s reply z x)
      where
        go : Answering id (reached done) o w.receiver.table a → Answers id done (o ∷ []) unread world there (sent_by a)
        go (short g) = same g.reply (refused-turn (o ∷ []) r a e k g)
        go (taken g) = answers o refl g.reply (answered-turn o r a e k g b m)

  -- a done: it answers the order that is read, unless that is send
  pub done-turn : (owed : List Order) → Path id Point.fresh (done ++ (owed ++ unread)) → length owed ≤ 1
      → Receives id done owed unread w there → (reply : List ℕ)
      → Answers id done owed unread (step w (Call.done reply)) there (sent_by (done_of w.receiver reply))
  unfolding done_of
  done-turn [] path few r reply =
      refused (Event.answered true) (settle_done w.receiver.table) reply (done-sized w.receiver.table r.kept.sized)
      (steps w r.kept (Call.done reply) tt).kept [] r (rw r.table (11, done_at id (reached done)))
  done-turn (o ∷ []) path few r reply = go (is_answered o) refl
    where
      t : Table
      t = w.receiver.table

      go : (b : Bool) → is_answered o ≡ b
          → Answers id done (o ∷ []) unread (step w (Call.done reply)) there (sent_by (done_of w.receiver reply))
      go true e =
          let g = (path-append id Point.fresh done (o ∷ unread) path).1.0 in
          settled (Event.answered true) (settle_done t) reply (done-sized t r.kept.sized)
          (steps w r.kept (Call.done reply) tt).kept o r (rw r.table (done_order g e)) refl (done-mark o e r)
      go false e =
          refused (Event.answered true) (settle_done t) reply (done-sized t r.kept.sized)
          (steps w r.kept (Call.done reply) tt).kept (o ∷ []) r (rw r.table (done_refused id (reached done) o e))
  done-turn (o ∷ o' ∷ os) path few r reply = absurd (omega arith)

  -- an allow: it answers send, if the id is its own
  pub allow-turn : (owed : List Order) → Path id Point.fresh (done ++ (owed ++ unread)) → length owed ≤ 1
      → Receives id done owed unread w there → (k reply : List ℕ)
      → Answers id done owed unread (step w (Call.allow k reply)) there (sent_by (allow_of w.receiver k reply))
  unfolding allow_of
  allow-turn [] path few r k reply =
      let t = w.receiver.table in
      refused (Event.allowed k) (decided_of t Decision.Allow k) reply (decided-sized t r.kept.sized Decision.Allow k)
      (steps w r.kept (Call.allow k reply) tt).kept [] r (rw r.table (12, allow-at id (reached done) k))
  allow-turn (o ∷ []) path few r k reply = go (allows (path-append id Point.fresh done (o ∷ unread) path).1.0 k)
    where
      t : Table
      t = w.receiver.table

      go : Allows id (reached done) o k
          → Answers id done (o ∷ []) unread (step w (Call.allow k reply)) there (sent_by (allow_of w.receiver k reply))
      go (allowed n e x) =
          let m : marks_of (Event.allowed k ∷ w.history)
          ≡ answer_mark (command_at id (reached done) o) (asked_for o) id ∷ marks_of w.history =
          unfold marks_of in rw (n, e) in
          settled (Event.allowed k) (decided_of t Decision.Allow k) reply (decided-sized t r.kept.sized Decision.Allow k)
          (steps w r.kept (Call.allow k reply) tt).kept o r (rw r.table x) refl m
      go (unasked x) =
          refused (Event.allowed k) (decided_of t Decision.Allow k) reply (decided-sized t r.kept.sized Decision.Allow k)
          (steps w r.kept (Call.allow k reply) tt).kept (o ∷ []) r (rw r.table x)
  allow-turn (o ∷ o' ∷ os) path few r k reply = absurd (omega arith)
