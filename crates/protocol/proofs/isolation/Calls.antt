-- What the console's calls make of one session: the turn of the machine that has it alone where they are for it, and nothing otherwise.
use Prim.Native.Nat.{ℕ, ◌<◌}
use mathlib.Core.Path.{◌≡◌, refl, sym, ap, ◌∙◌}
use mathlib.Core.Bool.{Bool, true, false, not, cond, ◌&&◌}
use mathlib.Core.List.{List, [], ◌∷◌}
use lib.ListN.{length}
use lib.Dec.{ltb}
use borrow.Author.Tests.{ltb-false, eq-eqb}
use Rattle.std.specs.Prelude.{Option, Some, None}
use Rattle.octets.specs.Slices.{equals}
use Rattle.octets.specs.Outcome.{Outcome, outcome}
use Rattle.octets.proofs.Compare.{equals_refl, equals-sound}
use Rattle.command.specs.Slots.{nowhere}
use Rattle.protocol.specs.Table.{no_session, session_at, id_of, is_present, session_used, find_session}
use Rattle.protocol.specs.Replies.{reply_room, reply_bytes}
use Rattle.protocol.specs.Change.{tells, told_by, telling, step_by}
use Rattle.protocol.specs.Rule.{is_asked, allowed, denied, not_asked, done_by, failed_by, unlisted_by, decided_by}
use Rattle.protocol.specs.Sessions.{answered_with, settle_done, settle_failed, unlisted_for, settle_unlisted, decided_at, decided_of}
use Rattle.protocol.specs.Calls.{answered_by, replied, guarded}
use Rattle.protocol.specs.History.{Question, commands_in}
use Rattle.protocol.specs.Machine.{is_refused}
use Rattle.protocol.specs.Cuts.{saying}
use Rattle.protocol.specs.Sound.{SoundSession, due_of, Sound}
use Rattle.protocol.specs.Isolation.{Act, command_acts, is_asker, unless_refused, Seen, answered, is_asking, Records, records_of}
use Rattle.protocol.specs.declared.Session.{Session}
use Rattle.protocol.specs.declared.Due.{Due}
use Rattle.protocol.specs.declared.Table.{Table}
use Rattle.protocol.specs.declared.Receiver.{Receiver}
use Rattle.protocol.specs.declared.Failure.{Failure}
use Rattle.protocol.specs.declared.Decision.{Decision}
use Rattle.protocol.specs.declared.Told.{Told}
use Rattle.protocol.specs.declared.Reply.{Reply}
use Rattle.protocol.specs.declared.Change.{Change}
use Rattle.protocol.specs.declared.Stepped.{Stepped}
use Rattle.protocol.specs.declared.Answered.{Answered}
use Rattle.protocol.proofs.Laws.{no_way, both_false, found_at}
use Rattle.protocol.proofs.Backs.{told-step}
use Rattle.protocol.proofs.Tellings as Tellings
use Rattle.protocol.proofs.Tellings.{is_plain, Plain, plain, AnswerTold, done-told, failed-told, unlisted-told}
use Rattle.protocol.proofs.Invariant.{Asking, AskedLast}
use Rattle.protocol.proofs.ReplyBytes.{SizedReply, reply-sent}
use Rattle.protocol.proofs.CutsCalls.{drop-silent}
use Rattle.protocol.proofs.Frames.{nothing-told}
use Rattle.protocol.proofs.isolation.Replies.{Names, names-other, done-names, failed-names, unlisted-names, decided-names}
use Rattle.protocol.proofs.SoundRule.{due-present, Steps}
use Rattle.protocol.proofs.SoundSteps.{done-steps, failed-steps, unlisted-steps, decided-steps}
use Rattle.protocol.proofs.SoundTable.{owed-session, owed-inside}
use Rattle.protocol.proofs.isolation.Alone.{Turn, turn_by, answer_turn, alone}
use Rattle.protocol.proofs.isolation.Views.{find-used, own-step, other_step}

-- ---- one call: it brings no act of A's, A sees nothing of it, and A's records are as before; or it brings one, and what A sees and has
-- afterwards is that act's turn of the machine alone. The question is the ask told last, after the call.
pub data Single (A : List ℕ) (t t' : Table) (acts : List Act) (q : Question) (s : Seen) : Type 0 where
  other : acts ≡ [] → command_acts A (commands_in s.reply) ≡ [] → (is_asking s.said && is_asker A q) ≡ false
      → records_of A t' ≡ records_of A t → Single A t t' acts q s
  own : (a : Act) → acts ≡ a ∷ [] → s ≡ (alone A (records_of A t) a).seen → records_of A t' ≡ (alone A (records_of A t) a).after
      → Single A t t' acts q s

-- ---- a step of the table
abbrev pub seen_of : Stepped → Seen
seen_of s = record { said = saying s.told []; reply = reply_bytes s.reply }

abbrev pub counts : Bool → Told → Bool
counts mine w = mine && not (is_refused w)

-- a reply that does not name it
abbrev pub Silent : List ℕ → Option Reply → Type 0
Silent A r = command_acts A (commands_in (reply_bytes r)) ≡ []

pub none-silent : (A : List ℕ) → Silent A None
unfolding reply_bytes
none-silent A = rw nothing-told

pub data Effect (A : List ℕ) (t : Table) (mine : Bool) (a : Act) (s : Stepped) : Type 0 where
  passed : counts mine s.told ≡ false → Silent A s.reply → is_asking (saying s.told []) ≡ false
      → records_of A s.table ≡ records_of A t → Effect A t mine a s
  took : counts mine s.told ≡ true → seen_of s ≡ (alone A (records_of A t) a).seen
      → records_of A s.table ≡ (alone A (records_of A t) a).after → Effect A t mine a s

-- a change that refuses tells nothing else
data Refuses (c : Change) : Type 0 where
  taken : is_plain (told_by nowhere c.news) ≡ true → Refuses c
  refused : (n : ℕ) → c ≡ tells (Told.Refused n) None → Refuses c

answer-refuses : {c : Change} → AnswerTold c → Refuses c
answer-refuses (Tellings.taken e) = taken e
answer-refuses (Tellings.refused e) = refused 18 e

decided-refuses : (d : Decision) (s : Session) → Refuses (decided_by d s)
unfolding decided_by
decided-refuses Decision.Allow s = go (is_asked s.state)
  where
    go : (b : Bool) → Refuses (cond b (allowed s) not_asked)
    go true = taken refl
    go false = refused 12 refl
decided-refuses Decision.Deny s = go (is_asked s.state)
  where
    go : (b : Bool) → Refuses (cond b (denied s) not_asked)
    go true = taken refl
    go false = refused 12 refl
decided-refuses Decision.Drop s = taken refl

module _ (A : List ℕ) {t : Table} (ok : Sound t) where
  refused-effect : (mine : Bool) (a : Act) (n : ℕ) → Effect A t mine a (telling t (Told.Refused n))
  refused-effect mine a n = passed (both_false mine) (none-silent A) refl refl

  -- a change of the session at a place
  module _ (i : ℕ) (c : Change) (inside : i < length t.sessions) (steps : Steps false (session_at t i) (due_of t.owed i) c)
      (used : session_used (session_at t i) ≡ true) (names : Names (id_of (session_at t i)) c.reply) (mine : Bool)
      (whose : mine ≡ equals (id_of (session_at t i)) A) (a : Act)
      (turns : id_of (session_at t i) ≡ A → alone A (records_of A t) a ≡ turn_by (records_of A t) [] c) where
    taken-effect : is_plain (told_by nowhere c.news) ≡ true → Effect A t mine a (step_by t i nowhere c)
    taken-effect e = go (equals (id_of (session_at t i)) A) refl
      where
        is-plain : Plain (told_by nowhere c.news)
        is-plain = plain (told_by nowhere c.news) e

        go : (b : Bool) → equals (id_of (session_at t i)) A ≡ b → Effect A t mine a (step_by t i nowhere c)
        go true q =
            let is : id_of (session_at t i) ≡ A = equals-sound _ _ q in
            took (rw (whose, q, is-plain.accepted)) (ap (λ (x : Turn). x.seen) (sym (turns is)))
            (own-step ok A i c inside (λ z. no_way (sym z)) steps used is ∙ ap (λ (x : Turn). x.after) (sym (turns is)))
        go false q =
            let is : id_of (session_at t i) ≡ A → ⊥ = λ z. no_way (rw (z, equals_refl A) at q) in
            passed (rw (whose, q)) (names-other A ((ok.each i).named used) names is) (is-plain.unasking [])
            (other_step ok A i c inside (λ z. no_way (sym z)) steps is)

    change-effect : Refuses c → Effect A t mine a (step_by t i nowhere c)
    change-effect (taken e) = taken-effect e
    change-effect (refused n e) = rw (e, told-step t i nowhere (Told.Refused n) None) (refused-effect mine a n)

  -- ---- allow, deny and drop
  decided-effect : (d : Decision) (k : List ℕ) (a : Act) → ((v : Records) → alone A v a ≡ turn_by v [] (decided_by d v.session))
      → Effect A t (equals k A) a (decided_of t d k)
  unfolding decided_of
  decided-effect d k a is = go (find_session t k) refl
    where
      go : (f : Option ℕ) → find_session t k ≡ f → Effect A t (equals k A) a (decided_at t d f)
      go None e = refused-effect (equals k A) a 12
      go (Some i) e =
          let f = found_at session_used id_of no_session t.sessions k i e in
          change-effect i (decided_by d (session_at t i)) f.0 (decided-steps (ok.each i) d) f.1 (decided-names (ok.each i) d)
          (equals k A) (rw f.2) a
          (λ q. is (records_of A t) ∙ rw (find-used ok A i f.1 q)) (decided-refuses d (session_at t i))

  -- ---- done, failed and unlisted
  module _ (f : Session → Due → Change) (told : (s : Session) (d : Due) → AnswerTold (f s d))
      (steps : (s : Session) (d : Due) → SoundSession s (Some d) → Steps false s (Some d) (f s d))
      (names : (s : Session) (d : Due) → SoundSession s (Some d) → Names (id_of s) (f s d).reply)
      (q : Question) (a : Act) (is : (v : Records) → alone A v a ≡ answer_turn v f v.due) where
    answer-effect : (i : ℕ) (d : Due) → t.owed ≡ Some (i, d) → Asking (session_at t i) q d
        → Effect A t (is_asker A q) a (step_by t i nowhere (f (session_at t i) d))
    answer-effect i d e asking =
        let s = session_at t i in
        let sound : SoundSession s (Some d) = owed-session ok e in
        let used : session_used s ≡ true = ap is_present sound.fits.0 ∙ due-present d in
        let due : due_of t.owed i ≡ Some d = rw (e, eq-eqb i i refl) in
        change-effect i (f s d) (owed-inside ok e) (rw due (steps s d sound)) used (names s d sound) (is_asker A q)
        (rw (asking.asked, asking.id)) a
        (λ z. is (records_of A t) ∙ rw (find-used ok A i used z, due)) (answer-refuses (told s d))

    answered-effect : AskedLast t.sessions q t.owed → Effect A t (is_asker A q) a (answered_with t f t.owed)
    answered-effect = go t.owed refl
      where
        go : (o : Option (ℕ × Due)) → t.owed ≡ o → AskedLast t.sessions q o → Effect A t (is_asker A q) a (answered_with t f o)
        go None e x = refused-effect (is_asker A q) a 11
        go (Some (i, d)) e x = answer-effect i d e x

  module _ (q : Question) (asked : AskedLast t.sessions q t.owed) where
    pub done-effect : Effect A t (is_asker A q) Act.done (settle_done t)
    unfolding settle_done
    done-effect = answered-effect done_by done-told (λ s d. done-steps d) (λ s d z. done-names z d) q Act.done (λ v. refl) asked

    pub failed-effect : (code : Failure) → Effect A t (is_asker A q) (Act.failed code) (settle_failed t code)
    unfolding settle_failed
    failed-effect code =
        answered-effect (failed_by code) (failed-told code) (λ s d. failed-steps code d) (λ s d z. failed-names z code d) q
        (Act.failed code)
        (λ v. refl) asked

    pub unlisted-effect : Effect A t (is_asker A q) Act.unlisted (settle_unlisted t)
    unfolding settle_unlisted
    unlisted-effect = go t.owed refl asked
      where
        go : (o : Option (ℕ × Due)) → t.owed ≡ o → AskedLast t.sessions q o → Effect A t (is_asker A q) Act.unlisted (unlisted_for t o)
        go None e x = refused-effect (is_asker A q) Act.unlisted 18
        go (Some (i, d)) e x = answer-effect unlisted_by unlisted-told (λ s d. unlisted-steps d) (λ s d z. unlisted-names z d) q
            Act.unlisted (λ v. refl) i d e x

  pub allow-effect : (k : List ℕ) → Effect A t (equals k A) Act.allow (decided_of t Decision.Allow k)
  allow-effect k = decided-effect Decision.Allow k Act.allow (λ v. refl)

  pub deny-effect : (k : List ℕ) → Effect A t (equals k A) Act.deny (decided_of t Decision.Deny k)
  deny-effect k = decided-effect Decision.Deny k Act.deny (λ v. refl)

  pub drop-effect : (k : List ℕ) → Effect A t (equals k A) Act.drop (decided_of t Decision.Drop k)
  drop-effect k = decided-effect Decision.Drop k Act.drop (λ v. refl)

-- ---- the calls: a step with the reply's bytes, which A sees as
abbrev pub seen_by : Told → List ℕ → Seen
seen_by told bytes = record { said = saying told []; reply = bytes }

effect-single : {A : List ℕ} {t : Table} {mine : Bool} {a : Act} {s : Stepped} → Effect A t mine a s → (q : Question) (bs : List ℕ)
    → bs ≡ reply_bytes s.reply → Single A t s.table (unless_refused mine s.told a) q (seen_by s.told bs)
effect-single (passed e w n v) q bs z = other (rw e) (rw (z, w)) (rw n) v
effect-single {a = a} (took e w v) q bs z = own a (rw e) (rw z w) v

pub guarded-single : {A : List ℕ} (r : Receiver) {mine : Bool} {a : Act} {s : Stepped} → Effect A r.table mine a s
    → SizedReply s.reply → (q : Question) (reply : List ℕ) → let o = guarded r s reply in
    Single A r.table o.answer.receiver.table (unless_refused mine o.answer.told a) q (answered o)
unfolding guarded
guarded-single {A} r {mine} {a} {s} x z q reply = go (ltb (length reply) reply_room) refl
  where
    short : Outcome Answered
    short = outcome (answered_by r.framing (telling r.table (Told.Refused 9)) 0) reply

    go : (b : Bool) → ltb (length reply) reply_room ≡ b → let o = cond b short (replied r.framing s reply) in
        Single A r.table o.answer.receiver.table (unless_refused mine o.answer.told a) q (answered o)
    go true e = other (rw (both_false mine)) (rw nothing-told) refl refl
    go false e = effect-single x q _ (reply-sent s.reply reply z (ltb-false _ _ e)).bytes

pub drop-single : (A : List ℕ) {t : Table} → Sound t → (id : List ℕ) (q : Question) → let s = decided_of t Decision.Drop id in
    Single A t s.table (unless_refused (equals id A) s.told Act.drop) q (seen_by s.told [])
drop-single A {t} ok id q = effect-single (drop-effect A ok id) q [] (sym (drop-silent t id))
