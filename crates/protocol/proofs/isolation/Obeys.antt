-- A command that was read: the turn of its session alone, and nothing of any other session.
use Prim.Native.Nat.{ℕ, ◌<◌}
use mathlib.Core.Path.{◌≡◌, refl, sym, ap, ◌∙◌}
use mathlib.Core.Bool.{true}
use mathlib.Core.List.{List, []}
use lib.ListN.{length}
use Rattle.std.specs.Prelude.{Option, Some, None}
use Rattle.command.specs.Meaning.{action_code, data_of}
use Rattle.command.specs.Slots.{action_of}
use Rattle.command.specs.declared.Action.{Action}
use Rattle.command.specs.declared.Command.{Command as PlacedCommand}
use Rattle.protocol.specs.Table.{no_session, session_at, id_of, session_used, find_session, first, is_absent}
use Rattle.protocol.specs.Actions.{result_in, kind_of}
use Rattle.protocol.specs.Replies.{reply_bytes}
use Rattle.protocol.specs.Change.{told_by, telling}
use Rattle.protocol.specs.Files.{Request}
use Rattle.protocol.specs.Rule.{obeyed_by}
use Rattle.protocol.specs.Sessions.{id_in, request_in, asked_session, absent_result, found_result, obey_of}
use Rattle.protocol.specs.History.{Command}
use Rattle.protocol.specs.Cuts.{Saying, saying}
use Rattle.protocol.specs.Sound.{SoundSession, due_of, Sound}
use Rattle.protocol.specs.Isolation.{Act, begins, is_at, records_of}
use Rattle.protocol.specs.declared.SessionState.TheVariants as SessionState
use Rattle.protocol.specs.declared.Session.{Session}
use Rattle.protocol.specs.declared.Kind.{Kind}
use Rattle.protocol.specs.declared.Table.{Table}
use Rattle.protocol.specs.declared.Told.{Told}
use Rattle.protocol.specs.declared.Stepped.{Stepped}
use Rattle.protocol.proofs.Laws.{no_way, first-at, found_at, padded-id}
use Rattle.protocol.proofs.Means.{Means}
use Rattle.protocol.proofs.Tellings.{plain}
use Rattle.protocol.proofs.Ways.{way}
use Rattle.protocol.proofs.SoundRule.{Steps}
use Rattle.protocol.proofs.SoundSteps.{obeyed-steps}
use Rattle.protocol.proofs.SoundTable.{ReadWell, obey-sound}
use Rattle.protocol.proofs.SoundCalls.{means-well}
use Rattle.protocol.proofs.isolation.Alone.{whole, request_from, quiet_from, Made, passes, makes, makes_for, alone}
use Rattle.protocol.proofs.isolation.Calls.{Silent}
use Rattle.protocol.proofs.isolation.Replies.{names-other, way-names}
use Rattle.protocol.proofs.isolation.Views.{put-used, put_other, own-step, other_step}
use Rattle.command.specs.Meaning as Meanings
use Rattle.protocol.proofs.isolation.Commands.{request-from, quiet-from, action-back, whole-string, way-said}
use Rattle.protocol.proofs.isolation.Begins.{placed, with-room, without-room, absent-names, Makes, none, some, makes-is}

-- ---- a command that was read, while nothing is owed
module _ (A : List ℕ) {t : Table} (ok : Sound t) (free : t.owed ≡ None) {c : PlacedCommand} {text scratch : List ℕ} {d : Command}
    (means : Means c text scratch d) where
  abbrev q : Request
  q = request_in c text scratch

  abbrev new : Session
  new = asked_session c.quiet (id_in c text)

  well : ReadWell c text
  well = means-well means

  request-is : q ≡ request_from d
  request-is =
      let v = means.values in
      request-from c text scratch (means.long ∙ ap (λ (x : Command). length (data_of x)) v) ∙ ap request_from (sym v)

  none-due : (i : ℕ) → due_of t.owed i ≡ None
  none-due i = rw free

  -- ---- one that is present
  module _ (i : ℕ) (e : find_session t (id_in c text) ≡ Some i) where
    abbrev s : Session
    s = session_at t i

    found : (i < length t.sessions) × (session_used s ≡ true) × (id_of s ≡ id_in c text)
    found = found_at session_used id_of no_session t.sessions (id_in c text) i e

    steps : Steps true s (due_of t.owed i) (obeyed_by s q)
    steps =
        let sound : SoundSession s None = rw (none-due i) at (ok.each i) in
        rw (none-due i) (obeyed-steps sound q well.file found.1)

    same-said : saying (told_by c.payload (obeyed_by s q).news) scratch
        ≡ saying (told_by (whole (data_of d)) (obeyed_by s q).news) (data_of d)
    same-said =
        way-said s q (way s q found.1) c.payload (whole (data_of d)) scratch (data_of d) (means.part ∙ sym (whole-string (data_of d)))

  -- ---- one that is absent
  makes-same : makes new c.size (kind_of SessionState.Absent c.action) ≡ makes_for d
  makes-same =
      let v = means.values in
      let quiet : c.quiet ≡ quiet_from d = quiet-from c text scratch ∙ ap quiet_from (sym v) in
      let action : c.action ≡ action_of (action_code d) = sym (ap action_of means.action ∙ action-back c.action) in
      rw (quiet, means.id, means.size, action)

  new-id : id_of new ≡ id_in c text
  new-id = padded-id (id_in c text) well.id.short

  abbrev Seeing : Stepped → Type 0
  Seeing x = record { said = saying x.told scratch; reply = reply_bytes x.reply } ≡ (alone A (records_of A t) (Act.command d)).seen

  pub record Obeyed (x : Stepped) : Type 0 where
    pub seen : Seeing x
    pub view : records_of A x.table ≡ (alone A (records_of A t) (Act.command d)).after

  -- what is made is put at a free place
  placed-own : find_session t A ≡ None → id_of new ≡ A → (i : ℕ) → first is_absent t.sessions ≡ Some i
      → {x : Made} → Makes new x → makes_for d ≡ x → Sound (placed t i x).table → Obeyed (placed t i x)
  placed-own e is i f (none w r p) m sound =
      record {
        seen = rw (e, m) (ap (λ (y : Saying). record { said = y; reply = reply_bytes r }) ((plain w p).same scratch []));
        view = rw (e, m);
      }
  placed-own e is i f (some x w u same p) m sound =
      let inside = (first-at is_absent no_session t.sessions i f).0 in
      record {
        seen = rw (e, m) (ap (λ (y : Saying). record { said = y; reply = reply_bytes None }) ((plain w p).same scratch []));
        view = rw (e, m) (put-used ok A i x t.owed inside sound u (same ∙ is) ∙ rw (none-due i));
      }

  -- a command that makes none passes
  passing : find_session t A ≡ None → {a : Action} → c.action ≡ a → kind_of SessionState.Absent a ≡ Kind.Ignore
      → Obeyed (telling t Told.Ignored)
  passing e {a} w k =
      let m : makes_for d ≡ passes = sym makes-same ∙ ap (λ (x : Action). makes new c.size (kind_of SessionState.Absent x)) w
      ∙ ap (makes new c.size) k in
      record { seen = rw (e, m); view = rw (e, m) }

  -- there is no place, and it makes none
  full-own : find_session t A ≡ None → (a : Action) → c.action ≡ a → first is_absent t.sessions ≡ None
      → (begins (Act.command d) ≡ true → ⊥) → Obeyed (absent_result t new c.size (kind_of SessionState.Absent a))
  unfolding kind_of result_in
  full-own e Action.None w f n = passing e w refl
  full-own e Action.Send w f n = absurd (n (rw (means.action, w)))
  full-own e Action.Receive w f n = absurd (n (rw (means.action, w)))
  full-own e Action.File w f n = passing e w refl
  full-own e Action.Data w f n = passing e w refl
  full-own e Action.EndData w f n = passing e w refl
  full-own e Action.Finish w f n = passing e w refl
  full-own e Action.Cancel w f n = passing e w refl
  full-own e Action.Status w f n = passing e w refl

  absent-own : find_session t A ≡ None → id_of new ≡ A
      → (begins (Act.command d) ≡ true → is_at (first is_absent t.sessions) ≡ true)
      → Sound (absent_result t new c.size (kind_of SessionState.Absent c.action)).table
      → Obeyed (absent_result t new c.size (kind_of SessionState.Absent c.action))
  absent-own e is met sound = go (first is_absent t.sessions) refl
    where
      k : Kind
      k = kind_of SessionState.Absent c.action

      go : (f : Option ℕ) → first is_absent t.sessions ≡ f → Obeyed (absent_result t new c.size k)
      go None f = full-own e c.action refl f (λ b. no_way (sym (rw f at (met b))))
      go (Some i) f =
          let w = with-room t new c.size i f k in
          rw w (placed-own e is i f (makes-is new refl c.size k) (sym makes-same) (rw w at sound))

  absent-other : (id_of new ≡ A → ⊥) → Sound (absent_result t new c.size (kind_of SessionState.Absent c.action)).table
      → records_of A (absent_result t new c.size (kind_of SessionState.Absent c.action)).table ≡ records_of A t
  absent-other n sound = go (first is_absent t.sessions) refl
    where
      k : Kind
      k = kind_of SessionState.Absent c.action

      by : (i : ℕ) → first is_absent t.sessions ≡ Some i → {x : Made} → Makes new x → Sound (placed t i x).table
          → records_of A (placed t i x).table ≡ records_of A t
      by i f (none w r p) z = refl
      by i f (some x w u same p) z =
          let at = first-at is_absent no_session t.sessions i f in
          put_other ok A i x t.owed at.0 z (λ v _. no_way (sym (rw v at at.1))) (λ _ y. n (sym same ∙ y)) (λ j _. refl)

      go : (f : Option ℕ) → first is_absent t.sessions ≡ f → records_of A (absent_result t new c.size k).table ≡ records_of A t
      go None f = rw (without-room t new c.size f k)
      go (Some i) f =
          let w = with-room t new c.size i f k in rw w (by i f (makes-is new refl c.size k) (rw w at sound))

  -- ---- every command
  pub obey-own : Meanings.id_of d ≡ A
      → (begins (Act.command d) ≡ true → find_session t A ≡ None → is_at (first is_absent t.sessions) ≡ true)
      → Obeyed (obey_of t c text scratch)
  unfolding obey_of
  obey-own is met = go (find_session t (id_in c text)) refl (obey-sound t ok free c text scratch well)
    where
      mine : id_in c text ≡ A
      mine = means.id ∙ is

      go : (f : Option ℕ) → find_session t (id_in c text) ≡ f → Sound (obey_of t c text scratch).table
          → Obeyed (found_result t c (id_in c text) q f)
      go None e sound =
          let e' : find_session t A ≡ None = rw mine at e in
          absent-own e' (new-id ∙ mine) (λ b. met b e') (rw e at sound)
      go (Some i) e sound =
          let f = found i e in
          let here : find_session t A ≡ Some i = rw mine at e in
          record {
            seen =
                rw (here, f.1, ← request-is)
                (ap (λ (y : Saying). record { said = y; reply = reply_bytes (obeyed_by (s i e) q).reply }) (same-said i e));
            view = own-step ok A i (obeyed_by (s i e) q) f.0 (λ _. free) (steps i e) f.1 (f.2 ∙ mine) ∙ rw (here, f.1, ← request-is);
          }

  pub obey-silent : (Meanings.id_of d ≡ A → ⊥) → Silent A (obey_of t c text scratch).reply
  unfolding obey_of
  obey-silent n = go (find_session t (id_in c text)) refl
    where
      go : (f : Option ℕ) → find_session t (id_in c text) ≡ f → Silent A (found_result t c (id_in c text) q f).reply
      go None e =
          names-other A (rw new-id well.id) (absent-names t new c.size (kind_of SessionState.Absent c.action))
          (λ y. n (sym means.id ∙ sym new-id ∙ y))
      go (Some i) e =
          let f = found i e in
          names-other A ((ok.each i).named f.1) (way-names (ok.each i) q well.file (way (s i e) q f.1))
          (λ y. n (sym means.id ∙ sym f.2 ∙ y))

  pub obey-other : (Meanings.id_of d ≡ A → ⊥) → records_of A (obey_of t c text scratch).table ≡ records_of A t
  unfolding obey_of
  obey-other n = go (find_session t (id_in c text)) refl (obey-sound t ok free c text scratch well)
    where
      go : (f : Option ℕ) → find_session t (id_in c text) ≡ f → Sound (obey_of t c text scratch).table
          → records_of A (found_result t c (id_in c text) q f).table ≡ records_of A t
      go None e sound = absent-other (λ y. n (sym means.id ∙ sym new-id ∙ y)) (rw e at sound)
      go (Some i) e sound =
          other_step ok A i (obeyed_by (s i e) q) (found i e).0 (λ _. free) (steps i e) (λ y. n (sym means.id ∙ sym (found i e).2 ∙ y))
