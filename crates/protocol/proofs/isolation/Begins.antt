-- A command whose session is absent: what it makes where there is room, whichever the place, and what is left where there is none.
use Prim.Native.Nat.{ℕ}
use mathlib.Core.Path.{◌≡◌, refl}
use mathlib.Core.Bool.{Bool, true, false, cond}
use Rattle.std.specs.Prelude.{Option, Some, None}
use Rattle.decimal.specs.declared.Number.{Number}
use Rattle.protocol.specs.Table.{id_of, session_used, first, is_absent, put_session}
use Rattle.protocol.specs.Replies.{session_reply}
use Rattle.protocol.specs.Change.{stepped}
use Rattle.protocol.specs.Receives.{bad_paths}
use Rattle.protocol.specs.Sessions.{naming_session, absent_result, send_room, receive_room}
use Rattle.protocol.specs.declared.Session.{Session}
use Rattle.protocol.specs.declared.Kind.{Kind}
use Rattle.protocol.specs.declared.Table.{Table}
use Rattle.protocol.specs.declared.Status.TheVariants as Status
use Rattle.protocol.specs.declared.Told.{Told}
use Rattle.protocol.specs.declared.Reply.{Reply}
use Rattle.protocol.specs.declared.Stepped.{Stepped}
use Rattle.protocol.proofs.Tellings.{is_plain}
use Rattle.protocol.proofs.isolation.Alone.{Made, made, makes}
use Rattle.frames.proofs.Choices.{by_cond}
use Rattle.protocol.proofs.isolation.Replies.{Names, session-names}

-- ---- a command whose session is absent: what is made, put at a free place
abbrev pub placed : Table → ℕ → Made → Stepped
placed t i x = stepped (go x.session) x.told x.reply
  where
    go : Option Session → Table
    go None = t
    go (Some s) = put_session t i s

module _ (t : Table) (s : Session) (n : Number) where
  pub with-room : (i : ℕ) → first is_absent t.sessions ≡ Some i → (k : Kind) → absent_result t s n k ≡ placed t i (makes s n k)
  with-room i e Kind.Ignore = refl
  with-room i e Kind.Ask = rw e
  with-room i e Kind.Receive = rw e (go (bad_paths n))
    where
      go : (b : Bool) → let bad = made None (Told.Status Status.Einval) (Some (session_reply Status.Einval s)) in
          let good = made (Some (naming_session s n.magnitude)) Told.Naming None in
          cond b (placed t i bad) (placed t i good) ≡ placed t i (cond b bad good)
      go true = refl
      go false = refl
  with-room i e Kind.Invalid = refl
  with-room i e Kind.Cancel = refl
  with-room i e Kind.Withdraw = refl
  with-room i e Kind.File = refl
  with-room i e Kind.Data = refl
  with-room i e Kind.EndData = refl
  with-room i e Kind.Finish = refl
  with-room i e Kind.Path = refl
  with-room i e Kind.Request = refl

  pub without-room : first is_absent t.sessions ≡ None → (k : Kind) → (absent_result t s n k).table ≡ t
  without-room e Kind.Ignore = refl
  without-room e Kind.Ask = rw e
  without-room e Kind.Receive = rw e
  without-room e Kind.Invalid = refl
  without-room e Kind.Cancel = refl
  without-room e Kind.Withdraw = refl
  without-room e Kind.File = refl
  without-room e Kind.Data = refl
  without-room e Kind.EndData = refl
  without-room e Kind.Finish = refl
  without-room e Kind.Path = refl
  without-room e Kind.Request = refl

  -- the reply names it, with room or without
  pub absent-names : (k : Kind) → Names (id_of s) (absent_result t s n k).reply
  absent-names Kind.Ignore = Names.none
  absent-names Kind.Ask = go (first is_absent t.sessions)
    where
      go : (f : Option ℕ) → Names (id_of s) (send_room t s f).reply
      go None = session-names Status.Ebusy s
      go (Some i) = Names.none
  absent-names Kind.Receive = go (first is_absent t.sessions)
    where
      go : (f : Option ℕ) → Names (id_of s) (receive_room t s n f).reply
      go None = session-names Status.Ebusy s
      go (Some i) =
          by_cond (λ (x : Stepped). Names (id_of s) x.reply) (bad_paths n) (λ _. session-names Status.Einval s) (λ _. Names.none)
  absent-names Kind.Invalid = Names.none
  absent-names Kind.Cancel = Names.none
  absent-names Kind.Withdraw = Names.none
  absent-names Kind.File = Names.none
  absent-names Kind.Data = Names.none
  absent-names Kind.EndData = Names.none
  absent-names Kind.Finish = Names.none
  absent-names Kind.Path = Names.none
  absent-names Kind.Request = Names.none

-- nothing, or a session with the id; something plain is told
pub data Makes (s : Session) : Made → Type 0 where
  none : (w : Told) (r : Option Reply) → is_plain w ≡ true → Makes s (made None w r)
  some : (x : Session) (w : Told) → session_used x ≡ true → id_of x ≡ id_of s → is_plain w ≡ true
      → Makes s (made (Some x) w None)

pub makes-is : (s : Session) → session_used s ≡ true → (n : Number) (k : Kind) → Makes s (makes s n k)
makes-is s u n Kind.Ignore = none Told.Ignored None refl
makes-is s u n Kind.Ask = some s Told.Asked u refl refl
makes-is s u n Kind.Receive = go (bad_paths n)
  where
    go : (b : Bool) → Makes s (cond b (made None (Told.Status Status.Einval) (Some (session_reply Status.Einval s)))
        (made (Some (naming_session s n.magnitude)) Told.Naming None))
    go true = none (Told.Status Status.Einval) _ refl
    go false = some (naming_session s n.magnitude) Told.Naming refl refl refl
makes-is s u n Kind.Invalid = none Told.Ignored None refl
makes-is s u n Kind.Cancel = none Told.Ignored None refl
makes-is s u n Kind.Withdraw = none Told.Ignored None refl
makes-is s u n Kind.File = none Told.Ignored None refl
makes-is s u n Kind.Data = none Told.Ignored None refl
makes-is s u n Kind.EndData = none Told.Ignored None refl
makes-is s u n Kind.Finish = none Told.Ignored None refl
makes-is s u n Kind.Path = none Told.Ignored None refl
makes-is s u n Kind.Request = none Told.Ignored None refl
