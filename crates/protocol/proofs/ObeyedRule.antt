-- THE RULE keeps the invariant: every command read while nothing is owed.
use Prim.Native.Nat.{ℕ}
use mathlib.Core.Path.{◌≡◌, refl}
use mathlib.Core.Bool.{true, false}
use mathlib.Core.List.{List, ◌∷◌}
use native.Mathlib.Omega.{arith}
use Rattle.std.specs.Prelude.{Option, Some, None}
use Rattle.command.specs.declared.Command.{Command as PlacedCommand}
use Rattle.decimal.specs.declared.Number.{Number}
use Rattle.frames.proofs.Choices.{by_cond}
use Rattle.protocol.specs.Table.{no_session, file_at, id_of, session_used, find_session, first, is_absent, put_session}
use Rattle.protocol.specs.Actions.{kind_of}
use Rattle.protocol.specs.Change.{stepped}
use Rattle.protocol.specs.Receives.{bad_paths}
use Rattle.protocol.specs.Sessions.{id_in, request_in, asked_session, naming_session, send_room, receive_room, absent_result}
use Rattle.protocol.specs.Sessions.{found_result, obey_of}
use Rattle.protocol.specs.History.{Command, Mark}
use Rattle.protocol.specs.Sound.{Sound}
use Rattle.protocol.specs.declared.FileState.TheVariants as FileState
use Rattle.protocol.specs.declared.SessionState.TheVariants as SessionState
use Rattle.protocol.specs.declared.Session.{Session}
use Rattle.protocol.specs.declared.Kind.{Kind}
use Rattle.protocol.specs.declared.Status.TheVariants as Status
use Rattle.protocol.specs.declared.Told.{Told}
use Rattle.protocol.specs.declared.Reply.{Reply}
use Rattle.protocol.proofs.Laws.{first-at, found_nowhere}
use Rattle.protocol.proofs.Means.{Means}
use Rattle.protocol.proofs.Invariant.{is_supplied, SessionOK, TableOK}
use Rattle.protocol.proofs.Marks.{session-read}
use Rattle.protocol.proofs.Tellings.{is_plain}
use Rattle.protocol.proofs.Puts.{put-ok, shut_ok, free-files, none-same, none_free}
use Rattle.protocol.proofs.Ways.{way}
use Rattle.protocol.proofs.Obeyed.{idle, session_in, Kept, kept-plain, Here, here}
use Rattle.protocol.proofs.ObeyedWays.{way-kept}

module _ {ss : List Session} {c : PlacedCommand} {text scratch : List ℕ} {d : Command} {m : List Mark} (means : Means c text scratch d)
    (sound : Sound (idle ss)) (ok : TableOK (idle ss) m) where
  -- ---- nobody has the id
  module _ (e : find_session (idle ss) (id_in c text) ≡ None) where
    abbrev asked : Session
    asked = asked_session c.quiet (id_in c text)

    other : (i : ℕ) → SessionOK false (Mark.read d ∷ m) (session_in ss i)
    other i =
        session-read d m None (session_in ss i)
        (λ o. rw means.id at (found_nowhere session_used id_of no_session ss (id_in c text) refl e i o)) (ok.each i)

    unknown-kept : (w : Told) (r : Option Reply) → is_plain w ≡ true → Kept ss m d scratch (stepped (idle ss) w r)
    unknown-kept w r p =
        kept-plain (idle ss) w r p (record { each = other; owed = tt; told = ok.told; served = ok.served })
        (none-same (idle ss) None)

    -- a new session, which is not open and has no file
    new-kept : (i : ℕ) (s : Session) (w : Told) → is_plain w ≡ true → first is_absent ss ≡ Some i
        → (s.state ≡ SessionState.Open → ⊥) → is_supplied s.state ≡ false → ((j : ℕ) → (file_at s j).state ≡ FileState.Free)
        → Kept ss m d scratch (stepped (put_session (idle ss) i s) w None)
    new-kept i s w p q o n free =
        kept-plain _ w None p
        (put-ok (idle ss) i s None (first-at is_absent no_session ss i q).0 (λ j _. other j) (shut_ok o n) tt ok.told
        ok.served)
        (none_free (idle ss) i s None free)

    -- "four present: EBUSY; else asked"
    room-kept : (f : Option ℕ) → first is_absent ss ≡ f → Kept ss m d scratch (send_room (idle ss) asked f)
    room-kept None q = unknown-kept (Told.Status Status.Ebusy) _ refl
    room-kept (Some i) q =
        new-kept i asked Told.Asked refl q
        (λ (z : SessionState.Asked ≡ SessionState.Open). let w : ◌≡◌ {A = ℕ} 0 1 = cc in omega arith) refl free-files

    -- "any other `sz` gives EINVAL, full places EBUSY before that"
    paths-kept : (n : Number) (f : Option ℕ) → first is_absent ss ≡ f → Kept ss m d scratch (receive_room (idle ss) asked n f)
    paths-kept n None q = unknown-kept (Told.Status Status.Ebusy) _ refl
    paths-kept n (Some i) q =
        by_cond (Kept ss m d scratch) (bad_paths n) (λ _. unknown-kept (Told.Status Status.Einval) _ refl)
        (λ _. new-kept i (naming_session asked n.magnitude) Told.Naming refl q
        (λ (z : SessionState.Naming ≡ SessionState.Open). let w : ◌≡◌ {A = ℕ} 0 1 = cc in omega arith) refl free-files)

    absent-kept : (k : Kind) → Kept ss m d scratch (absent_result (idle ss) asked c.size k)
    absent-kept Kind.Ignore = unknown-kept Told.Ignored None refl
    absent-kept Kind.Ask = room-kept (first is_absent ss) refl
    absent-kept Kind.Receive = paths-kept c.size (first is_absent ss) refl
    absent-kept Kind.Invalid = unknown-kept Told.Ignored None refl
    absent-kept Kind.Cancel = unknown-kept Told.Ignored None refl
    absent-kept Kind.Withdraw = unknown-kept Told.Ignored None refl
    absent-kept Kind.File = unknown-kept Told.Ignored None refl
    absent-kept Kind.Data = unknown-kept Told.Ignored None refl
    absent-kept Kind.EndData = unknown-kept Told.Ignored None refl
    absent-kept Kind.Finish = unknown-kept Told.Ignored None refl
    absent-kept Kind.Path = unknown-kept Told.Ignored None refl
    absent-kept Kind.Request = unknown-kept Told.Ignored None refl

  -- a command read while nothing is owed
  pub obey-kept : Kept ss m d scratch (obey_of (idle ss) c text scratch)
  unfolding obey_of
  obey-kept = go (find_session (idle ss) (id_in c text)) refl
    where
      go : (f : Option ℕ) → find_session (idle ss) (id_in c text) ≡ f
          → Kept ss m d scratch (found_result (idle ss) c (id_in c text) (request_in c text scratch) f)
      go None e = absent-kept e (kind_of SessionState.Absent c.action)
      go (Some i) e =
          let h : Here ss d i = here means i e in
          way-kept means sound ok h (way (session_in ss i) (request_in c text scratch) h.used)
