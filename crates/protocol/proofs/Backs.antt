-- A change put back into the table.
use Prim.Native.Nat.{ℕ}
use mathlib.Core.Path.{◌≡◌, refl, ap}
use mathlib.Core.Bool.{false}
use mathlib.Core.List.{List}
use lib.ListN.{set}
use lib.Seq.{set-get_or}
use borrow.Author.Tests.{eq-eqb}
use Rattle.std.specs.Prelude.{Option, Some, None}
use Rattle.command.specs.declared.Place.{Place}
use Rattle.protocol.specs.Table.{no_session, session_at}
use Rattle.protocol.specs.Change.{tells, stepped, cleared, step_by}
use Rattle.protocol.specs.Calls.{is_owed}
use Rattle.protocol.specs.declared.Session.{Session}
use Rattle.protocol.specs.declared.Due.{Due}
use Rattle.protocol.specs.declared.Table.{Table}
use Rattle.protocol.specs.declared.Told.{Told}
use Rattle.protocol.specs.declared.Reply.{Reply}
use Rattle.protocol.proofs.Laws.{no_way}

-- the table with these sessions, and with something owed
abbrev pub table : List Session → Option (ℕ × Due) → Table
table ss o = record { sessions = ss; owed = o }

-- a session that stays as it is leaves the sessions as they were
pub same-sessions : (t : Table) (i : ℕ) (o : Option (ℕ × Due)) → table (set t.sessions i (session_at t i)) o ≡ table t.sessions o
same-sessions t i o = ap (λ (ss : List Session). table ss o) (set-get_or t.sessions i no_session)

pub told-step : (t : Table) (i : ℕ) (p : Place) (w : Told) (r : Option Reply) → step_by t i p (tells w r) ≡ stepped t w r
told-step t i p w r = ap (λ (x : Table). stepped x w r) (same-sessions t i t.owed)

-- what the session owed is settled
pub own-cleared : (i : ℕ) (d : Due) → cleared i (Some (i, d)) ≡ None
own-cleared i d = rw (eq-eqb i i refl)

pub not-owed : (o : Option (ℕ × Due)) → is_owed o ≡ false → o ≡ None
not-owed None e = refl
not-owed (Some (i, d)) e = no_way e
