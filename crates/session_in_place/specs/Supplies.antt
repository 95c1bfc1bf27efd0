-- What is supplied in place: what a call leaves of the one session that is copied out.
use Rattle.std.specs.Prelude.{ℕ, Bool, false, cond, not, List, ltb, Option, Some, None}
use Rattle.octets.specs.Outcome.{Outcome, outcome}
use Rattle.protocol.specs.Table.{session_room, no_session}
use Rattle.protocol.specs.declared.Due.{Due}
use Rattle.protocol.specs.declared.Session.{Session}
use Rattle.supplying.specs.Supplied.{given_in, leaves, supplied_in}
use Rattle.supplying.specs.Turns.{in_turn}
use Rattle.supplying.specs.declared.Given.{Given}
use Rattle.supplying.specs.declared.Left.{Left}

-- in turn or not by the session's own state
abbrev pub supplied_by : Given → Option ℕ → Session → Option (ℕ × Due) → List ℕ → Outcome Left
supplied_by g f s o out = supplied_in (given_in g) (in_turn g.supplying s.state f) s o out

-- the session s is put back
abbrev pub keeping : Session → Left → Left
keeping s x = leaves s x.owed x.told x.written

abbrev pub is_outside : Option ℕ → Bool
is_outside None = false
is_outside (Some i) = not (ltb i session_room)

-- outside the table free room is supplied, and the session that is copied out is put back as it was
unfoldable pub supply_at : Given → Option ℕ → Session → Option (ℕ × Due) → List ℕ → Outcome Left
supply_at g f s o out =
    cond (is_outside f)
    (let y = supplied_by g f no_session o out in outcome (keeping s y.answer) y.buffer)
    (supplied_by g f s o out)
