-- Which session is supplied, found by its id or by what is owed, and whether it is in turn: protocol's `turn_of` in two halves.
use Rattle.std.specs.Prelude.{ℕ, Bool, true, false, cond, ◌||◌, List, [], Option, None, unwrap_or}
use Rattle.protocol.specs.Sessions.{string_in}
use Rattle.protocol.specs.Supplies.{is_listing, request_at}
use Rattle.protocol.specs.declared.Due.{Due}
use Rattle.protocol.specs.declared.SessionState.{SessionState}
use Rattle.supplying.specs.declared.Supplying.{Supplying}

abbrev pub is_part : Supplying → Bool
is_part (Supplying.List e) = false
is_part (Supplying.ListFailed id path code) = false
is_part Supplying.Home = false
is_part (Supplying.Part last) = true

-- the session's id, of which a part says nothing
abbrev pub id_for : Supplying → (text : List ℕ) → List ℕ
id_for (Supplying.List e) text = string_in text e.id
id_for (Supplying.ListFailed id path code) text = string_in text id
id_for Supplying.Home text = text
id_for (Supplying.Part last) text = []

-- a part is for the session that asks for a file, anything else for the one that is found by its id
abbrev pub concerned : Supplying → Option (ℕ × Due) → (text : List ℕ) → (List ℕ → Option ℕ) → Option ℕ
concerned x o text find = cond (is_part x) (request_at o) (find (id_for x text))

-- its place; where there is none, the first
abbrev pub seat_of : Option ℕ → ℕ
seat_of f = unwrap_or f 0

-- a listing is in turn by the state of the session that it concerns, a part wherever it is asked for
abbrev pub in_turn : Supplying → SessionState → Option ℕ → Option ℕ
in_turn x g f = cond (is_part x || is_listing g) f None
