-- The action table, as the rows of the definition give it: its entry for each state and action.
use mathlib.Core.Bool.{cond}
use Prim.Native.Nat.{◌-◌}
use mathlib.Core.Path.{◌≡◌, refl}
use mathlib.Core.List.{List, [], ◌∷◌, map}
use lib.ListN.{get_or}
use lib.Dec.{eqb}
use Rattle.command.specs.Slots.{action_code}
use Rattle.command.specs.declared.Action.{Action}
use Rattle.protocol.specs.Actions.{state_number, kind_of}
use Rattle.protocol.specs.declared.SessionState.{SessionState}
use Rattle.protocol.specs.declared.Kind.{Kind}

-- the states and the actions in the table's order
abbrev states : List SessionState
states =
    SessionState.Absent ∷ SessionState.Asked ∷ SessionState.Open ∷ SessionState.Naming ∷ SessionState.Waiting ∷ SessionState.Listing
    ∷ SessionState.Serving ∷ []

abbrev actions : List Action
actions =
    Action.Send ∷ Action.Receive ∷ Action.File ∷ Action.Data ∷ Action.EndData ∷ Action.Finish ∷ Action.Cancel ∷ Action.Status ∷ []

-- what the whole constant table has to be
abbrev pub tabulated : List (List Kind)
tabulated = map (λ (s : SessionState). map (kind_of s) actions) states

row_at : {B : Type 0} (f : SessionState → B) (d : B) (s : SessionState) → get_or (map f states) (state_number s) d ≡ f s
row_at f d SessionState.Absent = refl
row_at f d SessionState.Asked = refl
row_at f d SessionState.Open = refl
row_at f d SessionState.Naming = refl
row_at f d SessionState.Waiting = refl
row_at f d SessionState.Listing = refl
row_at f d SessionState.Serving = refl

column-at : {B : Type 0} (f : Action → B) (d : B) (a : Action)
    → cond (eqb (action_code a) 0) (f Action.None) (get_or (map f actions) (action_code a - 1) d) ≡ f a
column-at f d Action.None = refl
column-at f d Action.Send = refl
column-at f d Action.Receive = refl
column-at f d Action.File = refl
column-at f d Action.Data = refl
column-at f d Action.EndData = refl
column-at f d Action.Finish = refl
column-at f d Action.Cancel = refl
column-at f d Action.Status = refl

-- the entry that is looked up, which a command without an action is not
pub entry : (t : List (List Kind)) → t ≡ tabulated → (s : SessionState) (a : Action)
    → cond (eqb (action_code a) 0) Kind.Ignore (get_or (get_or t (state_number s) []) (action_code a - 1) Kind.Ignore) ≡ kind_of s a
unfolding kind_of
entry t e s a = rw (e, row_at (λ (x : SessionState). map (kind_of x) actions) [] s) (column-at (kind_of s) Kind.Ignore a)
