-- The action table: "the whole rule for the three session states", and those of receive sessions.
use Rattle.std.specs.Prelude.{ℕ, Bool, true, false, cond, ◌&&◌, List, [], ◌∷◌, eqb}
use Rattle.command.specs.Slots.{action_code}
use Rattle.command.specs.declared.Action.{Action}
use Rattle.protocol.specs.declared.SessionState.{SessionState}
use Rattle.protocol.specs.declared.Kind.{Kind}

abbrev pub state_number : SessionState → ℕ
state_number SessionState.Absent = 0
state_number SessionState.Asked = 1
state_number SessionState.Open = 2
state_number SessionState.Naming = 3
state_number SessionState.Waiting = 4
state_number SessionState.Listing = 5
state_number SessionState.Serving = 6

-- the commands that a row is about: some actions, or the others
pub data Commands : Type 0 where
  these : List Action → Commands
  others : Commands

pub record Row : Type 0 where
  pub session : SessionState
  pub commands : Commands
  pub result : Kind

abbrev pub row : SessionState → Commands → Kind → Row
row s c k = record { session = s; commands = c; result = k }

-- Document 01's nine rows, in its order: that for an absent session's receive as order 6 replaces it, and "open | file, data, end_data,
-- finish | see below" as four rows, one for each rule. Then order 6's, state by state:
-- "File commands then name the paths"; "before it cancel drops with CANCELED and any other command but file drops without reply";
-- "Only after the last is the user asked and do the asked rows apply";
-- "Before that OK file commands are ignored, data and end_data always; finish always drops it with no reply";
-- "After that OK a file command is a request". All else of an open one is as in 01.
abbrev pub rows : List Row
rows =
    row SessionState.Absent (these (Action.Send ∷ [])) Kind.Ask
    ∷ row SessionState.Absent (these (Action.Receive ∷ [])) Kind.Receive
    ∷ row SessionState.Absent others Kind.Ignore
    ∷ row SessionState.Asked (these (Action.Cancel ∷ [])) Kind.Cancel
    ∷ row SessionState.Asked others Kind.Withdraw
    ∷ row SessionState.Open (these (Action.Send ∷ Action.Receive ∷ [])) Kind.Invalid
    ∷ row SessionState.Open (these (Action.File ∷ [])) Kind.File
    ∷ row SessionState.Open (these (Action.Data ∷ [])) Kind.Data
    ∷ row SessionState.Open (these (Action.EndData ∷ [])) Kind.EndData
    ∷ row SessionState.Open (these (Action.Finish ∷ [])) Kind.Finish
    ∷ row SessionState.Open (these (Action.Cancel ∷ [])) Kind.Cancel
    ∷ row SessionState.Open (these (Action.Status ∷ [])) Kind.Ignore
    ∷ row SessionState.Naming (these (Action.File ∷ [])) Kind.Path
    ∷ row SessionState.Naming (these (Action.Cancel ∷ [])) Kind.Cancel
    ∷ row SessionState.Naming others Kind.Withdraw
    ∷ row SessionState.Waiting (these (Action.Cancel ∷ [])) Kind.Cancel
    ∷ row SessionState.Waiting others Kind.Withdraw
    ∷ row SessionState.Listing (these (Action.Send ∷ Action.Receive ∷ [])) Kind.Invalid
    ∷ row SessionState.Listing (these (Action.File ∷ Action.Data ∷ Action.EndData ∷ Action.Status ∷ [])) Kind.Ignore
    ∷ row SessionState.Listing (these (Action.Finish ∷ [])) Kind.Withdraw
    ∷ row SessionState.Listing (these (Action.Cancel ∷ [])) Kind.Cancel
    ∷ row SessionState.Serving (these (Action.Send ∷ Action.Receive ∷ [])) Kind.Invalid
    ∷ row SessionState.Serving (these (Action.File ∷ [])) Kind.Request
    ∷ row SessionState.Serving (these (Action.Data ∷ Action.EndData ∷ Action.Status ∷ [])) Kind.Ignore
    ∷ row SessionState.Serving (these (Action.Finish ∷ [])) Kind.Withdraw
    ∷ row SessionState.Serving (these (Action.Cancel ∷ [])) Kind.Cancel
    ∷ []

abbrev pub one_of : List Action → Action → Bool
one_of [] a = false
one_of (x ∷ xs) a = cond (eqb (action_code x) (action_code a)) true (one_of xs a)

abbrev pub among : Commands → Action → Bool
among (these xs) a = one_of xs a
among others a = true

abbrev pub applies : Row → SessionState → Action → Bool
applies r s a = eqb (state_number r.session) (state_number s) && among r.commands a

-- the first row that applies; a command without an action, which no text gives, is ignored
unfoldable pub result_in : List Row → SessionState → Action → Kind
result_in [] s a = Kind.Ignore
result_in (r ∷ rs) s a = cond (applies r s a) r.result (result_in rs s a)

unfoldable pub kind_of : SessionState → Action → Kind
kind_of s Action.None = Kind.Ignore
kind_of s Action.Send = result_in rows s Action.Send
kind_of s Action.Receive = result_in rows s Action.Receive
kind_of s Action.File = result_in rows s Action.File
kind_of s Action.Data = result_in rows s Action.Data
kind_of s Action.EndData = result_in rows s Action.EndData
kind_of s Action.Finish = result_in rows s Action.Finish
kind_of s Action.Cancel = result_in rows s Action.Cancel
kind_of s Action.Status = result_in rows s Action.Status
