-- Receivers that are wrong in what they write to the office, made by wrapping our calls, each with one error; `SupplyTeeth` says that the
-- claim is false of each.
use Rattle.std.specs.Prelude.{false, ℕ, List}
use Rattle.octets.specs.Ascii.{ascii}
use Rattle.octets.specs.Outcome.{outcome}
use Rattle.frames.specs.Stream.{framed}
use Rattle.protocol.specs.Table.{session_at, put_session, with_state}
use Rattle.protocol.specs.Receives.{named}
use Rattle.protocol.specs.Supplies.{Supply, supply_of}
use Rattle.protocol.specs.Machine.{Machine}
use Rattle.protocol.specs.Claim.{EveryHistory}
use Rattle.protocol.specs.Serving.{ServesWhole}
use Rattle.protocol.specs.WrongMachines.{supplying_by, with_table, with_file, mistaking, status_piece}
use Rattle.protocol.specs.declared.SessionState.{SessionState}
use Rattle.protocol.specs.declared.Receiver.{Receiver}
use Rattle.protocol.specs.declared.Told.TheVariants as Told

-- ---- pieces of the session m, beside `file_piece`, which names its path and asks for its file
abbrev pub receive_piece : List ℕ
receive_piece = framed (ascii "5113;ac=receive;id=m;sz=1")

abbrev pub finish_piece : List ℕ
finish_piece = framed (ascii "5113;ac=finish;id=m")

-- ---- wrappers
-- what is written is that of another table or of another supply; the receiver is ours
abbrev pub writing_as : (Receiver → Receiver) → (Supply → Supply) → Machine
writing_as f g =
    supplying_by (λ r u out.
    let o = supply_of (f r) (g u) out in
    let a = o.answer in
    outcome (record { receiver = (supply_of r u out).answer.receiver; told = a.told; reply_len = a.reply_len }) o.buffer)

-- ---- wrong parts
-- a part under another file's id
abbrev pub other_file : Machine
other_file = writing_as (λ r. with_table r (with_file r.table 0 0 (named (ascii "b")))) (λ u. u)

-- the last part as data
abbrev pub unended : Supply → Supply
unended (Supply.list e text contents) = Supply.list e text contents
unended (Supply.list_failed text id path code) = Supply.list_failed text id path code
unended (Supply.home id path) = Supply.home id path
unended (Supply.part last bytes) = Supply.part false bytes

abbrev pub never_ending : Machine
never_ending = writing_as (λ r. r) unended

-- every call is taken, and nothing is written
abbrev pub silent : Machine
silent =
    supplying_by (λ r u out.
    let a = (supply_of r u out).answer in outcome (record { receiver = a.receiver; told = a.told; reply_len = 0 }) out)

-- every call is refused
abbrev pub refusing : Machine
refusing = supplying_by (λ r u out. outcome (record { receiver = r; told = Told.Refused 18; reply_len = 0 }) out)

-- ---- outside an allowed session
-- something is listed before the user has allowed it
abbrev pub early : SessionState → SessionState
early SessionState.Absent = SessionState.Absent
early SessionState.Asked = SessionState.Asked
early SessionState.Open = SessionState.Open
early SessionState.Naming = SessionState.Naming
early SessionState.Waiting = SessionState.Listing
early SessionState.Listing = SessionState.Listing
early SessionState.Serving = SessionState.Serving

abbrev pub unallowed_list : Machine
unallowed_list =
    supplying_by (λ r. let s = session_at r.table 0 in supply_of (with_table r (put_session r.table 0 (with_state s (early s.state)))))

-- a file is asked for after finish was read
abbrev pub unfinished : Machine
unfinished = mistaking finish_piece status_piece (λ r. r)

-- ---- the claim is false of each; one that refuses everything meets it, and does not give what ours gives
pub record SupplyTeeth : Type 0 where
  pub part_of_another : EveryHistory other_file → ⊥
  pub last_as_data : EveryHistory never_ending → ⊥
  pub part_left_out : EveryHistory silent → ⊥
  pub listed_unallowed : EveryHistory unallowed_list → ⊥
  pub asked_after_a_finish : EveryHistory unfinished → ⊥
  pub all_refused : ServesWhole refusing → ⊥
