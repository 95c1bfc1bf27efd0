-- Wrong receivers in which one session hangs on another, made by wrapping our calls; `Leaks` says that `Isolated` is false of each.
use Rattle.std.specs.Prelude.{ℕ, Bool, cond, ◌&&◌, List, length, ltb, Option, Some, None}
use Rattle.octets.specs.Ascii.{ascii}
use Rattle.octets.specs.Outcome.{outcome}
use Rattle.octets.specs.Slices.{equals}
use Rattle.frames.specs.Stream.{framed}
use Rattle.protocol.specs.Table.{absent_session, session_at, file_at, id_of, session_used, put_session, moved, with_state}
use Rattle.protocol.specs.Replies.{reply_room}
use Rattle.protocol.specs.Sessions.{asked_session}
use Rattle.protocol.specs.Calls.{Feeding, feeding, feed_refused, feed_of, allow_of, drop_of}
use Rattle.protocol.specs.Supplies.{supply_of}
use Rattle.protocol.specs.Machine.{Machine}
use Rattle.protocol.specs.WrongMachines.{file_piece, data_piece, cancel_piece, feeding_by, allowing_by, dropping_by, supplying_by}
use Rattle.protocol.specs.WrongMachines.{answering_of, with_table, consuming, leaving_table, mistaking, with_owed, with_file, leaving}
use Rattle.protocol.specs.WrongSupplies.{writing_as}
use Rattle.protocol.specs.Isolation.{has_room, Isolated}
use Rattle.protocol.specs.IsolationExamples.{SeesAlike}
use Rattle.protocol.specs.declared.SessionState.{SessionState}
use Rattle.protocol.specs.declared.Session.{Session}
use Rattle.protocol.specs.declared.Due.{Due}
use Rattle.protocol.specs.declared.Table.{Table}
use Rattle.protocol.specs.declared.Receiver.{Receiver}
use Rattle.protocol.specs.declared.Told.TheVariants as Told

-- ---- pieces: commands of other sessions than m
abbrev pub cancel_other : List ℕ
cancel_other = framed (ascii "5113;ac=cancel;id=k")

-- an id that begins with m
abbrev pub cancel_longer : List ℕ
cancel_longer = framed (ascii "5113;ac=cancel;id=mm")

abbrev pub status_nobody : List ℕ
status_nobody = framed (ascii "5113;ac=status;id=z")

-- data of m's file a with other bytes
abbrev pub other_data : List ℕ
other_data = framed (ascii "5113;ac=data;id=m;fid=a;d=eHl6")

-- ---- wrappers
-- a feed that replies with these bytes
abbrev pub replying_with : List ℕ → Feeding → Feeding
replying_with bytes f =
    record {
      fed = record {
        receiver = f.fed.receiver;
        consumed = f.fed.consumed;
        report = f.fed.report;
        told = f.fed.told;
        command = f.fed.command;
        reply_len = length bytes;
      };
      carry = f.carry;
      scratch = f.scratch;
      reply = bytes;
    }

-- two sessions are present, in the first two places
abbrev pub is_crowded : Receiver → Bool
is_crowded r = session_used (session_at r.table 0) && session_used (session_at r.table 1)

-- while two are, one piece is taken for another
abbrev pub crowding : List ℕ → List ℕ → Machine
crowding one other =
    feeding_by (λ r piece carry scratch reply.
    cond (is_crowded r && equals piece one) (consuming (length one) (feed_of r other carry scratch reply))
    (feed_of r piece carry scratch reply))

abbrev pub with_quiet : Session → ℕ → Session
with_quiet s n =
    record {
      state = s.state;
      quiet = n;
      id = s.id;
      wanted = s.wanted;
      started = s.started;
      done_bytes = s.done_bytes;
      files = s.files;
    }

-- ---- what is owed
-- a drop clears what anybody owes
abbrev pub clearing : Machine
clearing = dropping_by (λ r id. let a = drop_of r id in leaving (with_owed a.receiver.table None) a)

-- done answers for the session at the first place
abbrev pub for_the_first : Option (ℕ × Due) → Option (ℕ × Due)
for_the_first None = None
for_the_first (Some (i, d)) = Some (0, d)

abbrev pub settling_first : Machine
settling_first = answering_of (λ t o. with_owed t (for_the_first o))

-- ---- ids and places
-- session ids are compared up to the shorter one's end
abbrev pub short_ids : Machine
short_ids = mistaking cancel_longer cancel_piece (λ r. r)

-- a command that comes while all places are taken frees the first one
abbrev pub evicting : Machine
evicting = feeding_by (λ r. feed_of (with_table r (cond (has_room r.table) r.table (put_session r.table 0 absent_session))))

-- EBUSY with three present
abbrev pub busy_at_three : Machine
busy_at_three =
    feeding_by (λ r piece carry scratch reply.
    cond (session_used (session_at r.table 2))
    (leaving_table r.table (feed_of (with_table r (put_session r.table 3 (asked_session 0 (ascii "z")))) piece carry scratch reply))
    (feed_of r piece carry scratch reply))

-- a cancel frees the next place too
abbrev pub freeing_two : Machine
freeing_two = mistaking cancel_other cancel_other (λ r. with_table r (put_session r.table 1 absent_session))

-- allow opens the session at the first place
abbrev pub allowing_first : Machine
allowing_first = allowing_by (λ r id. allow_of r (id_of (session_at r.table 0)))

-- ---- replies, parts and counts
-- allow replies by the quiet of the session at the first place
abbrev pub quiet_of_the_first : Machine
quiet_of_the_first =
    allowing_by (λ r id reply.
    let t = r.table in
    let o = allow_of (with_table r (put_session t 1 (with_quiet (session_at t 1) (session_at t 0).quiet))) id reply in
    let a = o.answer in
    outcome (record { receiver = (allow_of r id reply).answer.receiver; told = a.told; reply_len = a.reply_len }) o.buffer)

-- an allow of the first session is replied to in the name of the second
abbrev pub with_id_of : Session → Session → Session
with_id_of s x =
    record {
      state = s.state;
      quiet = s.quiet;
      id = x.id;
      wanted = s.wanted;
      started = s.started;
      done_bytes = s.done_bytes;
      files = s.files;
    }

abbrev pub misnaming : Machine
misnaming =
    allowing_by (λ r id reply.
    let t = r.table in
    let o = allow_of (with_table r (put_session t 0 (with_id_of (session_at t 0) (session_at t 1)))) (id_of (session_at t 1)) reply in
    let a = o.answer in
    outcome (record { receiver = (allow_of r id reply).answer.receiver; told = a.told; reply_len = a.reply_len }) o.buffer)

-- a count goes on from that of the first session's file
abbrev pub counted_on : Table → Option (ℕ × Due) → Table
counted_on t None = t
counted_on t (Some (i, Due.OpenFile j)) = t
counted_on t (Some (i, Due.OpenDirectory j)) = t
counted_on t (Some (i, Due.Write j n)) =
    let f = file_at (session_at t i) j in with_file t i j (moved f f.state (file_at (session_at t 0) j).count)
counted_on t (Some (i, Due.WriteLast j n)) = t
counted_on t (Some (i, Due.Commit)) = t
counted_on t (Some (i, Due.Request)) = t

abbrev pub count_of_the_first : Machine
count_of_the_first = answering_of counted_on

-- beside another session other bytes are handed over, or a command is lost
abbrev pub mixing_parts : Machine
mixing_parts = crowding data_piece other_data

abbrev pub losing_commands : Machine
losing_commands = crowding file_piece status_nobody

-- ---- through calls that concern nobody
-- beside another session a byte of noise is replied to in m's name
abbrev pub noise : List ℕ
noise = ascii "x"

abbrev pub status_of_m : List ℕ
status_of_m = framed (ascii "5113;ac=status;id=m;st=T0s=")

abbrev pub humming : Machine
humming =
    feeding_by (λ r piece carry scratch reply.
    let f = feed_of r piece carry scratch reply in
    cond (is_crowded r && equals piece noise) (replying_with status_of_m f) f)

-- an allow with a short buffer is not refused, but replied to in m's name
abbrev pub whispering : Machine
whispering =
    allowing_by (λ r id reply.
    cond (ltb (length reply) reply_room)
    (outcome (record { receiver = r; told = Told.Nothing; reply_len = length status_of_m }) status_of_m)
    (allow_of r id reply))

-- beside another session a byte of noise has m's part handed over once more
abbrev pub repeating : Machine
repeating =
    feeding_by (λ r piece carry scratch reply.
    cond (is_crowded r && equals piece noise) (leaving_table r.table (consuming 1 (feed_of r data_piece carry scratch reply)))
    (feed_of r piece carry scratch reply))

-- ---- receive sessions
-- a home path ends the listing of the session at the second place too
abbrev pub serving : SessionState → SessionState
serving SessionState.Absent = SessionState.Absent
serving SessionState.Asked = SessionState.Asked
serving SessionState.Open = SessionState.Open
serving SessionState.Naming = SessionState.Naming
serving SessionState.Waiting = SessionState.Waiting
serving SessionState.Listing = SessionState.Serving
serving SessionState.Serving = SessionState.Serving

abbrev pub ending_all : Machine
ending_all =
    supplying_by (λ r u out.
    let o = supply_of r u out in
    let t = o.answer.receiver.table in
    let s = session_at t 1 in
    outcome (leaving (put_session t 1 (with_state s (serving s.state))) o.answer) o.buffer)

-- a part is written with the ids of the session at the first place
abbrev pub part_of_the_first : Machine
part_of_the_first = writing_as (λ r. with_table r (with_owed r.table (for_the_first r.table.owed))) (λ u. u)

-- ---- useless
-- it takes all bytes and does nothing, so that nothing hangs on anything
abbrev pub idle : Machine
idle = feeding_by (λ r piece carry scratch reply. consuming (length piece) (feeding (feed_refused r 9) carry scratch reply))

-- ---- the claim is false of each; the useless one meets it, and sees nothing of what ours sees
pub record Leaks : Type 0 where
  pub drop_clears_all : Isolated clearing → ⊥
  pub done_settles_the_first : Isolated settling_first → ⊥
  pub ids_up_to_the_shorter : Isolated short_ids → ⊥
  pub full_table_evicts : Isolated evicting → ⊥
  pub busy_with_three : Isolated busy_at_three → ⊥
  pub cancel_frees_two : Isolated freeing_two → ⊥
  pub allow_opens_the_first : Isolated allowing_first → ⊥
  pub quiet_of_another : Isolated quiet_of_the_first → ⊥
  pub reply_in_anothers_name : Isolated misnaming → ⊥
  pub count_of_another : Isolated count_of_the_first → ⊥
  pub parts_mixed : Isolated mixing_parts → ⊥
  pub command_lost : Isolated losing_commands → ⊥
  pub noise_replied : Isolated humming → ⊥
  pub short_buffer_replied : Isolated whispering → ⊥
  pub part_at_noise : Isolated repeating → ⊥
  pub home_ends_all : Isolated ending_all → ⊥
  pub part_under_another_id : Isolated part_of_the_first → ⊥
  pub nothing_seen : SeesAlike idle → ⊥
