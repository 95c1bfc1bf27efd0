-- Wrong receivers, made by wrapping our calls, each with one error. A claim that held of one of them would be worth nothing; `Teeth` says
-- that the claims are false of each.
use Rattle.std.specs.Prelude.{cond, ◌&&◌, ℕ, zero, suc, ◌+◌, List, [], ◌∷◌, length, Option, Some, None}
use Rattle.octets.specs.Ascii.{ascii}
use Rattle.octets.specs.Outcome.{Outcome, outcome}
use Rattle.octets.specs.Slices.{equals}
use Rattle.frames.specs.Stream.{framed}
use Rattle.frames.specs.declared.Framing.TheVariants as Framing
use Rattle.protocol.specs.Table.{free_file, session_at, file_at, is_done, put_session, put_file, moved, with_state}
use Rattle.protocol.specs.Calls.{Feeding, feed_of, allow_of, deny_of, drop_of, done_of, failed_of, unlisted_of}
use Rattle.protocol.specs.Supplies.{Supply, supply_of}
use Rattle.protocol.specs.Machine.{Machine, is_unfed}
use Rattle.protocol.specs.Sound.{EverySound}
use Rattle.protocol.specs.Promises.{EveryCall}
use Rattle.protocol.specs.Claim.{EveryHistory}
use Rattle.protocol.specs.Cuts.{CutsAlike}
use Rattle.protocol.specs.Counts.{EveryCount}
use Rattle.protocol.specs.declared.SessionState.{SessionState}
use Rattle.protocol.specs.declared.FileRecord.{FileRecord}
use Rattle.protocol.specs.declared.Session.{Session}
use Rattle.protocol.specs.declared.Due.{Due}
use Rattle.protocol.specs.declared.Table.{Table}
use Rattle.protocol.specs.declared.Receiver.{Receiver}
use Rattle.protocol.specs.declared.Failure.{Failure}
use Rattle.protocol.specs.declared.Answered.{Answered}

-- ---- pieces: the commands of session m and its file a
abbrev pub send_piece : List ℕ
send_piece = framed (ascii "5113;ac=send;id=m")

abbrev pub file_piece : List ℕ
file_piece = framed (ascii "5113;ac=file;id=m;fid=a;n=L256")

-- with a declared length of five bytes
abbrev pub declared_piece : List ℕ
declared_piece = framed (ascii "5113;ac=file;id=m;fid=a;sz=5;n=L256")

abbrev pub directory_piece : List ℕ
directory_piece = framed (ascii "5113;ac=file;id=m;fid=a;ft=directory;n=L256")

abbrev pub data_piece : List ℕ
data_piece = framed (ascii "5113;ac=data;id=m;fid=a;d=YWJj")

-- data of another file, whose id begins with a's
abbrev pub longer_id_piece : List ℕ
longer_id_piece = framed (ascii "5113;ac=data;id=m;fid=ab;d=YWJj")

abbrev pub end_piece : List ℕ
end_piece = framed (ascii "5113;ac=end_data;id=m;fid=a;d=QQ==")

abbrev pub cancel_piece : List ℕ
cancel_piece = framed (ascii "5113;ac=cancel;id=m")

abbrev pub status_piece : List ℕ
status_piece = framed (ascii "5113;ac=status;id=m")

-- ---- wrappers
-- our deny and unlisted, and six other calls
abbrev pub calling : (Receiver → List ℕ → List ℕ → List ℕ → List ℕ → Feeding) → (Receiver → List ℕ → List ℕ → Outcome Answered)
    → (Receiver → List ℕ → Answered) → (Receiver → List ℕ → Outcome Answered) → (Receiver → Failure → List ℕ → Outcome Answered)
    → (Receiver → Supply → List ℕ → Outcome Answered) → Machine
calling feeds allows drops dones fails supplies =
    record {
      feeds = feeds;
      allows = allows;
      denies = deny_of;
      drops = drops;
      dones = dones;
      fails = fails;
      unlists = unlisted_of;
      supplies = supplies;
    }

-- our calls but for one
abbrev pub feeding_by : (Receiver → List ℕ → List ℕ → List ℕ → List ℕ → Feeding) → Machine
feeding_by f = calling f allow_of drop_of done_of failed_of supply_of

abbrev pub allowing_by : (Receiver → List ℕ → List ℕ → Outcome Answered) → Machine
allowing_by f = calling feed_of f drop_of done_of failed_of supply_of

abbrev pub dropping_by : (Receiver → List ℕ → Answered) → Machine
dropping_by f = calling feed_of allow_of f done_of failed_of supply_of

abbrev pub answering_by : (Receiver → List ℕ → Outcome Answered) → Machine
answering_by f = calling feed_of allow_of drop_of f failed_of supply_of

abbrev pub failing_by : (Receiver → Failure → List ℕ → Outcome Answered) → Machine
failing_by f = calling feed_of allow_of drop_of done_of f supply_of

abbrev pub supplying_by : (Receiver → Supply → List ℕ → Outcome Answered) → Machine
supplying_by f = calling feed_of allow_of drop_of done_of failed_of f

abbrev pub with_table : Receiver → Table → Receiver
with_table r t = record { framing = r.framing; table = t }

-- a feed that says to have consumed n bytes
abbrev pub consuming : ℕ → Feeding → Feeding
consuming n f =
    record {
      fed = record {
        receiver = f.fed.receiver;
        consumed = n;
        report = f.fed.report;
        told = f.fed.told;
        command = f.fed.command;
        reply_len = f.fed.reply_len;
      };
      carry = f.carry;
      scratch = f.scratch;
      reply = f.reply;
    }

-- what a call answers, with another table
abbrev pub leaving : Table → Answered → Answered
leaving t a = record { receiver = with_table a.receiver t; told = a.told; reply_len = a.reply_len }

-- a feed that leaves another table
abbrev pub leaving_table : Table → Feeding → Feeding
leaving_table t f =
    record {
      fed = record {
        receiver = with_table f.fed.receiver t;
        consumed = f.fed.consumed;
        report = f.fed.report;
        told = f.fed.told;
        command = f.fed.command;
        reply_len = f.fed.reply_len;
      };
      carry = f.carry;
      scratch = f.scratch;
      reply = f.reply;
    }

-- a feed that says to have replied with n bytes
abbrev pub replying : ℕ → Feeding → Feeding
replying n f =
    record {
      fed = record {
        receiver = f.fed.receiver;
        consumed = f.fed.consumed;
        report = f.fed.report;
        told = f.fed.told;
        command = f.fed.command;
        reply_len = n;
      };
      carry = f.carry;
      scratch = f.scratch;
      reply = f.reply;
    }

-- one piece is taken for another, by the receiver as f changes it
abbrev pub mistaking : List ℕ → List ℕ → (Receiver → Receiver) → Machine
mistaking one other f =
    feeding_by (λ r piece carry scratch reply.
    cond (equals piece one) (consuming (length one) (feed_of (f r) other carry scratch reply)) (feed_of r piece carry scratch reply))

-- done answers as if the table were another
abbrev pub answering_of : (Table → Option (ℕ × Due) → Table) → Machine
answering_of f = answering_by (λ r. done_of (with_table r (f r.table r.table.owed)))

-- the table with something else owed, and with another file record
abbrev pub with_owed : Table → Option (ℕ × Due) → Table
with_owed t o = record { sessions = t.sessions; owed = o }

abbrev pub with_file : Table → ℕ → ℕ → FileRecord → Table
with_file t i j f = put_session t i (put_file (session_at t i) j f)

-- what is owed, a last part changed
abbrev pub with_last : (ℕ → ℕ → Due) → Option (ℕ × Due) → Option (ℕ × Due)
with_last f None = None
with_last f (Some (i, Due.OpenFile j)) = Some (i, Due.OpenFile j)
with_last f (Some (i, Due.OpenDirectory j)) = Some (i, Due.OpenDirectory j)
with_last f (Some (i, Due.Write j n)) = Some (i, Due.Write j n)
with_last f (Some (i, Due.WriteLast j n)) = Some (i, f j n)
with_last f (Some (i, Due.Commit)) = Some (i, Due.Commit)
with_last f (Some (i, Due.Request)) = Some (i, Due.Request)

-- ---- wrong counts
-- one too small, in the record and in the reply
abbrev pub less : ℕ → ℕ
less zero = zero
less (suc n) = n

abbrev pub one_too_small : Machine
one_too_small = answering_of (λ t o. with_owed t (with_last (λ j n. Due.WriteLast j (less n)) o))

-- that of the last part only, in the record and in the reply
abbrev pub uncounted : Table → Option (ℕ × Due) → Table
uncounted t None = t
uncounted t (Some (i, Due.OpenFile j)) = t
uncounted t (Some (i, Due.OpenDirectory j)) = t
uncounted t (Some (i, Due.Write j n)) = t
uncounted t (Some (i, Due.WriteLast j n)) = let f = file_at (session_at t i) j in with_file t i j (moved f f.state 0)
uncounted t (Some (i, Due.Commit)) = t
uncounted t (Some (i, Due.Request)) = t

abbrev pub last_only : Machine
last_only = answering_of uncounted

-- that of each part twice: when its write is asked, and when it is answered
abbrev pub counted_ahead : Table → Option (ℕ × Due) → Table
counted_ahead t None = t
counted_ahead t (Some (i, Due.OpenFile j)) = t
counted_ahead t (Some (i, Due.OpenDirectory j)) = t
counted_ahead t (Some (i, Due.Write j n)) = let f = file_at (session_at t i) j in with_file t i j (moved f f.state (f.count + n))
counted_ahead t (Some (i, Due.WriteLast j n)) = t
counted_ahead t (Some (i, Due.Commit)) = t
counted_ahead t (Some (i, Due.Request)) = t

abbrev pub counted_twice : Machine
counted_twice =
    feeding_by (λ r piece carry scratch reply.
    let f = feed_of r piece carry scratch reply in
    let t = f.fed.receiver.table in
    leaving_table (counted_ahead t t.owed) f)

-- a reply whose `sz` is one more than the record's count
abbrev pub other_size : Machine
other_size =
    answering_by (λ r reply.
    let b = done_of (with_table r (with_owed r.table (with_last (λ j n. Due.WriteLast j (suc n)) r.table.owed))) reply in
    let a = b.answer in
    outcome (record { receiver = (done_of r reply).answer.receiver; told = a.told; reply_len = a.reply_len }) b.buffer)

-- ---- wrong parts
-- data that is read and never handed over
abbrev pub skipping : Machine
skipping = mistaking data_piece status_piece (λ r. r)

-- a part handed over once more, at a feed of nothing
abbrev pub twice : Machine
twice = mistaking [] data_piece (λ r. r)

-- a part of another file: its id is compared up to the shorter one's end
abbrev pub shorter_ids : Machine
shorter_ids = mistaking longer_id_piece data_piece (λ r. r)

-- ---- wrong starts and ends
-- open is asked on data for an unknown file, whose bytes are lost
abbrev pub data_opens : Machine
data_opens = mistaking data_piece file_piece (λ r. r)

-- no EEXIST: a directory takes the record of a started file
abbrev pub reopening : Machine
reopening = mistaking directory_piece directory_piece (λ r. with_table r (with_file r.table 0 0 free_file))

-- no EEXIST: a file command for a done file opens its record again, and its count goes on from the old one
abbrev pub count_kept : Table → Option (ℕ × Due) → Answered → Answered
count_kept t None a = a
count_kept t (Some (i, Due.OpenFile j)) a =
    let t' = a.receiver.table in
    let f = file_at (session_at t' i) j in
    leaving (with_file t' i j (moved f f.state (file_at (session_at t i) j).count)) a
count_kept t (Some (i, Due.OpenDirectory j)) a = a
count_kept t (Some (i, Due.Write j n)) a = a
count_kept t (Some (i, Due.WriteLast j n)) a = a
count_kept t (Some (i, Due.Commit)) a = a
count_kept t (Some (i, Due.Request)) a = a

abbrev pub going_on : Machine
going_on =
    calling (λ r piece carry scratch reply.
    let old = file_at (session_at r.table 0) 0 in
    let again = feed_of (with_table r (with_file r.table 0 0 free_file)) piece carry scratch reply in
    let t = again.fed.receiver.table in
    let new = file_at (session_at t 0) 0 in
    cond (equals piece file_piece && is_done old.state) (leaving_table (with_file t 0 0 (moved new new.state old.count)) again)
    (feed_of r piece carry scratch reply))
    allow_of drop_of
    (λ r reply. let o = done_of r reply in outcome (count_kept r.table r.table.owed o.answer) o.buffer)
    failed_of supply_of

-- a declared length is not kept, so that the file may close short of it
abbrev pub undeclaring : Machine
undeclaring = mistaking declared_piece file_piece (λ r. r)

-- a last part answered done leaves its file started
abbrev pub never_closing : Machine
never_closing = answering_of (λ t o. with_owed t (with_last Due.Write o))

-- ---- parts outside an allowed session
-- in one that was never allowed
abbrev pub opened : SessionState → SessionState
opened SessionState.Absent = SessionState.Absent
opened SessionState.Asked = SessionState.Open
opened SessionState.Open = SessionState.Open
opened SessionState.Naming = SessionState.Naming
opened SessionState.Waiting = SessionState.Waiting
opened SessionState.Listing = SessionState.Listing
opened SessionState.Serving = SessionState.Serving

abbrev pub unasked : Machine
unasked =
    feeding_by (λ r.
    let s = session_at r.table 0 in
    feed_of (with_table r (put_session r.table 0 (with_state s (opened s.state)))))

-- after a cancel was read
abbrev pub deaf : Machine
deaf = mistaking cancel_piece status_piece (λ r. r)

-- ---- tables
-- a drop leaves what is owed, also where the session dropped owed it
abbrev pub keeping_owed : Machine
keeping_owed = dropping_by (λ r id. let a = drop_of r id in leaving (with_owed a.receiver.table r.table.owed) a)

-- a session with the numbers kept of another
abbrev pub with_numbers : Session → Session → Session
with_numbers s x =
    record {
      state = s.state;
      quiet = s.quiet;
      id = s.id;
      wanted = s.wanted;
      started = x.started;
      done_bytes = x.done_bytes;
      files = s.files;
    }

-- the numbers kept in the first session stay as they were: through a drop, and through an answer
abbrev pub numbers_of : Table → Table → Table
numbers_of t t' = put_session t' 0 (with_numbers (session_at t' 0) (session_at t 0))

abbrev pub keeping_numbers : Machine
keeping_numbers = dropping_by (λ r id. let a = drop_of r id in leaving (numbers_of r.table a.receiver.table) a)

abbrev pub uncounting : Machine
uncounting =
    answering_by (λ r reply.
    let b = done_of r reply in outcome (leaving (numbers_of r.table b.answer.receiver.table) b.answer) b.buffer)

-- an open that failed leaves its record opening
abbrev pub stuck_opening : Machine
stuck_opening =
    failing_by (λ r code reply.
    let b = failed_of r code reply in outcome (leaving (with_owed r.table None) b.answer) b.buffer)

-- ---- cuts
-- a closer is lost whose 1B and 5C fall in two pieces
abbrev pub closer_lost : Machine
closer_lost =
    feeding_by (λ r piece carry scratch reply.
    cond (equals piece (0x5C ∷ [])) (feed_of (record { framing = Framing.Plain; table = r.table }) piece carry scratch reply)
    (feed_of r piece carry scratch reply))

-- ---- single calls
-- a feed that is refused takes a byte
abbrev pub hungry : Machine
hungry =
    feeding_by (λ r piece carry scratch reply.
    let f = feed_of r piece carry scratch reply in
    cond (is_unfed f.fed.told) (consuming 1 f) f)

-- a feed that is refused answers a reply
abbrev pub talking : Machine
talking =
    feeding_by (λ r piece carry scratch reply.
    let f = feed_of r piece carry scratch reply in
    cond (is_unfed f.fed.told) (replying 1 f) f)

-- a feed that is not refused takes none
abbrev pub stalling : Machine
stalling = feeding_by (λ r piece carry scratch reply. consuming 0 (feed_of r piece carry scratch reply))

-- ---- the claims are false of each
pub record Teeth : Type 0 where
  pub count_one_too_small : EveryHistory one_too_small → ⊥
  pub count_of_the_last_part : EveryHistory last_only → ⊥
  pub counted_when_asked : EveryHistory counted_twice → ⊥
  pub other_size_replied : EveryHistory other_size → ⊥
  pub data_skipped : EveryHistory skipping → ⊥
  pub part_twice : EveryHistory twice → ⊥
  pub ids_up_to_the_shorter : EveryHistory shorter_ids → ⊥
  pub opened_by_data : EveryHistory data_opens → ⊥
  pub directory_over_a_started_file : EveryHistory reopening → ⊥
  pub counted_on_from_the_old : EveryHistory going_on → ⊥
  pub closed_short : EveryHistory undeclaring → ⊥
  pub never_closed : EveryHistory never_closing → ⊥
  pub never_allowed : EveryHistory unasked → ⊥
  pub after_a_cancel : EveryHistory deaf → ⊥
  pub dropped_owes : EverySound keeping_owed → ⊥
  pub opening_for_good : EverySound stuck_opening → ⊥
  pub dropped_counts : EveryCount keeping_numbers → ⊥
  pub started_uncounted : EveryCount uncounting → ⊥
  pub cut_closer_lost : CutsAlike closer_lost → ⊥
  pub refused_feed_consumes : EveryCall hungry → ⊥
  pub refused_feed_replies : EveryCall talking → ⊥
  pub feed_stalls : EveryCall stalling → ⊥
