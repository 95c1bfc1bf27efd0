-- Wrong senders, made by wrapping our calls, each with one error. A claim that held of one of them would be worth nothing; `SenderTeeth`
-- says that the claims are false of each.
use Rattle.std.specs.Prelude.{ℕ, suc, ◌+◌, ◌-◌, Bool, true, false, cond, List, [], ◌∷◌, length, take, drop, ltb, Result, Ok, Err}
use Rattle.octets.specs.Outcome.{Outcome, outcome}
use Rattle.octets.specs.Slices.{equals}
use Rattle.base64_codec.specs.Claims.{text_length}
use Rattle.decimal.specs.declared.Number.{Number}
use Rattle.frames.specs.declared.Framing.TheVariants as Framing
use Rattle.frames.specs.declared.Report.TheVariants as Report
use Rattle.command.specs.Values.{count}
use Rattle.protocol.specs.Files.{part_limit}
use Rattle.sending.specs.Transfers.{file_at, current_place, current_file, with_stage, put_file, moved}
use Rattle.sending.specs.Calls.{with_transfer, unwritten, send_of, file_of, piece_of, finish_of, Listening, listening, unheard, hear_of}
use Rattle.sending.specs.Machine.{Machine}
use Rattle.sending.specs.Every.{EverySender}
use Rattle.sending.specs.Cuts.{SenderCutsAlike}
use Rattle.sending.specs.declared.Stage.{Stage}
use Rattle.sending.specs.declared.FileStage.{FileStage}
use Rattle.sending.specs.declared.Sender.{Sender}
use Rattle.sending.specs.declared.Wrote.{Wrote}
use Rattle.sending.specs.declared.News.{News}
use Rattle.sending.specs.declared.Listened.{Listened}

-- ---- wrappers
-- our calls but for file, piece, finish or hear
abbrev pub filing_by : (Sender → (id name : List ℕ) → ℕ → List ℕ → Outcome Wrote) → Machine
filing_by f = record { sends = send_of; files = f; pieces = piece_of; finishes = finish_of; hears = hear_of }

abbrev pub piecing_by : (Sender → List ℕ → Bool → List ℕ → Outcome Wrote) → Machine
piecing_by p = record { sends = send_of; files = file_of; pieces = p; finishes = finish_of; hears = hear_of }

abbrev pub hearing_by : (Sender → (piece carry scratch : List ℕ) → Listening) → Machine
hearing_by h = record { sends = send_of; files = file_of; pieces = piece_of; finishes = finish_of; hears = h }

-- what a call that writes leaves, the sender changed
abbrev pub leaving : (Sender → Sender) → Outcome Wrote → Outcome Wrote
leaving f o = outcome (record { sender = f o.answer.sender; writing = o.answer.writing }) o.buffer

-- only where a frame was written
abbrev pub is_written : Result ℕ ℕ → Bool
is_written (Err n) = false
is_written (Ok n) = true

abbrev pub leaving_written : (Sender → Sender) → Outcome Wrote → Outcome Wrote
leaving_written f o = cond (is_written o.answer.writing) (leaving f o) o

-- what a hear leaves and tells, with another sender, and with other news
abbrev pub leaving_heard : (Sender → Sender) → Listening → Listening
leaving_heard f l =
    let a = l.listened in
    listening (record { sender = f a.sender; consumed = a.consumed; report = a.report; news = a.news }) l.carry l.scratch

abbrev pub telling : (News → News) → Listening → Listening
telling f l =
    let a = l.listened in
    listening (record { sender = a.sender; consumed = a.consumed; report = a.report; news = f a.news }) l.carry l.scratch

-- the count of the current file, changed
abbrev pub with_sent : (ℕ → ℕ) → Sender → Sender
with_sent f s =
    let t = s.transfer in
    let x = current_file t in
    with_transfer s (put_file t (current_place t) (moved x x.stage (f x.sent)))

-- ---- senders that write what is not ready
-- a file before OK
abbrev pub opened : Stage → Stage
opened Stage.Fresh = Stage.Fresh
opened Stage.Waiting = Stage.Open
opened Stage.Open = Stage.Open
opened Stage.Finished = Stage.Finished
opened Stage.Stopped = Stage.Stopped

abbrev pub early : Machine
early = filing_by (λ s. let t = s.transfer in file_of (with_transfer s (with_stage t (opened t.stage))))

-- on after a status that stops the session
abbrev pub unstopped : Stage → Stage
unstopped Stage.Fresh = Stage.Fresh
unstopped Stage.Waiting = Stage.Waiting
unstopped Stage.Open = Stage.Open
unstopped Stage.Finished = Stage.Finished
unstopped Stage.Stopped = Stage.Open

abbrev pub deaf : Machine
deaf =
    hearing_by (λ s bytes carry scratch.
    leaving_heard (λ r. with_transfer r (with_stage r.transfer (unstopped r.transfer.stage))) (hear_of s bytes carry scratch))

-- the same, with the current file stopped instead
abbrev pub is_stopped : Stage → Bool
is_stopped Stage.Fresh = false
is_stopped Stage.Waiting = false
is_stopped Stage.Open = false
is_stopped Stage.Finished = false
is_stopped Stage.Stopped = true

abbrev pub current_stopped : Sender → Sender
current_stopped s =
    let t = with_stage s.transfer Stage.Open in
    let x = current_file t in
    with_transfer s (put_file t (current_place t) (moved x FileStage.Stopped x.sent))

abbrev pub stopping_file : ℕ → News → News
stopping_file i News.Nothing = News.Nothing
stopping_file i (News.Refused n) = News.Refused n
stopping_file i News.Ignored = News.Ignored
stopping_file i News.Noted = News.Noted
stopping_file i News.Allowed = News.Allowed
stopping_file i (News.Differs j z) = News.Differs j z
stopping_file i (News.FileStopped j p) = News.FileStopped j p
stopping_file i (News.SessionStopped p) = News.FileStopped i p

abbrev pub misplacing : Machine
misplacing =
    hearing_by (λ s bytes carry scratch.
    let l = hear_of s bytes carry scratch in
    let t = l.listened.sender.transfer in
    cond (is_stopped t.stage) (telling (stopping_file (current_place t)) (leaving_heard current_stopped l)) l)

-- a piece of a file that a status stopped
abbrev pub resumed : FileStage → FileStage
resumed FileStage.Free = FileStage.Free
resumed FileStage.Sending = FileStage.Sending
resumed FileStage.Sent = FileStage.Sent
resumed FileStage.Closed = FileStage.Closed
resumed FileStage.Stopped = FileStage.Sending

abbrev pub pushing : Machine
pushing =
    piecing_by (λ s.
    let t = s.transfer in
    let x = current_file t in
    piece_of (with_transfer s (put_file t (current_place t) (moved x (resumed x.stage) x.sent))))

-- finish while a file is being sent
abbrev pub hasty : Machine
hasty =
    record {
      sends = send_of;
      files = file_of;
      pieces = piece_of;
      finishes = λ s. let t = s.transfer in
          let x = current_file t in finish_of (with_transfer s (put_file t (current_place t) (moved x FileStage.Sent x.sent)));
      hears = hear_of;
    }

-- the last piece as one of the others
abbrev pub unending : Machine
unending = piecing_by (λ s contents last. piece_of s contents false)

-- ---- senders that compare a size with another one
-- with one more than was sent: it tells that an equal size differs
abbrev pub one_more : Machine
one_more =
    hearing_by (λ s bytes carry scratch. leaving_heard (with_sent (λ n. n - 1)) (hear_of (with_sent suc s) bytes carry scratch))

-- with that of the last piece
abbrev pub last_only : Machine
last_only = piecing_by (λ s. piece_of (with_sent (λ n. 0) s))

-- with that of the pieces' Base64
abbrev pub encoding : Machine
encoding =
    piecing_by (λ s contents last out.
    let before = (current_file s.transfer).sent in
    leaving_written (with_sent (λ n. before + text_length (length contents))) (piece_of s contents last out))

-- with one to which a refused piece was added
abbrev pub counting_refused : Machine
counting_refused =
    piecing_by (λ s contents last out.
    let o = piece_of s contents last out in
    cond (ltb part_limit (length contents)) (leaving (with_sent (λ n. n + length contents)) o) o)

-- with the size declared in the file command, which is kept where the count should be
abbrev pub declaring : Machine
declaring =
    record {
      sends = send_of;
      files = λ s id name size out. leaving_written (with_sent (λ n. size)) (file_of s id name size out);
      pieces = λ s contents last out. leaving_written (with_sent (λ n. (current_file s.transfer).sent)) (piece_of s contents last out);
      finishes = finish_of;
      hears = hear_of;
    }

-- with none: it never tells that one differs
abbrev pub agreeing : News → News
agreeing News.Nothing = News.Nothing
agreeing (News.Refused n) = News.Refused n
agreeing News.Ignored = News.Ignored
agreeing News.Noted = News.Noted
agreeing News.Allowed = News.Allowed
agreeing (News.Differs i z) = News.Noted
agreeing (News.FileStopped i p) = News.FileStopped i p
agreeing (News.SessionStopped p) = News.SessionStopped p

abbrev pub trusting : Machine
trusting = hearing_by (λ s bytes carry scratch. telling agreeing (hear_of s bytes carry scratch))

-- it tells so of another file, or with another size
abbrev pub differing : (ℕ → ℕ) → (Number → Number) → News → News
differing f g News.Nothing = News.Nothing
differing f g (News.Refused n) = News.Refused n
differing f g News.Ignored = News.Ignored
differing f g News.Noted = News.Noted
differing f g News.Allowed = News.Allowed
differing f g (News.Differs i z) = News.Differs (f i) (g z)
differing f g (News.FileStopped i p) = News.FileStopped i p
differing f g (News.SessionStopped p) = News.SessionStopped p

abbrev pub other_file : Machine
other_file = hearing_by (λ s bytes carry scratch. telling (differing suc (λ z. z)) (hear_of s bytes carry scratch))

abbrev pub other_size : Machine
other_size = hearing_by (λ s bytes carry scratch. telling (differing (λ i. i) (λ z. count 0)) (hear_of s bytes carry scratch))

-- ---- senders that close a file too early
-- one file of the transfer closed
abbrev pub closing : ℕ → Sender → Sender
closing i s =
    let t = s.transfer in
    let x = file_at t i in
    with_transfer s (put_file t i (moved x FileStage.Closed x.sent))

-- with its last piece, before any OK
abbrev pub presuming : Machine
presuming =
    piecing_by (λ s contents last out.
    let o = piece_of s contents last out in
    cond last (leaving_written (closing (current_place s.transfer)) o) o)

-- with an OK whose size differs, of which it tells
abbrev pub closing_differing : News → Sender → Sender
closing_differing News.Nothing s = s
closing_differing (News.Refused n) s = s
closing_differing News.Ignored s = s
closing_differing News.Noted s = s
closing_differing News.Allowed s = s
closing_differing (News.Differs i z) s = closing i s
closing_differing (News.FileStopped i p) s = s
closing_differing (News.SessionStopped p) s = s

abbrev pub condoning : Machine
condoning =
    hearing_by (λ s bytes carry scratch.
    let l = hear_of s bytes carry scratch in
    leaving_heard (closing_differing l.listened.news) l)

-- ---- senders of no use
-- one that refuses every call
abbrev pub refusing : Machine
refusing =
    record {
      sends = λ s id out. outcome (unwritten s 18) out;
      files = λ s id name size out. outcome (unwritten s 18) out;
      pieces = λ s contents last out. outcome (unwritten s 18) out;
      finishes = λ s out. outcome (unwritten s 18) out;
      hears = λ s bytes carry scratch. listening (unheard s 9) carry scratch;
    }

-- one that says that it wrote, and leaves the buffer as it was
abbrev pub unwriting : Outcome Wrote → List ℕ → Outcome Wrote
unwriting o out = outcome o.answer out

abbrev pub mute : Machine
mute =
    record {
      sends = λ s id out. unwriting (send_of s id out) out;
      files = λ s id name size out. unwriting (file_of s id name size out) out;
      pieces = λ s contents last out. unwriting (piece_of s contents last out) out;
      finishes = λ s out. unwriting (finish_of s out) out;
      hears = hear_of;
    }

-- one that writes each piece as if it had no bytes
abbrev pub emptying : Machine
emptying = piecing_by (λ s contents. piece_of s [])

-- one that hears, and consumes nothing
abbrev pub stalling : Machine
stalling =
    hearing_by (λ s bytes carry scratch.
    listening (record { sender = s; consumed = 0; report = Report.Nothing; news = News.Nothing }) carry scratch)

-- two hears as one, which tells of the first: the second is given the sender, the carry and how many bytes are consumed
abbrev pub both : Listening → (Sender → List ℕ → ℕ → Listening) → Listening
both l next =
    let a = l.listened in
    let k = next a.sender l.carry a.consumed in
    let b : Listened =
    record {
      sender = k.listened.sender;
      consumed = a.consumed + k.listened.consumed;
      report = a.report;
      news = a.news;
    } in
    listening b k.carry l.scratch

-- one that hears a piece byte by byte: it leaves the rest where no text has ended
abbrev pub dawdling : Machine
dawdling = hearing_by (λ s bytes. hear_of s (take 1 bytes))

-- one that takes a byte more than it tells of
abbrev pub overtaking : Machine
overtaking =
    hearing_by (λ s bytes carry scratch. both (hear_of s bytes carry scratch) (λ r c n. hear_of r (take 1 (drop n bytes)) c scratch))

-- one that hears two texts at once, and tells of the first
abbrev pub swallowing : Machine
swallowing =
    hearing_by (λ s bytes carry scratch. both (hear_of s bytes carry scratch) (λ r c n. hear_of r (drop n bytes) c scratch))

-- ---- cuts
-- a closer is lost whose 1B and 5C fall in two pieces
abbrev pub closer_lost : Machine
closer_lost =
    hearing_by (λ s bytes carry scratch.
    cond (equals bytes (0x5C ∷ [])) (hear_of (record { framing = Framing.Plain; transfer = s.transfer }) bytes carry scratch)
    (hear_of s bytes carry scratch))

-- ---- the claims are false of each
pub record SenderTeeth : Type 0 where
  pub file_before_ok : EverySender early → ⊥
  pub on_after_a_stop : EverySender deaf → ⊥
  pub file_stopped_instead : EverySender misplacing → ⊥
  pub piece_of_a_stopped_file : EverySender pushing → ⊥
  pub finish_while_sending : EverySender hasty → ⊥
  pub last_piece_as_data : EverySender unending → ⊥
  pub equal_size_differs : EverySender one_more → ⊥
  pub never_differs : EverySender trusting → ⊥
  pub size_of_the_last_piece : EverySender last_only → ⊥
  pub size_of_the_base64 : EverySender encoding → ⊥
  pub refused_piece_counted : EverySender counting_refused → ⊥
  pub declared_size : EverySender declaring → ⊥
  pub other_file_named : EverySender other_file → ⊥
  pub other_size_named : EverySender other_size → ⊥
  pub closed_by_the_last_piece : EverySender presuming → ⊥
  pub closed_by_a_differing_ok : EverySender condoning → ⊥
  pub all_refused : EverySender refusing → ⊥
  pub nothing_written : EverySender mute → ⊥
  pub empty_pieces : EverySender emptying → ⊥
  pub nothing_heard : EverySender stalling → ⊥
  pub rest_left : EverySender dawdling → ⊥
  pub byte_too_many : EverySender overtaking → ⊥
  pub second_text_lost : EverySender swallowing → ⊥
  pub cut_closer_lost : SenderCutsAlike closer_lost → ⊥
