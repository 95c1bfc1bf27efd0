-- Wrong senders, of each of which `Arrives` is false. A claim that held of one of them would be worth nothing.
use Rattle.std.specs.Prelude.{ℕ, ◌-◌, Bool, false, cond, List, [], ◌++◌, map, length, take, Ok}
use Rattle.octets.specs.Ascii.{ascii}
use Rattle.octets.specs.Outcome.{Outcome, outcome}
use Rattle.command.specs.Values.{count}
use Rattle.sending.specs.Transfers.{current_place, current_file, with_stage, put_file, moved, piece_stage}
use Rattle.sending.specs.Calls.{with_transfer, unwritten, send_of, file_of, piece_of, finish_of, hear_of}
use Rattle.sending.specs.Machine.{Machine, ours}
use Rattle.sending.specs.Plans.{Order}
use Rattle.sending.specs.Exchange.{order_of}
use Rattle.sending.specs.WrongSenders.{piecing_by, hearing_by, leaving_written, leaving_heard, telling, opened, last_only, encoding}
use Rattle.sending.specs.Arrives.{Arrives}
use Rattle.sending.specs.declared.FileStage.{FileStage}
use Rattle.sending.specs.declared.SentFile.{SentFile}
use Rattle.sending.specs.declared.Transfer.{Transfer}
use Rattle.sending.specs.declared.Sender.{Sender}
use Rattle.sending.specs.declared.Wrote.{Wrote}
use Rattle.sending.specs.declared.News.{News}

-- ---- senders that write nothing
-- every call that writes answers alike
abbrev pub answering : (Sender → Wrote) → Machine
answering f =
    record {
      sends = λ s id out. outcome (f s) out;
      files = λ s id name size out. outcome (f s) out;
      pieces = λ s contents last out. outcome (f s) out;
      finishes = λ s out. outcome (f s) out;
      hears = hear_of;
    }

-- it is never ready
abbrev pub never : Machine
never = answering (λ s. unwritten s 18)

-- it finds every call at fault
abbrev pub faulting : Machine
faulting = answering (λ s. unwritten s 17)

-- it says that it wrote
abbrev pub silent : Machine
silent = answering (λ s. record { sender = s; writing = Ok 0 })

-- ---- senders that hear wrongly
-- it takes the replies, and heeds none: the OK it waits for never comes
abbrev pub heedless : Machine
heedless =
    hearing_by (λ s piece carry scratch. telling (λ n. News.Noted) (leaving_heard (λ r. s) (hear_of s piece carry scratch)))

-- it reports all: every hear tells that a size differs
abbrev pub alarmed : Machine
alarmed =
    hearing_by (λ s piece carry scratch. telling (λ n. News.Differs 0 (count 0)) (hear_of s piece carry scratch))

-- it does not see that a file is closed
abbrev pub unseen : FileStage → FileStage
unseen FileStage.Free = FileStage.Free
unseen FileStage.Sending = FileStage.Sending
unseen FileStage.Sent = FileStage.Sent
unseen FileStage.Closed = FileStage.Sent
unseen FileStage.Stopped = FileStage.Stopped

abbrev pub unclosed : Transfer → Transfer
unclosed t =
    record {
      stage = t.stage;
      id = t.id;
      files = map (λ (f : SentFile). moved f (unseen f.stage) f.sent) t.files;
      count = t.count;
    }

abbrev pub unclosing : Machine
unclosing =
    hearing_by (λ s piece carry scratch.
    leaving_heard (λ r. with_transfer r (unclosed r.transfer)) (hear_of s piece carry scratch))

-- ---- senders that do not wait
-- what waits for OK is taken for open
abbrev pub hurry : Sender → Sender
hurry s = with_transfer s (with_stage s.transfer (opened s.transfer.stage))

abbrev pub impatient : Machine
impatient =
    record {
      sends = send_of;
      files = λ s. file_of (hurry s);
      pieces = λ s. piece_of (hurry s);
      finishes = λ s. finish_of (hurry s);
      hears = hear_of;
    }

-- ---- senders that keep wrong records of a piece
-- it writes the last piece as another one, and records it as the last
abbrev pub unmarked : Bool → Outcome Wrote → Outcome Wrote
unmarked last o =
    let t = o.answer.sender.transfer in
    leaving_written
    (λ s. with_transfer s (put_file t (current_place t) (moved (current_file t) (piece_stage last) (current_file t).sent))) o

abbrev pub last_as_data : Machine
last_as_data = piecing_by (λ s contents last out. unmarked last (piece_of s contents false out))

-- ---- senders that write something else: our calls, on other orders than those given
abbrev pub mistaking : (Order → Order) → Machine
mistaking f =
    record {
      sends = λ s id. order_of ours s (f (Order.send id));
      files = λ s id name size. order_of ours s (f (Order.file id name size));
      pieces = λ s contents last. order_of ours s (f (Order.piece contents last));
      finishes = λ s. order_of ours s (f Order.finish);
      hears = hear_of;
    }

-- an order with another piece, or for another file
abbrev pub with_piece : (List ℕ → Bool → List ℕ) → Order → Order
with_piece g (Order.send id) = Order.send id
with_piece g (Order.file id name size) = Order.file id name size
with_piece g (Order.piece contents last) = Order.piece (g contents last) last
with_piece g Order.finish = Order.finish

abbrev pub with_file : (List ℕ → List ℕ → ℕ → Order) → Order → Order
with_file g (Order.send id) = Order.send id
with_file g (Order.file id name size) = g id name size
with_file g (Order.piece contents last) = Order.piece contents last
with_file g Order.finish = Order.finish

-- the tail of a file is dropped: the last byte of its last piece
abbrev pub tail_dropped : Order → Order
tail_dropped = with_piece (λ contents last. cond last (take (length contents - 1) contents) contents)

-- every piece but the last one is written empty
abbrev pub pieces_lost : Order → Order
pieces_lost = with_piece (λ contents last. cond last contents [])

-- a file gets another name, its size is left out, or it gets another id
abbrev pub renamed : Order → Order
renamed = with_file (λ id name size. Order.file id (name ++ ascii "x") size)

abbrev pub size_left_out : Order → Order
size_left_out = with_file (λ id name size. Order.file id name 0)

abbrev pub readdressed : Order → Order
readdressed = with_file (λ id name size. Order.file (id ++ ascii "x") name size)

-- ---- the claim is false of each
pub record WrongSendersFall : Type 0 where
  pub never_ready : Arrives never → ⊥
  pub faults_found : Arrives faulting → ⊥
  pub nothing_written : Arrives silent → ⊥
  pub nothing_heeded : Arrives heedless → ⊥
  pub all_reported : Arrives alarmed → ⊥
  pub never_closed : Arrives unclosing → ⊥
  pub not_waited : Arrives impatient → ⊥
  pub only_the_last_counted : Arrives last_only → ⊥
  pub letters_for_bytes : Arrives encoding → ⊥
  pub last_as_another : Arrives last_as_data → ⊥
  pub without_the_tail : Arrives (mistaking tail_dropped) → ⊥
  pub without_the_pieces : Arrives (mistaking pieces_lost) → ⊥
  pub by_another_name : Arrives (mistaking renamed) → ⊥
  pub without_the_size : Arrives (mistaking size_left_out) → ⊥
  pub by_another_id : Arrives (mistaking readdressed) → ⊥
