-- What every call by itself promises, of a machine: demand 1's sentences on refusals, progress, and the length of replies; and
-- what a reply says.
use Rattle.std.specs.Prelude.{ℕ, ◌≤◌, ◌≡◌, true, false, List, length}
use Rattle.octets.specs.Members.{every}
use Rattle.octets.specs.Outcome.{Outcome}
use Rattle.command.specs.Letters.{safe_byte}
use Rattle.command.specs.Canonical.{canonical}
use Rattle.command.specs.Meaning.{Meaning, meaning_of}
use Rattle.command.specs.Framed.{frame_room}
use Rattle.protocol.specs.Table.{id_room, session_at, file_at}
use Rattle.protocol.specs.Replies.{reply_room, status_word, status_text, status_values}
use Rattle.protocol.specs.Files.{count_limit}
use Rattle.protocol.specs.Sound.{IsId}
use Rattle.protocol.specs.Calls.{Feeding}
use Rattle.protocol.specs.Supplies.{Supply}
use Rattle.protocol.specs.Machine.{Machine, is_unfed, is_refused}
use Rattle.protocol.specs.declared.Session.{Session}
use Rattle.protocol.specs.declared.Table.{Table}
use Rattle.protocol.specs.declared.Receiver.{Receiver}
use Rattle.protocol.specs.declared.Status.{Status}
use Rattle.protocol.specs.declared.Failure.{Failure}
use Rattle.protocol.specs.declared.Answered.{Answered}

-- ---- the receivers that the type has: the arrays of ids have 32 bytes, at most, at each place
pub record SizedSession (s : Session) : Type 0 where
  pub id : length s.id.bytes ≤ id_room
  pub files : (j : ℕ) → length (file_at s j).id.bytes ≤ id_room

abbrev pub Sized : Table → Type 0
Sized t = (i : ℕ) → SizedSession (session_at t i)

-- ---- feed
pub record FeedPromise (r : Receiver) (piece carry scratch reply : List ℕ) (f : Feeding) : Type 0 where
  -- "consumes nothing and changes no memory", and sends no reply
  pub unfed : is_unfed f.fed.told ≡ true
      → (f.fed.receiver ≡ r) × (f.fed.consumed ≡ 0) × (f.fed.reply_len ≡ 0)
      × (f.carry ≡ carry) × (f.scratch ≡ scratch) × (f.reply ≡ reply)
  -- "consumes through the first thing to report": some bytes, if there are any, so that feeding the rest comes to an end
  pub progress : is_unfed f.fed.told ≡ false → 1 ≤ length piece → 1 ≤ f.fed.consumed
  pub within : f.fed.consumed ≤ length piece
  -- "No reply is longer than 124 bytes"
  pub short : f.fed.reply_len ≤ reply_room

-- ---- a call of the console that is lent a reply buffer
pub record CallPromise (r : Receiver) (reply : List ℕ) (a : Outcome Answered) : Type 0 where
  pub refused : is_refused a.answer.told ≡ true → (a.answer.receiver ≡ r) × (a.answer.reply_len ≡ 0) × (a.buffer ≡ reply)
  pub short : a.answer.reply_len ≤ reply_room

-- ---- a call that supplies something: it is refused likewise, and writes a frame at most
pub record SupplyPromise (r : Receiver) (out : List ℕ) (a : Outcome Answered) : Type 0 where
  pub refused : is_refused a.answer.told ≡ true → (a.answer.receiver ≡ r) × (a.answer.reply_len ≡ 0) × (a.buffer ≡ out)
  pub short : a.answer.reply_len ≤ frame_room

-- ---- every call
pub record Promises (m : Machine) (r : Receiver) (piece carry scratch reply id : List ℕ) (code : Failure) (u : Supply) (out : List ℕ)
    : Type 0 where
  pub feeds : FeedPromise r piece carry scratch reply (m.feeds r piece carry scratch reply)
  pub allows : CallPromise r reply (m.allows r id reply)
  pub denies : CallPromise r reply (m.denies r id reply)
  pub dones : CallPromise r reply (m.dones r reply)
  pub fails : CallPromise r reply (m.fails r code reply)
  pub drops : is_refused (m.drops r id).told ≡ true → (m.drops r id).receiver ≡ r
  pub unlists : CallPromise r reply (m.unlists r reply)
  pub supplies : SupplyPromise r out (m.supplies r u out)

abbrev pub EveryCall : Machine → Type 0
EveryCall m = (r : Receiver) → Sized r.table → (piece carry scratch reply id : List ℕ) (code : Failure) (u : Supply) (out : List ℕ)
    → Promises m r piece carry scratch reply id code u out

-- ---- what a reply says
-- "canonical text with `ac=status`, the id, the fid if the reply concerns a file, `sz` as above, `st`", which reads back as these
pub record StatusPromise (id file : List ℕ) (size : ℕ) (w : Status) : Type 0 where
  pub written : status_text id file size (status_word w) ≡ canonical (status_values id file size (status_word w))
  pub means : meaning_of (status_text id file size (status_word w)) ≡ Meaning.command (status_values id file size (status_word w))

abbrev pub EveryStatus : Type 0
EveryStatus =
    (id file : List ℕ) (size : ℕ) (w : Status) → IsId id → every safe_byte file ≡ true → length file ≤ id_room → size ≤ count_limit
    → StatusPromise id file size w
