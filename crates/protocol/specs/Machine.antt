-- A machine is eight calls; and what a list of calls on it does, one after another.
use Rattle.std.specs.Prelude.{ℕ, ◌≡◌, Bool, true, false, cond, ◌||◌, List, [], ◌∷◌, take, eqb, Option, Some, None}
use Rattle.octets.specs.Outcome.{Outcome}
use Rattle.protocol.specs.Table.{fresh_receiver}
use Rattle.protocol.specs.Calls.{Feeding, feed_of, allow_of, deny_of, drop_of, done_of, failed_of, unlisted_of}
use Rattle.protocol.specs.Supplies.{Supply, supply_of}
use Rattle.protocol.specs.History.{hearing, Part, Event}
use Rattle.protocol.specs.declared.Receiver.{Receiver}
use Rattle.protocol.specs.declared.Failure.{Failure}
use Rattle.protocol.specs.declared.Told.{Told}
use Rattle.protocol.specs.declared.Answered.{Answered}

-- ---- the calls, each a function of the receiver and of what it is lent
pub record Machine : Type 0 where
  pub feeds : Receiver → (piece carry scratch reply : List ℕ) → Feeding
  pub allows : Receiver → (id reply : List ℕ) → Outcome Answered
  pub denies : Receiver → (id reply : List ℕ) → Outcome Answered
  pub drops : Receiver → (id : List ℕ) → Answered
  pub dones : Receiver → (reply : List ℕ) → Outcome Answered
  pub fails : Receiver → Failure → (reply : List ℕ) → Outcome Answered
  pub unlists : Receiver → (reply : List ℕ) → Outcome Answered
  -- list, list_failed, home, part and last_part
  pub supplies : Receiver → Supply → (out : List ℕ) → Outcome Answered

-- the receiver's, which the contracts of its calls cite
abbrev pub ours : Machine
ours =
    record {
      feeds = feed_of;
      allows = allow_of;
      denies = deny_of;
      drops = drop_of;
      dones = done_of;
      fails = failed_of;
      unlists = unlisted_of;
      supplies = supply_of;
    }

-- "every list of feed, allow, deny, drop, done, failed (refused ones included, later requests' calls too)", each with what it is lent
pub data Call : Type 0 where
  feed : (piece carry scratch reply : List ℕ) → Call
  allow : (id reply : List ℕ) → Call
  deny : (id reply : List ℕ) → Call
  drop : (id : List ℕ) → Call
  done : (reply : List ℕ) → Call
  failed : (code : Failure) (reply : List ℕ) → Call
  unlisted : (reply : List ℕ) → Call
  supply : Supply → (out : List ℕ) → Call

-- the receiver, the carry as the last feed not refused with 9 or 10 left it, and the history so far
pub record World : Type 0 where
  pub receiver : Receiver
  pub carry : List ℕ
  pub history : List Event

-- ---- refusals that leave "nothing consumed, all memory as before"
abbrev pub refusal_told : Told → Option ℕ
refusal_told Told.Nothing = None
refusal_told (Told.Refused n) = Some n
refusal_told Told.Ignored = None
refusal_told Told.DragDrop = None
refusal_told Told.Asked = None
refusal_told Told.Naming = None
refusal_told Told.Path = None
refusal_told Told.LastPath = None
refusal_told (Told.Ask a) = None
refusal_told (Told.Status w) = None
refusal_told Told.Withdrawn = None
refusal_told Told.Discarded = None
refusal_told Told.Committed = None

-- of a feed: 9 and 10, and no other. Refusals of a text consume its bytes.
abbrev pub is_unfed : Told → Bool
is_unfed w = go (refusal_told w)
  where
    go : Option ℕ → Bool
    go None = false
    go (Some n) = eqb n 9 || eqb n 10

-- of any other call: every one
abbrev pub is_refused : Told → Bool
is_refused w = go (refusal_told w)
  where
    go : Option ℕ → Bool
    go None = false
    go (Some n) = true

-- ---- one call after another: "Each call gets the receiver that the one before returned or left"
abbrev pub after_feed : World → List ℕ → Feeding → World
after_feed w piece f =
    record {
      receiver = f.fed.receiver;
      carry = cond (is_unfed f.fed.told) w.carry f.carry;
      history = Event.fed (take f.fed.consumed piece) (hearing f.fed.told f.scratch) ∷ w.history;
    }

-- "deny, and any of these refused, adds nothing"
abbrev pub noted : Told → Event → List Event → List Event
noted t e h = cond (is_refused t) h (e ∷ h)

abbrev pub after_call : World → Answered → List Event → World
after_call w a h = record { receiver = a.receiver; carry = w.carry; history = h }

-- the part that is supplied, if it is one
abbrev pub part_of : Supply → Option Part
part_of (Supply.list e text contents) = None
part_of (Supply.list_failed text id path code) = None
part_of (Supply.home id path) = None
part_of (Supply.part last bytes) = Some (record { last = last; bytes = bytes })

abbrev pub step : Machine → World → Call → World
step m w (Call.feed piece carry scratch reply) = after_feed w piece (m.feeds w.receiver piece carry scratch reply)
step m w (Call.allow id reply) =
    let a = (m.allows w.receiver id reply).answer in after_call w a (noted a.told (Event.allowed id) w.history)
step m w (Call.deny id reply) = after_call w (m.denies w.receiver id reply).answer w.history
step m w (Call.drop id) = let a = m.drops w.receiver id in after_call w a (noted a.told (Event.dropped id) w.history)
step m w (Call.done reply) =
    let a = (m.dones w.receiver reply).answer in after_call w a (noted a.told (Event.answered true) w.history)
step m w (Call.failed code reply) =
    let a = (m.fails w.receiver code reply).answer in after_call w a (noted a.told (Event.answered false) w.history)
step m w (Call.unlisted reply) =
    let a = (m.unlists w.receiver reply).answer in after_call w a (noted a.told (Event.answered false) w.history)
step m w (Call.supply u out) =
    let o = m.supplies w.receiver u out in
    let a = o.answer in
    after_call w a (Event.wrote (cond (is_refused a.told) None (part_of u)) (take a.reply_len o.buffer) ∷ w.history)

-- "Each feed not refused with 9 or 10 gets the carry as the last such feed left it"; refused calls may be lent anything
abbrev pub Lent : Machine → World → Call → Type 0
Lent m w (Call.feed piece carry scratch reply) =
    is_unfed (m.feeds w.receiver piece carry scratch reply).fed.told ≡ false → carry ≡ w.carry
Lent m w (Call.allow id reply) = Unit {0}
Lent m w (Call.deny id reply) = Unit {0}
Lent m w (Call.drop id) = Unit {0}
Lent m w (Call.done reply) = Unit {0}
Lent m w (Call.failed code reply) = Unit {0}
Lent m w (Call.unlisted reply) = Unit {0}
Lent m w (Call.supply u out) = Unit {0}

-- "from a fresh receiver", the first carry any
abbrev pub start : List ℕ → World
start carry = record { receiver = fresh_receiver; carry = carry; history = [] }
