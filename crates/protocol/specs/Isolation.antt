-- "A statement for the auditors", of a machine: what one session gets does not hang on the others (the field says noninterference).
-- Two runs from fresh receivers with the same commands, console calls and answers for session A, in the same order, agree on all that A
-- gets.
use Rattle.std.specs.Prelude.{ℕ, ◌≡◌, Bool, true, false, not, cond, ◌&&◌, ◌||◌, List, [], ◌∷◌, ◌++◌, take, eqb, Option, Some, None, is_some}
use Rattle.octets.specs.Slices.{equals}
use Rattle.octets.specs.Outcome.{Outcome}
use Rattle.frames.specs.Stream.{stream}
use Rattle.command.specs.Meaning.{id_of, action_code}
use Rattle.command.specs.Slots.{values_of}
use Rattle.command.specs.Slots as Slots
use Rattle.command.specs.declared.Action.TheVariants as Action
use Rattle.protocol.specs.Table.{absent_session, session_at, find_session, first, is_absent}
use Rattle.protocol.specs.Sessions.{string_in}
use Rattle.protocol.specs.Supplies.{Supply, entry_command, error_values}
use Rattle.protocol.specs.History.{Command, read_in, commands_in, Question, last_ask, mode_after, marks_of}
use Rattle.protocol.specs.Machine.{Machine, Call, World, is_refused, step, start}
use Rattle.protocol.specs.Sound.{due_of}
use Rattle.protocol.specs.Cuts.{Saying, saying, after, AllLent}
use Rattle.protocol.specs.declared.Session.{Session}
use Rattle.protocol.specs.declared.Due.{Due}
use Rattle.protocol.specs.declared.Table.{Table}
use Rattle.protocol.specs.declared.Failure.{Failure}
use Rattle.protocol.specs.declared.Told.{Told}
use Rattle.protocol.specs.declared.Answered.{Answered}

-- ---- "the same commands, console calls and answers for session A", each by its values: places, texts and buffers do not count
pub data Act : Type 0 where
  command : Command → Act
  allow : Act
  deny : Act
  drop : Act
  done : Act
  failed : (code : Failure) → Act
  unlisted : Act
  -- a file of the listing, and why a path is not listed: by the command that it makes
  list : Command → Act
  list_failed : (code : Failure) → Command → Act
  home : (path : List ℕ) → Act
  part : (last : Bool) (bytes : List ℕ) → Act

-- the commands with A's id. They are those found in the bytes consumed, not those that the machine reports: one that loses A's command
-- would report none, and nothing would be said of it.
abbrev pub command_acts : List ℕ → List Command → List Act
command_acts A [] = []
command_acts A (d ∷ ds) = cond (equals (id_of d) A) (Act.command d ∷ command_acts A ds) (command_acts A ds)

-- done, failed, unlisted and the parts name no session: "done and failed answer the ask told last", which is for the id of its command
abbrev pub is_asker : List ℕ → Question → Bool
is_asker A Question.none = false
is_asker A (Question.asks d h) = equals (id_of d) A

abbrev pub asked_last : World → Question
asked_last w = last_ask (marks_of w.history)

-- "Refused calls .. are not part of this": one is nobody's act, and may stand in one of the runs only
abbrev pub unless_refused : Bool → Told → Act → List Act
unless_refused mine told a = cond (mine && not (is_refused told)) (a ∷ []) []

-- what the console supplies: the listing and the home path by their id, a part as an answer
abbrev pub is_supplied_to : List ℕ → Question → Supply → Bool
is_supplied_to A q (Supply.list e text contents) = equals (string_in text e.id) A
is_supplied_to A q (Supply.list_failed text id path code) = equals (string_in text id) A
is_supplied_to A q (Supply.home id path) = equals id A
is_supplied_to A q (Supply.part last bytes) = is_asker A q

abbrev pub supply_act : Supply → Act
supply_act (Supply.list e text contents) = Act.list (values_of (entry_command e) text contents)
supply_act (Supply.list_failed text id path code) = Act.list_failed code (error_values text id path code)
supply_act (Supply.home id path) = Act.home path
supply_act (Supply.part last bytes) = Act.part last bytes

module _ (m : Machine) (A : List ℕ) where
  abbrev pub acts_at : World → Call → List Act
  acts_at w (Call.feed piece carry scratch reply) =
      command_acts A (read_in (stream (mode_after w.history)
      (take (m.feeds w.receiver piece carry scratch reply).fed.consumed piece)).0)
  acts_at w (Call.allow id reply) = unless_refused (equals id A) (m.allows w.receiver id reply).answer.told Act.allow
  acts_at w (Call.deny id reply) = unless_refused (equals id A) (m.denies w.receiver id reply).answer.told Act.deny
  acts_at w (Call.drop id) = unless_refused (equals id A) (m.drops w.receiver id).told Act.drop
  acts_at w (Call.done reply) = unless_refused (is_asker A (asked_last w)) (m.dones w.receiver reply).answer.told Act.done
  acts_at w (Call.failed code reply) =
      unless_refused (is_asker A (asked_last w)) (m.fails w.receiver code reply).answer.told (Act.failed code)
  acts_at w (Call.unlisted reply) = unless_refused (is_asker A (asked_last w)) (m.unlists w.receiver reply).answer.told Act.unlisted
  acts_at w (Call.supply u out) =
      unless_refused (is_supplied_to A (asked_last w) u) (m.supplies w.receiver u out).answer.told (supply_act u)

  -- "in the same order": one list of all of them
  abbrev pub acts : World → List Call → List Act
  acts w [] = []
  acts w (c ∷ cs) = acts_at w c ++ acts (step m w c) cs

-- ---- "A's replies, parts and records"
-- what leaves at a call: what is told, a part by its bytes, and every byte replied or written, whatever the buffer's room
pub record Seen : Type 0 where
  pub said : Saying
  pub reply : List ℕ

abbrev pub answered : Outcome Answered → Seen
answered o = record { said = saying o.answer.told []; reply = take o.answer.reply_len o.buffer }

abbrev pub leaving : Machine → World → Call → Seen
leaving m w (Call.feed piece carry scratch reply) =
    let f = m.feeds w.receiver piece carry scratch reply in
    record { said = saying f.fed.told f.scratch; reply = take f.fed.reply_len f.reply }
leaving m w (Call.allow id reply) = answered (m.allows w.receiver id reply)
leaving m w (Call.deny id reply) = answered (m.denies w.receiver id reply)
leaving m w (Call.drop id) = record { said = saying (m.drops w.receiver id).told []; reply = [] }
leaving m w (Call.done reply) = answered (m.dones w.receiver reply)
leaving m w (Call.failed code reply) = answered (m.fails w.receiver code reply)
leaving m w (Call.unlisted reply) = answered (m.unlists w.receiver reply)
leaving m w (Call.supply u out) = answered (m.supplies w.receiver u out)

-- A sees what leaves at its own acts
abbrev pub is_any : List Act → Bool
is_any [] = false
is_any (a ∷ as') = true

-- and, at whichever call, bytes in which a command has its id: all sessions share one line, and the office takes what has its id
abbrev pub is_named : List ℕ → List ℕ → Bool
is_named A bytes = is_any (command_acts A (commands_in bytes))

-- and, at whichever call, an ask that is for it
abbrev pub is_asking : Saying → Bool
is_asking Saying.nothing = false
is_asking (Saying.refused n) = false
is_asking Saying.ignored = false
is_asking Saying.drag_drop = false
is_asking Saying.asked = false
is_asking Saying.naming = false
is_asking Saying.path = false
is_asking Saying.last_path = false
is_asking (Saying.asks h) = true
is_asking (Saying.status w) = false
is_asking Saying.withdrawn = false
is_asking Saying.discarded = false
is_asking Saying.committed = false

abbrev pub is_seen : List ℕ → List Act → Question → Seen → Bool
is_seen A as' q s = is_any as' || (is_named A s.reply || (is_asking s.said && is_asker A q))

module _ (m : Machine) (A : List ℕ) where
  abbrev pub seen_at : World → Call → List Seen
  seen_at w c = let s = leaving m w c in cond (is_seen A (acts_at m A w c) (asked_last (step m w c)) s) (s ∷ []) []

  abbrev pub seen : World → List Call → List Seen
  seen w [] = []
  seen w (c ∷ cs) = seen_at w c ++ seen (step m w c) cs

-- the session with its file records, and what is owed for it
pub record Records : Type 0 where
  pub session : Session
  pub due : Option Due

abbrev pub records : Session → Option Due → Records
records s d = record { session = s; due = d }

-- found by the id: "the choice of place" is not part of this. An absent session is free room, and owes nothing.
abbrev pub records_at : Table → Option ℕ → Records
records_at t None = records absent_session None
records_at t (Some i) = records (session_at t i) (due_of t.owed i)

abbrev pub records_of : List ℕ → Table → Records
records_of A t = records_at t (find_session t A)

-- ---- "every send or receive of A that came while A was absent met a free place"
abbrev pub begins : Act → Bool
begins (Act.command d) = eqb (action_code d) (Slots.action_code Action.Send) || eqb (action_code d) (Slots.action_code Action.Receive)
begins Act.allow = false
begins Act.deny = false
begins Act.drop = false
begins Act.done = false
begins (Act.failed code) = false
begins Act.unlisted = false
begins (Act.list d) = false
begins (Act.list_failed code d) = false
begins (Act.home path) = false
begins (Act.part last bytes) = false

abbrev pub any_begins : List Act → Bool
any_begins [] = false
any_begins (a ∷ as') = begins a || any_begins as'

abbrev pub is_at : Option ℕ → Bool
is_at f = is_some f

-- a place of the table is free: not "EBUSY was not answered", which a receiver that is busy with three present would meet
abbrev pub has_room : Table → Bool
has_room t = is_at (first is_absent t.sessions)

module _ (m : Machine) (A : List ℕ) where
  abbrev pub Met : World → Call → Type 0
  Met w c = let t = w.receiver.table in
      any_begins (acts_at m A w c) ≡ true → find_session t A ≡ None → has_room t ≡ true

  abbrev pub AllMet : World → List Call → Type 0
  AllMet w [] = Unit {0}
  AllMet w (c ∷ cs) = Met w c × AllMet (step m w c) cs

-- ---- the claim: of any id and any two lists of calls, each from a fresh receiver, any first carry, and each feed lent the kept carry
abbrev pub Isolated : Machine → Type 0
Isolated m = (A carry₁ carry₂ : List ℕ) (cs₁ cs₂ : List Call) → AllLent m (start carry₁) cs₁ → AllLent m (start carry₂) cs₂
    → AllMet m A (start carry₁) cs₁ → AllMet m A (start carry₂) cs₂
    → acts m A (start carry₁) cs₁ ≡ acts m A (start carry₂) cs₂
    → (seen m A (start carry₁) cs₁ ≡ seen m A (start carry₂) cs₂)
    × (records_of A (after m (start carry₁) cs₁).receiver.table ≡ records_of A (after m (start carry₂) cs₂).receiver.table)
