-- What the program calls after a feed: one call, or none. And what a turn leaves by it.
use Rattle.std.specs.Prelude.{◌≡◌, Option, Some, None, List, ℕ}
use Rattle.protocol.specs.Calls.{Feeding}
use Rattle.protocol.specs.declared.Receiver.{Receiver}
use Rattle.protocol.specs.declared.Told.{Told}
use Rattle.session_in_place.specs.declared.Call.{Call}
use Rattle.protocol.specs.Replay.{replayed_of, fed_id}

-- the call that answers; none, where nothing is to answer
abbrev pub call_for : Told → Option Call
call_for Told.Nothing = None
call_for (Told.Refused n) = None
call_for Told.Ignored = None
call_for Told.DragDrop = None
call_for Told.Asked = Some Call.Allow
call_for Told.Naming = None
call_for Told.Path = None
call_for Told.LastPath = Some Call.Allow
call_for (Told.Ask a) = Some Call.Done
call_for (Told.Status w) = None
call_for Told.Withdrawn = None
call_for Told.Discarded = None
call_for Told.Committed = None

-- a receiver, a carry and a scratch after that feed of the piece and its answer
abbrev pub LeftByTurn : Receiver → (carry scratch piece : List ℕ) → Feeding → Type 0
LeftByTurn r carry scratch piece f =
    (carry ≡ f.carry) × (scratch ≡ f.scratch)
    × (r ≡ replayed_of f.fed.receiver f.fed.told (fed_id piece f) f.reply)
