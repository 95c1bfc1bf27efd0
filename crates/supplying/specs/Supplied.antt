-- What is supplied by the code's calls, and what it leaves of the one session that it concerns: protocol's `supply_of` without its table.
use Rattle.std.specs.Prelude.{ℕ, cond, List, length, ltb, Option, Some, None}
use Rattle.octets.specs.Outcome.{Outcome, outcome}
use Rattle.command.specs.Slots.{nowhere}
use Rattle.command.specs.Write.{Answer}
use Rattle.command.specs.Framed.{frame_room}
use Rattle.protocol.specs.Supplies.{Supply, is_over, framed_for, is_held_back, change_for}
use Rattle.protocol.specs.declared.Due.{Due}
use Rattle.protocol.specs.declared.Session.{Session}
use Rattle.protocol.specs.declared.Told.{Told}
use Rattle.sessions.specs.Leaving.{next_by}
use Rattle.sessions.specs.declared.next.Next.{Next}
use Rattle.supplying.specs.declared.Supplying.{Supplying}
use Rattle.supplying.specs.declared.Left.{Left}
use Rattle.supplying.specs.declared.Given.{Given}

abbrev pub supply_in : Supplying → (text contents : List ℕ) → Supply
supply_in (Supplying.List e) text contents = Supply.list e text contents
supply_in (Supplying.ListFailed id path code) text contents = Supply.list_failed text id path code
supply_in Supplying.Home text contents = Supply.home text contents
supply_in (Supplying.Part last) text contents = Supply.part last contents

-- with its two slices
abbrev pub given_in : Given → Supply
given_in g = supply_in g.supplying g.text.now g.contents.now

-- ---- what is left
abbrev pub leaves : Session → Option (ℕ × Due) → Told → ℕ → Left
leaves s o w n = record { session = s; owed = o; told = w; written = n }

abbrev pub unsupplied : Session → Option (ℕ × Due) → ℕ → Left
unsupplied s o n = leaves s o (Told.Refused n) 0

-- a step, unless the writer refuses
abbrev pub settled_by : Session → Option (ℕ × Due) → Next → Answer → Left
settled_by s o x (Answer.refused n) = unsupplied s o n
settled_by s o x (Answer.written n) = leaves x.session x.owed x.told n

-- of what is held back no byte is written
abbrev pub held_answer : Answer → Answer
held_answer (Answer.refused n) = Answer.refused n
held_answer (Answer.written n) = Answer.written 0

-- ---- the call
-- the session is at place i, "then the writer's refusals"
unfoldable pub taken_in : Supply → ℕ → Session → Option (ℕ × Due) → List ℕ → Outcome Left
taken_in u i s o out =
    let x = framed_for s u out in
    let a = next_by s i o nowhere (change_for u) in
    cond (is_held_back s u) (outcome (settled_by s o a (held_answer x.answer)) out) (outcome (settled_by s o a x.answer) x.buffer)

abbrev pub found_in : Supply → Option ℕ → Session → Option (ℕ × Due) → List ℕ → Outcome Left
found_in u None s o out = outcome (unsupplied s o 18) out
found_in u (Some i) s o out = taken_in u i s o out

-- 9 first, then 17 and 18
unfoldable pub supplied_in : Supply → Option ℕ → Session → Option (ℕ × Due) → List ℕ → Outcome Left
supplied_in u f s o out =
    cond (ltb (length out) frame_room) (outcome (unsupplied s o 9) out)
    (cond (is_over u) (outcome (unsupplied s o 17) out) (found_in u f s o out))
