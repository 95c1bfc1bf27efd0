-- A file id over 32 bytes is refused as the writer refuses it.
use Prim.Native.Nat.{ℕ, ◌≤◌, ◌<◌}
use mathlib.Core.Path.{◌≡◌, refl, ◌∙◌}
use mathlib.Core.Bool.{Bool, true, false, cond}
use mathlib.Core.List.{List, [], ◌∷◌}
use lib.ListN.{length}
use borrow.Author.Tests.{lt-ltb, le-ltb}
use Rattle.octets.specs.Members.{every}
use Rattle.octets.specs.Split.{split, onto}
use Rattle.command.specs.Letters.{safe_byte}
use Rattle.command.specs.Keys.{Kind, keys}
use Rattle.command.specs.Values.{Value, text_or, unshown, word_shown, safe_shown, shown}
use Rattle.command.specs.Write.{Checked, before, checked_of, write_of}
use Rattle.command.specs.Framed.{frame_room, framed_of}
use Rattle.command.specs.declared.Refusal.TheVariants as Refusal
use Rattle.protocol.specs.Table.{id_room}
use Rattle.sending.specs.Commands.{file_values}
use Rattle.sending.specs.Calls.{long_refusal}
use Rattle.sending.specs.Claims.{LongIdAsWritten}

text-passes : (t : List ℕ) (c : Checked) → before (text_or t) c ≡ c
text-passes [] c = refl
text-passes (x ∷ t) c = refl

id-passes : (id : List ℕ) (c : Checked) → every safe_byte id ≡ true → length id ≤ id_room
    → before (shown (Kind.safe true) (Value.bytes id)) c ≡ c
unfolding shown safe_shown
id-passes id c e l = rw (e, le-ltb id_room (length id) l) (text-passes id c)

pub long-fails : (file : List ℕ) (c : Checked) → id_room < length file
    → before (shown (Kind.safe true) (Value.bytes file)) c ≡ Checked.fault (long_refusal file)
unfolding shown safe_shown long_refusal
long-fails file c l = rw (lt-ltb id_room (length file) l) (go (every safe_byte file))
  where
    go : (b : Bool) → before (cond b (unshown Refusal.TooLong) (unshown Refusal.UnsafeCharacter)) c ≡ Checked.fault (cond b 8 62)
    go true = refl
    go false = refl

-- the fields before the ids pass
checked : (id file name : List ℕ) (size : ℕ) → every safe_byte id ≡ true → length id ≤ id_room → id_room < length file
    → checked_of keys (file_values id file name size) ≡ Checked.fault (long_refusal file)
unfolding checked_of shown word_shown split onto
checked id file name size e l h = go _
  where
    go : (rest : Checked) → before (shown (Kind.safe true) (Value.bytes id)) (before (shown (Kind.safe true) (Value.bytes file)) rest)
        ≡ Checked.fault (long_refusal file)
    go rest = id-passes id _ e l ∙ long-fails file rest h

pub long-id_as-written : LongIdAsWritten
unfolding framed_of write_of
long-id_as-written id file name size out e l h room = rw (le-ltb (length out) frame_room room, checked id file name size e l h)
