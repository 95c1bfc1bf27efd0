-- The values of the commands that are written by places are those of the definitions.
use Prim.Native.Nat.{ℕ, ◌≤◌, min}
use mathlib.Core.Path.{◌≡◌, ◌∙◌}
use mathlib.Core.Bool.{Bool}
use mathlib.Core.List.{List}
use native.Mathlib.Omega.{arith}
use lib.ListN.{length, take, get_or}
use lib.Seq.{take-length}
use Rattle.octets.specs.Ascii.{ascii}
use Rattle.octets.specs.Outcome.{Outcome}
use Rattle.command.specs.Values.{Value}
use Rattle.command.specs.Slots.{nowhere, slots_of, bytes_at, values_of}
use Rattle.command.specs.Write.{Answer}
use Rattle.command.specs.Framed.{framed_of}
use Rattle.command.specs.declared.Action.{Action}
use Rattle.command.specs.declared.Place.{Place}
use Rattle.command.specs.declared.Command.{Command}
use Rattle.protocol.specs.Written.{values_with, piece_action, piece_values}
use Rattle.protocol.specs.Supplies.{Supply, home_room, home_values, framed_for}
use Rattle.protocol.specs.Table.{no_file, id_of, file_id_of}
use Rattle.protocol.specs.declared.FileRecord.{FileRecord}
use Rattle.protocol.specs.declared.Session.{Session}
use Rattle.supplying.specs.Places.{up_to, from, command_with, both_in, ids_of}
use Rattle.supplying.proofs.ArrayLaws.{first-inside}
use Rattle.supplying.proofs.PlaceLaws.{at_none, at_all, at_first, at_second, take-least}

-- a command's values, from those of its places
values-with : (a : Action) (p q u v w : Place) (text scratch : List ℕ) {id file name status contents : List ℕ}
    → bytes_at text p ≡ Value.bytes id → bytes_at text q ≡ Value.bytes file → bytes_at scratch u ≡ Value.bytes name
    → bytes_at scratch v ≡ Value.bytes status → bytes_at scratch w ≡ Value.bytes contents
    → values_of (command_with a p q u v w) text scratch ≡ values_with a id file 0 name status contents
unfolding values_of slots_of
values-with a p q u v w text scratch e f g h i = rw (e, f, g, h, i, at_none text)

pub home-values : (id path : List ℕ) → length path ≤ home_room
    → values_of (command_with Action.Status (up_to (length id)) nowhere (from 2 (length path)) (up_to 2) nowhere) id
    (both_in 8192 2 (ascii "OK") path)
    ≡ home_values id path
home-values id path h =
    let both = both_in 8192 2 (ascii "OK") path in
    values-with Action.Status (up_to (length id)) nowhere (from 2 (length path)) (up_to 2) nowhere id both
    (at_all id) (at_none id)
    (at_second 8192 2 (ascii "OK") path (omega arith) (omega arith) (length path) (omega arith) ∙ rw take-length)
    (at_first 8192 2 (ascii "OK") path (omega arith) (omega arith) 2 (omega arith)) (at_none both)

pub part-values : (own file : List ℕ) (n m : ℕ) (contents : List ℕ) (last : Bool) → length own ≡ 32 → length file ≡ 32
    → values_of (command_with (piece_action last) (up_to (min n 32)) (from 32 (min m 32)) nowhere nowhere (up_to (length contents)))
    (ids_of own file) contents
    ≡ piece_values (take n own) (take m file) contents last
part-values own file n m contents last h l =
    values-with (piece_action last) (up_to (min n 32)) (from 32 (min m 32)) nowhere nowhere (up_to (length contents)) (ids_of own file)
    contents
    (at_first 64 32 own file (omega arith) (omega arith) (min n 32) (omega arith) ∙ rw (take-least own n h))
    (at_second 64 32 own file (omega arith) (omega arith) (min m 32) (omega arith) ∙ rw (take-least file m l))
    (at_none contents) (at_none contents) (at_all contents)

-- a part of the file of the first record, whatever would stand there in a session without records
pub part-framed : (s : Session) (d : FileRecord) (bytes : List ℕ) (last : Bool) (out : List ℕ) (o : Outcome Answer)
    → length s.files ≡ 32
    → o ≡ framed_of (piece_values (id_of s) (file_id_of (get_or s.files 0 d)) bytes last) out
    → o ≡ framed_for s (Supply.part last bytes) out
unfolding framed_for
part-framed s d bytes last out o h e = rw (← first-inside s.files 31 d no_file h) e

-- the same by what was written of it: its ids, its command and both together
pub part-written : (s : Session) (d : FileRecord) (last : Bool) (bytes out ids : List ℕ) (k : Command) (o : Outcome Answer)
    → length s.files ≡ 32 → length s.id.bytes ≡ 32 → ids ≡ ids_of s.id.bytes (get_or s.files 0 d).id.bytes
    → length (get_or s.files 0 d).id.bytes ≡ 32
    → k ≡ command_with (piece_action last) (up_to (min s.id.len 32)) (from 32 (min (get_or s.files 0 d).id.len 32)) nowhere nowhere
    (up_to (length bytes))
    → o ≡ framed_of (values_of k ids bytes) out → o ≡ framed_for s (Supply.part last bytes) out
part-written s d last bytes out ids k o files own ids-is file k-is e =
    let f = get_or s.files 0 d in
    part-framed s d bytes last out o files
    (rw (k-is, ids-is, part-values s.id.bytes f.id.bytes s.id.len f.id.len bytes last own file) at e)
