-- A receive session from its first command to its last: order 6's first example, computed. So what the claim says of receive sessions is
-- not said of nothing: a listing and the parts of a file are written.
use Rattle.std.specs.Prelude.{ℕ, ◌≡◌, true, false, List, [], ◌∷◌, map, replicate}
use Rattle.octets.specs.Ascii.{ascii}
use Rattle.frames.specs.Stream.{text_limit, framed}
use Rattle.command.specs.Values.{count}
use Rattle.command.specs.Slots.{nowhere}
use Rattle.command.specs.Read.{scratch_room}
use Rattle.command.specs.Framed.{frame_room}
use Rattle.command.specs.declared.FileType.TheVariants as FileType
use Rattle.command.specs.declared.Place.{Place}
use Rattle.protocol.specs.Replies.{reply_room}
use Rattle.protocol.specs.Supplies.{Supply}
use Rattle.protocol.specs.History.{Heard, marks_of}
use Rattle.protocol.specs.Stretches.{Key}
use Rattle.protocol.specs.Supplied.{supplied_parts}
use Rattle.protocol.specs.Machine.{Machine, Call, start}
use Rattle.protocol.specs.Cuts.{Saying, Output, all_given, after}
use Rattle.protocol.specs.declared.Entry.{Entry}

-- ---- the calls: the first n of a place, and a byte more
abbrev pub at : (start n : ℕ) → Place
at start n = record { start = start; len = n }

-- the file `/nz`, of its own id 7, listed for the path `a` of the session `m`
abbrev pub entry : Entry
entry =
    record {
      file_type = FileType.Regular;
      modified = count 0;
      permissions = count 0;
      size = count 0;
      id = at 0 1;
      path_id = at 1 1;
      parent = nowhere;
      name = at 0 3;
      own_id = at 3 1;
      target = nowhere;
    }

abbrev pub listed : Supply
listed = Supply.list entry (ascii "ma") (ascii "/nz7")

abbrev pub homed : Supply
homed = Supply.home (ascii "m") (ascii "/h")

abbrev pub fed : List ℕ → Call
fed text = Call.feed (framed text) (replicate text_limit 0) (replicate scratch_room 0) (replicate reply_room 0)

abbrev pub supplied : Supply → Call
supplied u = Call.supply u (replicate frame_room 0)

abbrev pub served : List Call
served =
    fed (ascii "5113;ac=receive;id=m;sz=1")
    ∷ fed (ascii "5113;ac=file;id=m;fid=a;n=L256")
    ∷ Call.allow (ascii "m") (replicate reply_room 0)
    ∷ supplied listed
    ∷ supplied homed
    ∷ fed (ascii "5113;ac=file;id=m;fid=1;n=L256")
    ∷ supplied (Supply.part false (ascii "xy"))
    ∷ supplied (Supply.part true (ascii "z"))
    ∷ fed (ascii "5113;ac=finish;id=m")
    ∷ []

-- ---- what each tells, and what it writes
pub record Given : Type 0 where
  pub said : Saying
  pub written : List ℕ

abbrev pub given : Saying → List ℕ → Given
given said written = record { said = said; written = written }

abbrev pub served_gives : List Given
served_gives =
    given Saying.naming []
    ∷ given Saying.last_path []
    ∷ given Saying.nothing (framed (ascii "5113;ac=status;id=m;st=T0s="))
    ∷ given Saying.nothing (framed (ascii "5113;ac=file;id=m;fid=a;n=L256;st=Nw=="))
    ∷ given Saying.nothing (framed (ascii "5113;ac=status;id=m;n=L2g=;st=T0s="))
    ∷ given (Saying.asks Heard.requests) []
    ∷ given Saying.nothing (framed (ascii "5113;ac=data;id=m;fid=1;d=eHk="))
    ∷ given Saying.nothing (framed (ascii "5113;ac=end_data;id=m;fid=1;d=eg=="))
    ∷ given Saying.discarded []
    ∷ []

abbrev pub asked_for : Key
asked_for = record { id = ascii "m"; file = ascii "1" }

-- of a machine: it gives these, and the parts supplied for the file 1 are two
pub record ServesWhole (m : Machine) : Type 0 where
  pub gives : map (λ (o : Output). given o.said o.reply) (all_given m (start (replicate text_limit 0)) served) ≡ served_gives
  pub parts : supplied_parts asked_for (marks_of (after m (start (replicate text_limit 0)) served).history)
      ≡ record { last = false; bytes = ascii "xy" } ∷ record { last = true; bytes = ascii "z" } ∷ []
