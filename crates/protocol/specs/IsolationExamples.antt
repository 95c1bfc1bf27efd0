-- Two pairs of runs for `Isolated`, computed, so that it is not said of nothing: one in which m sees the same beside another session, and
-- one in which its send meets no free place and its records differ.
use Rattle.std.specs.Prelude.{ℕ, ◌≡◌, false, List, [], ◌∷◌, ◌++◌, replicate}
use Rattle.octets.specs.Ascii.{ascii}
use Rattle.frames.specs.Stream.{text_limit, framed}
use Rattle.protocol.specs.Table.{absent_session}
use Rattle.protocol.specs.Replies.{reply_room}
use Rattle.protocol.specs.Sessions.{asked_session}
use Rattle.protocol.specs.History.{Heard, commands_in}
use Rattle.protocol.specs.Machine.{Machine, Call, World, start}
use Rattle.protocol.specs.Cuts.{Saying, after}
use Rattle.protocol.specs.Serving.{fed}
use Rattle.protocol.specs.Isolation.{command_acts, acts, Seen, seen, records_of, has_room}
use Rattle.protocol.specs.declared.Session.{Session}
use Rattle.protocol.specs.declared.Status.TheVariants as Status

abbrev pub m : List ℕ
m = ascii "m"

abbrev pub begun : World
begun = start (replicate text_limit 0)

-- ---- the page's first two runs
abbrev pub allowed : List ℕ → Call
allowed id = Call.allow id (replicate reply_room 0)

abbrev pub answered : Call
answered = Call.done (replicate reply_room 0)

abbrev pub alone : List Call
alone =
    fed (ascii "5113;ac=send;id=m")
    ∷ allowed m
    ∷ fed (ascii "5113;ac=file;id=m;fid=a;n=L256")
    ∷ answered
    ∷ fed (ascii "5113;ac=end_data;id=m;fid=a;d=YWJj")
    ∷ answered
    ∷ []

-- another session, a feed refused with 10 and a drop refused with 12 between; the file command in other words
abbrev pub beside : List Call
beside =
    fed (ascii "5113;ac=send;id=k")
    ∷ allowed (ascii "k")
    ∷ fed (ascii "5113;ac=send;id=m")
    ∷ fed (ascii "5113;ac=finish;id=k")
    ∷ allowed m
    ∷ fed (ascii "5113;ac=file;id=m;fid=a;n=L256")
    ∷ answered
    ∷ fed (ascii "5113;n=L256;fid=a;x=1;id=m;ac=file")
    ∷ Call.drop (ascii "z")
    ∷ answered
    ∷ fed (ascii "5113;ac=end_data;id=m;fid=a;d=YWJj")
    ∷ answered
    ∷ []

abbrev pub told : Saying → List ℕ → Seen
told w r = record { said = w; reply = r }

abbrev pub sees : List Seen
sees =
    told Saying.asked []
    ∷ told Saying.nothing (framed (ascii "5113;ac=status;id=m;st=T0s="))
    ∷ told (Saying.asks Heard.opens) []
    ∷ told (Saying.status Status.Started) (framed (ascii "5113;ac=status;id=m;fid=a;st=U1RBUlRFRA=="))
    ∷ told (Saying.asks (Heard.writes_last (ascii "abc"))) []
    ∷ told (Saying.status Status.Ok) (framed (ascii "5113;ac=status;id=m;fid=a;sz=3;st=T0s="))
    ∷ []

-- ---- a send that finds four others, and the same send alone: "met a free place" is not idle
abbrev pub sent : Call
sent = fed (ascii "5113;ac=send;id=m")

abbrev pub others : List Call
others =
    fed (ascii "5113;ac=send;id=b")
    ∷ fed (ascii "5113;ac=send;id=c")
    ∷ fed (ascii "5113;ac=send;id=d")
    ∷ fed (ascii "5113;ac=send;id=e")
    ∷ []

abbrev pub crowded : List Call
crowded = others ++ (sent ∷ [])

abbrev pub session_of : Machine → List Call → Session
session_of x cs = (records_of m (after x begun cs).receiver.table).session

pub record SeesAlike (x : Machine) : Type 0 where
  pub by_itself : seen x m begun alone ≡ sees
  pub beside_another : seen x m begun beside ≡ sees
  -- the same acts, no free place in one of them, and other records
  pub send_alone : acts x m begun (sent ∷ []) ≡ command_acts m (commands_in (framed (ascii "5113;ac=send;id=m")))
  pub send_crowded : acts x m begun crowded ≡ command_acts m (commands_in (framed (ascii "5113;ac=send;id=m")))
  pub no_place : has_room (after x begun others).receiver.table ≡ false
  pub asked_alone : session_of x (sent ∷ []) ≡ asked_session 0 m
  pub absent_crowded : session_of x crowded ≡ absent_session
