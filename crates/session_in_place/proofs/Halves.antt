-- A feed in place put together from its halves, as `receiver_in_place` meets it.
use Rattle.command.specs.Slots.{no_command}
use Rattle.command.specs.declared.Command.{Command}
use Rattle.frames.specs.declared.Framing.{Framing}
use Rattle.protocol.specs.declared.Receiver.{Receiver}
use Rattle.protocol.specs.declared.Told.{Told}
use Rattle.supplying.specs.declared.Left.{Left}
use Rattle.session_in_place.specs.declared.feeds.Heard.{Heard}
use Rattle.session_in_place.specs.declared.FedInPlace.{FedInPlace}

-- where no command was read
abbrev pub unread_fed : Heard → Told → FedInPlace
unread_fed h w =
    record { consumed = h.consumed; report = h.report; told = w; command = no_command; reply_len = 0 }

abbrev pub left_fed : Heard → Command → Left → FedInPlace
left_fed h c l =
    record { consumed = h.consumed; report = h.report; told = l.told; command = c; reply_len = l.written }

abbrev pub reframed : Receiver → Framing → Receiver
reframed r f = record { framing = f; table = r.table }
