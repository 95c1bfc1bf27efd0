-- Exchanges that are computed: turns whose buffers have just the room, and what computing opens.
use Prim.Native.Nat.{ℕ}
use mathlib.Core.List.{List}
use lib.ListN.{replicate}
use Rattle.octets.specs.Ascii.{ascii}
use Rattle.command.specs.Values.{word_shown, safe_shown, integer_shown, base64_shown, shown}
use Rattle.command.specs.Canonical.{fields_of, canonical}
use Rattle.command.specs.Write.{checked_of, write_of}
use Rattle.command.specs.Framed.{frame_room, framed_of}
use Rattle.protocol.proofs.Refuting.{carry₀, scratch₀, reply₀}
use Rattle.protocol.proofs.Starred.{computing}
use Rattle.sending.specs.Transfers.{grown}
use Rattle.sending.specs.Heeding.{word_of, session_heed, ok_heed, file_heed, found_heed, status_heed, is_ours, heed_of}
use Rattle.sending.specs.Calls.{writes, guarded, send_of, long_refusal, file_writes, file_of, piece_of, finish_of}
use Rattle.sending.specs.Calls.{report_heed, scanned_hear, hear_of}
use Rattle.sending.specs.Machine.{Machine}
use Rattle.sending.specs.Plans.{Plan}
use Rattle.sending.specs.Exchange.{Exchange, Turn, after, begin}

unfoldable pub out₀ : List ℕ
out₀ = replicate frame_room 0

abbrev pub write : Turn
write = Turn.write out₀

-- at most so many bytes
abbrev pub feed_only : ℕ → Turn
feed_only n = Turn.feed n scratch₀ reply₀

abbrev pub hear_only : ℕ → Turn
hear_only n = Turn.hear n scratch₀

-- more than a frame of a small plan has
abbrev pub feed : Turn
feed = feed_only 200

abbrev pub hear : Turn
hear = hear_only 200

abbrev pub allow : Turn
allow = Turn.allow (ascii "m") reply₀

abbrev pub done : Turn
done = Turn.done reply₀

abbrev pub tried : Machine → Plan → List Turn → Exchange
tried m p ts = after m (begin p carry₀ carry₀) ts

-- ---- what computing opens
unfoldable pub writing : Unit {0}
unfolding word_shown safe_shown integer_shown base64_shown shown fields_of canonical checked_of write_of framed_of
writing = tt

unfoldable pub heeding : Unit {0}
unfolding word_of session_heed ok_heed file_heed found_heed status_heed is_ours heed_of
heeding = tt

unfoldable pub exchanging : Unit {0}
unfolding computing writing heeding
    grown writes guarded send_of long_refusal file_writes file_of piece_of finish_of report_heed scanned_hear hear_of
    out₀ carry₀ scratch₀ reply₀
exchanging = tt
