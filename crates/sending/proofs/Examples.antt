-- The examples run: each by computing the definitions.
use mathlib.Core.Path.{refl}
use Rattle.command.specs.Values.{word_shown, safe_shown, integer_shown, base64_shown, shown}
use Rattle.command.specs.Canonical.{fields_of, canonical}
use Rattle.command.specs.Write.{checked_of, write_of}
use Rattle.command.specs.Framed.{framed_of}
use Rattle.protocol.proofs.Starred.{computing}
use Rattle.sending.specs.Transfers.{grown}
use Rattle.sending.specs.Heeding.{word_of, session_heed, ok_heed, file_heed, found_heed, status_heed, is_ours, heed_of}
use Rattle.sending.specs.Calls.{writes, guarded, send_of, long_refusal, file_writes, file_of, piece_of, finish_of}
use Rattle.sending.specs.Calls.{report_heed, scanned_hear, hear_of}
use Rattle.sending.specs.Examples.{AllRun, examples}

-- ---- what computing opens besides what it opens of the protocol
unfoldable pub writing : Unit {0}
unfolding word_shown safe_shown integer_shown base64_shown shown fields_of canonical checked_of write_of framed_of
writing = tt

unfoldable pub heeding : Unit {0}
unfolding word_of session_heed ok_heed file_heed found_heed status_heed is_ours heed_of
heeding = tt

pub examples-run : AllRun examples
unfolding computing writing heeding grown writes guarded send_of long_refusal file_writes file_of piece_of finish_of report_heed
    scanned_hear hear_of
examples-run = (
  (refl, refl, refl),
  (
    (refl, refl, refl),
    (
      (refl, refl, refl),
      (
        (refl, refl, refl),
        (
          (refl, refl, refl),
          (
            (refl, refl, refl),
            (
              (refl, refl, refl),
              (
                (refl, refl, refl),
                (
                  (refl, refl, refl),
                  (
                    (refl, refl, refl),
                    ((refl, refl, refl), ((refl, refl, refl), ((refl, refl, refl), ((refl, refl, refl), tt)))),
                  ),
                ),
              ),
            ),
          ),
        ),
      ),
    ),
  ),
)
