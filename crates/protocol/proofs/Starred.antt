-- The starred cases hold: each by computing the definitions.
use mathlib.Core.Path.{refl}
use Rattle.octets.specs.Search.{index_of, index_after}
use Rattle.octets.specs.Members.{every}
use Rattle.octets.specs.Slices.{equals, starts_with, part_of}
use Rattle.octets.specs.Split.{split, onto, join}
use Rattle.base64_codec.specs.Alphabet as Alphabet
use Rattle.base64_codec.specs.Decode as Decode
use Rattle.base64_codec.specs.Encode as Encode
use Rattle.decimal.specs.Read as Read
use Rattle.decimal.specs.Write as Write
use Rattle.pathname.specs.Name.{rooted, valid_component, valid_components, valid_name}
use Rattle.pathname.specs.Utf8.{followers_in, sequences}
use Rattle.frames.specs.Stream.{read_byte, stream}
use Rattle.frames.specs.Framings.{may_be}
use Rattle.frames.specs.Steps.{step_of, walk_from}
use Rattle.frames.specs.Carry.{held_of, carry_of}
use Rattle.frames.specs.Calls.{report_of, scan_of, text_of}
use Rattle.command.specs.Keys.{place_in}
use Rattle.command.specs.Letters.{key_byte, safe_byte, text_byte}
use Rattle.command.specs.Values.{alias_read, word_read, safe_read, value_read}
use Rattle.command.specs.Fields.{is_key, field_read, fields_read, text_read}
use Rattle.command.specs.Meaning.{meaning_of}
use Rattle.command.specs.Slots.{action_of, file_type_of, transmission_of, command_of}
use Rattle.command.specs.Read.{kept, read_of}
use Rattle.protocol.specs.Table.{first, adjusted}
use Rattle.protocol.specs.Actions.{result_in, kind_of}
use Rattle.protocol.specs.Replies.{status_text, reply_bytes, replied_of}
use Rattle.protocol.specs.Files.{file_checked, file_of, part_asked, data_of, finish_of}
use Rattle.protocol.specs.Receives.{path_checked, path_of}
use Rattle.protocol.specs.Rule.{obeyed_by, done_by, decided_by}
use Rattle.protocol.specs.Sessions.{obey_of, settle_done, decided_of}
use Rattle.protocol.specs.Calls.{scanned_feed, feed_of, guarded, allow_of, done_of}
use Rattle.protocol.specs.History.{marks_of}
use Rattle.protocol.specs.Starred.{AllHold, starred}

-- ---- what computing opens, crate by crate: who names one of these on an `unfolding` line opens all that its own line names
octets : Unit {0}
unfolding index_of index_after every equals starts_with part_of split onto join
octets = tt

base64 : Unit {0}
unfolding Alphabet.value_of Alphabet.letter_of Decode.verdict_of Decode.bytes_of Decode.scan Decode.ending Decode.group Encode.text_of
base64 = tt

decimal : Unit {0}
unfolding Read.parse_of Read.magnitude_of Read.digits_of Read.ranged_of Write.writable Write.text_of Write.fixed Write.width_from
decimal = tt

pathname : Unit {0}
unfolding rooted valid_component valid_components valid_name followers_in sequences
pathname = tt

frames : Unit {0}
unfolding read_byte stream may_be step_of walk_from held_of carry_of report_of scan_of text_of
frames = tt

meaning : Unit {0}
unfolding place_in key_byte safe_byte text_byte alias_read word_read safe_read value_read is_key field_read fields_read text_read meaning_of
meaning = tt

reading : Unit {0}
unfolding action_of file_type_of transmission_of command_of kept read_of
reading = tt

rule : Unit {0}
unfolding adjusted first result_in kind_of status_text reply_bytes replied_of file_checked file_of part_asked data_of finish_of path_checked
    path_of obeyed_by done_by decided_by
rule = tt

sessions : Unit {0}
unfolding rule obey_of settle_done decided_of
sessions = tt

unfoldable pub computing : Unit {0}
unfolding octets base64 decimal pathname frames meaning reading sessions scanned_feed feed_of guarded allow_of done_of marks_of
computing = tt

pub starred_hold : AllHold starred
unfolding octets base64 Decode.decode_of meaning reading sessions
starred_hold = (refl, (refl, (refl, (refl, (refl, (refl, (refl, (refl, (refl, ((refl, refl), ((refl, refl), (refl, (refl, tt)))))))))))))
