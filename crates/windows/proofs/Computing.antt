-- What computing a comparison opens, crate by crate: who names one of these on an `unfolding` line opens all that its own line names.
use Rattle.octets.specs.Search.{index_of, index_after}
use Rattle.octets.specs.Members.{every}
use Rattle.octets.specs.Slices.{equals, starts_with, part_of}
use Rattle.octets.specs.Split.{split, onto}
use Rattle.base64_codec.specs.Alphabet as Alphabet
use Rattle.base64_codec.specs.Decode as Decode
use Rattle.base64_codec.specs.Encode.{text_of}
use Rattle.decimal.specs.Read as Read
use Rattle.pathname.specs.Name.{rooted, valid_component, valid_components, valid_name}
use Rattle.pathname.specs.Utf8.{followers_in, sequences}
use Rattle.frames.specs.Stream.{read_byte, stream}
use Rattle.command.specs.Keys.{place_in}
use Rattle.command.specs.Letters.{key_byte, safe_byte, text_byte}
use Rattle.command.specs.Values.{alias_read, word_read, safe_read, value_read}
use Rattle.command.specs.Fields.{is_key, field_read, fields_read, text_read}
use Rattle.command.specs.Meaning.{meaning_of}
use Rattle.command.specs.Slots.{action_of, file_type_of, transmission_of, command_of}
use Rattle.command.specs.Read.{kept, read_of}
use Rattle.protocol.specs.Table.{first, adjusted}
use Rattle.protocol.specs.Actions.{result_in, kind_of}
use Rattle.protocol.specs.Files.{file_checked, file_of, part_asked, data_of, finish_of}
use Rattle.protocol.specs.Receives.{path_checked, path_of}
use Rattle.protocol.specs.Rule.{obeyed_by, done_by, decided_by}
use Rattle.protocol.specs.Sessions.{obey_of, settle_done, decided_of}
use Rattle.recordings.specs.Pieces.{completed, cut, joined, pieces_of}
use Rattle.hearing.specs.Hearing.{sightings_from, heard_from}
use Rattle.windows.specs.Compare.{contents_of, starts_of, first_diff, partner, without, only_seconds, compared, listed}

unfoldable pub meaning : Unit {0}
unfolding index_of index_after every equals starts_with part_of split onto Alphabet.value_of Decode.verdict_of Decode.bytes_of
    Decode.scan Decode.ending Decode.group Read.parse_of Read.magnitude_of Read.digits_of Read.ranged_of place_in key_byte safe_byte
    text_byte alias_read word_read safe_read value_read is_key field_read fields_read text_read meaning_of action_of file_type_of
    transmission_of command_of kept read_of
meaning = tt

unfoldable pub sessions : Unit {0}
unfolding rooted valid_component valid_components valid_name followers_in sequences first adjusted result_in kind_of file_checked file_of
    part_asked data_of finish_of path_checked path_of obeyed_by done_by decided_by obey_of settle_done decided_of
sessions = tt

unfoldable pub comparing : Unit {0}
unfolding meaning sessions read_byte stream completed cut joined pieces_of sightings_from heard_from contents_of starts_of first_diff
    partner without only_seconds compared listed
comparing = tt

-- with the text of a part, for examples
unfoldable pub examining : Unit {0}
unfolding comparing Alphabet.letter_of text_of
examining = tt
