-- The examples hold, by computing the definitions.
use mathlib.Core.Path.{refl}
use Rattle.base64_codec.specs.Alphabet.{value_of}
use Rattle.base64_codec.specs.Decode.{ending, scan, verdict_of, group, bytes_of, decode_of}
use Rattle.base64_codec.specs.Padding.{padded, decode_with}
use Rattle.base64_codec.specs.Examples.{DecodeExamples}

pub examples_hold : DecodeExamples
unfolding value_of ending scan verdict_of group bytes_of decode_of padded decode_with
examples_hold =
    record {
      none = refl;
      all = refl;
      three = refl;
      behind = refl;
      half = refl;
      single = refl;
      odd = refl;
      pads_three = refl;
      pad_first = refl;
      pad_inside = refl;
      pad_before = refl;
      other = refl;
      four = refl;
      two = refl;
      required = refl;
    }
