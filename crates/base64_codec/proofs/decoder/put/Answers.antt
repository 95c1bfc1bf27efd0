use Rattle.std.proofs.Common.{refl}
use Rattle.octets.proofs.Stores.{put3}
use Rattle.base64_codec.proofs.Turns.{three-bytes}
use Rattle.base64_codec.proofs.Inner.{four-letters, no-pad2, no-pad3}
use Rattle.base64_codec.proofs.Words.{word-byte1, word-byte2, word-byte3}
use Rattle.base64_codec.proofs.decoder.put.Goals as goal

pub returns : goal.returns
returns c =
    let g = c.args.group.now in
    let h = c.told-group in
    let e = c.requires.letters in
    let l = four-letters g h e in
    rw (
      c.byte3.ensures,
      c.byte2.ensures,
      c.byte1.ensures,
      c.word-w.ensures,
      c.value-4.ensures.0,
      c.value-3.ensures.0,
      c.value-2.ensures.0,
      c.value.ensures.0,
      word-byte1 _ _ _ _ l.0 l.1 l.2 l.3,
      word-byte2 _ _ _ _ l.0 l.1 l.2 l.3,
      word-byte3 _ _ _ _ l.0 l.1 l.2 l.3,
    )
    (put3 c.args.out.now c.args.o (three-bytes g h (no-pad2 g h e) (no-pad3 g h e)) refl)
