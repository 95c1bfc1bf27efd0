use mathlib.Core.Path.{refl}
use Rattle.base64_codec.specs.Encode.{text_of, encode_of}
use Rattle.base64_codec.proofs.Lengths.{length-text}
use Rattle.command_writer.proofs.Puts.{put-stored}
use Rattle.command_writer.proofs.store.Draft.put_base64.Goals as goal

pub returns : goal.returns
unfolding encode_of
returns c =
    let a = c.args in
    let d = a.self.now in (
      refl,
      put-stored _ _ (text_of a.bytes.now) d.out.now d.end c.end_of-self.result c.encode.ensures.out_after
          (rw (length-text a.bytes.now) c.end_of-self.ensures),
    )
