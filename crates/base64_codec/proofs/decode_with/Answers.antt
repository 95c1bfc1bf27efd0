use Rattle.base64_codec.specs.Claims.{DecodedEncodes, UnpaddedDecodes}
use Rattle.base64_codec.specs.Examples.{DecodeExamples}
use Rattle.base64_codec.specs.Padding.{padded, decode_with}
use Rattle.base64_codec.proofs.Calls.{decode-encode, unpadded-decode}
use Rattle.base64_codec.proofs.Examples.{examples_hold}
use Rattle.base64_codec.proofs.decode_with.Goals as goal

claims : DecodedEncodes × UnpaddedDecodes × DecodeExamples
claims = (decode-encode, unpadded-decode, examples_hold)

pub returns-in-Required-clause-out_after : goal.returns-in-Required-clause-out_after
unfolding decode_with padded
returns-in-Required-clause-out_after c = rw c.in-Required.is c.decode.ensures.out_after

pub returns-in-Required-clause-decoded_encodes : goal.returns-in-Required-clause-decoded_encodes
returns-in-Required-clause-decoded_encodes c = claims

pub returns-in-Optional-clause-decoded_encodes : goal.returns-in-Optional-clause-decoded_encodes
returns-in-Optional-clause-decoded_encodes c = claims
