-- Examples of texts whose padding is optional, each with its bytes or with what it is refused for.
use Rattle.std.specs.Prelude.{ℕ, ◌≡◌, Result, Ok, Err, List, [], ◌∷◌, length, replicate}
use Prim.Native.String.{String}
use Rattle.std.proofs.lemmas.List.Edits.{sets}
use Rattle.octets.specs.Ascii.{ascii}
use Rattle.octets.specs.Outcome.{Outcome, outcome}
use Rattle.base64_codec.specs.Padding.{decode_with}
use Rattle.base64_codec.specs.declared.Padding.{Padding}
use Rattle.base64_codec.specs.declared.Fault.{Fault}
use Rattle.base64_codec.specs.declared.DecodeError.{DecodeError}

-- a buffer with room for each of the texts
abbrev pub room : List ℕ
room = replicate 6 0

abbrev pub decoding : Padding → String → Outcome (Result ℕ DecodeError)
decoding p t = decode_with p (ascii t) room 0

abbrev pub Gives : String → List ℕ → Type 0
Gives t bs = decoding Padding.Optional t ≡ outcome (Ok (length bs)) (sets room 0 bs)

abbrev pub Refuses : String → Fault → Type 0
Refuses t f = decoding Padding.Optional t ≡ outcome (Err (DecodeError.Invalid f)) room

pub record DecodeExamples : Type 0 where
  -- all of the padding or none
  pub none : Gives "AQ" (1 ∷ [])
  pub all : Gives "AQ==" (1 ∷ [])
  pub three : Gives "AQI" (1 ∷ 2 ∷ [])
  pub behind : Gives "QUJDAQ" (0x41 ∷ 0x42 ∷ 0x43 ∷ 1 ∷ [])
  -- lengths, told first
  pub half : Refuses "AQ=" Fault.Length
  pub single : Refuses "!" Fault.Length
  pub odd : Refuses "A!=" Fault.Length
  -- a `=` that is neither last nor just before a last one
  pub pads_three : Refuses "A===" Fault.Length
  pub pad_first : Refuses "=A" Fault.Length
  pub pad_inside : Refuses "AQ=A" Fault.Length
  pub pad_before : Refuses "QR==AQ" Fault.Length
  -- another character
  pub other : Refuses "A!==" Fault.Character
  -- unused bits, of a text without its padding too
  pub four : Refuses "AR" Fault.UnusedBits
  pub two : Refuses "AQJ" Fault.UnusedBits
  -- the choice decides: where padding is required, a text without it is refused
  pub required : decoding Padding.Required "AQ" ≡ outcome (Err (DecodeError.Invalid Fault.Length)) room
