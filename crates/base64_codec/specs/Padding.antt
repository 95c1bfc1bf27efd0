-- The choice of padding: required, or "optional, all or none". What a text means by it is what the text means with its padding.
use Rattle.std.specs.Prelude.{ℕ, ◌-◌, ◌%◌, cond, Result, Ok, Err, List, [], ◌∷◌, ◌++◌, length, get_or, take, eqb}
use Rattle.octets.specs.Search.{index_of}
use Rattle.octets.specs.Outcome.{Outcome}
use Rattle.base64_codec.specs.Alphabet.{pad}
use Rattle.base64_codec.specs.Decode.{decode_of}
use Rattle.base64_codec.specs.declared.Padding.{Padding}
use Rattle.base64_codec.specs.declared.Padding.TheVariants.{Required, Optional}
use Rattle.base64_codec.specs.declared.Fault.{Fault}
use Rattle.base64_codec.specs.declared.DecodeError.{DecodeError}

-- the last character, and 0 where there is none
abbrev pub last_of : List ℕ → ℕ
last_of t = get_or t (length t - 1) 0

-- what a last group of n characters lacks; one character is no group, whatever is added
abbrev pub lacking : ℕ → List ℕ
lacking n = cond (eqb n 2) (pad ∷ pad ∷ []) (cond (eqb n 3) (pad ∷ []) [])

-- a text with the padding that it may leave out. "all or none": one that ends with `=` stands as it is, "a last `=` needing order 4's
-- length"
unfoldable pub padded : Padding → List ℕ → List ℕ
padded Required t = t
padded Optional t = cond (eqb (last_of t) pad) t (t ++ lacking (length t % 4))

-- a text without its padding: what stands before its first `=`
abbrev pub unpadded : List ℕ → List ℕ
unpadded t = take (index_of pad t) t

-- what `decode_with` gives
unfoldable pub decode_with : Padding → List ℕ → List ℕ → ℕ → Outcome (Result ℕ DecodeError)
decode_with p t out at = decode_of (padded p t) out at

-- ---- how the code comes to it
-- what two texts of whole groups are together, where the second is not empty: padding may stand at the end of the second alone
abbrev pub joined_verdict : Result ℕ Fault → Result ℕ Fault → Result ℕ Fault
joined_verdict (Ok n) v = cond (eqb n 0) v (Err Fault.Length)
joined_verdict (Err Fault.Length) v = Err Fault.Length
joined_verdict (Err Fault.Character) v = Err Fault.Character
joined_verdict (Err Fault.UnusedBits) v = Err Fault.Length
