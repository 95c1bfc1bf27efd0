-- Decoding: what a text is refused for, the bytes of a text, and what `decode` does with them.
use Rattle.std.specs.Prelude.{cond, ℕ, ◌+◌, ◌*◌, ◌/◌, ◌%◌, Result, Ok, Err, List, [], ◌∷◌, length, eqb}
use Rattle.octets.specs.Outcome.{Outcome, outcome, stored_at}
use Rattle.base64_codec.specs.Alphabet.{pad, value_of}
use Rattle.base64_codec.specs.declared.Fault.{Fault}
use Rattle.base64_codec.specs.declared.DecodeError.{DecodeError}

-- ---- what a text is refused for, or its number of padding characters
-- "unused bits zero": the low bits of the value before the padding
abbrev pub unused : ℕ → ℕ → Result ℕ Fault
unused bits n = cond (eqb bits 0) (Ok n) (Err Fault.UnusedBits)

-- after the first `=`, with p the value before it: `=` is last, or just before a last `=`
unfoldable pub ending : ℕ → List ℕ → Result ℕ Fault
ending p [] = unused (p % 4) 1
ending p (d ∷ []) = cond (eqb d pad) (unused (p % 16) 2) (Err Fault.Length)
ending p (d ∷ e ∷ r) = Err Fault.Length

-- "then characters left to right", with p the value before them
unfoldable pub scan : ℕ → List ℕ → Result ℕ Fault
scan p [] = Ok 0
scan p (c ∷ r) =
    cond (eqb (value_of c) 64)
    (cond (eqb c pad) (ending p r) (Err Fault.Character))
    (scan (value_of c) r)

-- "length a multiple of 4", told first
unfoldable pub verdict_of : List ℕ → Result ℕ Fault
verdict_of t = cond (eqb (length t % 4) 0) (scan 0 t) (Err Fault.Length)

-- ---- the bytes of a text: three of four characters' values, fewer where padding stands
abbrev pub byte1 : ℕ → ℕ → ℕ
byte1 v w = v % 64 * 4 + w % 64 / 16

abbrev pub byte2 : ℕ → ℕ → ℕ
byte2 v w = v % 16 * 16 + w % 64 / 4

abbrev pub byte3 : ℕ → ℕ → ℕ
byte3 v w = v % 4 * 64 + w % 64

unfoldable pub group : ℕ → ℕ → ℕ → ℕ → List ℕ → List ℕ
group a b c d r =
    byte1 (value_of a) (value_of b)
    ∷ cond (eqb c pad) r (byte2 (value_of b) (value_of c) ∷ cond (eqb d pad) r (byte3 (value_of c) (value_of d) ∷ r))

unfoldable pub bytes_of : List ℕ → List ℕ
bytes_of [] = []
bytes_of (a ∷ []) = []
bytes_of (a ∷ b ∷ []) = []
bytes_of (a ∷ b ∷ c ∷ []) = []
bytes_of (a ∷ b ∷ c ∷ d ∷ r) = group a b c d (bytes_of r)

-- ---- decode: a fault first; then the bytes are stored at their place, if they fit
abbrev pub decoded_by : Result ℕ Fault → List ℕ → List ℕ → ℕ → Outcome (Result ℕ DecodeError)
decoded_by (Ok n) bs out at = stored_at (Ok (length bs)) (Err DecodeError.NoRoom) bs out at
decoded_by (Err f) bs out at = outcome (Err (DecodeError.Invalid f)) out

unfoldable pub decode_of : List ℕ → List ℕ → ℕ → Outcome (Result ℕ DecodeError)
decode_of t out at = decoded_by (verdict_of t) (bytes_of t) out at
