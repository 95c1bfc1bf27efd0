-- Values: what the text of a value reads as, and what a value is written as, by its kind.
use Rattle.std.specs.Prelude.{Result, Ok, Err, ℕ, ◌+◌, ◌-◌, Bool, false, cond, ◌&&◌, List, [], ◌∷◌, length, get_or, ltb, eqb}
use Rattle.octets.specs.Members.{every}
use Rattle.octets.specs.Slices.{equals}
use Rattle.base64_codec.specs.Decode.{verdict_of, bytes_of}
use Rattle.base64_codec.specs.Encode as Base64
use Rattle.base64_codec.specs.declared.DecodeError.{DecodeError}
use Rattle.base64_codec.specs.declared.Fault.{Fault}
use Rattle.decimal.specs.Read.{parse_of}
use Rattle.decimal.specs.Write as Decimal
use Rattle.decimal.specs.declared.Number.{Number}
use Rattle.decimal.specs.declared.ParseError.{ParseError}
use Rattle.command.specs.Refusals.{refusal_number}
use Rattle.command.specs.Keys.{Alias, Kind, place_in}
use Rattle.command.specs.Letters.{safe_byte, is_byte}
use Rattle.command.specs.declared.Refusal.{Refusal}

-- a value: a number (a word's code is one) or bytes; or what a place that passes its buffer's end gives, which is of no kind
pub data Value : Type 0 where
  number : Number → Value
  bytes : List ℕ → Value
  outside : Value

-- a number without sign
abbrev pub count : ℕ → Number
count n = record { negative = false; magnitude = n }

-- "Absent means: none, regular, simple, empty, zero"
abbrev pub absent : Kind → Value
absent (Kind.word unknown first ws aliases) = Value.number (count 0)
absent (Kind.safe short) = Value.bytes []
absent Kind.integer = Value.number (count 0)
absent Kind.base64 = Value.bytes []

-- ---- read
pub data Got : Type 0 where
  got : Value → Got
  refused : ℕ → Got

abbrev pub refuses : Refusal → Got
refuses r = Got.refused (refusal_number r)

-- a code that was read, or a refusal
abbrev pub code_got : Result ℕ Refusal → Got
code_got (Ok code) = Got.got (Value.number (count code))
code_got (Err r) = refuses r

-- the code of an alias
unfoldable pub alias_read : Refusal → List Alias → List ℕ → Got
alias_read unknown [] v = refuses unknown
alias_read unknown (a ∷ more) v = cond (equals v a.text) (Got.got (Value.number (count a.code))) (alias_read unknown more v)

-- one of the words, else one of the aliases
unfoldable pub word_read : Refusal → ℕ → List (List ℕ) → List Alias → List ℕ → Got
word_read unknown first ws aliases v =
    cond (ltb (place_in ws v) (length ws)) (Got.got (Value.number (count (first + place_in ws v)))) (alias_read unknown aliases v)

-- "at most 32 bytes", where that is asked
abbrev pub over : Bool → List ℕ → Bool
over short v = short && ltb 32 (length v)

-- "62 character not allowed in a safe string", then 8
unfoldable pub safe_read : Bool → List ℕ → Got
safe_read short v =
    cond (every safe_byte v)
    (cond (over short v) (refuses Refusal.TooLong) (Got.got (Value.bytes v)))
    (refuses Refusal.UnsafeCharacter)

-- "63 integer malformed (or over 19 digits), 64 integer out of range"
abbrev pub integer_refusal : ParseError → Refusal
integer_refusal ParseError.Malformed = Refusal.MalformedInteger
integer_refusal ParseError.OutOfRange = Refusal.OutOfRange

abbrev pub integer_read : Result Number ParseError → Got
integer_read (Ok n) = Got.got (Value.number n)
integer_read (Err error) = refuses (integer_refusal error)

-- "65 Base64 length or padding, 66 Base64 character, 67 unused bits not zero"
abbrev pub base64_refusal : Fault → Refusal
base64_refusal Fault.Length = Refusal.Base64Length
base64_refusal Fault.Character = Refusal.Base64Character
base64_refusal Fault.UnusedBits = Refusal.UnusedBits

-- of decoding: that a scratch has no room besides, which is what a short buffer is refused with
abbrev pub decode_refusal : DecodeError → Refusal
decode_refusal (DecodeError.Invalid fault) = base64_refusal fault
decode_refusal DecodeError.NoRoom = Refusal.ShortBuffer

abbrev pub base64_read : Result ℕ Fault → List ℕ → Got
base64_read (Ok padding) b = Got.got (Value.bytes b)
base64_read (Err fault) b = refuses (base64_refusal fault)

-- the value of a kind that a text is
unfoldable pub value_read : Kind → List ℕ → Got
value_read (Kind.word unknown first ws aliases) v = word_read unknown first ws aliases v
value_read (Kind.safe short) v = safe_read short v
value_read Kind.integer v = integer_read (parse_of v)
value_read Kind.base64 v = base64_read (verdict_of v) (bytes_of v)

-- ---- written
-- what becomes of a value: "defaults left out", or its text, or a refusal
pub data Shown : Type 0 where
  left_out : Shown
  text : List ℕ → Shown
  refused : ℕ → Shown

abbrev pub unshown : Refusal → Shown
unshown r = Shown.refused (refusal_number r)

abbrev pub text_or : List ℕ → Shown
text_or [] = Shown.left_out
text_or (x ∷ xs) = Shown.text (x ∷ xs)

-- the word of a code
unfoldable pub word_shown : Refusal → ℕ → List (List ℕ) → Number → Shown
word_shown unknown first ws n =
    cond n.negative (unshown unknown)
    (cond (eqb n.magnitude 0) Shown.left_out
    (cond (ltb (n.magnitude - first) (length ws)) (Shown.text (get_or ws (n.magnitude - first) [])) (unshown unknown)))

unfoldable pub safe_shown : Bool → List ℕ → Shown
safe_shown short b =
    cond (every safe_byte b)
    (cond (over short b) (unshown Refusal.TooLong) (text_or b))
    (unshown Refusal.UnsafeCharacter)

-- a number has no digits to count: only a negative zero is malformed, being in range; what is past signed 64 bits is out of range
unfoldable pub integer_shown : Number → Shown
integer_shown n =
    cond (Decimal.negative_zero n) (unshown Refusal.MalformedInteger)
    (cond (Decimal.out_of_range n) (unshown Refusal.OutOfRange)
    (cond (eqb n.magnitude 0) Shown.left_out (Shown.text (Decimal.text_of n))))

-- any bytes have a Base64 text; numbers that are no bytes, which no call has, are refused
unfoldable pub base64_shown : List ℕ → Shown
base64_shown b = cond (every is_byte b) (text_or (Base64.text_of b)) (unshown Refusal.Base64Length)

-- the refusal of a value that is of another kind, or of none since its place passes its buffer's end: of a safe string its characters,
-- of Base64 its length
abbrev pub strange : Kind → Shown
strange (Kind.word unknown first ws aliases) = unshown unknown
strange (Kind.safe short) = unshown Refusal.UnsafeCharacter
strange Kind.integer = unshown Refusal.MalformedInteger
strange Kind.base64 = unshown Refusal.Base64Length

-- a value as its kind is written
unfoldable pub shown : Kind → Value → Shown
shown (Kind.word unknown first ws aliases) (Value.number n) = word_shown unknown first ws n
shown (Kind.word unknown first ws aliases) (Value.bytes b) = strange (Kind.word unknown first ws aliases)
shown (Kind.word unknown first ws aliases) Value.outside = strange (Kind.word unknown first ws aliases)
shown (Kind.safe short) (Value.number n) = strange (Kind.safe short)
shown (Kind.safe short) (Value.bytes b) = safe_shown short b
shown (Kind.safe short) Value.outside = strange (Kind.safe short)
shown Kind.integer (Value.number n) = integer_shown n
shown Kind.integer (Value.bytes b) = strange Kind.integer
shown Kind.integer Value.outside = strange Kind.integer
shown Kind.base64 (Value.number n) = strange Kind.base64
shown Kind.base64 (Value.bytes b) = base64_shown b
shown Kind.base64 Value.outside = strange Kind.base64
