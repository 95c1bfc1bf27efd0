-- The refusals of a text and of a command, by their numbers.
use Rattle.std.specs.Prelude.{ℕ}
use Rattle.command.specs.declared.Refusal.{Refusal}

-- the number of a refusal: document 01's table, with document 02's for what is wrong with a value
abbrev pub refusal_number : Refusal → ℕ
refusal_number Refusal.TextTooLong = 1
refusal_number Refusal.BadByte = 3
refusal_number Refusal.BadField = 4
refusal_number Refusal.Repeated = 5
refusal_number Refusal.UnknownWord = 61
refusal_number Refusal.UnsafeCharacter = 62
refusal_number Refusal.MalformedInteger = 63
refusal_number Refusal.OutOfRange = 64
refusal_number Refusal.Base64Length = 65
refusal_number Refusal.Base64Character = 66
refusal_number Refusal.UnusedBits = 67
refusal_number Refusal.Missing = 7
refusal_number Refusal.TooLong = 8
refusal_number Refusal.ShortBuffer = 9
