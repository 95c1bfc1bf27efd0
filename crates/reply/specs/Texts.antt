-- Texts that are made in an array.
use Rattle.std.specs.Prelude.{ℕ, List, take}
use Rattle.reply.specs.declared.texts.Text.{Text}

-- the first so many bytes of the array
abbrev pub text_in : Text → List ℕ
text_in t = take t.len t.bytes
