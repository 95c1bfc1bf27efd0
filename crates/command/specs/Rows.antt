-- The table of keys as the code has it: what a row is as a key, its texts as the lists of their bytes.
use Rattle.std.specs.Prelude.{ℕ, List, map}
use Rattle.std.specs.Borrow.{Bor}
use Rattle.command.specs.Keys.{Key}
use Rattle.command.specs.Keys as Keys
use Rattle.command.specs.declared.keys.Kind.{Kind}
use Rattle.command.specs.declared.keys.Row.{Row}
use Rattle.command.specs.declared.words.Alias.{Alias}
use Rattle.command.specs.declared.words.Words.{Words}

abbrev pub texts_of : List (Bor (List ℕ)) → List (List ℕ)
texts_of l = map (λ (t : Bor (List ℕ)). t.now) l

abbrev pub alias_of : Alias → Keys.Alias
alias_of a = record { text = a.text.now; code = a.code }

abbrev pub words_of : Words → Keys.Kind
words_of w = Keys.Kind.word w.unknown w.first (texts_of w.texts.now) (map alias_of w.aliases.now)

abbrev pub kind_of : Kind → Keys.Kind
kind_of (Kind.Word words) = words_of words
kind_of (Kind.Safe short) = Keys.Kind.safe short
kind_of Kind.Integer = Keys.Kind.integer
kind_of Kind.Base64 = Keys.Kind.base64

abbrev pub key_of : Row → Key
key_of r = record { name = r.0.now; kind = kind_of r.1 }
