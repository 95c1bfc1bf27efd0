-- Fixed byte strings, as a definition quotes them: `ascii "send"` is the list that the code's `b"send"` is.
use Rattle.std.specs.Prelude.{ℕ, List, [], ◌∷◌}
use Prim.Native.String.{String, [] as ε, ◌∷◌ as ◌◂◌}
use Prim.Native.Char.{code}

abbrev pub ascii : String → List ℕ
ascii ε = []
ascii (a ◂ s) = code a ∷ ascii s
