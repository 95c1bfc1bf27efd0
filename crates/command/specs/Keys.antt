-- The keys of a command, in writing order, each with the kind of its values: document 01's table.
use Rattle.std.specs.Prelude.{ℕ, suc, Bool, true, false, cond, Option, Some, None, List, [], ◌∷◌, get_or, ltb}
use Prim.Native.String.{String}
use Rattle.octets.specs.Ascii.{ascii}
use Rattle.octets.specs.Slices.{equals}
use Rattle.octets.specs.Split.{split}
use Rattle.command.specs.declared.Refusal.{Refusal}

-- a word that is read as another one's code, and never written
pub record Alias : Type 0 where
  pub text : List ℕ
  pub code : ℕ

-- the kinds of values
pub data Kind : Type 0 where
  -- the refusal of an unknown word, the first word's code (the others count on), the words, the aliases
  word : Refusal → ℕ → List (List ℕ) → List Alias → Kind
  safe : Bool → Kind  -- a safe string, and whether it is "at most 32 bytes"
  integer : Kind
  base64 : Kind

pub record Key : Type 0 where
  pub name : List ℕ
  pub kind : Kind

abbrev pub key : String → Kind → Key
key n k = record { name = ascii n; kind = k }

-- words parted by blanks
abbrev pub words : String → List (List ℕ)
words s = split 32 (ascii s)

-- "`finish` and `finished` read as one action, written `finish`"
abbrev pub finished : Alias
finished = record { text = ascii "finished"; code = 6 }

-- "61 enumerated word unknown": of ac, zip, ft and tt
abbrev pub named : ℕ → List (List ℕ) → List Alias → Kind
named = word Refusal.UnknownWord

-- "64 integer out of range (also any `q` but 0, 1, 2)"
abbrev pub levels : Kind
levels = word Refusal.OutOfRange 0 (words "0 1 2") []

-- "fields in the order ac zip ft tt id fid pw q mod prm sz n st pr d". Code 0 is what absent means: no action, and of the other
-- words the first.
abbrev pub keys : List Key
keys =
    key "ac" (named 1 (words "send receive file data end_data finish cancel status") (finished ∷ []))
    ∷ key "zip" (named 0 (words "none") [])
    ∷ key "ft" (named 0 (words "regular directory symlink link") [])
    ∷ key "tt" (named 0 (words "simple rsync") [])
    ∷ key "id" (safe true)
    ∷ key "fid" (safe true)
    ∷ key "pw" (safe false)
    ∷ key "q" levels
    ∷ key "mod" integer
    ∷ key "prm" integer
    ∷ key "sz" integer
    ∷ key "n" base64
    ∷ key "st" base64
    ∷ key "pr" (safe true)
    ∷ key "d" base64
    ∷ []

-- the first place of a string in a list of strings, and the list's length where it is not there
unfoldable pub place_in : List (List ℕ) → List ℕ → ℕ
place_in [] s = 0
place_in (x ∷ xs) s = cond (equals s x) 0 (suc (place_in xs s))

-- the names of keys
abbrev pub names : List Key → List (List ℕ)
names [] = []
names (k ∷ ks) = k.name ∷ names ks

-- the number of a key in writing order, and the number of keys for an unknown one
abbrev pub number_of : List Key → List ℕ → ℕ
number_of ks n = place_in (names ks) n

-- a place in a list of that many members, if it is one
abbrev pub within : ℕ → ℕ → Option ℕ
within count n = cond (ltb n count) (Some n) None

-- the key with a number, and its kind
abbrev pub key_at : List Key → ℕ → Key
key_at ks n = get_or ks n (key "" integer)

abbrev pub kind_at : List Key → ℕ → Kind
kind_at ks n = (key_at ks n).kind
