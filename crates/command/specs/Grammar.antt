-- Which texts are canonical: a grammar over the table of keys. It says nothing of how a text is read or written.
use Rattle.std.specs.Prelude.{Ok, ℕ, ◌+◌, ◌≤◌, ◌<◌, ◌≡◌, Bool, true, false, ◌||◌, List, [], ◌∷◌, ◌++◌, length, get_or}
use Rattle.octets.specs.Members.{every}
use Rattle.octets.specs.Ascii.{ascii}
use Rattle.octets.specs.Slices.{equals}
use Rattle.octets.specs.Split.{join}
use Rattle.base64_codec.specs.Decode.{verdict_of}
use Rattle.decimal.specs.Canonical.{Canonical}
use Rattle.decimal.specs.Read.{parse_of}
use Rattle.decimal.specs.declared.Number.{Number}
use Rattle.frames.specs.Stream.{text_limit}
use Rattle.command.specs.Keys.{Alias, Kind, Key, keys}
use Rattle.command.specs.Letters.{safe_byte}
use Rattle.command.specs.declared.Refusal.{Refusal}

-- the text of a value of a kind, other than what absent means: "defaults left out"
pub data CanonicalValue : Kind → List ℕ → Type 0 where
  -- one of the words, and no alias: "`finish` and never `finished`". Code 0 is what absent means
  a_word : {unknown : Refusal} {first : ℕ} {ws : List (List ℕ)} {aliases : List Alias} {v : List ℕ} (i : ℕ)
      → i < length ws → get_or ws i [] ≡ v → (first + i ≡ 0 → ⊥) → CanonicalValue (Kind.word unknown first ws aliases) v
  -- "safe string", and "at most 32 bytes" where that is asked; not empty
  a-string : {short : Bool} {v : List ℕ}
      → every safe_byte v ≡ true → (short ≡ true → length v ≤ 32) → (v ≡ [] → ⊥) → CanonicalValue (Kind.safe short) v
  -- "within signed 64 bits", "integers without leading zeros or `-0`"; not zero
  an-integer : {v : List ℕ} (n : Number)
      → parse_of v ≡ Ok n → Canonical v → (v ≡ ascii "0" → ⊥) → CanonicalValue Kind.integer v
  -- "Base64: length a multiple of 4, padding required, unused bits zero"; not empty
  a-base64 : {v : List ℕ} (padding : ℕ)
      → verdict_of v ≡ Ok padding → (v ≡ [] → ⊥) → CanonicalValue Kind.base64 v

-- "`ac` and a non-empty `id` must be there"
abbrev pub needed : Key → Bool
needed k = equals k.name (ascii "ac") || equals k.name (ascii "id")

-- "fields in the order ..", "no unknown key": each key there with such a value, or left out
pub data CanonicalFields : List Key → List (List ℕ) → Type 0 where
  no_more : CanonicalFields [] []
  left_out : {k : Key} {ks : List Key} {fs : List (List ℕ)}
      → needed k ≡ false → CanonicalFields ks fs → CanonicalFields (k ∷ ks) fs
  there : {k : Key} {ks : List Key} {fs : List (List ℕ)} (v : List ℕ)
      → CanonicalValue k.kind v → CanonicalFields ks fs → CanonicalFields (k ∷ ks) ((k.name ++ 61 ∷ v) ∷ fs)

-- "Canonical text: `5113;` and fields ..", "separated by `;`"; "A command text may have 8,192 bytes, the `5113;` included"
pub record CanonicalText (t : List ℕ) : Type 0 where
  pub fields : List (List ℕ)
  pub in_order : CanonicalFields keys fields
  pub joined : t ≡ ascii "5113;" ++ join 59 fields
  pub short : length t ≤ text_limit
