-- What a text means: the abstract reader, on lists alone. A command is the list of its values, one for each key in writing order.
use Rattle.std.specs.Prelude.{ℕ, Bool, cond, ◌||◌, List, [], ◌∷◌, length, get_or, set, eqb}
use Rattle.decimal.specs.declared.Number.{Number}
use Rattle.command.specs.Keys.{Key, keys, kind_at}
use Rattle.command.specs.Values.{Value, count, absent, Got, value_read}
use Rattle.command.specs.Fields.{Turn, Step, text_read}

-- a key that has not stood, or the value that it stood with
pub data Field : Type 0 where
  unseen : Field
  seen : Value → Field

abbrev pub stored : ℕ → List Field → Got → Turn (List Field)
stored n s (Got.got v) = Turn.on (set s n (Field.seen v))
stored n s (Got.refused r) = Turn.off r s

-- "A known key may stand once" (5), and then its value is of its kind (6, 8)
abbrev pub once : Field → Turn (List Field) → List Field → Turn (List Field)
once Field.unseen t s = t
once (Field.seen v) t s = Turn.off 5 s

abbrev pub meant : Step (List Field)
meant n at v s = once (get_or s n Field.unseen) (stored n s (value_read (kind_at keys n) v)) s

-- before any field no key has stood
abbrev pub blank : List Key → List Field
blank [] = []
blank (k ∷ ks) = Field.unseen ∷ blank ks

-- the values in writing order: "Absent means .."
abbrev pub value_in : Key → Field → Value
value_in k Field.unseen = absent k.kind
value_in k (Field.seen v) = v

abbrev pub values_in : List Key → List Field → List Value
values_in [] s = []
values_in (k ∷ ks) [] = []
values_in (k ∷ ks) (f ∷ s) = value_in k f ∷ values_in ks s

-- ---- a command's values by name
abbrev pub number_in : Value → Number
number_in (Value.number n) = n
number_in (Value.bytes b) = count 0
number_in Value.outside = count 0

abbrev pub bytes_in : Value → List ℕ
bytes_in (Value.number n) = []
bytes_in (Value.bytes b) = b
bytes_in Value.outside = []

abbrev pub action_code : List Value → ℕ
action_code c = (number_in (get_or c 0 Value.outside)).magnitude

abbrev pub file_type_code : List Value → ℕ
file_type_code c = (number_in (get_or c 2 Value.outside)).magnitude

abbrev pub id_of : List Value → List ℕ
id_of c = bytes_in (get_or c 4 Value.outside)

abbrev pub file_id_of : List Value → List ℕ
file_id_of c = bytes_in (get_or c 5 Value.outside)

abbrev pub size_of : List Value → Number
size_of c = number_in (get_or c 10 Value.outside)

abbrev pub status_of : List Value → List ℕ
status_of c = bytes_in (get_or c 12 Value.outside)

abbrev pub data_of : List Value → List ℕ
data_of c = bytes_in (get_or c 14 Value.outside)

-- "`ac` and a non-empty `id` must be there" (7)
abbrev pub missing : List Value → Bool
missing c = eqb (action_code c) 0 || eqb (length (id_of c)) 0

-- ---- a text read
pub data Meaning : Type 0 where
  command : List Value → Meaning
  refused : ℕ → Meaning

abbrev pub complete : List Value → Meaning
complete c = cond (missing c) (Meaning.refused 7) (Meaning.command c)

abbrev pub finished : Turn (List Field) → Meaning
finished (Turn.on s) = complete (values_in keys s)
finished (Turn.off r s) = Meaning.refused r

unfoldable pub meaning_of : List ℕ → Meaning
meaning_of t = finished (text_read meant t (blank keys))
