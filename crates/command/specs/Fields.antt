-- The fields of a command text, left to right. What is done with a known key's value is a parameter, so that reading into values
-- and reading into places go by the same rule.
use Rattle.std.specs.Prelude.{ℕ, ◌+◌, Bool, cond, ◌&&◌, List, [], ◌∷◌, length, take, drop, ltb}
use Rattle.octets.specs.Search.{index_of}
use Rattle.octets.specs.Members.{every}
use Rattle.octets.specs.Ascii.{ascii}
use Rattle.octets.specs.Slices.{starts_with}
use Rattle.octets.specs.Split.{split}
use Rattle.frames.specs.Stream.{text_limit}
use Rattle.command.specs.Keys.{keys, number_of}
use Rattle.command.specs.Letters.{key_byte, text_byte}

-- a state after a field, or a refusal with the state that it leaves
pub data Turn (S : Type 0) : Type 0 where
  on : S → Turn S
  off : ℕ → S → Turn S

-- a turn that goes on
abbrev pub and_then : {S : Type 0} → Turn S → (S → Turn S) → Turn S
and_then (Turn.on s) k = k s
and_then (Turn.off r s) k = Turn.off r s

-- what a known key's value does: the key's number, the value's place in the text, the value, the state before
abbrev pub Step : Type 0 → Type 0
Step S = ℕ → ℕ → List ℕ → S → Turn S

-- "Keys: one or more of `[a-zA-Z0-9_]`"
unfoldable pub is_key : List ℕ → Bool
is_key n = ltb 0 (length n) && every key_byte n

-- where a field's first `=` stands, which divides key and value; its length where there is none
abbrev pub equals_sign : List ℕ → ℕ
equals_sign f = index_of 61 f

abbrev pub key_of : List ℕ → List ℕ
key_of f = take (equals_sign f) f

-- what follows it: "Values may be empty"
abbrev pub value_of : List ℕ → List ℕ
value_of f = drop (equals_sign f + 1) f

-- "Unknown keys are ignored, repeated ones too"
abbrev pub known : {S : Type 0} → Step S → ℕ → Step S
known step count n at v s = cond (ltb n count) (step n at v s) (Turn.on s)

-- one field, which stands at place `at`: refusal 4 for a field without `=` or a bad key; so "an empty field, or none at all, gives 4"
unfoldable pub field_read : {S : Type 0} → Step S → ℕ → List ℕ → S → Turn S
field_read step at f s =
    cond (ltb (equals_sign f) (length f) && is_key (key_of f))
    (known step (length keys) (number_of keys (key_of f)) (at + (equals_sign f + 1)) (value_of f) s)
    (Turn.off 4 s)

-- "then fields left to right"
unfoldable pub fields_read : {S : Type 0} → Step S → ℕ → List (List ℕ) → S → Turn S
fields_read step at [] s = Turn.on s
fields_read step at (f ∷ fs) s = and_then (field_read step at f s) (λ s'. fields_read step (at + length f + 1) fs s')

-- "a text read by itself gives 1 if over 8,192 bytes, and 4, after 3, if not starting `5113;`"; "fields separated by `;`"
unfoldable pub text_read : {S : Type 0} → Step S → List ℕ → S → Turn S
text_read step t s =
    cond (ltb text_limit (length t)) (Turn.off 1 s)
    (cond (every text_byte t)
    (cond (starts_with t (ascii "5113;")) (fields_read step 5 (split 59 (drop 5 t)) s) (Turn.off 4 s))
    (Turn.off 3 s))
