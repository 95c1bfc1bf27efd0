-- The examples hold, and the laws are false of the wrong menders: each by computing the definitions.
use Prim.Native.Nat.{ℕ}
use mathlib.Core.Path.{◌≡◌, refl, ap}
use mathlib.Core.Bool.{Bool, cond}
use mathlib.Core.List.{List}
use native.Mathlib.Omega.{arith}
use lib.ListN.{length, get_or}
use Rattle.octets.specs.Search.{index_of, index_after}
use Rattle.octets.specs.Members.{every}
use Rattle.octets.specs.Slices.{equals, starts_with}
use Rattle.octets.specs.Split.{split, onto}
use Rattle.base64_codec.specs.Alphabet as Alphabet
use Rattle.base64_codec.specs.Decode as Decode
use Rattle.decimal.specs.Read as Read
use Rattle.frames.specs.Stream.{Mode, Told, read_byte, stream}
use Rattle.frames.specs.DragDrop.{noisy}
use Rattle.command.specs.Keys.{place_in}
use Rattle.command.specs.Letters.{key_byte, safe_byte, text_byte}
use Rattle.command.specs.Values.{alias_read, word_read, safe_read, value_read}
use Rattle.command.specs.Fields.{is_key, field_read, fields_read, text_read}
use Rattle.command.specs.Meaning.{meaning_of}
use Rattle.recordings.specs.Pieces.{completed, cut, joined, pieces_of, bytes_of, kept_bytes, rows_from, dropped}
use Rattle.recordings.specs.Laws.{without, readable, IsRefused, verdicts, commands_told}
use Rattle.recordings.specs.Mend.{mend_of}
use Rattle.recordings.specs.Examples.{send, MendExamples}
use Rattle.recordings.specs.WrongMenders.{MendTeeth}

-- ---- what computing opens: who names one of these on an `unfolding` line opens all that its own line names
unfoldable meaning : Unit {0}
unfolding index_of index_after every equals starts_with split onto Alphabet.value_of Decode.verdict_of Decode.bytes_of Decode.scan
    Decode.ending Decode.group Read.parse_of Read.magnitude_of Read.digits_of Read.ranged_of place_in key_byte safe_byte text_byte
    alias_read word_read safe_read value_read is_key field_read fields_read text_read meaning_of
meaning = tt

unfoldable pieces : Unit {0}
unfolding meaning read_byte stream completed cut joined pieces_of bytes_of kept_bytes rows_from dropped without readable verdicts
pieces = tt

pub examples_hold : MendExamples
unfolding pieces mend_of
examples_hold = (
  (
    (refl, refl),
    (
      (refl, refl),
      (
        (refl, refl),
        (
          (refl, refl),
          (
            (refl, refl),
            (
              (refl, refl),
              (
                (refl, refl),
                (
                  (refl, refl),
                  (
                    (refl, refl),
                    (
                      (refl, refl),
                      (
                        (refl, refl),
                        (
                          (refl, refl),
                          (
                            (refl, refl),
                            (
                              (refl, refl),
                              (
                                (refl, refl),
                                (
                                  (refl, refl),
                                  (
                                    (refl, refl),
                                    tt,
                                  ),
                                ),
                              ),
                            ),
                          ),
                        ),
                      ),
                    ),
                  ),
                ),
              ),
            ),
          ),
        ),
      ),
    ),
  ),
  record { output_only = refl; short_output = refl; short_list = refl; empty = refl },
)

-- ---- the teeth
escape-too : IsRefused 2 (noisy "E]5113;abcE") (noisy "xy") → ⊥
unfolding pieces
escape-too (IsRefused.closed f e) = let z : ◌≡◌ {A = ℕ} 99 27 = ap (λ (l : List ℕ). get_or l 9 0) f.whole in absurd (omega arith)
escape-too (IsRefused.abandoned n o c l a) = let z : ◌≡◌ {A = ℕ} 0 1 = ap (λ (b : Bool). cond b 1 0) l in absurd (omega arith)

closer-less : IsRefused 4 (noisy "E]5113;") (noisy "E\\") → ⊥
unfolding pieces
closer-less (IsRefused.closed f e) = let z : ◌≡◌ {A = ℕ} 51 27 = ap (λ (l : List ℕ). get_or l 5 0) f.whole in absurd (omega arith)
closer-less (IsRefused.abandoned n o c l a) = absurd (omega arith)

pub teeth : MendTeeth
unfolding commands_told pieces
teeth =
    record {
      bytes_forgotten = λ h. let z : ◌≡◌ {A = ℕ} 0 1 = ap length (h (noisy "x")) in absurd (omega arith);
      rows_forgotten = λ h. let z : ◌≡◌ {A = ℕ} 1 0 = ap length (h (noisy "x")) in absurd (omega arith);
      all_dropped = λ h. let z : ◌≡◌ {A = ℕ} 0 1 = ap told (h (noisy send)) in absurd (omega arith);
      all_kept = λ h. let z : ◌≡◌ {A = ℕ} 1 0 = ap told (h (noisy "E]5113;E\\")) in absurd (omega arith);
      without_opener = λ h. let z : ◌≡◌ {A = ℕ} 0 1 = ap told (h (noisy send)) in absurd (omega arith);
      fewer_each_time = λ h.
          let z : ◌≡◌ {A = ℕ} 0 21 = ap length (h (noisy "E]5113;ac=send;id=mE\\E]5113;ac=send;id=mE\\")).1 in absurd (omega arith);
      not_joined = λ h. (h (noisy "ab")).1;
      with_its_escape = λ h. escape-too (h (noisy "E]5113;abcExy")).1;
      without_its_closer = λ h. closer-less (h (noisy "E]5113;E\\")).1;
      refused_hidden = λ h. let z : ◌≡◌ {A = ℕ} 0 1 = ap length (h (noisy "E]5113;E\\")) in absurd (omega arith);
      unfinished_refused = λ h. let z : ◌≡◌ {A = ℕ} 1 0 = ap length (h (noisy "E]5113;")) in absurd (omega arith);
      many_rows = λ h. let z = (h (noisy "ab")).1 in absurd (omega arith);
    }
  where
    told : List Told × Mode → ℕ
    told r = length r.0
