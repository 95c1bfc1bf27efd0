-- The text of a reply: it is canonical, reads as the command that its fields say, and has at most 124 bytes with opener and closer.
use Prim.Native.Nat.{ℕ, suc, ◌+◌, ◌^◌, ◌≤◌, ◌<◌}
use mathlib.Core.Path.{◌≡◌, refl}
use mathlib.Core.Bool.{Bool, true, false, cond}
use mathlib.Core.List.{List, [], ◌∷◌, ◌++◌}
use native.Mathlib.Omega.{arith}
use lib.ListN.{length, length-append}
use lib.Dec.{eqb, lit≤}
use borrow.Author.Tests.{le-ltb, ne_eqb}
use Rattle.octets.specs.Members.{every}
use Rattle.octets.specs.Ascii.{ascii}
use Rattle.octets.specs.Split.{split, onto, join}
use Rattle.base64_codec.specs.Encode as Base64
use Rattle.base64_codec.proofs.Lengths.{length-text}
use Rattle.decimal.specs.Write as Decimal
use Rattle.decimal.proofs.Digits.{length-fixed}
use Rattle.decimal.proofs.Texts.{text-length}
use Rattle.decimal.proofs.Widths.{width-least}
use Rattle.frames.specs.Stream.{framed}
use Rattle.command.specs.Keys.{Kind, Key, keys, kind_at}
use Rattle.command.specs.Letters.{safe_byte, is_byte}
use Rattle.command.specs.Values.{Value, count, absent, Shown, text_or, word_shown, safe_shown, integer_shown, base64_shown, shown}
use Rattle.command.specs.Meaning.{Meaning, meaning_of}
use Rattle.command.specs.Canonical.{fields_of, canonical}
use Rattle.command.specs.Write.{Checked, checked_of}
use Rattle.command.proofs.WrittenValues.{absent-shown}
use Rattle.command.proofs.Accepted.{Accepted, accepted-writes}
use Rattle.command.proofs.RoundTrip.{read-written}
use Rattle.protocol.specs.Files.{count_limit}
use Rattle.protocol.specs.Replies.{reply_room, status_word, unless_empty, size_text, status_fields, status_text, status_values}
use Rattle.protocol.specs.Promises.{EveryStatus}
use Rattle.protocol.specs.declared.Status.{Status}

-- ---- the words: bytes, 1 to 8 of them
pub word_fits : (w : Status) → (every is_byte (status_word w) ≡ true) × (1 ≤ length (status_word w)) × (length (status_word w) ≤ 8)
unfolding every
word_fits Status.Ok = (refl, lit≤ tt, lit≤ tt)
word_fits Status.Started = (refl, lit≤ tt, lit≤ tt)
word_fits Status.Progress = (refl, lit≤ tt, lit≤ tt)
word_fits Status.Canceled = (refl, lit≤ tt, lit≤ tt)
word_fits Status.Eperm = (refl, lit≤ tt, lit≤ tt)
word_fits Status.Eio = (refl, lit≤ tt, lit≤ tt)
word_fits Status.Enoent = (refl, lit≤ tt, lit≤ tt)
word_fits Status.Enospc = (refl, lit≤ tt, lit≤ tt)
word_fits Status.Ebusy = (refl, lit≤ tt, lit≤ tt)
word_fits Status.Enotsup = (refl, lit≤ tt, lit≤ tt)
word_fits Status.Einval = (refl, lit≤ tt, lit≤ tt)
word_fits Status.Eexist = (refl, lit≤ tt, lit≤ tt)
word_fits Status.Emfile = (refl, lit≤ tt, lit≤ tt)
word_fits Status.Efbig = (refl, lit≤ tt, lit≤ tt)

-- their Base64: 4 to 12 characters
word-length : (w : Status) → (1 ≤ length (Base64.text_of (status_word w))) × (length (Base64.text_of (status_word w)) ≤ 12)
word-length w =
    let f = word_fits w in
    (omega (arith, length-text (status_word w)), omega (arith, length-text (status_word w)))

-- ---- how the writer shows each value
text-some : (v : List ℕ) → 1 ≤ length v → text_or v ≡ Shown.text v
text-some [] h = absurd (omega arith)
text-some (x ∷ v) h = refl

action-shown : shown (kind_at keys 0) (Value.number (count 8)) ≡ text_or (ascii "status")
unfolding shown word_shown split onto
action-shown = refl

pub id-shown : (v : List ℕ) → every safe_byte v ≡ true → length v ≤ 32 → shown (Kind.safe true) (Value.bytes v) ≡ text_or v
unfolding shown safe_shown
id-shown v s h = rw (s, le-ltb 32 (length v) h)

pub size-shown : (n : ℕ) → n ≤ count_limit → shown Kind.integer (Value.number (count n)) ≡ text_or (size_text n)
unfolding shown integer_shown Decimal.writable
size-shown n h = rw (le-ltb 9223372036854775807 n (omega arith)) (go (eqb n 0))
  where
    go : (b : Bool) → cond b Shown.left_out (Shown.text (Decimal.text_of (count n))) ≡ text_or (cond b [] (Decimal.text_of (count n)))
    go true = refl
    go false = rw (text-some (Decimal.text_of (count n)) (text-length (count n)).0)

pub base64-shown : (b : List ℕ) → every is_byte b ≡ true → shown Kind.base64 (Value.bytes b) ≡ text_or (Base64.text_of b)
unfolding shown base64_shown
base64-shown b e = rw e

-- ---- field by field
-- what is written of values by keys: these fields, and nothing is refused
pub record Shows (ks : List Key) (c : List Value) (fs : List (List ℕ)) : Type 0 where
  pub fields : fields_of ks c ≡ fs
  pub fine : checked_of ks c ≡ Checked.fine

pub shows-none : Shows [] [] []
unfolding fields_of checked_of
shows-none = record { fields = refl; fine = refl }

pub shows-text : (k : Key) (ks : List Key) (v : Value) (c : List Value) (b : List ℕ) (fs : List (List ℕ)) → shown k.kind v ≡ text_or b
    → Shows ks c fs → Shows (k ∷ ks) (v ∷ c) (unless_empty k.name b fs)
unfolding fields_of checked_of
shows-text k ks v c [] fs e r = record { fields = rw (e, r.fields); fine = rw (e, r.fine) }
shows-text k ks v c (x ∷ b) fs e r = record { fields = rw (e, r.fields); fine = rw (e, r.fine) }

pub shows-absent : (k : Key) (ks : List Key) (c : List Value) (fs : List (List ℕ)) → Shows ks c fs
    → Shows (k ∷ ks) (absent k.kind ∷ c) fs
shows-absent k ks c fs r = shows-text k ks (absent k.kind) c [] fs (absent-shown k.kind) r

pub unless-some : (name v : List ℕ) (fs : List (List ℕ)) → 1 ≤ length v → unless_empty name v fs ≡ (name ++ 61 ∷ v) ∷ fs
unless-some name [] fs h = absurd (omega arith)
unless-some name (x ∷ v) fs h = refl

-- ---- how long the text is
-- what the fields after the first add, each with a `;`
unfoldable pub added : List (List ℕ) → ℕ
added [] = 0
added (f ∷ fs) = suc (length f) + added fs

pub joined_length : (f : List ℕ) (fs : List (List ℕ)) → length (join 59 (f ∷ fs)) ≡ length f + added fs
unfolding join added
joined_length f [] = omega arith
joined_length f (g ∷ fs) = omega (arith, length-append f (59 ∷ join 59 (g ∷ fs)), joined_length g fs)

pub unless-added : (name v : List ℕ) (fs : List (List ℕ)) → added (unless_empty name v fs) ≤ 2 + length name + length v + added fs
unfolding added
unless-added name [] fs = omega arith
unless-added name (x ∷ v) fs = omega (arith, length-append name (61 ∷ x ∷ v))

-- 2^40 has 13 digits
pub size-length : (n : ℕ) → n ≤ count_limit → length (size_text n) ≤ 13
unfolding Decimal.text_of
size-length n h = go (eqb n 0) (Decimal.writable (count n))
  where
    go : (b w : Bool) → length (cond b [] (cond w (Decimal.text_of (count n)) [])) ≤ 13
    go true w = omega arith
    go false false = omega arith
    go false true =
        let l : n < 10 ^ 13 = omega arith in
        omega (arith, length-fixed (Decimal.width_of n) n, (width-least n).least 13 (omega arith) l)

-- "No reply is longer than 124 bytes"
pub status-length : (id file : List ℕ) (size : ℕ) (w : Status) → length id ≤ 32 → length file ≤ 32 → size ≤ count_limit
    → length (framed (status_text id file size (status_word w))) ≤ reply_room
unfolding status_text added
status-length id file size w short file_short small =
    let st : List (List ℕ) = (ascii "st=" ++ Base64.text_of (status_word w)) ∷ [] in
    let sz : List (List ℕ) = unless_empty (ascii "sz") (size_text size) st in
    let fid : List (List ℕ) = unless_empty (ascii "fid") file sz in
    omega (
      arith,
      length-append (status_text id file size (status_word w)) (0x1B ∷ 0x5C ∷ []),
      joined_length (ascii "ac=status") (unless_empty (ascii "id") id fid),
      unless-added (ascii "id") id fid,
      unless-added (ascii "fid") file sz,
      unless-added (ascii "sz") (size_text size) st,
      size-length size small,
      (word-length w).1,
    )

-- ---- what it means
module _ (id file : List ℕ) (size : ℕ) (w : Status) (safe : every safe_byte id ≡ true) (some : 1 ≤ length id) (short : length id ≤ 32)
    (file_safe : every safe_byte file ≡ true) (file_short : length file ≤ 32) (small : size ≤ count_limit) where
  shows-status : Shows keys (status_values id file size (status_word w)) (status_fields id file size (status_word w))
  shows-status =
      rw (← unless-some (ascii "st") (Base64.text_of (status_word w)) [] (word-length w).0)
      (shows-text _ _ _ _ (ascii "status") _ action-shown
      (shows-absent _ _ _ _ (shows-absent _ _ _ _ (shows-absent _ _ _ _
      (shows-text _ _ _ _ id _ (id-shown id safe short)
      (shows-text _ _ _ _ file _ (id-shown file file_safe file_short)
      (shows-absent _ _ _ _ (shows-absent _ _ _ _ (shows-absent _ _ _ _ (shows-absent _ _ _ _
      (shows-text _ _ _ _ (size_text size) _ (size-shown size small)
      (shows-absent _ _ _ _
      (shows-text _ _ _ _ (Base64.text_of (status_word w)) _ (base64-shown (status_word w) (word_fits w).0)
      (shows-absent _ _ _ _ (shows-absent _ _ _ _ shows-none)))))))))))))))

  -- "canonical text with `ac=status` .."
  status-canonical : status_text id file size (status_word w) ≡ canonical (status_values id file size (status_word w))
  unfolding status_text canonical
  status-canonical = rw shows-status.fields

  -- which reads as its values
  pub status-means : meaning_of (status_text id file size (status_word w)) ≡ Meaning.command (status_values id file size (status_word w))
  status-means =
      let c : List Value = status_values id file size (status_word w) in
      let closed = length-append (status_text id file size (status_word w)) (0x1B ∷ 0x5C ∷ []) in
      let a : Accepted c (canonical c) = record {
        kinds = shows-status.fine;
        whole = ne_eqb (length id) 0 (λ (q : length id ≡ 0). omega arith);
        short = rw (← status-canonical) (omega (arith, status-length id file size w short file_short small, closed));
        room = omega arith;
      } in
      rw status-canonical (read-written c (canonical c) (length (canonical c)) (rw (accepted-writes c (canonical c) a)))

pub every-status : EveryStatus
every-status id file size w k file_safe file_short small =
    record {
      written = status-canonical id file size w k.safe k.some k.short file_safe file_short small;
      means = status-means id file size w k.safe k.some k.short file_safe file_short small;
    }
