-- The texts on the line: each order that may follow is written whole, and it and its replies read as what they say.
use Prim.Native.Nat.{ℕ, ◌+◌, ◌≤◌}
use mathlib.Core.Path.{◌≡◌, refl}
use mathlib.Core.Bool.{true, false}
use mathlib.Core.List.{List, [], ◌∷◌, ◌++◌}
use native.Mathlib.Omega.{arith}
use lib.ListN.{length, length-append}
use lib.Seq.{sets}
use lib.Dec.{leb, eqb, lit≤}
use borrow.Author.Tests.{le-ltb, ne_eqb, leb-true}
use Rattle.octets.specs.Ascii.{ascii}
use Rattle.octets.specs.Members.{every}
use Rattle.octets.specs.Outcome.{outcome}
use Rattle.octets.specs.Split.{split, onto}
use Rattle.octets.proofs.Below.{both_test}
use Rattle.base64_codec.specs.Encode as Base64
use Rattle.base64_codec.proofs.Lengths.{length-text}
use Rattle.pathname.specs.Name.{name_limit, valid_name}
use Rattle.frames.specs.Stream.{Mode, Told, stream, framed}
use Rattle.command.specs.Keys.{keys, kind_at}
use Rattle.command.specs.Letters.{safe_byte, is_byte}
use Rattle.command.specs.Values.{Value, count, text_or, word_shown, shown}
use Rattle.command.specs.Meaning.{Meaning, missing, meaning_of}
use Rattle.command.specs.Canonical.{canonical}
use Rattle.command.specs.Slots.{action_code}
use Rattle.command.specs.Write.{Checked, checked_of, Answer}
use Rattle.command.specs.Framed.{frame_room, framed_of}
use Rattle.command.specs.declared.Action.{Action}
use Rattle.command.proofs.Accepted.{Accepted, accepted-writes}
use Rattle.command.proofs.RoundTrip.{read-written}
use Rattle.command.proofs.Framed.{means-framed}
use Rattle.protocol.specs.Written.{values_with}
use Rattle.protocol.specs.Files.{count_limit}
use Rattle.protocol.specs.Replies.{reply_room, status_word, unless_empty, size_text}
use Rattle.protocol.specs.Sound.{IsId}
use Rattle.protocol.specs.declared.Status.{Status}
use Rattle.protocol.proofs.StatusText.{
  Shows,
  shows-none,
  shows-text,
  shows-absent,
  id-shown,
  size-shown,
  base64-shown,
  unless-some,
  added,
  joined_length,
  unless-added,
  size-length,
  status-length,
  status-means,
}
use Rattle.sending.specs.Plans.{Order}
use Rattle.sending.proofs.arrival.path.Points.{Point, Goes, command_at, text_at, Said, said, reply_at, said_text, said_values}

-- ---- the commands of a sender
-- a command that the writer takes into every buffer that a frame may need
record Fine (c : List Value) : Type 0 where
  kinds : checked_of keys c ≡ Checked.fine
  whole : missing c ≡ false
  short : length (canonical c) ≤ 5600

-- the word of an action, 1 to 8 letters
record Named (a : Action) (w : List ℕ) : Type 0 where
  some : eqb (action_code a) 0 ≡ false
  shows : shown (kind_at keys 0) (Value.number (count (action_code a))) ≡ text_or w
  from : 1 ≤ length w
  to : length w ≤ 8

send-named : Named Action.Send (ascii "send")
unfolding shown word_shown split onto
send-named = record { some = refl; shows = refl; from = lit≤ tt; to = lit≤ tt }

file-named : Named Action.File (ascii "file")
unfolding shown word_shown split onto
file-named = record { some = refl; shows = refl; from = lit≤ tt; to = lit≤ tt }

data-named : Named Action.Data (ascii "data")
unfolding shown word_shown split onto
data-named = record { some = refl; shows = refl; from = lit≤ tt; to = lit≤ tt }

last-named : Named Action.EndData (ascii "end_data")
unfolding shown word_shown split onto
last-named = record { some = refl; shows = refl; from = lit≤ tt; to = lit≤ tt }

finish-named : Named Action.Finish (ascii "finish")
unfolding shown word_shown split onto
finish-named = record { some = refl; shows = refl; from = lit≤ tt; to = lit≤ tt }

module _ {a : Action} {w : List ℕ} (named : Named a w) (id file : List ℕ) (size : ℕ) (name contents : List ℕ) (key : IsId id)
    (file_safe : every safe_byte file ≡ true) (file_short : length file ≤ 32) (small : size ≤ count_limit)
    (name_bytes : every is_byte name ≡ true) (bytes : every is_byte contents ≡ true)
    (room : length name + length contents ≤ 4096) where
  -- its fields after the first
  abbrev d_fields : List (List ℕ)
  d_fields = unless_empty (ascii "d") (Base64.text_of contents) []

  abbrev n_fields : List (List ℕ)
  n_fields = unless_empty (ascii "n") (Base64.text_of name) d_fields

  abbrev sz_fields : List (List ℕ)
  sz_fields = unless_empty (ascii "sz") (size_text size) n_fields

  abbrev fid_fields : List (List ℕ)
  fid_fields = unless_empty (ascii "fid") file sz_fields

  abbrev id_fields : List (List ℕ)
  id_fields = unless_empty (ascii "id") id fid_fields

  shows-values : Shows keys (values_with a id file size name [] contents) ((ascii "ac=" ++ w) ∷ id_fields)
  shows-values =
      rw (← unless-some (ascii "ac") w id_fields named.from)
      (shows-text _ _ _ _ w _ named.shows
      (shows-absent _ _ _ _ (shows-absent _ _ _ _ (shows-absent _ _ _ _
      (shows-text _ _ _ _ id _ (id-shown id key.safe key.short)
      (shows-text _ _ _ _ file _ (id-shown file file_safe file_short)
      (shows-absent _ _ _ _ (shows-absent _ _ _ _ (shows-absent _ _ _ _ (shows-absent _ _ _ _
      (shows-text _ _ _ _ (size_text size) _ (size-shown size small)
      (shows-text _ _ _ _ (Base64.text_of name) _ (base64-shown name name_bytes)
      (shows-absent _ _ _ _ (shows-absent _ _ _ _
      (shows-text _ _ _ _ (Base64.text_of contents) _ (base64-shown contents bytes) shows-none)))))))))))))))

  values_length : length (canonical (values_with a id file size name [] contents)) ≤ 5600
  unfolding canonical added
  values_length =
      rw shows-values.fields
      (omega (
        arith,
        joined_length (ascii "ac=" ++ w) id_fields,
        unless-added (ascii "id") id fid_fields,
        unless-added (ascii "fid") file sz_fields,
        unless-added (ascii "sz") (size_text size) n_fields,
        unless-added (ascii "n") (Base64.text_of name) d_fields,
        unless-added (ascii "d") (Base64.text_of contents) [],
        size-length size small,
        length-text name,
        length-text contents,
        named.to,
        key.short,
      ))

  values-fine : Fine (values_with a id file size name [] contents)
  values-fine =
      record {
        kinds = shows-values.fine;
        whole = rw (named.some, ne_eqb (length id) 0 (λ (q : length id ≡ 0). let s = key.some in omega arith));
        short = values_length;
      }

-- "Name: 1 to 4,096 bytes"
name-short : (n : List ℕ) → valid_name n ≡ true → length n ≤ 4096
unfolding valid_name
name-short n e = let h = both_test (leb 1 (length n)) _ e in leb-true (length n) name_limit (both_test _ _ h.1).0

order-fine : {id : List ℕ} {p : Point} {o : Order} → Goes id p o → Fine (command_at id p o)
unfolding every
order-fine {id} (Goes.sends i) = values-fine send-named id [] 0 [] [] i refl (lit≤ tt) (lit≤ tt) refl refl (lit≤ tt)
order-fine {id} (Goes.files past k name size i n v b) =
    values-fine file-named id k size name [] i n.id.safe n.id.short n.small b refl (omega (arith, name-short name v))
order-fine {id} (Goes.pieces past f c i n fit long sz) =
    values-fine data-named id f.id 0 [] c i n.id.safe n.id.short (lit≤ tt) refl fit.bytes (omega (arith, fit.short))
order-fine {id} (Goes.lasts past f c i n fit long sz) =
    values-fine last-named id f.id 0 [] c i n.id.safe n.id.short (lit≤ tt) refl fit.bytes (omega (arith, fit.short))
order-fine {id} (Goes.finishes past i b) = values-fine finish-named id [] 0 [] [] i refl (lit≤ tt) (lit≤ tt) refl refl (lit≤ tt)

-- ---- what is written of an order
module _ {id : List ℕ} {p : Point} {o : Order} (g : Goes id p o) where
  accepted : (out : List ℕ) → 5600 ≤ length out → Accepted (command_at id p o) out
  accepted out room =
      let f = order-fine g in
      record { kinds = f.kinds; whole = f.whole; short = omega (arith, f.short); room = omega (arith, f.short) }

  pub order-length : length (framed (text_at id p o)) ≤ frame_room
  order-length = omega (arith, length-append (text_at id p o) (0x1B ∷ 0x5C ∷ []), (order-fine g).short)

  -- the writer writes it
  pub order-framed : (out : List ℕ) → frame_room ≤ length out
      → framed_of (command_at id p o) out
      ≡ outcome (Answer.written (length (framed (text_at id p o)))) (sets out 0 (framed (text_at id p o)))
  unfolding framed_of
  order-framed out room =
      let t : List ℕ = text_at id p o in
      let l : length (framed t) ≡ 4 + length t = omega (arith, length-append t (0x1B ∷ 0x5C ∷ [])) in
      rw (le-ltb (length out) frame_room room, accepted-writes (command_at id p o) out (accepted out (omega arith)), l)

  -- it reads as the command that it is
  pub order-means : meaning_of (text_at id p o) ≡ Meaning.command (command_at id p o)
  order-means =
      let c : List Value = command_at id p o in
      let f = order-fine g in
      let a : Accepted c (canonical c) =
      record { kinds = f.kinds; whole = f.whole; short = omega (arith, f.short); room = omega arith } in
      read-written c (canonical c) (length (canonical c)) (rw (accepted-writes c (canonical c) a))

  -- its frame tells it and nothing else
  pub order-told : stream Mode.outside (framed (text_at id p o)) ≡ (Told.command (text_at id p o) ∷ [], Mode.outside)
  order-told = means-framed (text_at id p o) (command_at id p o) order-means

-- ---- what is replied to it
-- a reply reads as what it says, and is the one thing that its frame tells
pub record Reads (id : List ℕ) (s : Said) : Type 0 where
  pub means : meaning_of (said_text id s) ≡ Meaning.command (said_values id s)
  pub told : stream Mode.outside (framed (said_text id s)) ≡ (Told.command (said_text id s) ∷ [], Mode.outside)
  pub short : length (framed (said_text id s)) ≤ reply_room

abbrev pub AllRead : List ℕ → List Said → Type 0
AllRead id [] = Unit {0}
AllRead id (s ∷ ss) = Reads id s × AllRead id ss

said-reads : {id file : List ℕ} {size : ℕ} (w : Status) → IsId id → every safe_byte file ≡ true → length file ≤ 32 → size ≤ count_limit
    → Reads id (said file size (status_word w))
said-reads {id} {file} {size} w i file_safe file_short small =
    let m = status-means id file size w i.safe i.some i.short file_safe file_short small in
    record { means = m; told = means-framed _ _ m; short = status-length id file size w i.short file_short small }

-- every reply to an order
pub replies-read : {id : List ℕ} {p : Point} {o : Order} → Goes id p o → AllRead id (reply_at p o)
unfolding every
replies-read (Goes.sends i) = (said-reads Status.Ok i refl (lit≤ tt) (lit≤ tt), tt)
replies-read (Goes.files past k name size i n v b) = (said-reads Status.Started i n.id.safe n.id.short (lit≤ tt), tt)
replies-read (Goes.pieces past f c i n fit long sz) = (said-reads Status.Progress i n.id.safe n.id.short long, tt)
replies-read (Goes.lasts past f c i n fit long sz) = (said-reads Status.Ok i n.id.safe n.id.short long, tt)
replies-read (Goes.finishes past i b) = tt
