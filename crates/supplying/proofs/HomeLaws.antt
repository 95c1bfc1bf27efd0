-- A home path that is refused by its length alone is refused as the writer refuses it.
use Prim.Native.Nat.{ℕ, ◌+◌, ◌≤◌, ◌<◌}
use mathlib.Core.Path.{◌≡◌, refl}
use mathlib.Core.Bool.{true}
use mathlib.Core.List.{List, [], ◌∷◌}
use native.Mathlib.Omega.{arith}
use lib.ListN.{length, length-append}
use borrow.Author.Tests.{lt-ltb, le-ltb, ne_eqb}
use Rattle.octets.specs.Ascii.{ascii}
use Rattle.octets.specs.Members.{every}
use Rattle.octets.specs.Split.{split, onto}
use Rattle.base64_codec.specs.Encode.{text_of}
use Rattle.base64_codec.proofs.Lengths.{length-text}
use Rattle.frames.specs.Stream.{text_limit}
use Rattle.command.specs.Keys.{keys, kind_at}
use Rattle.command.specs.Letters.{safe_byte, is_byte}
use Rattle.command.specs.Values.{Value, count, text_or, word_shown, shown}
use Rattle.command.specs.Canonical.{canonical}
use Rattle.command.specs.Write.{write_of}
use Rattle.command.specs.Framed.{frame_room, framed_of}
use Rattle.protocol.specs.Table.{id_room}
use Rattle.protocol.specs.Replies.{status_word, unless_empty}
use Rattle.protocol.specs.Supplies.{home_room, home_values}
use Rattle.protocol.specs.declared.Status.TheVariants as Status
use Rattle.protocol.proofs.StatusText.{Shows, shows-none, shows-text, shows-absent, id-shown, base64-shown, word_fits}
use Rattle.protocol.proofs.StatusText.{added, joined_length}
use Rattle.supplying.specs.LongHomes.{LongHomeAsWritten}

action-shown : shown (kind_at keys 0) (Value.number (count 8)) ≡ text_or (ascii "status")
unfolding shown word_shown split onto
action-shown = refl

-- a field adds its value's bytes
unless-least : (name v : List ℕ) (fs : List (List ℕ)) → length v + added fs ≤ added (unless_empty name v fs)
unfolding added
unless-least name [] fs = omega arith
unless-least name (x ∷ v) fs = omega (arith, length-append name (61 ∷ x ∷ v))

module _ (id path : List ℕ) where
  abbrev status : List (List ℕ)
  status = unless_empty (ascii "st") (text_of (status_word Status.Ok)) []

  abbrev name : List (List ℕ)
  name = unless_empty (ascii "n") (text_of path) status

  abbrev fields : List (List ℕ)
  fields = ascii "ac=status" ∷ unless_empty (ascii "id") id name

  shows-home : every safe_byte id ≡ true → length id ≤ id_room → every is_byte path ≡ true → Shows keys (home_values id path) fields
  shows-home safe short bytes =
      shows-text _ _ _ _ (ascii "status") _ action-shown
      (shows-absent _ _ _ _ (shows-absent _ _ _ _ (shows-absent _ _ _ _
      (shows-text _ _ _ _ id _ (id-shown id safe short)
      (shows-absent _ _ _ _ (shows-absent _ _ _ _ (shows-absent _ _ _ _
      (shows-absent _ _ _ _ (shows-absent _ _ _ _ (shows-absent _ _ _ _
      (shows-text _ _ _ _ (text_of path) _ (base64-shown path bytes)
      (shows-text _ _ _ _ (text_of (status_word Status.Ok)) _ (base64-shown (status_word Status.Ok) (word_fits Status.Ok).0)
      (shows-absent _ _ _ _ (shows-absent _ _ _ _ shows-none))))))))))))))

  home-length : Shows keys (home_values id path) fields → home_room < length path → text_limit < length (canonical (home_values id path))
  unfolding canonical
  home-length s h =
      rw s.fields
      (omega (
        arith,
        joined_length (ascii "ac=status") (unless_empty (ascii "id") id name),
        unless-least (ascii "id") id name,
        unless-least (ascii "n") (text_of path) status,
        length-text path,
      ))

pub long-home_as-written : LongHomeAsWritten
unfolding framed_of write_of
long-home_as-written id path out safe some short bytes long room =
    let s = shows-home id path safe short bytes in
    rw (
      le-ltb (length out) frame_room room,
      s.fine,
      ne_eqb (length id) 0 (λ (q : length id ≡ 0). omega arith),
      lt-ltb text_limit (length (canonical (home_values id path))) (home-length id path s long),
    )
