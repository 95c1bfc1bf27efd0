-- The parts of a reply, one after another, are its bytes.
use Prim.Native.Nat.{ℕ}
use mathlib.Core.Path.{◌≡◌, refl, sym}
use mathlib.Core.Bool.{true, false}
use mathlib.Core.List.{List, [], ◌∷◌, ◌++◌, append_assoc, append-nil}
use Rattle.std.specs.Prelude.{Some, None}
use Rattle.octets.specs.Ascii.{ascii}
use Rattle.octets.specs.Split.{join}
use Rattle.base64_codec.specs.Encode as Base64
use Rattle.frames.specs.Stream.{framed}
use Rattle.protocol.specs.Replies.{status_word, is_held, unless_empty, size_text, status_text, reply_bytes}
use Rattle.protocol.specs.declared.Reply.{Reply}
use Rattle.reply.specs.Parts.{key_for, parts_of, joined}
use Rattle.protocol.specs.Table.{id_bytes}

-- each field with a `;` before it
abbrev led : List (List ℕ) → List ℕ
led [] = []
led (f ∷ fs) = 59 ∷ f ++ led fs

join-led : (f : List ℕ) (fs : List (List ℕ)) → join 59 (f ∷ fs) ≡ f ++ led fs
unfolding join
join-led f [] = sym (append-nil f)
join-led f (g ∷ fs) = rw (join-led g fs)

led-field : (k v : List ℕ) (fs : List (List ℕ)) (e : List ℕ)
    → led (unless_empty k v fs) ++ e ≡ key_for (59 ∷ k ++ 61 ∷ []) v ++ (v ++ (led fs ++ e))
led-field k [] fs e = refl
led-field k (x ∷ v) fs e = simp append_assoc

-- by the texts of its values
reply-parts : (id file : List ℕ) (size : ℕ) (word : List ℕ)
    → framed (status_text id file size word) ≡ joined (parts_of id file (size_text size) (Base64.text_of word))
unfolding status_text joined
reply-parts id file size word =
    let st = (ascii "st=" ++ Base64.text_of word) ∷ [] in
    let sz = unless_empty (ascii "sz") (size_text size) st in
    let fs = unless_empty (ascii "fid") file sz in
    let closing : List ℕ = 0x1B ∷ 0x5C ∷ [] in
    rw (
      join-led,
      led-field (ascii "id") id fs closing,
      led-field (ascii "fid") file sz closing,
      led-field (ascii "sz") (size_text size) st closing,
      append-nil (Base64.text_of word),
    )

-- ---- by the reply: sent, or held back
pub sent : (r : Reply) → is_held r.status r.quiet ≡ false
    → reply_bytes (Some r)
    ≡ joined (parts_of (id_bytes r.id) (id_bytes r.file_id)
    (size_text r.size) (Base64.text_of (status_word r.status)))
unfolding reply_bytes
sent r h = rw h (reply-parts (id_bytes r.id) (id_bytes r.file_id) r.size (status_word r.status))

pub none-due : reply_bytes None ≡ []
unfolding reply_bytes
none-due = refl

pub held : (r : Reply) → is_held r.status r.quiet ≡ true → reply_bytes (Some r) ≡ []
unfolding reply_bytes
held r h = rw h
