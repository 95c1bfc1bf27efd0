-- The reply to a closing: what the reply buffer holds afterwards reads back as OK with the count, unless quiet holds it back.
use Prim.Native.Nat.{ℕ, ◌+◌, ◌≤◌}
use mathlib.Core.Path.{◌≡◌, refl}
use mathlib.Core.Bool.{Bool, true, false, ◌||◌}
use mathlib.Core.List.{List, []}
use native.Mathlib.Omega.{arith}
use lib.ListN.{length}
use lib.Seq.{sets}
use lib.Dec.{leb}
use borrow.Author.Tests.{le-leb}
use Rattle.std.specs.Prelude.{Option, Some}
use Rattle.octets.specs.Members.{every}
use Rattle.octets.specs.Ascii.{ascii}
use Rattle.octets.specs.Outcome.{outcome}
use Rattle.octets.proofs.Compare.{equals_refl}
use Rattle.octets.proofs.Stores.{part-stored}
use Rattle.frames.specs.Stream.{framed}
use Rattle.command.specs.Letters.{safe_byte}
use Rattle.command.specs.Meaning.{Meaning, meaning_of}
use Rattle.protocol.specs.Table.{id_of, file_id_of}
use Rattle.protocol.specs.Replies.{reply_room, is_held, file_reply, status_text, status_values, reply_bytes, replied_of}
use Rattle.protocol.specs.Files.{count_limit}
use Rattle.protocol.specs.Calls.{replied}
use Rattle.protocol.specs.Claim.{ClosingReply}
use Rattle.frames.specs.declared.Framing.{Framing}
use Rattle.protocol.specs.Sound.{IsId}
use Rattle.protocol.specs.declared.FileRecord.{FileRecord}
use Rattle.protocol.specs.declared.Session.{Session}
use Rattle.protocol.specs.declared.Status.TheVariants as Status
use Rattle.protocol.specs.declared.Reply.{Reply}
use Rattle.protocol.specs.declared.Stepped.{Stepped}
use Rattle.protocol.proofs.Invariant.{key_of}

-- the law of the status text, for the word OK
abbrev pub ReplyLaw : Type 0
ReplyLaw =
    (id file : List ℕ) (size : ℕ)
    → every safe_byte id ≡ true → 1 ≤ length id → length id ≤ 32
    → every safe_byte file ≡ true → 1 ≤ length file → length file ≤ 32
    → size ≤ count_limit
    → (meaning_of (status_text id file size (ascii "OK")) ≡ Meaning.command (status_values id file size (ascii "OK")))
    × (length (framed (status_text id file size (ascii "OK"))) ≤ reply_room)

-- "Quiet 1 holds back OK", and so does 2
held-quiet : (quiet : ℕ) → 1 ≤ quiet → is_held Status.Ok quiet ≡ true
held-quiet quiet h = rw (le-leb 1 quiet h) (go (leb 2 quiet))
  where
    go : (b : Bool) → (b || true) ≡ true
    go true = refl
    go false = refl

-- a reply that fits is stored
stored : (r : Option Reply) (buf bs : List ℕ) → reply_bytes r ≡ bs → length bs ≤ length buf
    → replied_of r buf ≡ outcome (length bs) (sets buf 0 bs)
unfolding replied_of
stored r buf bs e h = rw (e, le-leb (0 + length bs) (length buf) (omega arith))

module _ (s : Session) (f : FileRecord) (size : ℕ) where
  -- the reply to a closing, and its text
  abbrev ok_reply : Option Reply
  ok_reply = Some (file_reply Status.Ok s f size)

  abbrev ok_text : List ℕ
  ok_text = status_text (id_of s) (file_id_of f) size (ascii "OK")

  bytes-sent : s.quiet ≡ 0 → reply_bytes ok_reply ≡ framed ok_text
  unfolding reply_bytes
  bytes-sent q = rw q

  bytes-held : 1 ≤ s.quiet → reply_bytes ok_reply ≡ []
  unfolding reply_bytes
  bytes-held q = rw (held-quiet s.quiet q)

  pub closing-reply : ReplyLaw → IsId (id_of s) → IsId (file_id_of f) → size ≤ count_limit → (g : Framing) (step : Stepped) (reply : List ℕ)
      → step.reply ≡ Some (file_reply Status.Ok s f size) → reply_room ≤ length reply
      → ClosingReply (key_of s f) size s.quiet (replied g step reply)
  closing-reply law id file fits g step reply e room =
      let l = law (id_of s) (file_id_of f) size id.safe id.some id.short file.safe file.some file.short fits in
      let h : length (framed ok_text) ≤ length reply = omega (arith, l.1) in
      record {
        text = ok_text;
        command = status_values (id_of s) (file_id_of f) size (ascii "OK");
        sent = λ q. rw (e, stored ok_reply reply (framed ok_text) (bytes-sent q) h) (part-stored (framed ok_text) reply 0 (omega arith));
        held_back = λ q. rw (e, stored ok_reply reply [] (bytes-held q) (omega arith));
        reads = l.0;
        is_status = refl;
        is_ok = refl;
        for_it = rw (equals_refl (id_of s), equals_refl (file_id_of f));
        size = refl;
      }
