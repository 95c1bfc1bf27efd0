-- The bytes of a reply in the lent buffer: at most 124, and none where no reply is due.
use Prim.Native.Nat.{ℕ, ◌+◌, ◌≤◌}
use mathlib.Core.Path.{◌≡◌}
use mathlib.Core.Bool.{Bool, true, false, cond}
use mathlib.Core.List.{List, []}
use native.Mathlib.Omega.{arith}
use lib.ListN.{length, take, length-take}
use borrow.Author.Tests.{le-leb}
use Rattle.std.specs.Prelude.{Option, Some, None}
use Rattle.octets.specs.Outcome.{outcome}
use Rattle.octets.proofs.Stores.{part-stored}
use Rattle.frames.specs.Stream.{framed}
use Rattle.protocol.specs.Table.{id_room, id_bytes}
use Rattle.protocol.specs.Files.{count_limit}
use Rattle.protocol.specs.Replies.{reply_room, status_word, is_held, status_text, reply_bytes, replied_of}
use Rattle.protocol.specs.declared.Reply.{Reply}
use Rattle.protocol.proofs.StatusText.{status-length}

-- ---- how many
-- its ids stand in arrays of 32 bytes, or fewer, and its size is at most 2^40
pub record SizedFields (r : Reply) : Type 0 where
  pub id : length r.id.bytes ≤ id_room
  pub file : length r.file_id.bytes ≤ id_room
  pub size : r.size ≤ count_limit

abbrev pub SizedReply : Option Reply → Type 0
SizedReply None = Unit {0}
SizedReply (Some r) = SizedFields r

-- "No reply is longer than 124 bytes"
pub reply-length : (r : Option Reply) → SizedReply r → length (reply_bytes r) ≤ reply_room
unfolding reply_bytes
reply-length None h = omega arith
reply-length (Some r) h = go (is_held r.status r.quiet)
  where
    id : List ℕ
    id = id_bytes r.id

    file : List ℕ
    file = id_bytes r.file_id

    go : (b : Bool) → length (cond b [] (framed (status_text id file r.size (status_word r.status)))) ≤ reply_room
    go true = omega arith
    go false =
        status-length id file r.size r.status (omega (arith, h.id, length-take r.id.len r.id.bytes))
        (omega (arith, h.file, length-take r.file_id.len r.file_id.bytes)) h.size

-- what a call answers as the reply's length, and what then stands at the buffer's start
pub record Sent (r : Option Reply) (n : ℕ) (buffer : List ℕ) : Type 0 where
  pub short : n ≤ reply_room
  pub bytes : take n buffer ≡ reply_bytes r

pub reply-sent : (r : Option Reply) (buffer : List ℕ) → SizedReply r → reply_room ≤ length buffer
    → Sent r (replied_of r buffer).answer (replied_of r buffer).buffer
unfolding replied_of
reply-sent r buffer h l =
    rw (le-leb (0 + length (reply_bytes r)) (length buffer) (omega (arith, reply-length r h)))
    (record { short = reply-length r h; bytes = part-stored (reply_bytes r) buffer 0 (omega (arith, reply-length r h)) })

-- where no reply is due: length 0, and the buffer as before
pub not-due : (buffer : List ℕ) → replied_of None buffer ≡ outcome 0 buffer
unfolding replied_of reply_bytes
not-due buffer = rw (le-leb 0 (length buffer) (omega arith))
