-- An order that is written: what becomes of the sender, and its frame. One that is not: it is refused with 9 or 18.
use Rattle.std.specs.Prelude.{Ok}
use Prim.Native.Nat.{ℕ, suc, ◌+◌, ◌≤◌, ◌<◌}
use mathlib.Core.Path.{◌≡◌, refl, sym, ◌∙◌}
use mathlib.Core.Bool.{Bool, true, false, not}
use mathlib.Core.List.{List, [], ◌∷◌, ◌++◌, append_assoc}
use native.Mathlib.Omega.{arith}
use lib.ListN.{length, length-append}
use lib.Seq.{sets}
use lib.Dec.{ltb}
use borrow.Author.Tests.{lt-ltb, le-ltb, lt-leb}
use Rattle.octets.specs.Slices.{equals}
use Rattle.octets.specs.Outcome.{Outcome, outcome}
use Rattle.frames.specs.Stream.{framed}
use Rattle.frames.specs.declared.Framing.{Framing}
use Rattle.command.specs.Values.{Value}
use Rattle.command.specs.Write.{Answer}
use Rattle.command.specs.Framed.{frame_room, framed_of}
use Rattle.protocol.specs.Table.{file_room}
use Rattle.protocol.specs.Written.{piece_values}
use Rattle.protocol.specs.Files.{part_limit}
use Rattle.protocol.specs.Sound.{IsId}
use Rattle.protocol.proofs.Laws.{no_way, padded-id}
use Rattle.sending.specs.Transfers.{file_id_of, current_place, current_file, added}
use Rattle.sending.specs.Commands.{send_values, file_values, finish_values}
use Rattle.sending.specs.Calls.{with_transfer, unwritten, writes, guarded, is_idle, is_busy, is_taken}
use Rattle.sending.specs.Calls.{send_of, file_writes, file_of, piece_of, finish_of}
use Rattle.sending.specs.Machine.{ours}
use Rattle.sending.specs.Plans.{Order}
use Rattle.sending.specs.Exchange.{order_of}
use Rattle.sending.specs.declared.Stage.{Stage}
use Rattle.sending.specs.declared.FileStage.TheVariants as FileStage
use Rattle.sending.specs.declared.Transfer.{Transfer}
use Rattle.sending.specs.declared.Sender.{Sender}
use Rattle.sending.specs.declared.Wrote.{Wrote}
use Rattle.sending.proofs.arrival.lists.Members.{every-parts}
use Rattle.sending.proofs.arrival.path.Points.{Sent, sent, longer, Point, next, Now, Goes, command_at, text_at}
use Rattle.sending.proofs.arrival.path.Ends.{at_fresh}
use Rattle.sending.proofs.arrival.path.States.{past_of, sent_record, stage_of, transfer_of, shaped}
use Rattle.sending.proofs.arrival.sender.Records.{ids-parts, none-there, none-sending, begun-shaped, current-is, added-piece}
use Rattle.sending.proofs.arrival.sender.Records.{added-last}
use Rattle.sending.proofs.arrival.sender.Behind.{Behind, behind_more}

-- ---- a short buffer: 9, whatever is asked
pub write-short : (s : Sender) (o : Order) (out : List ℕ) → length out < frame_room → order_of ours s o out ≡ outcome (unwritten s 9) out
unfolding send_of file_of piece_of finish_of guarded
write-short s (Order.send k) out l = rw (lt-ltb _ _ l)
write-short s (Order.file k name size) out l = rw (lt-ltb _ _ l)
write-short s (Order.piece c last) out l = rw (lt-ltb _ _ l)
write-short s Order.finish out l = rw (lt-ltb _ _ l)

-- ---- a buffer with room
module _ (s : Sender) (out : List ℕ) (enough : frame_room ≤ length out) where
  -- a call that is not ready
  waits : (over ready : Bool) (o : Outcome Wrote) → over ≡ false → ready ≡ false
      → guarded s over ready out o ≡ outcome (unwritten s 18) out
  unfolding guarded
  waits over ready o e r = rw (le-ltb _ _ enough, e, r)

  goes : (over ready : Bool) (o : Outcome Wrote) → over ≡ false → ready ≡ true → guarded s over ready out o ≡ o
  unfolding guarded
  goes over ready o e r = rw (le-ltb _ _ enough, e, r)

-- what the writer writes
writes_as : (s : Sender) (t : Transfer) (vs : List Value) (out : List ℕ) (n : ℕ) (b : List ℕ)
    → framed_of vs out ≡ outcome (Answer.written n) b
    → writes s t vs out ≡ outcome (record { sender = with_transfer s t; writing = Ok n }) b
unfolding writes
writes_as s t vs out n b e = rw e

-- ---- the session's stage, once the reply to send is heard
open-idle : (h : Point) (past : List Sent) → at_fresh h ≡ false → stage_of h (Point.idle past) ≡ Stage.Open
open-idle Point.fresh past e = no_way e
open-idle (Point.idle p) past e = refl
open-idle (Point.busy p f) past e = refl
open-idle (Point.over p) past e = refl

open-busy : (h : Point) (past : List Sent) (f : Sent) → at_fresh h ≡ false → stage_of h (Point.busy past f) ≡ Stage.Open
open-busy Point.fresh past f e = no_way e
open-busy (Point.idle p) past f e = refl
open-busy (Point.busy p g) past f e = refl
open-busy (Point.over p) past f e = refl

over-finished : (h : Point) (past : List Sent) → at_fresh h ≡ false → stage_of h (Point.over past) ≡ Stage.Finished
over-finished Point.fresh past e = no_way e
over-finished (Point.idle p) past e = refl
over-finished (Point.busy p f) past e = refl
over-finished (Point.over p) past e = refl

-- ---- the files of w, by those of h and the others
module _ (closed others past : List Sent) (b : past ≡ closed ++ others) where
  room-left : suc (length past) ≤ file_room → length closed + length others < file_room
  room-left l =
      let e : length past ≡ length closed + length others = rw b (length-append closed others) in
      omega (arith, e)

  not_taken : (g : Stage) (id k : List ℕ) (size : ℕ) → Now past (sent k size 0) → is_taken (shaped g id closed others []) k ≡ false
  not_taken g id k size n =
      let a = ids-parts closed others (rw b at n.before.ids) in
      let c = every-parts (λ (f : Sent). not (equals f.id k)) closed others (rw b at n.new) in
      let l : length closed + length others + 0 < file_room = let q = room-left n.room in omega arith in
      rw (lt-leb _ _ l, none-there closed others k a.0 a.1 c.0 c.1)

-- ---- an order that is written
abbrev pub sender_of : Framing → Transfer → Sender
sender_of f t = record { framing = f; transfer = t }

abbrev pub wrote_as : Framing → (id : List ℕ) → Point → Order → Transfer → List ℕ → Outcome Wrote
wrote_as f id w o t out =
    let bytes = framed (text_at id w o) in
    outcome (record { sender = sender_of f t; writing = Ok (length bytes) }) (sets out 0 bytes)

-- the writer writes it
abbrev pub Frames : (id : List ℕ) → Point → Order → List ℕ → Type 0
Frames id w o out =
    framed_of (command_at id w o) out ≡ outcome (Answer.written (length (framed (text_at id w o)))) (sets out 0 (framed (text_at id w o)))

-- what is written of it: its frame, and the session at the next point
pub record Written (id : List ℕ) (h : Point) (os : List Order) (w : Point) (others : List Sent) (f : Framing) (o : Order) (out : List ℕ)
    : Type 0 where
  pub others' : List Sent
  pub wrote : order_of ours (sender_of f (transfer_of id h w others)) o out ≡ wrote_as f id w o (transfer_of id h (next w o) others') out
  pub behind : Behind id h (os ++ o ∷ []) (next w o) others'

module _ (id : List ℕ) (i : IsId id) (f : Framing) (out : List ℕ) (enough : frame_room ≤ length out) where
  write-send : (os : List Order) (others : List Sent) → Behind id Point.fresh os Point.fresh others
      → Frames id Point.fresh (Order.send id) out
      → Written id Point.fresh os Point.fresh others f (Order.send id) out
  unfolding send_of
  write-send os others b e =
      let n : others ≡ [] = sym b.behind in
      rw n (record {
        others' = [];
        wrote =
            goes (sender_of f (transfer_of id Point.fresh Point.fresh [])) out enough false true _ refl refl
            ∙ writes_as _ (transfer_of id Point.fresh (Point.idle []) []) (send_values id) out _ _ e;
        behind = behind_more b (Order.send id) (Goes.sends i) [] refl;
      })

  -- the calls of an open session, by the parts of the transfer
  module _ (closed others : List Sent) (n : ℕ) (after : List ℕ) where
    abbrev idle_sender : Sender
    idle_sender = sender_of f (shaped Stage.Open id closed others [])

    abbrev told : Transfer → Outcome Wrote
    told t = outcome (record { sender = sender_of f t; writing = Ok n }) after

    file-told : (past : List Sent) (k name : List ℕ) (size : ℕ) → past ≡ closed ++ others → Now past (sent k size 0)
        → framed_of (file_values id k name size) out ≡ outcome (Answer.written n) after
        → file_of idle_sender k name size out
        ≡ told (shaped Stage.Open id closed others (sent_record FileStage.Sending (sent k size 0) ∷ []))
    unfolding file_of file_writes
    file-told past k name size b now e =
        let t : Transfer = shaped Stage.Open id closed others [] in
        let idle : is_idle t ≡ true = rw (none-sending closed others (current_place t)) in
        let begins = begun-shaped closed others Stage.Open id k size (room-left closed others past b now.room) in
        goes idle_sender out enough (is_taken t k) (is_idle t) _ (not_taken closed others past b Stage.Open id k size now) idle
        ∙ rw (le-ltb _ _ now.id.short, padded-id id i.short, begins)
        (writes_as idle_sender _ (file_values id k name size) out n after e)

    finish-told : framed_of (finish_values id) out ≡ outcome (Answer.written n) after
        → finish_of idle_sender out ≡ told (shaped Stage.Finished id closed others [])
    unfolding finish_of
    finish-told e =
        let t : Transfer = shaped Stage.Open id closed others [] in
        let idle : is_idle t ≡ true = rw (none-sending closed others (current_place t)) in
        goes idle_sender out enough false (is_idle t) _ refl idle
        ∙ rw (padded-id id i.short) (writes_as idle_sender (shaped Stage.Finished id closed others []) (finish_values id) out n after e)

    module _ (g : Sent) (c : List ℕ) (last : Bool) (l : length g.id ≤ 32) (short : length c ≤ part_limit) where
      abbrev busy : Transfer
      busy = shaped Stage.Open id closed others (sent_record FileStage.Sending g ∷ [])

      piece-told : framed_of (piece_values id g.id c last) out ≡ outcome (Answer.written n) after
          → piece_of (sender_of f busy) c last out ≡ told (added busy (length c) last)
      unfolding piece_of
      piece-told e =
          let current = current-is closed others Stage.Open id g in
          let ready : is_busy busy ≡ true = rw current in
          let file : file_id_of (current_file busy) ≡ g.id = rw current (padded-id g.id l) in
          goes (sender_of f busy) out enough (ltb part_limit (length c)) (is_busy busy) _ (le-ltb _ _ short) ready
          ∙ rw (padded-id id i.short, file)
          (writes_as (sender_of f busy) (added busy (length c) last) (piece_values id g.id c last) out n after e)

-- ---- any order that may follow, where the reply to send is heard if it is written
pub write-order : {id : List ℕ} {w : Point} {o : Order} (g : Goes id w o) (h : Point) (os : List Order) (others : List Sent)
    → Behind id h os w others → at_fresh h ≡ at_fresh w → (f : Framing) (out : List ℕ) → frame_room ≤ length out → Frames id w o out
    → Written id h os w others f o out
write-order {id} (Goes.sends i) Point.fresh os others b r f out enough e = write-send id i f out enough os others b e
write-order {id} (Goes.sends i) (Point.idle p) os others b r f out enough e = no_way (sym r)
write-order {id} (Goes.sends i) (Point.busy p q) os others b r f out enough e = no_way (sym r)
write-order {id} (Goes.sends i) (Point.over p) os others b r f out enough e = no_way (sym r)
write-order {id} (Goes.files past k name size i now valid bytes) h os others b r f out enough e =
    record {
      others' = others;
      wrote =
          rw (open-idle h past r, open-busy h past (sent k size 0) r)
          (file-told id i f out enough (past_of h) others _ _ past k name size b.behind now e);
      behind = behind_more b (Order.file k name size) (Goes.files past k name size i now valid bytes) others b.behind;
    }
write-order {id} (Goes.pieces past g c i now fit long within) h os others b r f out enough e =
    record {
      others' = others;
      wrote =
          rw (
            open-busy h past g r,
            open-busy h past (longer g (length c)) r,
            ← added-piece (past_of h) others Stage.Open id g (length c) long,
          )
          (piece-told id i f out enough (past_of h) others _ _ g c false now.id.short fit.short e);
      behind = behind_more b (Order.piece c false) (Goes.pieces past g c i now fit long within) others b.behind;
    }
write-order {id} (Goes.lasts past g c i now fit long whole) h os others b r f out enough e =
    record {
      others' = others ++ longer g (length c) ∷ [];
      wrote =
          rw (
            open-busy h past g r,
            open-idle h (past ++ longer g (length c) ∷ []) r,
            ← added-last (past_of h) others Stage.Open id g (length c) long,
          )
          (piece-told id i f out enough (past_of h) others _ _ g c true now.id.short fit.short e);
      behind =
          behind_more b (Order.piece c true) (Goes.lasts past g c i now fit long whole) (others ++ longer g (length c) ∷ [])
          (rw b.behind (append_assoc (past_of h) others (longer g (length c) ∷ [])));
    }
write-order {id} (Goes.finishes past i before) h os others b r f out enough e =
    record {
      others' = others;
      wrote = rw (open-idle h past r, over-finished h past r) (finish-told id i f out enough (past_of h) others _ _ e);
      behind = behind_more b Order.finish (Goes.finishes past i before) others b.behind;
    }

-- ---- and where it is not: "It writes nothing after send until OK"
pub write-waits : {id : List ℕ} {w : Point} {o : Order} (g : Goes id w o) (os : List Order) (others : List Sent)
    → Behind id Point.fresh os w others → at_fresh w ≡ false → (f : Framing) (out : List ℕ) → frame_room ≤ length out
    → order_of ours (sender_of f (transfer_of id Point.fresh w others)) o out
    ≡ outcome (unwritten (sender_of f (transfer_of id Point.fresh w others)) 18) out
unfolding file_of piece_of finish_of
write-waits (Goes.sends i) os others b r f out enough = no_way r
write-waits {id} (Goes.files past k name size i now valid bytes) os others b r f out enough =
    waits (sender_of f (transfer_of id Point.fresh (Point.idle past) others)) out enough _ false _
    (not_taken [] others past b.behind Stage.Waiting id k size now) refl
write-waits {id} (Goes.pieces past g c i now fit long within) os others b r f out enough =
    waits (sender_of f (transfer_of id Point.fresh (Point.busy past g) others)) out enough _ false _ (le-ltb _ _ fit.short) refl
write-waits {id} (Goes.lasts past g c i now fit long whole) os others b r f out enough =
    waits (sender_of f (transfer_of id Point.fresh (Point.busy past g) others)) out enough _ false _ (le-ltb _ _ fit.short) refl
write-waits {id} (Goes.finishes past i before) os others b r f out enough =
    waits (sender_of f (transfer_of id Point.fresh (Point.idle past) others)) out enough false false _ refl refl
