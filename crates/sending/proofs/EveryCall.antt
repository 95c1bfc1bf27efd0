-- EVERY SENDER: every list of calls on a fresh sender.
use Prim.Native.Nat.{ℕ, ◌≤◌, ◌<◌}
use mathlib.Core.Path.{◌≡◌, refl, sym, ap, ◌∙◌}
use mathlib.Core.Bool.{Bool, true, false, not, cond, ◌||◌}
use mathlib.Core.List.{List, [], ◌∷◌, append-nil}
use native.Mathlib.Omega.{arith}
use lib.ListN.{length, take}
use lib.Seq.{take-length}
use lib.Dec.{ltb, leb}
use borrow.Author.Tests.{ltb-false, leb-false}
use Rattle.std.specs.Prelude.{Option, Some, None}
use Rattle.octets.specs.Outcome.{Outcome}
use Rattle.octets.proofs.Below.{both_test}
use Rattle.frames.specs.Stream.{Mode, text_limit, stream}
use Rattle.frames.specs.Stream as Stream
use Rattle.frames.specs.Calls.{scan_of, text_of}
use Rattle.frames.specs.Follows.{Follows, consumed_by}
use Rattle.frames.specs.declared.Framing.{Framing}
use Rattle.frames.specs.declared.Report.TheVariants as Report
use Rattle.frames.specs.declared.Scanned.{Scanned}
use Rattle.frames.proofs.CallLaws.{call-report, consumes}
use Rattle.frames.proofs.Follows.{stream-append, fresh-follows, call-follows}
use Rattle.command.specs.Values.{Value}
use Rattle.command.specs.Read.{scratch_room}
use Rattle.command.specs.Framed.{frame_room}
use Rattle.protocol.specs.Table.{file_room}
use Rattle.protocol.specs.Written.{piece_values}
use Rattle.protocol.specs.Files.{part_limit}
use Rattle.protocol.proofs.Laws.{no_way}
use Rattle.sending.specs.Transfers.{file_at, current_file, id_of, file_id_of, find_file, is_fresh, is_open, is_sending, with_stage}
use Rattle.sending.specs.Transfers.{asked, added}
use Rattle.sending.specs.Commands.{send_values, file_values, finish_values}
use Rattle.sending.specs.Calls.{writes, send_of, file_writes, file_of, piece_of, finish_of, is_idle, is_busy, is_taken, is_found}
use Rattle.sending.specs.Calls.{unheard, listening, Listening, scanned_hear, hear_of}
use Rattle.sending.specs.Story.{Call, Event, World, after_writing, is_unheard, after_hearing}
use Rattle.sending.specs.Story.{start, bytes_of, mode_after, Mark, marks_of}
use Rattle.sending.specs.Machine.{ours}
use Rattle.sending.specs.Telling.{session_in, pending_in, files_in, or_empty, place_among}
use Rattle.sending.specs.Every.{Heard, Shown, AllShown, EverySender}
use Rattle.sending.specs.declared.Stage.TheVariants as Stage
use Rattle.sending.specs.declared.Transfer.{Transfer}
use Rattle.sending.specs.declared.Sender.{Sender}
use Rattle.sending.specs.declared.Wrote.{Wrote}
use Rattle.sending.proofs.Ours.{step, Lent, Right, AllLent, AllRight}
use Rattle.sending.proofs.Ways.{Way, call-way, FileWay, file-way}
use Rattle.sending.proofs.SentIds.{sent-id}
use Rattle.sending.proofs.Kept.{FileOK, found, Kept, kept_fresh}
use Rattle.sending.proofs.Ready.{sending-told, unsent-told, idle-told, busy-told, taken-told, session-id, sending-place}
use Rattle.sending.proofs.Ready.{pending-current}
use Rattle.sending.proofs.KeptWrites.{kept-sent, kept-finished, kept-filed}
use Rattle.sending.proofs.KeptPieces.{kept-pieced}
use Rattle.sending.proofs.Answering.{Writes, writes-right, file-right, guarded-right}
use Rattle.sending.proofs.Hears.{report-heard}

pub record Inv (w : World) : Type 0 where
  pub follows : Follows w.sender.framing w.carry (mode_after w.story)
  pub kept : Kept w.sender.transfer (marks_of w.story)

-- a call: right, and it keeps the invariant
pub record Good (w : World) (c : Call) : Type 0 where
  pub right : Right w c
  pub inv : Inv (step w c)

not-true : (b : Bool) → not b ≡ true → b ≡ false
not-true true e = no_way (sym e)
not-true false e = refl

-- fewer bytes than a call consumes tell nothing: it would consume them all, and report nothing
nothing-told : (f : Framing) (c : List ℕ) (m : Mode) (xs : List ℕ) (k : ℕ) → text_limit ≤ length c → Follows f c m
    → k < (scan_of f xs c).answer.consumed → (stream m (take k xs)).0 ≡ []
nothing-told f c m xs k long follows h =
    let none : (scan_of f (take k xs) c).answer.report ≡ Report.Nothing = (consumes f xs c long).0 k h in
    let all : (scan_of f (take k xs) c).answer.consumed ≡ length (take k xs) = (consumes f (take k xs) c long).1 none in
    let told = (call-follows (take k xs) follows).0 in
    rw (all, take-length (take k xs), none) at told

module _ (w : World) (v : Inv w) where
  abbrev s : Sender
  s = w.sender

  abbrev t : Transfer
  t = w.sender.transfer

  abbrev m : List Mark
  m = marks_of w.story

  -- the id that is written where the session is open
  own-id : is_open t.stage ≡ true → or_empty (session_in m) ≡ id_of t
  own-id e = rw (session-id v.kept e)

  send-good : (id out : List ℕ) → Good w (Call.send id out)
  unfolding send_of marks_of
  send-good id out =
      record {
        right =
            rw (unsent-told v.kept) (guarded-right s false (is_fresh t.stage) (send_values id) out _
            (λ r l. writes-right s (asked t id) (send_values id) out));
        inv = go (call-way s (asked t id) (send_values id) out false (is_fresh t.stage));
      }
    where
      go : {a : Wrote} → Way s (asked t id) (send_values id) false (is_fresh t.stage) out a → Inv (after_writing w (Event.sent id) a)
      go (Way.refused n) = record { follows = v.follows; kept = v.kept }
      go (Way.written n o r e) =
          let i = sent-id id out n e in
          record { follows = v.follows; kept = kept-sent id v.kept r i.short i.safe }

  file-good : (id name : List ℕ) (size : ℕ) (out : List ℕ) → Good w (Call.file id name size out)
  unfolding file_of marks_of
  file-good id name size out = record { right = right; inv = go (file-way s id name size out) }
    where
      written : is_idle t ≡ true → frame_room ≤ length out
          → Writes s (file_values (or_empty (session_in m)) id name size) out (file_writes s id name size out)
      written r l =
          let own = own-id (both_test (is_open t.stage) _ r).0 in
          rw own (file-right s id name size out l v.kept.safe v.kept.short)

      right : Right w (Call.file id name size out)
      right =
          rw (taken-told v.kept id, idle-told v.kept)
          (guarded-right s (is_taken t id) (is_idle t) (file_values (or_empty (session_in m)) id name size) out _ written)

      room : (b : Bool) → leb file_room t.count ≡ b → (f : Option ℕ) → find_file t id ≡ f → (b || is_found f) ≡ false
          → (t.count < file_room) × (found t.files id ≡ None)
      room false q None f e = (leb-false _ _ q, f)
      room false q (Some i) f e = no_way e
      room true q f g e = no_way e

      go : {a : Wrote} → FileWay s id name size out a → Inv (after_writing w (Event.filed id) a)
      go (FileWay.refused r) = record { follows = v.follows; kept = v.kept }
      go (FileWay.written n l o r) =
          let x = room (leb file_room t.count) refl (find_file t id) refl o in
          let idle = not-true (is_sending (current_file t).stage) (both_test (is_open t.stage) _ r).1 in
          record { follows = v.follows; kept = kept-filed id v.kept l x.0 x.1 (sending-told v.kept ∙ idle) }

  finish-good : (out : List ℕ) → Good w (Call.finish out)
  unfolding finish_of marks_of
  finish-good out =
      record {
        right = rw (idle-told v.kept) (guarded-right s false (is_idle t) (finish_values (or_empty (session_in m))) out _ written);
        inv = go (call-way s (with_stage t Stage.Finished) (finish_values (id_of t)) out false (is_idle t));
      }
    where
      written : is_idle t ≡ true → frame_room ≤ length out
          → Writes s (finish_values (or_empty (session_in m))) out (writes s (with_stage t Stage.Finished) (finish_values (id_of t)) out)
      written r l =
          let own = own-id (both_test (is_open t.stage) _ r).0 in
          rw own (writes-right s (with_stage t Stage.Finished) (finish_values (id_of t)) out)

      go : {a : Wrote} → Way s (with_stage t Stage.Finished) (finish_values (id_of t)) false (is_idle t) out a
          → Inv (after_writing w Event.finished a)
      go (Way.refused r) = record { follows = v.follows; kept = v.kept }
      go (Way.written n o r e) =
          record { follows = v.follows; kept = kept-finished v.kept (both_test (is_open t.stage) _ r).0 }

  -- ---- a piece
  module _ (contents : List ℕ) (last : Bool) (out : List ℕ) where
    abbrev vs : List Value
    vs = piece_values (id_of t) (file_id_of (current_file t)) contents last

    abbrev told : List Value
    told = piece_values (or_empty (session_in m)) (or_empty (pending_in m)) contents last

    -- the current file is the pending one
    piece-told : is_busy t ≡ true → told ≡ vs
    piece-told r =
        let b = both_test (is_open t.stage) (is_sending (current_file t).stage) r in
        rw (own-id b.0, pending-current v.kept b.1)

    kept_piece : is_busy t ≡ true → Kept (added t (length contents) last) (Mark.pieced contents last ∷ m)
    kept_piece r =
        let sends : is_sending (current_file t).stage ≡ true = (both_test (is_open t.stage) (is_sending (current_file t).stage) r).1 in
        let p = sending-place v.kept sends in
        kept-pieced contents last v.kept p.0 p.1 (sending-told v.kept ∙ sends)

    piece-good : Good w (Call.piece contents last out)
    unfolding piece_of marks_of
    piece-good =
        record {
          right =
              rw (busy-told v.kept) (guarded-right s over (is_busy t) told out _
              (λ r l. rw (piece-told r) (writes-right s (added t (length contents) last) vs out)));
          inv = go (call-way s (added t (length contents) last) vs out over (is_busy t));
        }
      where
        over : Bool
        over = ltb part_limit (length contents)

        go : {a : Wrote} → Way s (added t (length contents) last) vs over (is_busy t) out a
            → Inv (after_writing w (Event.pieced contents last) a)
        go (Way.refused r) = record { follows = v.follows; kept = v.kept }
        go (Way.written n o r e) = record { follows = v.follows; kept = kept_piece r }

  -- ---- hear
  module _ (bytes carry scratch : List ℕ) where
    record HearGood (l : Listening) : Type 0 where
      right : Heard w bytes carry scratch l
      inv : Inv (after_hearing w bytes l)

    abbrev is_short : Bool
    is_short = ltb (length carry) text_limit || ltb (length scratch) scratch_room

    -- refused with 9
    short-good : is_short ≡ true → HearGood (listening (unheard s 9) carry scratch)
    unfolding marks_of stream
    short-good short =
        let e : mode_after (Event.heard [] ∷ w.story) ≡ mode_after w.story =
        ap (λ (bs : List ℕ). (stream Mode.outside bs).1) (append-nil (bytes_of w.story)) in
        record {
          right =
              record {
                short = rw short;
                refused = λ q. refl;
                progress = λ q. no_way q;
                through = λ q. no_way q;
                ends = λ n h. absurd (omega (arith, h));
                reports = λ q. no_way q;
                tells = λ q. no_way q;
              };
          inv = record { follows = rw e v.follows; kept = v.kept };
        }

    -- not refused
    abbrev scan : Outcome Scanned
    scan = scan_of s.framing bytes carry

    long-good : is_short ≡ false → text_limit ≤ length carry → scratch_room ≤ length scratch
        → (is_unheard (scanned_hear t bytes scan scratch).listened.news ≡ false → carry ≡ w.carry)
        → HearGood (scanned_hear t bytes scan scratch)
    unfolding scanned_hear marks_of
    long-good roomy long enough lent =
        let report = scan.answer.report in
        let rep = report-heard v.kept report (text_of bytes scan.buffer report) scratch enough
        (call-report s.framing bytes carry long) in
        let same : carry ≡ w.carry = lent rep.taken in
        let before : Follows s.framing carry (mode_after w.story) = rw same v.follows in
        let f = call-follows bytes before in
        let used = consumed_by scan bytes in
        let e : mode_after (Event.heard used ∷ w.story) ≡ (stream (mode_after w.story) used).1 =
        ap (λ (r : List Stream.Told × Mode). r.1) (stream-append Mode.outside (bytes_of w.story) used) in
        record {
          right =
              record {
                short = rw (roomy, rep.taken);
                refused = λ q. no_way (sym q ∙ rep.taken);
                progress = λ q h. (consumes s.framing bytes carry long).2 h;
                through = λ q e. (consumes s.framing bytes carry long).1 e;
                ends = λ n h. nothing-told s.framing carry (mode_after w.story) bytes n long before h;
                reports = λ q. sym f.0;
                tells = λ q. rw f.0 rep.tells;
              };
          inv = record { follows = rw (e, rep.taken) f.1; kept = rw f.0 rep.kept };
        }

    hear-by : (a : Bool) → ltb (length carry) text_limit ≡ a → (b : Bool) → ltb (length scratch) scratch_room ≡ b
        → let l = cond (a || b) (listening (unheard s 9) carry scratch) (scanned_hear t bytes scan scratch) in
        (is_unheard l.listened.news ≡ false → carry ≡ w.carry) → HearGood l
    hear-by true p b q lent = short-good (rw p)
    hear-by false p true q lent = short-good (rw (p, q))
    hear-by false p false q lent = long-good (rw (p, q)) (ltb-false _ _ p) (ltb-false _ _ q) lent

    hear-good : Lent w (Call.hear bytes carry scratch) → Good w (Call.hear bytes carry scratch)
    unfolding hear_of
    hear-good lent =
        let g = hear-by (ltb (length carry) text_limit) refl (ltb (length scratch) scratch_room) refl lent in
        record { right = g.right; inv = g.inv }

-- ---- every list of calls
pub good : (w : World) → Inv w → (c : Call) → Lent w c → Good w c
good w v (Call.send id out) l = send-good w v id out
good w v (Call.file id name size out) l = file-good w v id name size out
good w v (Call.piece contents last out) l = piece-good w v contents last out
good w v (Call.finish out) l = finish-good w v out
good w v (Call.hear bytes carry scratch) l = hear-good w v bytes carry scratch l

-- a file whose command is written is found at its place
all_shown : (w : World) → Inv w → AllShown w
all_shown w v k e = go (found w.sender.transfer.files k) (v.kept.files k)
  where
    m : List Mark
    m = marks_of w.story

    go : (f : Option ℕ) → FileOK w.sender.transfer.files m k f → Shown m k (file_at w.sender.transfer (place_among k (files_in m)))
    go None u = no_way (sym e ∙ u.filed)
    go (Some i) u = rw (← u.place) (record { stage = u.staged; sent = u.counted })

all_right : (w : World) → Inv w → (cs : List Call) → AllLent w cs → AllRight w cs
all_right w v [] l = all_shown w v
all_right w v (c ∷ cs) l = let g = good w v c l.0 in (all_shown w v, g.right, all_right (step w c) g.inv cs l.1)

pub start-inv : (carry : List ℕ) → Inv (start carry)
unfolding marks_of stream
start-inv carry = record { follows = fresh-follows carry; kept = kept_fresh }

pub every-sender : EverySender ours
every-sender carry cs l = all_right (start carry) (start-inv carry) cs l
