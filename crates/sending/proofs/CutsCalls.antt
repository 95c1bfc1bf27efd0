-- Each call, lent the kept carry, does to the session what its move does: a hear with a report that of the next thing told by the bytes
-- that it consumes, a hear without one nothing.
use Rattle.std.specs.Prelude.{Result, Ok, Err}
use Rattle.sending.specs.declared.News.TheVariants as News
use Rattle.command.specs.Read.{read_of}
use Rattle.sending.specs.Calls.{read_heed}
use Rattle.sending.specs.Heeding.{heeded}
use Rattle.frames.specs.Stream.{is_drag_drop}
use Prim.Native.Nat.{ℕ, ◌≤◌}
use mathlib.Core.Path.{◌≡◌, refl, sym, ◌∙◌}
use mathlib.Core.Bool.{Bool, true, false, cond, ◌||◌}
use mathlib.Core.List.{List, [], ◌∷◌, ◌++◌, append-nil}
use lib.ListN.{length, take}
use lib.Dec.{ltb, lit≤}
use borrow.Author.Tests.{ltb-false}
use Rattle.octets.specs.Outcome.{Outcome, outcome}
use Rattle.frames.specs.Stream as Stream
use Rattle.frames.specs.Stream.{text_limit, stream}
use Rattle.frames.specs.Calls.{scan_of, text_of}
use Rattle.frames.specs.Follows.{Follows, told_of}
use Rattle.frames.specs.declared.Report.{Report}
use Rattle.frames.proofs.CallLaws.{call-report}
use Rattle.frames.proofs.Follows.{call-follows}
use Rattle.command.specs.Read.{scratch_room}
use Rattle.protocol.specs.Written.{piece_values}
use Rattle.protocol.specs.Cuts.{is_report}
use Rattle.protocol.specs.Files.{part_limit}
use Rattle.protocol.proofs.CutsReading.{same-reading}
use Rattle.protocol.proofs.CutsRun.{zeros, text_in}
use Rattle.sending.specs.Transfers.{current_file, id_of, file_id_of, is_fresh, with_stage, asked, added}
use Rattle.sending.specs.Commands.{send_values, finish_values}
use Rattle.sending.specs.Calls.{send_of, file_of, piece_of, finish_of, is_idle, is_taken}
use Rattle.sending.specs.Calls.{Listening, listening, unheard, report_heed, scanned_hear, hear_of}
use Rattle.sending.specs.Story.{Call, Event, World, noted, is_unheard, bytes_of, mode_after}
use Rattle.sending.specs.Sayings.{saying}
use Rattle.sending.specs.Every.{told_after}
use Rattle.sending.specs.Cuts.{Move, Output, output, report_of}
use Rattle.sending.specs.declared.Stage.TheVariants as Stage
use Rattle.sending.specs.declared.Transfer.{Transfer}
use Rattle.sending.specs.declared.Sender.{Sender}
use Rattle.sending.specs.declared.Heeded.{Heeded}
use Rattle.sending.proofs.Ours.{step, Lent, given}
use Rattle.sending.proofs.EveryCall.{Inv, good}
use Rattle.sending.proofs.CutsRun.{heed_on, reported, Moves, none, one}
use Rattle.sending.proofs.CutsHeeds.{SameHeed, read-heeds}
use Rattle.sending.proofs.CutsWrites.{writes-alike, file-alike, call-moves}

-- ---- a report
abbrev reported_by : List ℕ → Outcome Heeded → Output
reported_by text h = output Move.report (saying h.answer.news h.buffer) text

-- what is made of the session, where it is no refusal with 9, what it gives, and what was told for it
record Heeds (t : Transfer) (h : Outcome Heeded) (os : List Output) (ds : List Stream.Told) : Type 0 where
  taken : is_unheard h.answer.news ≡ false
  moves : Moves t h.answer.transfer os ds

module _ (t : Transfer) (scratch : List ℕ) (enough : scratch_room ≤ length scratch) where
  heed-moves : (d : Stream.Told) (h : Outcome Heeded) → SameHeed h (heed_on t d) → Heeds t h (reported_by (text_in d) h ∷ []) (d ∷ [])
  heed-moves d h s =
      let e : reported_by (text_in d) h ≡ reported t d = rw s.said in
      record {
        taken = s.taken;
        moves = rw (e, s.transfer) (one {t' = (heed_on t d).answer.transfer} (reported t d) (d ∷ []) refl (λ rest. refl));
      }

  text-moves : (text : List ℕ) (d : Bool)
      → let h = cond d (outcome (heeded t News.Ignored) scratch) (read_heed t text (read_of text scratch)) in
      Heeds t h (reported_by text h ∷ []) (cond d (Stream.Told.drag_drop text) (Stream.Told.command text) ∷ [])
  text-moves text true = heed-moves (Stream.Told.drag_drop text) _ (record { transfer = refl; said = refl; taken = refl })
  text-moves text false = heed-moves (Stream.Told.command text) _ (read-heeds t text (same-reading text scratch zeros enough (lit≤ tt)))

  report-moves : (k : Report) (bytes carry : List ℕ) → (k ≡ Report.ShortCarry → ⊥)
      → let text = text_of bytes carry k in
      let h = report_heed t k text scratch in
      Heeds t h (cond (is_report k) (reported_by text h ∷ []) []) (told_of k text)
  unfolding text_of report_heed
  report-moves Report.Nothing bytes carry n = record { taken = refl; moves = none refl }
  report-moves (Report.InPiece start len) bytes carry n = text-moves _ (is_drag_drop _)
  report-moves (Report.InCarry len) bytes carry n = text-moves _ (is_drag_drop _)
  report-moves Report.TooLong bytes carry n =
      heed-moves Stream.Told.too_long _ (record { transfer = refl; said = refl; taken = refl })
  report-moves Report.Abandoned bytes carry n =
      heed-moves Stream.Told.abandoned _ (record { transfer = refl; said = refl; taken = refl })
  report-moves Report.ShortCarry bytes carry n = absurd (n refl)

-- ---- a hear
module _ (w : World) (v : Inv w) (bytes carry scratch : List ℕ) where
  abbrev t : Transfer
  t = w.sender.transfer

  abbrev Hears : Listening → Type 0
  Hears l = Moves t l.listened.sender.transfer (report_of bytes l) (told_after w (take l.listened.consumed bytes))

  abbrev taken : Listening
  taken = scanned_hear t bytes (scan_of w.sender.framing bytes carry) scratch

  taken-hears : text_limit ≤ length carry → scratch_room ≤ length scratch
      → (is_unheard taken.listened.news ≡ false → carry ≡ w.carry) → Hears taken
  unfolding scanned_hear
  taken-hears long enough lent =
      let g = w.sender.framing in
      let k = scan_of g bytes carry in
      let h = report-moves t scratch enough k.answer.report bytes k.buffer (call-report g bytes carry long) in
      let f : Follows g carry (mode_after w.story) = rw (lent h.taken) v.follows in
      rw (call-follows bytes f).0 h.moves

  hears : Lent w (Call.hear bytes carry scratch) → Hears (hear_of w.sender bytes carry scratch)
  unfolding hear_of stream
  hears = go (ltb (length carry) text_limit) refl (ltb (length scratch) scratch_room) refl
    where
      heard : Bool → Bool → Listening
      heard a b = cond (a || b) (listening (unheard w.sender 9) carry scratch) taken

      go : (a : Bool) → ltb (length carry) text_limit ≡ a → (b : Bool) → ltb (length scratch) scratch_room ≡ b
          → (is_unheard (heard a b).listened.news ≡ false → carry ≡ w.carry) → Hears (heard a b)
      go true p b q lent = none refl
      go false p true q lent = none refl
      go false p false q lent = taken-hears (ltb-false _ _ p) (ltb-false _ _ q) lent

-- ---- every call
-- the bytes that it consumes, and what they tell
abbrev pub consumed : World → Call → List ℕ
consumed w (Call.send id out) = []
consumed w (Call.file id name size out) = []
consumed w (Call.piece contents last out) = []
consumed w (Call.finish out) = []
consumed w (Call.hear bytes carry scratch) = take (hear_of w.sender bytes carry scratch).listened.consumed bytes

abbrev pub told_by : World → Call → List Stream.Told
told_by w c = told_after w (consumed w c)

pub record Steps (w : World) (c : Call) : Type 0 where
  pub bytes : bytes_of (step w c).story ≡ bytes_of w.story ++ consumed w c
  pub moves : Moves w.sender.transfer (step w c).sender.transfer (given w c) (told_by w c)
  pub inv : Inv (step w c)

-- an event that adds no bytes, noted or not
noted-bytes : (x : Result ℕ ℕ) (e : Event) (h : List Event) → bytes_of (e ∷ h) ≡ bytes_of h → bytes_of (noted x e h) ≡ bytes_of h ++ []
noted-bytes (Err n) e h q = sym (append-nil (bytes_of h))
noted-bytes (Ok n) e h q = q ∙ sym (append-nil (bytes_of h))

module _ (w : World) (v : Inv w) where
  abbrev s : Sender
  s = w.sender

  abbrev now : Transfer
  now = w.sender.transfer

  moved : (c : Call) → Lent w c → Moves now (step w c).sender.transfer (given w c) (told_by w c)
  unfolding stream send_of file_of piece_of finish_of
  moved (Call.send id out) lent =
      let m = Move.send id in
      call-moves m refl s out false (is_fresh now.stage) _ _
      (λ long. writes-alike m s out long (asked now id) (send_values id)) (λ ds. refl)
  moved (Call.file id name size out) lent =
      let m = Move.file id name size in
      call-moves m refl s out (is_taken now id) (is_idle now) _ _ (λ long. file-alike m s out long id name size) (λ ds. refl)
  moved (Call.piece contents last out) lent =
      let m = Move.piece contents last in
      let vs = piece_values (id_of now) (file_id_of (current_file now)) contents last in
      call-moves m refl s out (ltb part_limit (length contents)) _ _ _
      (λ long. writes-alike m s out long (added now (length contents) last) vs) (λ ds. refl)
  moved (Call.finish out) lent =
      call-moves Move.finish refl s out false (is_idle now) _ _
      (λ long. writes-alike Move.finish s out long (with_stage now Stage.Finished) (finish_values (id_of now))) (λ ds. refl)
  moved (Call.hear bytes carry scratch) lent = hears w v bytes carry scratch lent

  joined : (c : Call) → bytes_of (step w c).story ≡ bytes_of w.story ++ consumed w c
  joined (Call.send id out) = noted-bytes (send_of s id out).answer.writing (Event.sent id) w.story refl
  joined (Call.file id name size out) = noted-bytes (file_of s id name size out).answer.writing (Event.filed id) w.story refl
  joined (Call.piece contents last out) =
      noted-bytes (piece_of s contents last out).answer.writing (Event.pieced contents last) w.story refl
  joined (Call.finish out) = noted-bytes (finish_of s out).answer.writing Event.finished w.story refl
  joined (Call.hear bytes carry scratch) = refl

  pub steps : (c : Call) → Lent w c → Steps w c
  steps c lent = record { bytes = joined c; moves = moved c lent; inv = (good w v c lent).inv }
