-- What a feed does to the console's world: nothing, or what the one text that its bytes tell does to the table.
use Rattle.std.specs.Prelude.{None}
use Rattle.frames.specs.Stream.{is_drag_drop, text_tells}
use Rattle.protocol.specs.Calls.{text_act}
use Prim.Native.Nat.{ℕ}
use mathlib.Core.Path.{◌≡◌, refl, ◌∙◌}
use mathlib.Core.Bool.{Bool, true, false, cond}
use mathlib.Core.List.{List, [], ◌∷◌}
use lib.ListN.{take}
use lib.Dec.{lit≤}
use Rattle.frames.specs.Stream.{Told, stream}
use Rattle.frames.specs.Calls.{scan_of, text_of}
use Rattle.frames.specs.Follows.{told_of}
use Rattle.frames.specs.declared.Report.{Report}
use Rattle.frames.proofs.CallLaws.{call-report}
use Rattle.frames.proofs.Follows.{call-follows}
use Rattle.command.specs.Read.{read_of}
use Rattle.protocol.specs.Replies.{reply_bytes}
use Rattle.protocol.specs.Calls.{is_owed, Feeding, feeding, read_act, report_act, feed_refused, scanned_feed, is_short, feed_of}
use Rattle.protocol.specs.History.{hearing}
use Rattle.protocol.specs.Machine.{World}
use Rattle.protocol.specs.Cuts.{saying}
use Rattle.frames.specs.declared.Scanned.{Scanned}
use Rattle.octets.specs.Outcome.{Outcome}
use Rattle.protocol.specs.declared.Receiver.{Receiver}
use Rattle.protocol.proofs.ReplyBytes.{reply-sent, not-due}
use Rattle.protocol.proofs.ReplyLengths.{read-sized, Roomy, roomy}
use Rattle.protocol.proofs.CutsReading.{same-reading}
use Rattle.protocol.proofs.CutsSteps.{act-same}
use Rattle.protocol.proofs.CutsRun.{zeros, act_on, reported}
use Rattle.protocol.proofs.CutsCalls.{Kept, told_after}

-- the bytes that a feed of the piece consumed, and the reply that it stored
abbrev pub consumed_of : List ℕ → Feeding → List ℕ
consumed_of piece f = take f.fed.consumed piece

abbrev pub reply_of : Feeding → List ℕ
reply_of f = take f.fed.reply_len f.reply

-- nothing is told, and nothing changes
pub record Quiet (w : World) (piece : List ℕ) (f : Feeding) : Type 0 where
  pub told : told_after w (consumed_of piece f) ≡ []
  pub table : f.fed.receiver.table ≡ w.receiver.table
  pub hears : hearing f.fed.told f.scratch ≡ None
  pub reply : reply_of f ≡ []

-- a text is told, while nothing is owed
pub record Acts (w : World) (piece : List ℕ) (f : Feeding) (t : List ℕ) : Type 0 where
  pub told : told_after w (consumed_of piece f) ≡ Told.command t ∷ []
  pub free : is_owed w.receiver.table.owed ≡ false
  pub table : f.fed.receiver.table ≡ (act_on w.receiver.table (Told.command t)).step.table
  pub says : saying f.fed.told f.scratch ≡ (reported w.receiver.table (Told.command t)).said
  pub reply : reply_of f ≡ reply_bytes (act_on w.receiver.table (Told.command t)).step.reply

-- or a text is refused for its frame
pub data FedBy (w : World) (piece : List ℕ) (f : Feeding) : Type 0 where
  nothing : Quiet w piece f → FedBy w piece f
  text : (t : List ℕ) → Acts w piece f t → FedBy w piece f
  long : told_after w (consumed_of piece f) ≡ Told.too_long ∷ [] → FedBy w piece f
  left : told_after w (consumed_of piece f) ≡ Told.abandoned ∷ [] → FedBy w piece f
  other : (t : List ℕ) → told_after w (consumed_of piece f) ≡ Told.drag_drop t ∷ [] → FedBy w piece f

module _ (w : World) (ok : Kept w) (piece scratch reply : List ℕ) where
  abbrev taken : Feeding
  taken = scanned_feed w.receiver.table piece (scan_of w.receiver.framing piece w.carry) scratch reply

  taken-fed : Roomy w.carry scratch reply → is_owed w.receiver.table.owed ≡ false → FedBy w piece taken
  unfolding scanned_feed text_of
  taken-fed room free = go k.answer.report refl (call-report r.framing piece w.carry room.carry)
    where
      r : Receiver
      r = w.receiver

      k : Outcome Scanned
      k = scan_of r.framing piece w.carry

      told : told_after w (take k.answer.consumed piece) ≡ told_of k.answer.report (text_of piece k.buffer k.answer.report)
      told = (call-follows piece ok.follows).0

      acts : (t : List ℕ) → report_act r.table k.answer.report (text_of piece k.buffer k.answer.report) scratch
          ≡ read_act r.table t (read_of t scratch)
          → told_of k.answer.report (text_of piece k.buffer k.answer.report) ≡ Told.command t ∷ [] → FedBy w piece taken
      acts t e d =
          let s = act-same r.table ok.sized t (same-reading t scratch zeros room.scratch (lit≤ tt)) in
          let z = (read-sized r.table ok.sized t (read_of t scratch)).reply in
          let b = (reply-sent (read_act r.table t (read_of t scratch)).step.reply reply z room.reply).bytes in
          text t (record {
            told = told ∙ d;
            free = free;
            table = rw (e, s.step);
            says = rw e s.said;
            reply = rw e (b ∙ rw s.step);
          })

      any : (t : List ℕ) → report_act r.table k.answer.report (text_of piece k.buffer k.answer.report) scratch
          ≡ text_act r.table t scratch
          → told_of k.answer.report (text_of piece k.buffer k.answer.report) ≡ text_tells t ∷ []
          → (d : Bool) → is_drag_drop t ≡ d → FedBy w piece taken
      any t e f true q = other t (told ∙ f ∙ rw q)
      any t e f false q = acts t (e ∙ rw q) (f ∙ rw q)

      go : (e : Report) → k.answer.report ≡ e → (k.answer.report ≡ Report.ShortCarry → ⊥) → FedBy w piece taken
      go Report.Nothing q n =
          nothing (record { told = told ∙ rw q; table = rw q; hears = rw q; reply = rw (q, not-due reply) })
      go (Report.InPiece start len) q n = any (text_of piece k.buffer k.answer.report) (rw q) (rw q) (is_drag_drop _) refl
      go (Report.InCarry len) q n = any (text_of piece k.buffer k.answer.report) (rw q) (rw q) (is_drag_drop _) refl
      go Report.TooLong q n = long (told ∙ rw q)
      go Report.Abandoned q n = left (told ∙ rw q)
      go Report.ShortCarry q n = absurd (n q)

  -- any feed, with any buffers
  pub fed_by : FedBy w piece (feed_of w.receiver piece w.carry scratch reply)
  unfolding feed_of stream
  fed_by = go (is_short w.carry scratch reply) refl (is_owed w.receiver.table.owed) refl
    where
      no : ℕ → Feeding
      no n = feeding (feed_refused w.receiver n) w.carry scratch reply

      go : (s : Bool) → is_short w.carry scratch reply ≡ s → (b : Bool) → is_owed w.receiver.table.owed ≡ b
          → FedBy w piece (cond s (no 9) (cond b (no 10) taken))
      go true e b q = nothing (record { told = refl; table = refl; hears = refl; reply = refl })
      go false e true q = nothing (record { told = refl; table = refl; hears = refl; reply = refl })
      go false e false q = taken-fed (roomy w.carry scratch reply e) q
