-- Every table that calls on a fresh receiver make is sound, whatever they are lent.
use Rattle.std.specs.Prelude.{None}
use Rattle.protocol.specs.Calls.{Acted, text_act}
use Rattle.frames.specs.Stream.{is_drag_drop}
use Prim.Native.Nat.{ℕ}
use mathlib.Core.Path.{◌≡◌, refl}
use mathlib.Core.List.{List, [], ◌∷◌}
use lib.ListN.{length}
use lib.Dec.{ltb}
use Rattle.octets.specs.Outcome.{Outcome, outcome}
use Rattle.frames.specs.Calls.{scan_of, text_of}
use Rattle.frames.specs.declared.Report.{Report}
use Rattle.frames.specs.declared.Scanned.{Scanned}
use Rattle.frames.proofs.Choices.{by_cond}
use Rattle.command.specs.Values.{Value}
use Rattle.command.specs.Meaning.{Meaning}
use Rattle.command.specs.Read.{Answer, read_of}
use Rattle.command.specs.declared.Command.{Command}
use Rattle.command.proofs.SimulationHeld.{read_held}
use Rattle.protocol.specs.Table.{session_at}
use Rattle.protocol.specs.Replies.{reply_room}
use Rattle.protocol.specs.Sessions.{settle_done, settle_failed, settle_unlisted, decided_of}
use Rattle.protocol.specs.Calls.{is_owed, Feeding, read_act, report_act, scanned_feed, is_short, feed_of}
use Rattle.protocol.specs.Calls.{guarded, allow_of, deny_of, drop_of, done_of, failed_of, unlisted_of}
use Rattle.protocol.specs.Machine.{Machine, ours, Call, World, step, start}
use Rattle.protocol.specs.Sound.{Sound, AllSound, EverySound}
use Rattle.protocol.specs.Cuts.{after}
use Rattle.protocol.specs.Counts.{EveryCount}
use Rattle.protocol.specs.declared.Decision.TheVariants as Decision
use Rattle.protocol.specs.declared.Table.{Table}
use Rattle.protocol.specs.declared.Receiver.{Receiver}
use Rattle.protocol.specs.declared.Stepped.{Stepped}
use Rattle.protocol.specs.declared.Answered.{Answered}
use Rattle.protocol.proofs.Backs.{not-owed}
use Rattle.protocol.proofs.Means.{Means, Read, command, text-read}
use Rattle.protocol.proofs.Counts.{right-counts}
use Rattle.protocol.proofs.SoundTable.{empty-sound, ReadWell}
use Rattle.protocol.proofs.SoundTable.{obey-sound, done-sound, failed-sound, unlisted-sound, decided-sound, supply-sound}

-- ---- feed
pub means-well : {c : Command} {text scratch : List ℕ} {d : List Value} → Means c text scratch d → ReadWell c text
means-well means =
    let n = means.named in
    record {
      id = rw means.id n.id;
      file = record { safe = rw means.file n.file-safe; short = rw means.file n.file-short };
      quiet = means.quiet;
    }

-- a scratch in which a command was read has the room that reading takes
pub read-well : (text scratch : List ℕ) (c : Command) → (read_of text scratch).answer ≡ Answer.read c → ReadWell c text
read-well text scratch c e = go (rw e at (text-read text scratch (read_held text scratch c e).room))
  where
    go : {m : Meaning} → Read text (read_of text scratch).buffer (Answer.read c) m → ReadWell c text
    go (command means) = means-well means

module _ {t : Table} (ok : Sound t) (free : t.owed ≡ None) (text scratch : List ℕ) where
  text-sound : Sound (read_act t text (read_of text scratch)).step.table
  text-sound = go (read_of text scratch).answer refl
    where
      left : List ℕ
      left = (read_of text scratch).buffer

      go : (a : Answer) → (read_of text scratch).answer ≡ a → Sound (read_act t text (outcome a left)).step.table
      go (Answer.read c) e = obey-sound t ok free c text left (read-well text scratch c e)
      go (Answer.refused n) e = ok

  -- one of drag and drop leaves the table
  either : Sound (text_act t text scratch).step.table
  either = by_cond (λ (a : Acted). Sound a.step.table) (is_drag_drop text) (λ _. ok) (λ _. text-sound)

  report-sound : (r : Report) → Sound (report_act t r text scratch).step.table
  report-sound Report.Nothing = ok
  report-sound (Report.InPiece begin len) = either
  report-sound (Report.InCarry len) = either
  report-sound Report.TooLong = ok
  report-sound Report.Abandoned = ok
  report-sound Report.ShortCarry = ok

pub scanned-sound : {t : Table} → Sound t → t.owed ≡ None → (piece : List ℕ) (k : Outcome Scanned) (scratch reply : List ℕ)
    → Sound (scanned_feed t piece k scratch reply).fed.receiver.table
unfolding scanned_feed
scanned-sound ok free piece k scratch reply =
    report-sound ok free (text_of piece k.buffer k.answer.report) scratch k.answer.report

feed-sound : (r : Receiver) (piece carry scratch reply : List ℕ) → Sound r.table
    → Sound (feed_of r piece carry scratch reply).fed.receiver.table
unfolding feed_of
feed-sound r piece carry scratch reply ok =
    by_cond Fine (is_short carry scratch reply) (λ _. ok)
    (λ _. by_cond Fine (is_owed r.table.owed) (λ _. ok)
    (λ e. scanned-sound ok (not-owed r.table.owed e) piece (scan_of r.framing piece carry) scratch reply))
  where
    Fine : Feeding → Type 0
    Fine f = Sound f.fed.receiver.table

-- ---- the console's calls
guarded-sound : (r : Receiver) (s : Stepped) (reply : List ℕ) → Sound r.table → Sound s.table
    → Sound (guarded r s reply).answer.receiver.table
unfolding guarded
guarded-sound r s reply ok after =
    by_cond (λ (a : Outcome Answered). Sound a.answer.receiver.table) (ltb (length reply) reply_room) (λ _. ok) (λ _. after)

-- ---- every call, and every list of them
pub step-sound : (w : World) (c : Call) → Sound w.receiver.table → Sound (step ours w c).receiver.table
unfolding allow_of deny_of drop_of done_of failed_of unlisted_of
step-sound w (Call.feed piece carry scratch reply) ok = feed-sound w.receiver piece carry scratch reply ok
step-sound w (Call.allow id reply) ok =
    let t = w.receiver.table in
    guarded-sound w.receiver (decided_of t Decision.Allow id) reply ok (decided-sound t Decision.Allow id ok)
step-sound w (Call.deny id reply) ok =
    let t = w.receiver.table in
    guarded-sound w.receiver (decided_of t Decision.Deny id) reply ok (decided-sound t Decision.Deny id ok)
step-sound w (Call.drop id) ok = decided-sound w.receiver.table Decision.Drop id ok
step-sound w (Call.done reply) ok =
    let t = w.receiver.table in guarded-sound w.receiver (settle_done t) reply ok (done-sound t ok)
step-sound w (Call.failed code reply) ok =
    let t = w.receiver.table in guarded-sound w.receiver (settle_failed t code) reply ok (failed-sound t code ok)
step-sound w (Call.unlisted reply) ok =
    let t = w.receiver.table in guarded-sound w.receiver (settle_unlisted t) reply ok (unlisted-sound t ok)
step-sound w (Call.supply u out) ok = supply-sound w.receiver u out ok

all_sound : (w : World) → Sound w.receiver.table → (calls : List Call) → AllSound ours w calls
all_sound w ok [] = ok
all_sound w ok (c ∷ cs) = (ok, all_sound (step ours w c) (step-sound w c ok) cs)

pub every-sound : EverySound ours
every-sound carry calls = all_sound (start carry) empty-sound calls

-- so after every list of calls, and with it the numbers kept in each session
pub sound-after : (m : Machine) (w : World) (calls : List Call) → AllSound m w calls → Sound (after m w calls).receiver.table
sound-after m w [] ok = ok
sound-after m w (c ∷ cs) ok = sound-after m (step m w c) cs ok.1

pub every-count : EveryCount ours
every-count carry calls i =
    let w = start carry in
    let s = session_at (after ours w calls).receiver.table i in
    right-counts s ((sound-after ours w calls (every-sound carry calls)).each i).counted
