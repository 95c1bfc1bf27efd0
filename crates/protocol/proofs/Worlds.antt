-- The invariant of a world: what a fresh receiver has, and a console call keeps.
use Prim.Native.Nat.{ℕ}
use mathlib.Core.Path.{◌≡◌, refl}
use mathlib.Core.Bool.{Bool, true, false, cond}
use mathlib.Core.List.{List, [], ◌∷◌}
use lib.ListN.{length}
use lib.Dec.{ltb}
use Rattle.octets.specs.Outcome.{Outcome, outcome}
use Rattle.frames.specs.Stream.{stream}
use Rattle.frames.specs.Follows.{Follows}
use Rattle.frames.proofs.Follows.{fresh-follows}
use Rattle.protocol.specs.Replies.{reply_room, replied_of}
use Rattle.protocol.specs.Table.{session_room}
use Rattle.protocol.specs.Change.{telling}
use Rattle.protocol.specs.Calls.{answered_by, replied, guarded}
use Rattle.protocol.specs.History.{Event, bytes_of, Mark, mode_after, marks_of}
use Rattle.protocol.specs.Machine.{World, is_refused, after_call, noted, start}
use Rattle.protocol.specs.Sound.{Sound}
use Rattle.protocol.specs.declared.Session.{Session}
use Rattle.protocol.specs.declared.Told.TheVariants as Told
use Rattle.protocol.specs.declared.Stepped.{Stepped}
use Rattle.protocol.specs.declared.Answered.{Answered}
use Rattle.protocol.proofs.Laws.{replicate-each}
use Rattle.protocol.proofs.Invariant.{SessionOK, TableOK}
use Rattle.protocol.proofs.Puts.{noted_marks, absent-ok}
use Rattle.protocol.proofs.SoundTable.{empty-sound}

-- the framing and the carry are what is kept of all bytes so far, the table is sound, and as the marks say
pub record WorldOK (w : World) : Type 0 where
  pub follows : Follows w.receiver.framing w.carry (mode_after w.history)
  pub sound : Sound w.receiver.table
  pub table : TableOK w.receiver.table (marks_of w.history)

pub start-ok : (carry : List ℕ) → WorldOK (start carry)
unfolding marks_of stream
start-ok carry =
    record {
      follows = fresh-follows carry;
      sound = empty-sound;
      table =
          record {
            each = replicate-each (λ (s : Session). SessionOK false [] s) absent-ok absent-ok session_room;
            owed = tt;
            told = tt;
            served = λ k. refl;
          };
    }

-- a property of the table that a refusal with 9 has, and the step
pub by_guard : (P : Answered → Type 0) (w : World) (s : Stepped) (reply : List ℕ)
    → P (answered_by w.receiver.framing (telling w.receiver.table (Told.Refused 9)) 0)
    → ((n : ℕ) → P (answered_by w.receiver.framing s n)) → P (guarded w.receiver s reply).answer
unfolding guarded
by_guard P w s reply short taken = go (ltb (length reply) reply_room)
  where
    no : Outcome Answered
    no = outcome (answered_by w.receiver.framing (telling w.receiver.table (Told.Refused 9)) 0) reply

    go : (b : Bool) → P (cond b no (replied w.receiver.framing s reply)).answer
    go true = short
    go false = taken (replied_of s.reply reply).answer

-- ---- a console call's step, noted as the event e with its mark x
module _ {w : World} (ok : WorldOK w) (e : Event) (x : Mark) (bytes : bytes_of (e ∷ w.history) ≡ bytes_of w.history)
    (marks : marks_of (e ∷ w.history) ≡ x ∷ marks_of w.history) where
  pub noted-ok : (s : Stepped) (n : ℕ) → Sound s.table → TableOK s.table (noted_marks (marks_of w.history) x s)
      → WorldOK (after_call w (answered_by w.receiver.framing s n) (noted s.told e w.history))
  noted-ok s n z t = record { follows = kept (is_refused s.told); sound = z; table = moved (is_refused s.told) t }
    where
      kept : (b : Bool) → Follows w.receiver.framing w.carry (mode_after (cond b w.history (e ∷ w.history)))
      kept true = ok.follows
      kept false = rw (mode_after, bytes) ok.follows

      moved : (b : Bool) → TableOK s.table (cond b (marks_of w.history) (x ∷ marks_of w.history))
          → TableOK s.table (marks_of (cond b w.history (e ∷ w.history)))
      moved true h = h
      moved false h = rw marks h

  -- with a reply buffer
  pub guarded-ok : (s : Stepped) (reply : List ℕ) → Sound s.table → TableOK s.table (noted_marks (marks_of w.history) x s)
      → let a = (guarded w.receiver s reply).answer in WorldOK (after_call w a (noted a.told e w.history))
  guarded-ok s reply z t =
      by_guard (λ (a : Answered). WorldOK (after_call w a (noted a.told e w.history))) w s reply
      (record { follows = ok.follows; sound = ok.sound; table = ok.table })
      (λ n. noted-ok s n z t)
