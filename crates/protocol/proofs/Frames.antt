-- What `write_framed` wrote, read by itself: one command, with the values that were written. It does not depend on the buffer lent.
use Prim.Native.Nat.{ℕ, ◌≤◌}
use mathlib.Core.Path.{◌≡◌, refl, sym, ◌∙◌}
use mathlib.Core.Bool.{Bool, true, false, cond}
use mathlib.Core.List.{List, [], ◌∷◌}
use native.Mathlib.Omega.{arith}
use lib.ListN.{length, take}
use lib.Dec.{ltb}
use borrow.Author.Tests.{le-ltb, ltb-false}
use Rattle.octets.specs.Outcome.{outcome}
use Rattle.frames.specs.Stream.{text_limit, stream}
use Rattle.command.specs.Keys.{keys}
use Rattle.command.specs.Values.{Value}
use Rattle.command.specs.Meaning.{missing}
use Rattle.command.specs.Canonical.{canonical}
use Rattle.command.specs.Write.{Checked, checked_of, Answer, stored_text, written_by, write_of}
use Rattle.command.specs.Framed.{frame_room, framed_by, framed_of}
use Rattle.command.proofs.Accepted.{Accepted, writes-accepted}
use Rattle.command.proofs.Framed.{means-framed, written-framed}
use Rattle.protocol.specs.History.{commands_in}

pub not_written : {r n : ℕ} {A : Type 0} → Answer.refused r ≡ Answer.written n → A
not_written e = let z : ◌≡◌ {A = ℕ} 0 1 = cc in absurd (omega arith)

-- ---- what was written
module _ (c : List Value) (out : List ℕ) (n : ℕ) (e : (framed_of c out).answer ≡ Answer.written n) where
  -- the buffer has room, and the writer takes the command
  pub written-accepted : (frame_room ≤ length out) × Accepted c out
  unfolding framed_of
  written-accepted = go (ltb (length out) frame_room) refl (write_of c out).answer refl e
    where
      go : (short : Bool) → ltb (length out) frame_room ≡ short → (a : Answer) → (write_of c out).answer ≡ a
          → (cond short (outcome (Answer.refused 9) out) (framed_by a c out)).answer ≡ Answer.written n
          → (frame_room ≤ length out) × Accepted c out
      go true l a w q = not_written q
      go false l (Answer.refused r) w q = not_written q
      go false l (Answer.written m) w q = (ltb-false _ _ l, writes-accepted c out m w)

  pub written-length : n ≤ frame_room
  written-length =
      let w = written-framed c out n e in
      omega (arith, w.length-is, written-accepted.1.short)

  pub written-told : commands_in (take n (framed_of c out).buffer) ≡ c ∷ []
  written-told =
      let w = written-framed c out n e in
      rw (w.stands, means-framed (canonical c) c w.means, w.means)

-- ---- nothing was written
pub nothing-told : commands_in [] ≡ []
unfolding stream
nothing-told = refl

pub refused-same-buffer : (c : List Value) (out : List ℕ) (n : ℕ) → (framed_of c out).answer ≡ Answer.refused n
    → (framed_of c out).buffer ≡ out
unfolding framed_of
refused-same-buffer c out n = go (ltb (length out) frame_room) (write_of c out).answer
  where
    go : (short : Bool) (a : Answer) → let o = cond short (outcome (Answer.refused 9) out) (framed_by a c out) in
        o.answer ≡ Answer.refused n → o.buffer ≡ out
    go true a q = refl
    go false (Answer.refused r) q = refl
    go false (Answer.written m) q = not_written (sym q)

-- ---- two buffers
text_same : (c : List Value) (out out' : List ℕ) → text_limit ≤ length out → text_limit ≤ length out'
    → (write_of c out).answer ≡ (write_of c out').answer
unfolding write_of
text_same c out out' h h' = go (checked_of keys c)
  where
    stored : (l : Bool) → ltb text_limit (length (canonical c)) ≡ l
        → (stored_text (canonical c) out).answer ≡ (stored_text (canonical c) out').answer
    stored true e = rw e
    stored false e =
        let k : length (canonical c) ≤ text_limit = ltb-false _ _ e in
        rw (e, le-ltb (length out) (length (canonical c)) (omega arith), le-ltb (length out') (length (canonical c)) (omega arith))

    lacking : (m : Bool) → (cond m (outcome (Answer.refused 7) out) (stored_text (canonical c) out)).answer
        ≡ (cond m (outcome (Answer.refused 7) out') (stored_text (canonical c) out')).answer
    lacking true = refl
    lacking false = stored (ltb text_limit (length (canonical c))) refl

    go : (x : Checked) → (written_by x c out).answer ≡ (written_by x c out').answer
    go (Checked.fault r) = refl
    go Checked.fine = lacking (missing c)

pub written_same : (c : List Value) (out out' : List ℕ) → frame_room ≤ length out → frame_room ≤ length out'
    → (framed_of c out).answer ≡ (framed_of c out').answer
unfolding framed_of
written_same c out out' h h' =
    rw (le-ltb (length out) frame_room h, le-ltb (length out') frame_room h', text_same c out out' (omega arith) (omega arith))
    (go (write_of c out').answer)
  where
    go : (a : Answer) → (framed_by a c out).answer ≡ (framed_by a c out').answer
    go (Answer.written n) = refl
    go (Answer.refused n) = refl

pub written-same-bytes : (c : List Value) (out out' : List ℕ) (n : ℕ) → (framed_of c out).answer ≡ Answer.written n
    → (framed_of c out').answer ≡ Answer.written n → take n (framed_of c out).buffer ≡ take n (framed_of c out').buffer
written-same-bytes c out out' n e e' = (written-framed c out n e).stands ∙ sym (written-framed c out' n e').stands
