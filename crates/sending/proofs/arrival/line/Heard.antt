-- What a hear does to a sender: nothing, or what the one text that its bytes tell does to its session.
use Rattle.frames.specs.Stream.{is_drag_drop, text_tells}
use Prim.Native.Nat.{ℕ, ◌≤◌}
use mathlib.Core.Path.{◌≡◌, refl, ◌∙◌}
use mathlib.Core.Bool.{Bool, true, false, cond, ◌||◌}
use mathlib.Core.List.{List, [], ◌∷◌}
use native.Mathlib.Omega.{arith}
use lib.ListN.{length, take}
use lib.Dec.{ltb}
use borrow.Author.Tests.{ltb-false}
use Rattle.octets.specs.Outcome.{Outcome}
use Rattle.frames.specs.Stream.{Mode, Told, stream, text_limit}
use Rattle.frames.specs.Calls.{scan_of, text_of}
use Rattle.frames.specs.Follows.{Follows, told_of}
use Rattle.frames.specs.declared.Report.{Report}
use Rattle.frames.specs.declared.Scanned.{Scanned}
use Rattle.frames.proofs.CallLaws.{call-report, consumed_le}
use Rattle.frames.proofs.Follows.{call-follows}
use Rattle.command.specs.Read.{scratch_room, read_of}
use Rattle.protocol.proofs.Laws.{no_way}
use Rattle.sending.specs.Calls.{Listening, listening, read_heed, text_heed, report_heed, scanned_hear, unheard, hear_of}
use Rattle.sending.specs.Arrives.{is_fine}
use Rattle.sending.specs.declared.Sender.{Sender}

-- the bytes that a hear of the piece consumed
abbrev pub heard_of : List ℕ → Listening → List ℕ
heard_of piece l = take l.listened.consumed piece

-- a text is told, and heeded; m is the mode that the line is in before
pub record Heeds (s : Sender) (piece scratch : List ℕ) (m : Mode) (l : Listening) (t : List ℕ) : Type 0 where
  pub told : (stream m (heard_of piece l)).0 ≡ Told.command t ∷ []
  pub enough : scratch_room ≤ length scratch
  pub transfer : l.listened.sender.transfer ≡ (read_heed s.transfer t (read_of t scratch)).answer.transfer
  pub news : l.listened.news ≡ (read_heed s.transfer t (read_of t scratch)).answer.news

-- nothing is told, and nothing changes; or a text is; or one is refused for its frame
pub data HeardBy (s : Sender) (piece scratch : List ℕ) (m : Mode) (l : Listening) : Type 0 where
  nothing : (stream m (heard_of piece l)).0 ≡ [] → l.listened.sender.transfer ≡ s.transfer → is_fine l.listened.news ≡ true
      → HeardBy s piece scratch m l
  text : (t : List ℕ) → Heeds s piece scratch m l t → HeardBy s piece scratch m l
  long : (stream m (heard_of piece l)).0 ≡ Told.too_long ∷ [] → HeardBy s piece scratch m l
  left : (stream m (heard_of piece l)).0 ≡ Told.abandoned ∷ [] → HeardBy s piece scratch m l
  other : (t : List ℕ) → (stream m (heard_of piece l)).0 ≡ Told.drag_drop t ∷ [] → HeardBy s piece scratch m l

-- and the framing follows the line
pub record Hearing (s : Sender) (piece scratch : List ℕ) (m : Mode) (l : Listening) : Type 0 where
  pub by : HeardBy s piece scratch m l
  pub follows : Follows l.listened.sender.framing l.carry (stream m (heard_of piece l)).1
  pub within : l.listened.consumed ≤ length piece

either_false : (a b : Bool) → (a || b) ≡ false → (a ≡ false) × (b ≡ false)
either_false true b e = no_way e
either_false false b e = (refl, e)

module _ (s : Sender) (piece carry scratch : List ℕ) (m : Mode) (ok : Follows s.framing carry m) where
  abbrev taken : Listening
  taken = scanned_hear s.transfer piece (scan_of s.framing piece carry) scratch

  taken-hearing : text_limit ≤ length carry → scratch_room ≤ length scratch → Hearing s piece scratch m taken
  unfolding scanned_hear report_heed text_of
  taken-hearing room enough =
      record {
        by = go k.answer.report refl (call-report s.framing piece carry room);
        follows = c.1;
        within = consumed_le s.framing piece carry;
      }
    where
      k : Outcome Scanned
      k = scan_of s.framing piece carry

      c : ((stream m (take k.answer.consumed piece)).0 ≡ told_of k.answer.report (text_of piece k.buffer k.answer.report))
          × Follows k.answer.framing k.buffer (stream m (take k.answer.consumed piece)).1
      c = call-follows piece ok

      any : (t : List ℕ) → told_of k.answer.report (text_of piece k.buffer k.answer.report) ≡ text_tells t ∷ []
          → taken.listened.sender.transfer ≡ (text_heed s.transfer t scratch).answer.transfer
          → taken.listened.news ≡ (text_heed s.transfer t scratch).answer.news
          → (d : Bool) → is_drag_drop t ≡ d → HeardBy s piece scratch m taken
      any t f g h true q = other t (c.0 ∙ f ∙ rw q)
      any t f g h false q = text t (record { told = c.0 ∙ f ∙ rw q; enough = enough; transfer = g ∙ rw q; news = h ∙ rw q })

      go : (e : Report) → k.answer.report ≡ e → (k.answer.report ≡ Report.ShortCarry → ⊥) → HeardBy s piece scratch m taken
      go Report.Nothing q n = nothing (c.0 ∙ rw q) (rw q) (rw q)
      go (Report.InPiece start len) q n = any (text_of piece k.buffer k.answer.report) (rw q) (rw q) (rw q) (is_drag_drop _) refl
      go (Report.InCarry len) q n = any (text_of piece k.buffer k.answer.report) (rw q) (rw q) (rw q) (is_drag_drop _) refl
      go Report.TooLong q n = long (c.0 ∙ rw q)
      go Report.Abandoned q n = left (c.0 ∙ rw q)
      go Report.ShortCarry q n = absurd (n q)

  -- any hear, with any buffers
  pub hearing-by : Hearing s piece scratch m (hear_of s piece carry scratch)
  unfolding hear_of stream
  hearing-by = go (ltb (length carry) text_limit || ltb (length scratch) scratch_room) refl
    where
      go : (b : Bool) → (ltb (length carry) text_limit || ltb (length scratch) scratch_room) ≡ b
          → Hearing s piece scratch m (cond b (listening (unheard s 9) carry scratch) taken)
      go true e = record { by = nothing refl refl refl; follows = ok; within = omega arith }
      go false e = let h = either_false _ _ e in taken-hearing (ltb-false _ _ h.0) (ltb-false _ _ h.1)
