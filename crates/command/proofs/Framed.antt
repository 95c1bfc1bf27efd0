-- A command in its frame reads as itself.
use Prim.Native.Nat.{ℕ, ◌+◌, ◌≤◌}
use mathlib.Core.Path.{◌≡◌, refl, ap, ◌∙◌}
use mathlib.Core.Bool.{Bool, true, false, cond}
use mathlib.Core.List.{List, [], ◌∷◌}
use native.Mathlib.Omega.{arith}
use lib.ListN.{length, take, drop, length-append}
use lib.Seq.{sets-eq, take-append_seam}
use lib.Dec.{ltb}
use borrow.Author.Tests.{ltb-false, leb-true, eq-eqb, ne_eqb}
use Rattle.octets.specs.Search.{index_of, index_after}
use Rattle.octets.specs.Ascii.{ascii}
use Rattle.octets.specs.Members.{every}
use Rattle.octets.specs.Outcome.{outcome}
use Rattle.octets.specs.Slices.{starts_with}
use Rattle.octets.specs.Split.{split}
use Rattle.octets.proofs.Below.{both_test}
use Rattle.frames.specs.Stream.{Mode, Told, is_command, text_limit, stream, framed}
use Rattle.frames.proofs.Follows.{tells_the-stream}
use Rattle.frames.proofs.Framed.{stream-framed}
use Rattle.command.specs.Keys.{keys}
use Rattle.command.specs.Letters.{text_byte}
use Rattle.command.specs.Values.{Value}
use Rattle.command.specs.Fields.{Turn, fields_read, text_read}
use Rattle.command.specs.Meaning.{Meaning, meant, blank, finished, meaning_of}
use Rattle.command.specs.Canonical.{canonical}
use Rattle.command.specs.Slots.{values_of}
use Rattle.command.specs.Write.{Answer, write_of}
use Rattle.command.specs.Framed.{frame_room, framed_by, framed_of, FramedThenRead}
use Rattle.command.proofs.Every.{every_cons}
use Rattle.command.proofs.Accepted.{accepted-writes, writes-accepted}
use Rattle.command.proofs.RoundTrip.{read-written}
use Rattle.command.proofs.Simulation.{read-means}

-- ---- a text that is read passes as a command text between opener and closer
text-byte : (b : ℕ) → text_byte b ≡ true → b ≡ 0x1B → ⊥
unfolding text_byte
text-byte b e q = let h = leb-true 0x20 b (both_test _ _ e).0 in omega arith

no-escape : (t : List ℕ) → every text_byte t ≡ true → index_of 0x1B t ≡ length t
unfolding index_of index_after
no-escape [] h = refl
no-escape (b ∷ t) h =
    let q = every_cons text_byte b t h in
    rw (ne_eqb b 0x1B (text-byte b q.0), no-escape t q.1)

pub means-framed : (t : List ℕ) (vs : List Value) → meaning_of t ≡ Meaning.command vs
    → stream Mode.outside (framed t) ≡ (Told.command t ∷ [], Mode.outside)
unfolding meaning_of text_read
means-framed t vs e = go (ltb text_limit (length t)) (every text_byte t) (starts_with t (ascii "5113;")) refl refl refl e
  where
    go : (long text marked : Bool) → ltb text_limit (length t) ≡ long → every text_byte t ≡ text → is_command t ≡ marked
        → finished (cond long (Turn.off 1 (blank keys))
        (cond text (cond marked (fields_read meant 5 (split 59 (drop 5 t)) (blank keys)) (Turn.off 4 (blank keys)))
        (Turn.off 3 (blank keys)))) ≡ Meaning.command vs
        → stream Mode.outside (framed t) ≡ (Told.command t ∷ [], Mode.outside)
    go true text marked l b m q = let z : ◌≡◌ {A = ℕ} 0 1 = cc in absurd (omega arith)
    go false false marked l b m q = let z : ◌≡◌ {A = ℕ} 0 1 = cc in absurd (omega arith)
    go false true false l b m q = let z : ◌≡◌ {A = ℕ} 0 1 = cc in absurd (omega arith)
    go false true true l b m q = stream-framed t (eq-eqb _ _ (no-escape t b)) m (ltb-false _ _ l)

-- ---- a command that is written in its frame
-- the writer takes it, and the frame stands at the buffer's start in the length that was answered
pub record Written (c : List Value) (out : List ℕ) (n : ℕ) : Type 0 where
  pub means : meaning_of (canonical c) ≡ Meaning.command c
  pub length-is : n ≡ 4 + length (canonical c)
  pub stands : take n (framed_of c out).buffer ≡ framed (canonical c)

length-framed : (t : List ℕ) → length (framed t) ≡ 4 + length t
length-framed t = rw length-append (omega arith)

pub written-framed : (c : List Value) (out : List ℕ) (n : ℕ) → (framed_of c out).answer ≡ Answer.written n → Written c out n
unfolding framed_of
written-framed c out n e = go (ltb (length out) frame_room) refl (write_of c out).answer refl e
  where
    go : (short : Bool) → ltb (length out) frame_room ≡ short → (a : Answer) → (write_of c out).answer ≡ a
        → (cond short (outcome (Answer.refused 9) out) (framed_by a c out)).answer ≡ Answer.written n → Written c out n
    go true l a w q = let z : ◌≡◌ {A = ℕ} 0 1 = cc in absurd (omega arith)
    go false l (Answer.refused r) w q = let z : ◌≡◌ {A = ℕ} 0 1 = cc in absurd (omega arith)
    go false l (Answer.written m) w q =
        let a = writes-accepted c out m w in
        let k : m ≡ length (canonical c) = let y = accepted-writes c out a in cc in
        let d : n ≡ 4 + m = cc in
        let room : frame_room ≤ length out = ltb-false _ _ l in
        let f : n ≡ length (framed (canonical c)) = omega (arith, length-framed (canonical c)) in
        record {
          means = read-written c out m w;
          length-is = omega arith;
          stands =
              rw (l, w, f, sets-eq (framed (canonical c)) out 0 (omega (arith, length-framed (canonical c), a.short)))
              (take-append_seam (framed (canonical c)) _);
        }

pub framed-then-read : FramedThenRead
framed-then-read c text scratch out n e carry ts f carry' calls =
    let vs = values_of c text scratch in
    let w = written-framed vs out n e in
    let t = canonical vs in
    let s = (tells_the-stream carry _ ts f carry' calls).0 in
    let read = ap (λ (bs : List ℕ). stream Mode.outside bs) w.stands ∙ means-framed t vs w.means in
    record {
      text = t;
      told = s ∙ ap (λ (r : List Told × Mode). r.0) read;
      means = λ (lent : List ℕ) enough. read-means t lent enough ∙ w.means;
    }
