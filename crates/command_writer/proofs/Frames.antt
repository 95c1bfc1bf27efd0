-- A text written at place 2 of a buffer, with its opener and its closer put around it, is the frame written at the buffer's start.
use Prim.Native.Nat.{ℕ, suc, ◌+◌, ◌-◌, ◌≤◌, ◌<◌}
use mathlib.Core.Path.{◌≡◌, refl, sym, ◌∙◌, ap}
use mathlib.Core.Bool.{Bool, true, false, cond, ◌||◌}
use mathlib.Core.List.{List, [], ◌∷◌, ◌++◌, append_assoc, append-nil}
use native.Mathlib.Omega.{arith}
use native.Mathlib.Nat.{zero-add}
use lib.ListN.{length, take, drop, set, length-take, length-drop, take-append-drop}
use lib.Seq.{sets, sets-eq, set_comm, drop-drop}
use lib.Dec.{ltb}
use borrow.Author.Tests.{le-ltb, ltb-false}
use Rattle.octets.specs.Outcome.{Outcome, outcome}
use Rattle.octets.proofs.Lists.{drop-end, part-rest}
use Rattle.octets.proofs.Stores.{sets-append}
use Rattle.frames.specs.Stream.{text_limit, framed}
use Rattle.command.specs.Keys.{keys}
use Rattle.command.specs.Values.{Value}
use Rattle.command.specs.Meaning.{missing}
use Rattle.command.specs.Canonical.{canonical}
use Rattle.command.specs.Write.{Checked, checked_of, Answer, written_by, write_of}
use Rattle.command.specs.Framed.{frame_room, framed_by, framed_of}
use Rattle.command_writer.specs.Frames.{enclosed}

-- ---- what becomes of a command, in any buffer that has room for the longest text
abbrev fate_by : Checked → List Value → Answer
fate_by (Checked.fault r) c = Answer.refused r
fate_by Checked.fine c =
    cond (missing c) (Answer.refused 7)
    (cond (ltb text_limit (length (canonical c))) (Answer.refused 9) (Answer.written (length (canonical c))))

abbrev fate : List Value → Answer
fate c = fate_by (checked_of keys c) c

abbrev fated : Answer → List Value → List ℕ → Outcome Answer
fated (Answer.written n) c out = outcome (Answer.written n) (sets out 0 (canonical c))
fated (Answer.refused r) c out = outcome (Answer.refused r) out

not-both : {A : Type 0} {r n : ℕ} → Answer.refused r ≡ Answer.written n → A
not-both e = let z : ◌≡◌ {A = ℕ} 0 1 = cc in absurd (omega arith)

roomy : (c : List Value) (out : List ℕ) → text_limit ≤ length out → write_of c out ≡ fated (fate c) c out
unfolding write_of
roomy c out h = go (checked_of keys c)
  where
    long : (l : Bool) → ltb text_limit (length (canonical c)) ≡ l → let n = length (canonical c) in
        cond (l || ltb (length out) n) (outcome (Answer.refused 9) out) (outcome (Answer.written n) (sets out 0 (canonical c)))
        ≡ fated (cond l (Answer.refused 9) (Answer.written n)) c out
    long true e = refl
    long false e =
        let k : length (canonical c) ≤ text_limit = ltb-false _ _ e in
        rw (le-ltb (length out) (length (canonical c)) (omega arith))

    lacking : (m : Bool) → missing c ≡ m → written_by Checked.fine c out ≡ fated (fate_by Checked.fine c) c out
    lacking true e = rw e
    lacking false e = rw e (long (ltb text_limit (length (canonical c))) refl)

    go : (x : Checked) → written_by x c out ≡ fated (fate_by x c) c out
    go (Checked.fault r) = refl
    go Checked.fine = lacking (missing c) refl

fate-length : (c : List Value) (n : ℕ) → fate c ≡ Answer.written n → (n ≡ length (canonical c)) × (n ≤ text_limit)
fate-length c n e = go (checked_of keys c) e
  where
    long : (l : Bool) → ltb text_limit (length (canonical c)) ≡ l
        → cond l (Answer.refused 9) (Answer.written (length (canonical c))) ≡ Answer.written n
        → (n ≡ length (canonical c)) × (n ≤ text_limit)
    long true q w = not-both w
    long false q w =
        let k : length (canonical c) ≤ text_limit = ltb-false _ _ q in
        let d : n ≡ length (canonical c) = cc in
        (d, omega arith)

    lacking : (m : Bool) → missing c ≡ m → cond m (Answer.refused 7)
        (cond (ltb text_limit (length (canonical c))) (Answer.refused 9) (Answer.written (length (canonical c)))) ≡ Answer.written n
        → (n ≡ length (canonical c)) × (n ≤ text_limit)
    lacking true q w = not-both w
    lacking false q w = long (ltb text_limit (length (canonical c))) refl w

    go : (x : Checked) → fate_by x c ≡ Answer.written n → (n ≡ length (canonical c)) × (n ≤ text_limit)
    go (Checked.fault r) w = not-both w
    go Checked.fine w = lacking (missing c) refl w

-- ---- stores
-- a byte before a place may be stored after what is stored from there on
set_before : (bs l : List ℕ) (at i a : ℕ) → i < at → set (sets l at bs) i a ≡ sets (set l i a) at bs
set_before [] l at i a h = refl
set_before (b ∷ bs) l at i a h =
    set_before bs (set l at b) (suc at) i a (omega arith)
    ∙ ap (λ (x : List ℕ). sets x (suc at) bs) (set_comm l at i b a (λ q. omega arith))

-- the part of a buffer from place 2 on, as it is lent
abbrev pub lent : List ℕ → List ℕ
lent out = take (length out - 2) (drop 2 out)

-- and the buffer with another part there
abbrev pub returned : List ℕ → List ℕ → List ℕ
returned out part = take 2 out ++ (part ++ drop (length out - 2) (drop 2 out))

stored-part : (t out : List ℕ) → 2 + length t ≤ length out → returned out (sets (lent out) 0 t) ≡ sets out 2 t
stored-part t out h =
    let room : 0 + length t ≤ length (lent out) = simp (length-take, length-drop) (omega arith) in
    let over : drop (length out - 2) (drop 2 out) ≡ [] = drop-end (drop 2 out) (length out - 2) (omega (arith, length-drop 2 out)) in
    rw (sets-eq t (lent out) 0 room, zero-add, over, append-nil, part-rest, drop-drop (length t) 2 out)
    (sym (sets-eq t out 2 h ∙ rw (append_assoc (take 2 out) t _)))

around : (t out : List ℕ) → enclosed (sets out 2 t) (length t) ≡ sets out 0 (framed t)
around t out =
    let e : length t + 2 ≡ 2 + length t = omega arith in
    let f : length t + 3 ≡ suc (2 + length t) = omega arith in
    let opened = set (set out 0 0x1B) 1 0x5D in
    rw (set_before t out 2 0 0x1B (omega arith), set_before t (set out 0 0x1B) 2 1 0x5D (omega arith), e, f)
    (sets-append t (0x1B ∷ 0x5C ∷ []) opened 2)

unchanged : (out : List ℕ) → returned out (lent out) ≡ out
unchanged out = rw (take-append-drop (length out - 2) (drop 2 out)) (take-append-drop 2 out)

-- ---- what is written
module _ (c : List Value) (out : List ℕ) (room : frame_room ≤ length out) where
  framed-fate : framed_of c out ≡ framed_by (fate c) c out
  unfolding framed_of
  framed-fate =
      rw (le-ltb (length out) frame_room room, roomy c out (omega arith)) (go (fate c))
    where
      go : (a : Answer) → framed_by (fated a c out).answer c out ≡ framed_by a c out
      go (Answer.written n) = refl
      go (Answer.refused r) = refl

  lent-fate : write_of c (lent out) ≡ fated (fate c) c (lent out)
  lent-fate = roomy c (lent out) (simp (length-take, length-drop) (omega arith))

  -- a call on the lent part that writes n bytes
  pub writes-framed : (n : ℕ) (after : List ℕ) → outcome (Answer.written n) after ≡ write_of c (lent out)
      → (n ≤ text_limit) × (outcome (Answer.written (n + 4)) (enclosed (returned out after) n) ≡ framed_of c out)
  writes-framed n after e = go (fate c) refl (e ∙ lent-fate)
    where
      go : (a : Answer) → fate c ≡ a → outcome (Answer.written n) after ≡ fated a c (lent out)
          → (n ≤ text_limit) × (outcome (Answer.written (n + 4)) (enclosed (returned out after) n) ≡ framed_of c out)
      go (Answer.refused r) q w = not-both (ap (λ (o : Outcome Answer). o.answer) (sym w))
      go (Answer.written m) q w =
          let l = fate-length c m q in
          let g : Answer.written n ≡ Answer.written m = ap (λ (o : Outcome Answer). o.answer) w in
          let k : n ≡ m = cc in
          let b : after ≡ sets (lent out) 0 (canonical c) = ap (λ (o : Outcome Answer). o.buffer) w in
          let d : n ≡ length (canonical c) = k ∙ l.0 in
          let s : m + 4 ≡ 4 + m = omega arith in (
            omega (arith, l.1),
            rw (framed-fate, q, b, stored-part (canonical c) out (omega (arith, l.1)), k, s, l.0)
                (ap (outcome (Answer.written (4 + length (canonical c)))) (around (canonical c) out)),
          )

  -- and one that is refused
  pub refuses-framed : (r : ℕ) (after : List ℕ) → outcome (Answer.refused r) after ≡ write_of c (lent out)
      → outcome (Answer.refused r) (returned out after) ≡ framed_of c out
  refuses-framed r after e = go (fate c) refl (e ∙ lent-fate)
    where
      go : (a : Answer) → fate c ≡ a → outcome (Answer.refused r) after ≡ fated a c (lent out)
          → outcome (Answer.refused r) (returned out after) ≡ framed_of c out
      go (Answer.written m) q w = not-both (ap (λ (o : Outcome Answer). o.answer) w)
      go (Answer.refused s) q w =
          let b : after ≡ lent out = ap (λ (o : Outcome Answer). o.buffer) w in
          let g : Answer.refused r ≡ Answer.refused s = ap (λ (o : Outcome Answer). o.answer) w in
          rw (framed-fate, q, b, g, unchanged out)
