-- The machine of States, started in the state of a mode, tells what the stream tells and goes to the state of the mode after it.
use Prim.Native.Nat.{ℕ, ◌+◌}
use mathlib.Core.Path.{◌≡◌, refl, ap, sym, ◌∙◌}
use mathlib.Core.List.{List, [], ◌∷◌, ◌++◌}
use mathlib.Core.Bool.{Bool, true, false, cond}
use native.Mathlib.Omega.{arith}
use lib.ListN.{length, get_or, take, length-append}
use lib.Seq.{take_all}
use lib.Dec.{ltb, leb, eqb}
use borrow.Author.Tests.{ltb-true, ltb-false, le-leb, lt-leb, leb-true, leb-false, eqb-true, ne_eqb}
use Rattle.octets.specs.Slices.{starts_with}
use Rattle.octets.proofs.Compare.{starts-short}
use Rattle.frames.specs.Stream.{Mode, Told, is_reported, text_tells, text_limit, closed_tells, abandoned_tells}
use Rattle.frames.specs.Stream.{after_escape, read_byte, stream}
use Rattle.frames.specs.Framings.{mark_of, may_be, cap, capped_of, framing_of, kept_of}
use Rattle.frames.specs.Steps.{first_byte, in_mark, in_text, step_of}
use Rattle.frames.specs.declared.Framing.TheVariants.{Plain, Escape, Text, TextEscape}
use Rattle.frames.specs.declared.Mark.{Mark}
use Rattle.frames.specs.declared.Mark.TheVariants.{Transfer, DragDrop}
use Rattle.frames.specs.declared.step.Event.TheVariants.{On, Closed, Abandoned}
use Rattle.frames.proofs.Choices.{by_cond}
use Rattle.frames.proofs.WalkLaws.{by-escape}
use Rattle.frames.proofs.TextLaws.{take-grows}
use Rattle.frames.proofs.Marks.{may-next, may-long, may_more, may_not, other, apart, reported_as, reported_not}
use Rattle.frames.proofs.States.{State, state, capped_event, tell, run_byte, run, cap-text}

-- ---- the state of a mode
abbrev pub state_of : Mode → State
state_of m = state (framing_of m) (kept_of m)

abbrev Same : List Told × State → List Told × Mode → Type 0
Same s r = s ≡ (r.0, state_of r.1)

-- after a 1B that closes nothing
escape-state : (b : ℕ) → state (framing_of (after_escape b)) [] ≡ state_of (after_escape b)
unfolding may_be starts_with
escape-state b =
    let Q : Mode → Type 0 = λ m. state (framing_of m) [] ≡ state_of m in
    by_cond Q (eqb b 0x5D) (λ _. refl) (λ _. by_cond Q (eqb b 0x1B) (λ _. refl) (λ _. refl))

escape-byte : (b : ℕ) → Same (run_byte (state Escape []) b) ([], after_escape b)
unfolding step_of
escape-byte b =
    by-escape (λ g. tell (capped_event (On g)) [] b ≡ ([], state g [])) b refl refl refl
    ∙ ap (λ (s : State). ([], s)) (escape-state b)

-- in a text that may be of a mark
text-state : (k : Mark) (x : ℕ) (t : List ℕ) → may_be k (x ∷ t) ≡ true
    → state_of (Mode.inside (x ∷ t)) ≡ state (Text k (cap (length (x ∷ t)))) (take text_limit (x ∷ t))
text-state Transfer x t e = rw e
text-state DragDrop x t e = rw (apart DragDrop x t e, e)

-- in a text known to be of no mark
none-state : (t : List ℕ) → may_be Transfer t ≡ false → may_be DragDrop t ≡ false → state_of (Mode.inside t) ≡ state Plain []
none-state t e f = rw (e, f)

-- the same by a mark and the other
both_not : (k : Mark) (t : List ℕ) → may_be k t ≡ false → may_be (other k) t ≡ false → state_of (Mode.inside t) ≡ state Plain []
both_not Transfer t e f = none-state t e f
both_not DragDrop t e f = none-state t f e

-- a byte more of it
module _ (k : Mark) (x : ℕ) (t : List ℕ) (b : ℕ) (e : may_be k (x ∷ t) ≡ true) where
  abbrev now : List ℕ
  now = x ∷ t

  grown : may_be k (now ++ (b ∷ [])) ≡ true
      → Same (tell (On (capped_of (Text k (length now + 1)))) (take text_limit now) b) ([], Mode.inside (now ++ (b ∷ [])))
  grown h =
      let l : length (now ++ (b ∷ [])) ≡ length now + 1 = length-append now (b ∷ []) in
      rw (text-state k x (t ++ (b ∷ [])) h, l, ne_eqb (cap (length now + 1)) 0 (λ z. omega arith), take-grows text_limit now b)

  next : (v : Bool) → may_be k (now ++ (b ∷ [])) ≡ v
      → Same (tell (On (capped_of (cond v (Text k (length now + 1)) Plain))) (take text_limit now) b) ([], Mode.inside (now ++ (b ∷ [])))
  next true h = grown h
  next false h = rw (both_not k (now ++ (b ∷ [])) h (may_not (other k) now b (apart k x t e)).1)

  text-byte : Same (tell (On (capped_of (in_mark k (length now) b))) (take text_limit now) b) (read_byte (Mode.inside now) b)
  unfolding read_byte
  text-byte = by (ltb (length now) (length (mark_of k))) refl (eqb b 0x1B)
    where
      by : (q : Bool) → ltb (length now) (length (mark_of k)) ≡ q → (u : Bool)
          → Same (tell (On (capped_of (cond q
          (cond u Escape (cond (eqb b (get_or (mark_of k) (length now) 0)) (Text k (length now + 1)) Plain))
          (cond u (TextEscape (length now)) (Text k (length now + 1)))))) (take text_limit now) b)
          ([], cond u (Mode.inside_escape now) (Mode.inside (now ++ (b ∷ []))))
      by true q true = rw (reported_as k x t e, starts-short now (mark_of k) (ltb-true _ _ q))
      by true q false = next (eqb b (get_or (mark_of k) (length now) 0)) (may-next k now b (ltb-true _ _ q) ∙ rw e)
      by false q true = rw (reported_as k x t e, sym (may-long k now b (ltb-false _ _ q)) ∙ e)
      by false q false = grown (may_more k now b (ltb-false _ _ q) ∙ sym (may-long k now b (ltb-false _ _ q)) ∙ e)

-- its first byte, which may be of either
first-state : (b : ℕ) → Same (tell (On (capped_of (first_byte b))) [] b) (read_byte (Mode.inside []) b)
unfolding read_byte may_be starts_with
first-state b = by (eqb b 0x1B) (eqb b 0x35) refl (eqb b 0x37) refl
  where
    by : (u v : Bool) → eqb b 0x35 ≡ v → (w : Bool) → eqb b 0x37 ≡ w
        → Same (tell (On (capped_of (cond u Escape (cond v (Text Transfer 1) (cond w (Text DragDrop 1) Plain))))) [] b)
        ([], cond u (Mode.inside_escape []) (Mode.inside (b ∷ [])))
    by true v e w f = refl
    by false true e w f = rw e
    by false false e true f = rw (e, f)
    by false false e false f = rw (e, f)

-- a byte of a text known to be of no mark
other_byte : (t : List ℕ) (b : ℕ) → may_be Transfer t ≡ false → may_be DragDrop t ≡ false
    → Same (run_byte (state Plain []) b) (read_byte (Mode.inside t) b)
unfolding read_byte step_of
other_byte t b e f = by (eqb b 0x1B)
  where
    by : (u : Bool)
        → Same (tell (capped_event (On (cond u Escape Plain))) [] b) ([], cond u (Mode.inside_escape t) (Mode.inside (t ++ (b ∷ []))))
    by true = rw (reported_not t e f)
    by false = rw (none-state (t ++ (b ∷ [])) (may_not Transfer t b e).1 (may_not DragDrop t b f).1)

-- after the 1B of a text that is reported
ended-byte : (t : List ℕ) (b : ℕ) → is_reported t ≡ true
    → Same (run_byte (state (TextEscape (cap (length t))) (take text_limit t)) b) (read_byte (Mode.inside_escape t) b)
unfolding read_byte step_of
ended-byte t b e = by (eqb b 0x5C)
  where
    told : (v : Bool) → leb (length t) text_limit ≡ v
        → cond (leb (cap (cap (length t))) text_limit) (text_tells (take text_limit t)) Told.too_long ≡ cond v (text_tells t) Told.too_long
    told true q =
        let h = leb-true (length t) text_limit q in
        rw (le-leb (cap (cap (length t))) text_limit (omega arith), take_all text_limit t h)
    told false q =
        let h = leb-false (length t) text_limit q in
        rw (lt-leb (cap (cap (length t))) text_limit (omega arith))

    by : (u : Bool) → let ended = cond u (Closed (cap (length t))) (Abandoned (cap (length t)) (framing_of (after_escape b))) in
        Same (tell (capped_event ended) (take text_limit t) b)
        (cond u (closed_tells t, Mode.outside) (abandoned_tells t, after_escape b))
    by true = rw e (ap (λ (a : Told). (a ∷ [], state Plain [])) (told (leb (length t) text_limit) refl))
    by false = rw e (ap (λ (s : State). (Told.abandoned ∷ [], s)) (escape-state b))

-- after the 1B of any other text
other-ended : (t : List ℕ) (b : ℕ) → is_reported t ≡ false → read_byte (Mode.inside_escape t) b ≡ ([], after_escape b)
unfolding read_byte
other-ended t b e = by (eqb b 0x5C) refl
  where
    by : (u : Bool) → eqb b 0x5C ≡ u
        → ◌≡◌ {A = List Told × Mode} (cond u (closed_tells t, Mode.outside) (abandoned_tells t, after_escape b)) ([], after_escape b)
    by true q = rw (e, eqb-true b 0x5C q)
    by false q = rw e

mode-byte : (m : Mode) (b : ℕ) → Same (run_byte (state_of m) b) (read_byte m b)
unfolding read_byte step_of
mode-byte Mode.outside b = by (eqb b 0x1B)
  where
    by : (u : Bool) → Same (tell (capped_event (On (cond u Escape Plain))) [] b) ([], cond u Mode.escape Mode.outside)
    by true = refl
    by false = refl
mode-byte Mode.escape b = escape-byte b
mode-byte (Mode.inside []) b = unfold may_be starts_with in first-state b
mode-byte (Mode.inside (x ∷ t)) b = by (may_be Transfer (x ∷ t)) refl (may_be DragDrop (x ∷ t)) refl
  where
    marked : (k : Mark) → may_be k (x ∷ t) ≡ true → Same (run_byte (state_of (Mode.inside (x ∷ t))) b) (read_byte (Mode.inside (x ∷ t)) b)
    marked k e =
        let m : in_text k (length (x ∷ t)) b ≡ in_mark k (length (x ∷ t)) b = rw (ne_eqb (length (x ∷ t)) 0 (λ z. omega arith)) in
        ap (λ (s : State). run_byte s b) (text-state k x t e) ∙ rw (cap-text k (length (x ∷ t)) b, m) (text-byte k x t b e)

    by : (u : Bool) → may_be Transfer (x ∷ t) ≡ u → (v : Bool) → may_be DragDrop (x ∷ t) ≡ v
        → Same (run_byte (state_of (Mode.inside (x ∷ t))) b) (read_byte (Mode.inside (x ∷ t)) b)
    by true e v f = marked Transfer e
    by false e true f = marked DragDrop f
    by false e false f = ap (λ (s : State). run_byte s b) (none-state (x ∷ t) e f) ∙ other_byte (x ∷ t) b e f
mode-byte (Mode.inside_escape t) b = by (is_reported t) refl
  where
    by : (u : Bool) → is_reported t ≡ u → let s = state (cond u (TextEscape (cap (length t))) Escape) (cond u (take text_limit t) []) in
        Same (run_byte s b) (read_byte (Mode.inside_escape t) b)
    by true e = ended-byte t b e
    by false e = escape-byte b ∙ rw (other-ended t b e)

pub mode-runs : (m : Mode) (bs : List ℕ) → run (state_of m) bs ≡ ((stream m bs).0, state_of (stream m bs).1)
unfolding run stream
mode-runs m [] = refl
mode-runs m (b ∷ bs) = rw (mode-byte m b, mode-runs (read_byte m b).1 bs)
