-- One call: what is refused, and how much is consumed.
use Prim.Native.Nat.{ℕ, zero, suc, ◌+◌, ◌-◌, ◌<◌, ◌≤◌, min}
use mathlib.Core.Path.{◌≡◌, refl, sym, ◌∙◌}
use mathlib.Core.List.{List, [], ◌∷◌}
use native.Mathlib.Nat.{add-zero, zero-add}
use native.Mathlib.Omega.{arith}
use lib.ListN.{length, take, drop, length-append, length-drop}
use Rattle.std.specs.Prelude.{Option, Some, None}
use lib.Dec.{ltb, leb}
use borrow.Author.Tests.{lt-ltb, le-ltb, ltb-false}
use Rattle.octets.specs.Outcome.{Outcome, outcome}
use Rattle.frames.specs.Stream.{text_limit}
use Rattle.frames.specs.Carry.{text_at, carry_of, left_of}
use Rattle.frames.specs.Framings.{capped_of}
use Rattle.frames.specs.Steps.{step_of, after, walk_from}
use Rattle.frames.specs.Calls.{refusal_number, report_of, taken_of, scan_of}
use Rattle.frames.specs.Claims.{Consumes, RefusesShort}
use Rattle.frames.specs.declared.carry.Held.{Held}
use Rattle.frames.specs.declared.Framing.{Framing}
use Rattle.frames.specs.declared.step.Event.{Event}
use Rattle.frames.specs.declared.step.Event.TheVariants.{On, Closed, Abandoned}
use Rattle.frames.specs.declared.walk.Walked.{Walked}
use Rattle.frames.specs.declared.Report.{Report}
use Rattle.frames.specs.declared.Scanned.{Scanned}
use Rattle.frames.proofs.Choices.{by_cond}
use Rattle.frames.proofs.WalkLaws.{used_le}

-- ---- which calls are refused with 9: none with room in the carry
pub call-taken : (f : Framing) (xs c : List ℕ) → text_limit ≤ length c → scan_of f xs c ≡ taken_of f xs c
unfolding scan_of
call-taken f xs c h = rw (le-ltb (length c) text_limit h)

-- a property that each report of a closed text has
by-closed : (P : Report → Type 0) (n u : ℕ) → ((start : ℕ) → P (Report.InPiece start n)) → P (Report.InCarry n) → P Report.TooLong
    → P (report_of (Closed n) u)
unfolding report_of
by-closed P n u piece carry long =
    by_cond P (leb n text_limit) (λ _. by_cond P (leb n (u - 2)) (λ _. piece (u - 2 - n)) (λ _. carry)) (λ _. long)

-- and these report no refusal with 9
report-taken : (e : Event) (u : ℕ) → report_of e u ≡ Report.ShortCarry → ⊥
unfolding report_of
report-taken (On g) u q = cc
report-taken (Closed n) u q =
    by-closed (λ r. r ≡ Report.ShortCarry → ⊥) n u
    (λ start e. cc) (λ e. cc)
    (λ e. cc) q
report-taken (Abandoned n g) u q = cc

pub call-report : (f : Framing) (xs c : List ℕ) → text_limit ≤ length c → (scan_of f xs c).answer.report ≡ Report.ShortCarry → ⊥
call-report f xs c h e = report-taken _ _ (rw (call-taken f xs c h) at e)

-- the number 9 is that report's alone
nine : (r : Report) → refusal_number r ≡ 9 → r ≡ Report.ShortCarry
nine Report.Nothing e = absurd (omega arith)
nine (Report.InPiece start n) e = absurd (omega arith)
nine (Report.InCarry n) e = absurd (omega arith)
nine Report.TooLong e = absurd (omega arith)
nine Report.Abandoned e = absurd (omega arith)
nine Report.ShortCarry e = refl

pub refuses-short : RefusesShort
unfolding scan_of
refuses-short f xs c = (
  (λ h. rw (lt-ltb (length c) text_limit h) (refl, refl, refl, refl)),
  (λ h e. call-report f xs c h (nine (scan_of f xs c).answer.report e)),
)

-- a property of an outcome that both kinds of calls have
pub by_call : (P : Outcome Scanned → Type 0) (f : Framing) (xs c : List ℕ)
    → P (outcome (record { consumed = 0; framing = f; report = Report.ShortCarry }) c)
    → (text_limit ≤ length c → P (taken_of f xs c))
    → P (scan_of f xs c)
unfolding scan_of
by_call P f xs c p q = by_cond P (ltb (length c) text_limit) (λ _. p) (λ e. q (ltb-false (length c) text_limit e))

-- ---- a carry with room keeps it
left-room : (c xs : List ℕ) (o : Option Held) → text_limit ≤ length c → text_limit ≤ length (left_of c xs o)
unfolding carry_of
left-room c xs None h = h
left-room c xs (Some p) h =
    let t : List ℕ = take text_limit (text_at c xs p.end p.count) in
    omega (arith, length-append t (drop (length t) c), length-drop (length t) c)

pub scan-room : (f : Framing) (xs c : List ℕ) → text_limit ≤ length c → text_limit ≤ length (scan_of f xs c).buffer
scan-room f xs c h = by_call (λ (o : Outcome Scanned). text_limit ≤ length o.buffer) f xs c h (λ _. left-room c xs _ h)

-- ---- how much is consumed
pub consumed_le : (f : Framing) (xs c : List ℕ) → (scan_of f xs c).answer.consumed ≤ length xs
consumed_le f xs c = by_call (λ o. o.answer.consumed ≤ length xs) f xs c (omega arith) (λ _. omega (arith, used_le (capped_of f) 0 xs))

-- at least one byte of a piece that has one
used-some : (f : Framing) (i : ℕ) (xs : List ℕ) → i + min 1 (length xs) ≤ (walk_from f i xs).used
unfolding walk_from
used-some f i [] = omega arith
used-some f i (b ∷ xs) = by (step_of f b) (λ g. used-some g (i + 1) xs)
  where
    by : (r : Event) → ((g : Framing) → (i + 1) + min 1 (length xs) ≤ (walk_from g (i + 1) xs).used)
        → i + min 1 (suc (length xs)) ≤ (after r (i + 1) (λ (g : Framing). walk_from g (i + 1) xs)).used
    by (On g) h = omega (arith, h g)
    by (Closed n) h = omega arith
    by (Abandoned n g) h = omega arith

-- with nothing to report, all of the piece
report-some : (n u : ℕ) → report_of (Closed n) u ≡ Report.Nothing → ⊥
report-some n u =
    by-closed (λ r. r ≡ Report.Nothing → ⊥) n u
    (λ start e. cc) (λ e. cc)
    (λ e. cc)

abbrev silent : Walked → Type 0
silent w = report_of w.event w.used ≡ Report.Nothing

used_all : (f : Framing) (i : ℕ) (xs : List ℕ) → silent (walk_from f i xs) → (walk_from f i xs).used ≡ i + length xs
unfolding walk_from report_of
used_all f i [] e = sym (add-zero i)
used_all f i (b ∷ xs) e = by (step_of f b) (λ g. used_all g (i + 1) xs) e
  where
    by : (r : Event) → ((g : Framing) → silent (walk_from g (i + 1) xs) → (walk_from g (i + 1) xs).used ≡ (i + 1) + length xs)
        → silent (after r (i + 1) (λ (g : Framing). walk_from g (i + 1) xs))
        → (after r (i + 1) (λ (g : Framing). walk_from g (i + 1) xs)).used ≡ i + suc (length xs)
    by (On g) h q = omega (arith, h g q)
    by (Closed n) h q = absurd (report-some n (i + 1) q)
    by (Abandoned n g) h q = cc

-- fewer bytes report nothing
used-first : (f : Framing) (i k u : ℕ) (xs : List ℕ) → i + k < (walk_from f i xs).used
    → report_of (walk_from f i (take k xs)).event u ≡ Report.Nothing
unfolding walk_from report_of
used-first f i zero u xs h = refl
used-first f i (suc k) u [] h = refl
used-first f i (suc k) u (b ∷ xs) h = by (step_of f b) (λ g. used-first g (i + 1) k u xs) h
  where
    by : (r : Event)
        → ((g : Framing) → (i + 1) + k < (walk_from g (i + 1) xs).used
        → report_of (walk_from g (i + 1) (take k xs)).event u ≡ Report.Nothing)
        → i + suc k < (after r (i + 1) (λ (g : Framing). walk_from g (i + 1) xs)).used
        → report_of (after r (i + 1) (λ (g : Framing). walk_from g (i + 1) (take k xs))).event u ≡ Report.Nothing
    by (On g) q l = q g (omega (arith, l))
    by (Closed n) q l = absurd (omega arith)
    by (Abandoned n g) q l = absurd (omega arith)

pub consumes : Consumes
consumes f xs c h =
    rw (call-taken f xs c h) (
      (λ k l. rw (call-taken f (take k xs) c h) (used-first (capped_of f) 0 k _ xs (omega (arith, l)))),
      (λ e. used_all (capped_of f) 0 xs e ∙ zero-add (length xs)),
      (λ l. omega (arith, used-some (capped_of f) 0 xs)),
    )
