use Rattle.std.proofs.Common.{◌≡◌, ℕ, List, ◌&&◌, refl, sym, ◌∙◌, ◌+◌, ◌-◌, ◌<◌, arith, length, get_or, drop, leb}
use borrow.Author.Tests.{le-leb, lt-leb}
use Rattle.std.specs.Prelude.{Option, Some, None}
use Rattle.pathname.specs.declared.utf8.Due.{Due}
use Rattle.pathname.specs.Utf8.{rows, followers_in, begun, sequences, utf8}
use Rattle.pathname.specs.DueBytes.{ranges_of, due_of, lead_of}
use Rattle.pathname.proofs.Alone.{alone, ascii}
use Rattle.pathname.proofs.Sequences.{first-at, next-at, none-at}
use Rattle.pathname.proofs.utf8.is_valid.Goals as goal
use Rattle.pathname.proofs.utf8.is_valid.Goals.{then-due-eq0+else-b-lt128+in-Some, else-due-eq0+then-due-b+then-b-due}
use Rattle.pathname.proofs.utf8.is_valid.Goals.{else-due-b-via-then-due-b+else-b-due, else-due-b-via-else-due-b}

-- what a first byte leaves
at_first : (s : List ℕ) (i : ℕ) (d : Due) (f : Option Due) → i < length s → d.count ≡ 0 → lead_of f ≡ followers_in rows (get_or s i 0)
    → sequences (due_of d) (drop i s) ≡ utf8 s → utf8 s ≡ begun (lead_of f) (λ rs. sequences rs (drop (i + 1) s))
at_first s i d f h z q v = sym v ∙ rw z (first-at d.low d.high s i h ∙ rw (← q))

-- what a byte that is due leaves
at_next : (s : List ℕ) (i : ℕ) (d : Due) → i < length s → 0 < d.count → sequences (due_of d) (drop i s) ≡ utf8 s
    → let b = get_or s i 0 in
    utf8 s ≡ ((leb d.low b && leb b d.high) && sequences (ranges_of (d.count - 1) 0x80 0xBF) (drop (i + 1) s))
at_next s i d h p v = sym v ∙ next-at d.count d.low d.high s i p h

pub returns-then-is_ascii : goal.returns-then-is_ascii
returns-then-is_ascii c = sym (ascii c.args.s.now c.if-is_ascii.ensures.cases)

pub loop-b-init : goal.loop-b-init
unfolding ranges_of
loop-b-init c = refl

pub loop-b-preserved-then-b-lt128 : goal.loop-b-preserved-then-b-lt128
unfolding ranges_of
loop-b-preserved-then-b-lt128 c =
    let l = c.loop-b in
    let z = c.if-due-eq0.true in
    let stands : lead_of (Some l.due) ≡ followers_in rows (get_or c.args.s.now l.b-index 0) = rw z (sym (alone _ c.if-b-lt128.true)) in
    sym (at_first c.args.s.now l.b-index l.due (Some l.due) (omega arith) z stands l.invariant)

pub returns-in_default : goal.returns-in_default
returns-in_default c =
    let l = c.loop-b in
    sym (at_first c.args.s.now l.b-index l.due None (omega arith) c.if-due-eq0.true c.in_default.ensures l.invariant)

pub returns-else-due-b : goal.returns-else-due-b
returns-else-due-b c =
    let l = c.loop-b in
    let next = at_next c.args.s.now l.b-index l.due (omega arith) (omega arith) l.invariant in
    elim c.else-due-b.branch [
      | else-due-b-via-then-due-b+else-b-due w ↦ sym (next ∙ rw (le-leb _ _ w.if-due-b.true, lt-leb _ _ w.if-b-due.false))
      | else-due-b-via-else-due-b w ↦ sym (next ∙ rw (lt-leb _ _ w.if-due-b.false))
    ]

pub loop-b-preserved : goal.loop-b-preserved
loop-b-preserved c =
    let l = c.loop-b in
    let s = c.args.s.now in
    elim c.if-due-eq0.branch [
      | then-due-eq0+else-b-lt128+in-Some w ↦ rw w.due-is
          (sym (at_first s l.b-index l.due (Some w.in-Some.first) (omega arith) w.if-due-eq0.true w.in-Some.ensures l.invariant))
      | else-due-eq0+then-due-b+then-b-due w ↦ rw w.due-is
          (sym (at_next s l.b-index l.due (omega arith) (omega arith) l.invariant
          ∙ rw (le-leb _ _ w.if-due-b.true, le-leb _ _ w.if-b-due.true)))
    ]

pub returns : goal.returns
returns c =
    let l = c.loop-b in
    let d = l.due in
    sym (none-at d.count d.low d.high c.args.s.now l.b-index (omega arith)) ∙ l.invariant
