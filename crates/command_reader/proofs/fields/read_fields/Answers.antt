use Prim.Native.Nat.{ℕ, ◌+◌, ◌-◌, ◌*◌, ◌≤◌, ◌<◌}
use mathlib.Core.Path.{◌≡◌, refl, sym, ◌∙◌}
use mathlib.Core.Bool.{false}
use mathlib.Core.List.{List}
use native.Mathlib.Omega.{arith}
use lib.ListN.{length, get_or, take, drop, length-take}
use borrow.Author.Tests.{le-leb, lt-leb}
use Rattle.std.specs.Prelude.{is_some, Result}
use Rattle.std.proofs.lemmas.Result.{err_from_is_err_and}
use Rattle.command.specs.Keys.{keys, kind_at}
use Rattle.command.specs.Slots.{free}
use Rattle.command.specs.Read.{Reader, kept}
use Rattle.command.specs.declared.Refusal.{Refusal}
use Rattle.command_reader.specs.declared.values.Kept.{Kept}
use Rattle.command_reader.specs.Keeping.{kept_in, Keeps}
use Rattle.command_reader.specs.States.{left}
use Rattle.command_reader.proofs.Room.{Within, known-within}
use Rattle.command_reader.proofs.fields.read_fields.Goals as goal
use Rattle.command_reader.proofs.fields.read_fields.Goals.{in-Some+else-is_some+in_ok-kept, in_default}

-- the value v of a key that has not stood: what is kept of it is what `keep` answered
module _ (n at : ℕ) (v l : List ℕ) (s : Reader) (r : Result Kept Refusal) (e : is_some (get_or s.slots n free) ≡ false)
    (k : Keeps (kind_at keys n) at v s.scratch s.used r l) where
  told : kept_in n s l r ≡ kept n at v s
  unfolding kept
  told = rw e (k n s.slots)

  room : Within (4 * s.used + 3 * length v) (kept_in n s l r)
  room = rw told (known-within n at v s)

-- a value is shorter than its field
size : (t : List ℕ) (at from end : ℕ) → at < from → from ≤ end → length (take (end - from) (drop from t)) + at + 1 ≤ end
size t at from end h i = omega (arith, length-take (end - from) (drop from t))

pub loop-at-init : goal.loop-at-init
unfolding left
loop-at-init c = (omega arith, refl, omega arith, rw (le-leb 5 (length c.args.text.now) (omega arith)))

pub returns-in_err-field : goal.returns-in_err-field
returns-in_err-field c =
    let s : Reader = record { slots = c.loop-at.slots; scratch = c.loop-at.scratch; used = c.loop-at.used } in
    let p = err_from_is_err_and c.from_residual.result c.from_residual.ensures.1 in
    rw (p.1, p.2, ← c.loop-at.invariant.3, c.in_err-field.ensures s)

pub returns-then-is_some : goal.returns-then-is_some
unfolding kept
returns-then-is_some c =
    let s : Reader = record { slots = c.loop-at.slots; scratch = c.loop-at.scratch; used = c.loop-at.used } in
    rw (← c.loop-at.invariant.3, c.in_ok-field.ensures.4 s, c.in-Some.is, ← c.is_some.ensures, c.if-is_some.true)

pub returns-in_err-kept : goal.returns-in_err-kept
returns-in_err-kept c =
    let f = c.in_ok-field.field in
    let s : Reader = record { slots = c.loop-at.slots; scratch = c.loop-at.scratch; used = c.loop-at.used } in
    let v = take (f.end - f.from) (drop f.from c.args.text.now) in
    let t = told c.in-Some.n f.from v c.keep.new.scratch s c.keep.result (sym c.is_some.ensures ∙ c.if-is_some.false) c.keep.ensures in
    let p = err_from_is_err_and c.from_residual-in_err-kept.result c.from_residual-in_err-kept.ensures.1 in
    rw (p.1, p.2, ← c.loop-at.invariant.3, c.in_ok-field.ensures.4 s, c.in-Some.is, ← t, c.in_err-kept.was)

pub overflow_add-used : goal.overflow_add-used
overflow_add-used c =
    let f = c.in_ok-field.field in
    let e = c.in_ok-field.ensures in
    let s : Reader = record { slots = c.loop-at.slots; scratch = c.loop-at.scratch; used = c.loop-at.used } in
    let v = take (f.end - f.from) (drop f.from c.args.text.now) in
    let w = room c.in-Some.n f.from v c.keep.new.scratch s c.keep.result (sym c.is_some.ensures ∙ c.if-is_some.false) c.keep.ensures in
    omega (arith, rw c.in_ok-kept.was at w, size c.args.text.now c.loop-at.at f.from f.end e.0 e.1)

pub loop-at-preserved : goal.loop-at-preserved
loop-at-preserved c =
    let f = c.in_ok-field.field in
    let e = c.in_ok-field.ensures in
    let s : Reader = record { slots = c.loop-at.slots; scratch = c.loop-at.scratch; used = c.loop-at.used } in
    let v = take (f.end - f.from) (drop f.from c.args.text.now) in
    elim c.match-field.branch [
      | in-Some+else-is_some+in_ok-kept w ↦
          let free = sym w.is_some.ensures ∙ w.if-is_some.false in
          let r = room w.in-Some.n f.from v w.keep.new.scratch s w.keep.result free w.keep.ensures in
          let t = told w.in-Some.n f.from v w.keep.new.scratch s w.keep.result free w.keep.ensures in
          let on = rw (w.in-Some.is, ← t, w.in_ok-kept.was) at (e.4 s) in (
            omega arith,
            omega arith,
            omega (arith, w.used-is, rw w.in_ok-kept.was at r, size c.args.text.now c.loop-at.at f.from f.end e.0 e.1),
            rw (w.scratch-is, w.slots-is, w.used-is) (sym on ∙ c.loop-at.invariant.3),
          )
      | in_default w ↦ (
        omega arith,
        omega arith,
        omega (arith, w.used-is),
        rw (w.scratch-is, w.slots-is, w.used-is) (sym (rw w.in_default.is at (e.4 s)) ∙ c.loop-at.invariant.3),
      )
    ]

pub returns : goal.returns
unfolding left
returns c = rw (← c.loop-at.invariant.3, lt-leb c.loop-at.at (length c.args.text.now) (omega arith), c.complete.ensures)
