-- A command that the writer takes, and a buffer that its text fits: exactly then the text is written.
use Prim.Native.Nat.{ℕ, ◌≤◌}
use mathlib.Core.Path.{◌≡◌, refl}
use mathlib.Core.Bool.{false, ◌||◌}
use mathlib.Core.List.{List}
use native.Mathlib.Omega.{arith}
use lib.ListN.{length}
use lib.Seq.{sets}
use lib.Dec.{ltb}
use borrow.Author.Tests.{ltb-false, le-ltb}
use Rattle.octets.specs.Outcome.{Outcome, outcome}
use Rattle.frames.specs.Stream.{text_limit}
use Rattle.command.specs.Keys.{keys}
use Rattle.command.specs.Values.{Value}
use Rattle.command.specs.Meaning.{missing}
use Rattle.command.specs.Canonical.{canonical}
use Rattle.command.specs.Write.{Checked, checked_of, Answer, written_by, write_of}
use Rattle.command.proofs.Cases.{by_test, either_false}

-- none of the writer's refusals applies
pub record Accepted (c : List Value) (out : List ℕ) : Type 0 where
  pub kinds : checked_of keys c ≡ Checked.fine
  pub whole : missing c ≡ false
  pub short : length (canonical c) ≤ text_limit
  pub room : length (canonical c) ≤ length out

pub accepted-writes : (c : List Value) (out : List ℕ) → Accepted c out
    → write_of c out ≡ outcome (Answer.written (length (canonical c))) (sets out 0 (canonical c))
unfolding write_of
accepted-writes c out a =
    let l = length (canonical c) in
    rw (a.kinds, a.whole, le-ltb text_limit l a.short, le-ltb (length out) l a.room)

not_written : {r n : ℕ} {A : Type 0} → Answer.refused r ≡ Answer.written n → A
not_written e = let z : ◌≡◌ {A = ℕ} 0 1 = cc in absurd (omega arith)

pub writes-accepted : (c : List Value) (out : List ℕ) (n : ℕ) → (write_of c out).answer ≡ Answer.written n → Accepted c out
unfolding write_of
writes-accepted c out n = kinds (checked_of keys c) refl
  where
    Takes : Outcome Answer → Type 0
    Takes o = o.answer ≡ Answer.written n → Accepted c out

    kinds : (x : Checked) → checked_of keys c ≡ x → Takes (written_by x c out)
    kinds (Checked.fault r) k = not_written
    kinds Checked.fine k =
        by_test Takes (missing c) (λ w. not_written) (λ w.
        by_test Takes (ltb text_limit (length (canonical c)) || ltb (length out) (length (canonical c))) (λ l. not_written) (λ l q.
        (let f = either_false _ _ l in record { kinds = k; whole = w; short = ltb-false _ _ f.0; room = ltb-false _ _ f.1 })))
