-- What a text does, places apart, does not depend on what the scratch held before: the table, the reply, and what is told.
use Prim.Native.Nat.{ℕ}
use mathlib.Core.Path.{◌≡◌, refl, ap, ◌∙◌}
use mathlib.Core.Bool.{false}
use mathlib.Core.List.{List, []}
use native.Mathlib.Omega.{arith}
use lib.ListN.{length}
use borrow.Author.Tests.{le-leb}
use Rattle.octets.specs.Outcome.{Outcome}
use Rattle.command.specs.Values.{Value}
use Rattle.command.specs.Slots.{nowhere, slots_of, bytes_at, values_of}
use Rattle.command.specs.Read.{Answer}
use Rattle.command.specs.declared.Command.{Command}
use Rattle.protocol.specs.Sessions.{string_in, obey_of}
use Rattle.protocol.specs.Calls.{Acted, unread, read_act}
use Rattle.protocol.specs.Machine.{is_unfed}
use Rattle.protocol.specs.Cuts.{saying}
use Rattle.protocol.specs.Promises.{Sized}
use Rattle.protocol.specs.declared.Table.{Table}
use Rattle.protocol.specs.declared.Told.{Told}
use Rattle.protocol.specs.declared.Stepped.{Stepped}
use Rattle.protocol.proofs.Laws.{text-taken}
use Rattle.protocol.proofs.Tellings.{Tells, tells-taken, tells-same}
use Rattle.protocol.proofs.Sizes.{obey-sized}
use Rattle.protocol.proofs.CutsReading.{SameReading, refused, read}

-- ---- the rule looks at the scratch for the name only
obey-same : (t : Table) (c : Command) (text scratch scratch' : List ℕ) → string_in scratch c.name ≡ string_in scratch' c.name
    → obey_of t c text scratch ≡ obey_of t c text scratch'
unfolding obey_of
obey-same t c text scratch scratch' e = rw e

-- ---- a text acted on
-- with two scratches: the same step, the same command, and the same told; no refusal with 9 or 10
pub record SameAct (text : List ℕ) (a a' : Acted) : Type 0 where
  pub step : a.step ≡ a'.step
  pub values : values_of a.command text a.scratch ≡ values_of a'.command text a'.scratch
  pub said : saying a.step.told a.scratch ≡ saying a'.step.told a'.scratch
  pub taken : is_unfed a.step.told ≡ false

-- where no command was read, the values are those of a text without one
nowhere-bytes : (l : List ℕ) → bytes_at l nowhere ≡ Value.bytes []
unfolding bytes_at
nowhere-bytes l = rw (le-leb 0 (length l) (omega arith))

pub unread-same : (t : Table) (w : Told) (text scratch scratch' : List ℕ) → saying w scratch ≡ saying w scratch' → is_unfed w ≡ false
    → SameAct text (unread t w scratch) (unread t w scratch')
unfolding values_of slots_of
unread-same t w text scratch scratch' e u =
    record { step = refl; values = rw (nowhere-bytes text, nowhere-bytes scratch, nowhere-bytes scratch'); said = e; taken = u }

pub act-same : (t : Table) → Sized t → (text : List ℕ) {o o' : Outcome Answer} → SameReading text o o'
    → SameAct text (read_act t text o) (read_act t text o')
act-same t h text (refused n after after' l) = unread-same t (Told.Refused n) text after after' refl (text-taken n l)
act-same t h text (read c after after' s) =
    let e : obey_of t c text after ≡ obey_of t c text after' = obey-same t c text after after' s.name in
    let w : Tells c.payload (obey_of t c text after).told = (obey-sized t h c text after).told in
    let said = tells-same after after' s.payload w in
    record { step = e; values = s.values; said = said ∙ ap (λ (x : Stepped). saying x.told after') e; taken = tells-taken w }
