-- ISOLATION: what one session gets in a list of calls is what the machine that has it alone gives for its own commands, calls and answers.
-- So two lists with the same of these give it the same.
use Prim.Native.Nat.{ℕ}
use mathlib.Core.Path.{◌≡◌, refl, sym, ap, ◌∙◌}
use mathlib.Core.List.{List, [], ◌∷◌}
use Rattle.protocol.specs.Calls.{allow_of, deny_of, drop_of, done_of, failed_of, unlisted_of}
use Rattle.protocol.specs.Machine.{ours, Call, World, start}
use Rattle.protocol.specs.Isolation.{acts_at, acts, Seen, leaving, seen, Met, AllMet, Isolated, asked_last, records_of}
use Rattle.protocol.specs.declared.Decision.TheVariants as Decision
use Rattle.protocol.proofs.Ours.{Lent, step, after, AllLent}
use Rattle.protocol.proofs.Sizes.{done-sized, failed-sized, unlisted-sized, decided-sized}
use Rattle.protocol.proofs.Worlds.{WorldOK, start-ok}
use Rattle.protocol.proofs.CutsCalls.{Kept, start-kept, steps}
use Rattle.protocol.proofs.Every.{step_ok}
use Rattle.protocol.proofs.isolation.Alone.{alone, seen_alone, after_alone}
use Rattle.protocol.proofs.isolation.Calls.{Single, other, own, guarded-single, drop-single, allow-effect, deny-effect, done-effect}
use Rattle.protocol.proofs.isolation.Calls.{failed-effect, unlisted-effect}
use Rattle.protocol.proofs.isolation.Supplies.{supply-single}
use Rattle.protocol.proofs.isolation.Feeds.{feed-single}

-- ---- every call
abbrev SingleAt : List ℕ → World → Call → Type 0
SingleAt A w c = Single A w.receiver.table (step w c).receiver.table (acts_at ours A w c) (asked_last (step w c)) (leaving ours w c)

single : (A : List ℕ) (w : World) → Kept w → WorldOK w → (c : Call) → Lent w c → Met ours A w c → SingleAt A w c
unfolding allow_of deny_of drop_of done_of failed_of unlisted_of
single A w kept ok (Call.feed piece carry scratch reply) lent met = feed-single A w kept ok piece carry scratch reply lent met
single A w kept ok (Call.allow id reply) lent met =
    guarded-single w.receiver (allow-effect A ok.sound id)
    (decided-sized w.receiver.table kept.sized Decision.Allow id).reply _ reply
single A w kept ok (Call.deny id reply) lent met =
    guarded-single w.receiver (deny-effect A ok.sound id)
    (decided-sized w.receiver.table kept.sized Decision.Deny id).reply _ reply
single A w kept ok (Call.drop id) lent met = drop-single A ok.sound id _
single A w kept ok (Call.done reply) lent met =
    guarded-single w.receiver (done-effect A ok.sound (asked_last w) ok.table.owed)
    (done-sized w.receiver.table kept.sized).reply _ reply
single A w kept ok (Call.failed code reply) lent met =
    guarded-single w.receiver (failed-effect A ok.sound (asked_last w) ok.table.owed code)
    (failed-sized w.receiver.table kept.sized code).reply _ reply
single A w kept ok (Call.unlisted reply) lent met =
    guarded-single w.receiver (unlisted-effect A ok.sound (asked_last w) ok.table.owed)
    (unlisted-sized w.receiver.table kept.sized).reply _ reply
single A w kept ok (Call.supply u out) lent met = supply-single A w.receiver ok.sound (asked_last w) ok.table.owed u out _

-- ---- every list of calls: one run at a time
record Alike (A : List ℕ) (w : World) (cs : List Call) : Type 0 where
  seen : seen ours A w cs ≡ seen_alone A (records_of A w.receiver.table) (acts ours A w cs)
  view : records_of A (after w cs).receiver.table ≡ after_alone A (records_of A w.receiver.table) (acts ours A w cs)

alike_then : (A : List ℕ) (w : World) (c : Call) (cs : List Call) → SingleAt A w c → Alike A (step w c) cs → Alike A w (c ∷ cs)
alike_then A w c cs (other e n q v) r =
    record { seen = rw (e, n, q) (r.seen ∙ rw v); view = rw e (r.view ∙ rw v) }
alike_then A w c cs (own a e s v) r =
    record {
      seen = rw (e, s) (ap (λ (x : List Seen). (alone A (records_of A w.receiver.table) a).seen ∷ x) (r.seen ∙ rw v));
      view = rw e (r.view ∙ rw v);
    }

alike : (A : List ℕ) (w : World) → Kept w → WorldOK w → (cs : List Call) → AllLent w cs → AllMet ours A w cs → Alike A w cs
alike A w kept ok [] lent met = record { seen = refl; view = refl }
alike A w kept ok (c ∷ cs) lent met =
    alike_then A w c cs (single A w kept ok c lent.0 met.0)
    (alike A (step w c) (steps w kept c lent.0).kept (step_ok w ok c lent.0) cs lent.1 met.1)

pub isolated : Isolated ours
isolated A carry₁ carry₂ cs₁ cs₂ lent₁ lent₂ met₁ met₂ same =
    let one = alike A (start carry₁) (start-kept carry₁) (start-ok carry₁) cs₁ lent₁ met₁ in
    let two = alike A (start carry₂) (start-kept carry₂) (start-ok carry₂) cs₂ lent₂ met₂ in
    let v = records_of A (start carry₁).receiver.table in (
      one.seen ∙ ap (seen_alone A v) same ∙ sym two.seen,
      one.view ∙ ap (after_alone A v) same ∙ sym two.view,
    )
