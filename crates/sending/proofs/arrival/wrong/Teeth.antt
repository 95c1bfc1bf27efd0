-- `Arrives` is false of each wrong sender. Of those that write something else nothing is computed: what their exchange comes to is known of
-- ours, which would have written that.
use Prim.Native.Nat.{ℕ}
use mathlib.Core.Path.{◌≡◌, refl, sym, ap, subst, ◌∙◌}
use mathlib.Core.Bool.{false}
use mathlib.Core.Logic.{inl, inr}
use mathlib.Core.List.{List, [], ◌∷◌, map, cons≢nil}
use native.Mathlib.Omega.{arith}
use lib.ListN.{length, get_or}
use Rattle.std.proofs.lemmas.Option.{same_Some}
use Rattle.std.specs.Prelude.{Some}
use Rattle.octets.specs.Ascii.{ascii}
use Rattle.octets.specs.Members.{every}
use Rattle.octets.specs.Outcome.{outcome}
use Rattle.octets.proofs.Below.{both_test}
use Rattle.decimal.specs.declared.Number.{Number}
use Rattle.command.specs.Values.{Value, count}
use Rattle.command.specs.Meaning.{file_id_of, size_of}
use Rattle.protocol.specs.History.{Mark, marks_of}
use Rattle.protocol.specs.Stretches.{Stretch, since, parts}
use Rattle.protocol.proofs.Laws.{no_way}
use Rattle.protocol.proofs.Refuting.{carry₀}
use Rattle.protocol.proofs.Starred.{computing}
use Rattle.sending.specs.Transfers.{is_fresh, is_open, with_stage, asked}
use Rattle.sending.specs.Calls.{is_idle, send_of, finish_of}
use Rattle.sending.specs.Machine.{ours}
use Rattle.sending.specs.Plans.{File, Order, contents_of, orders_of, commands_of, Fit}
use Rattle.sending.specs.Exchange.{Exchange, Turn, after_write, write_turn, turn, after, begin, AtRest}
use Rattle.sending.specs.Arrives.{name_in, Arrived, Arrives}
use Rattle.sending.specs.WrongArrivals.{never, faulting, silent, heedless, alarmed, mistaking}
use Rattle.sending.specs.WrongArrivals.{tail_dropped, pieces_lost, renamed, size_left_out, readdressed, WrongSendersFall}
use Rattle.sending.specs.declared.Stage.TheVariants as Stage
use Rattle.sending.specs.declared.Transfer.{Transfer}
use Rattle.sending.specs.declared.Wrote.{Wrote}
use Rattle.sending.proofs.Ways.{Way, call-way}
use Rattle.sending.proofs.arrival.history.Contents.{key}
use Rattle.sending.proofs.arrival.examples.SmallPlans.{none, fit_none, one, file_of, given, fit, pieces-fit, ids-fit, fit-given}
use Rattle.sending.proofs.arrival.wrong.Mistakes.{has_room, both-whole}
use Rattle.sending.proofs.arrival.wrong.Computed.{never-closed, not-waited, only_the-last-counted, letters_for-bytes}
use Rattle.sending.proofs.arrival.wrong.Computed.{last-as-another}

-- ---- senders that write nothing
wrote-never : (e : Exchange) (os : List Order) (out : List ℕ) → (write_turn never e os out).todo ≡ e.todo
wrote-never e [] out = refl
wrote-never e (Order.send id ∷ os) out = refl
wrote-never e (Order.file id name size ∷ os) out = refl
wrote-never e (Order.piece contents last ∷ os) out = refl
wrote-never e (Order.finish ∷ os) out = refl

turn-never : (e : Exchange) (t : Turn) → (turn never e t).todo ≡ e.todo
turn-never e (Turn.write out) = wrote-never e e.todo out
turn-never e (Turn.hear n scratch) = refl
turn-never e (Turn.feed n scratch reply) = refl
turn-never e (Turn.allow id reply) = refl
turn-never e (Turn.done reply) = refl

after_never : (e : Exchange) (ts : List Turn) → (after never e ts).todo ≡ e.todo
after_never e [] = refl
after_never e (t ∷ ts) = after_never (turn never e t) ts ∙ turn-never e t

never-ready : Arrives never → ⊥
never-ready claim =
    let rest = (claim none fit_none carry₀ carry₀ []).goes_on has_room has_room in
    cons≢nil (sym (after_never (begin none carry₀ carry₀) rest.0) ∙ rest.1.todo)

faults-found : Arrives faulting → ⊥
unfolding every
faults-found claim = no_way (sym (claim none fit_none [] [] (Turn.write [] ∷ [])).refusals)

nothing_written : Arrives silent → ⊥
unfolding marks_of
nothing_written claim =
    let ts : List Turn = Turn.write [] ∷ Turn.write [] ∷ [] in
    let rest : AtRest (after silent (begin none [] []) ts) = record { todo = refl; there = refl; back = refl; owed = refl } in
    let z : ◌≡◌ {A = ℕ} 0 2 = ap length ((claim none fit_none [] [] ts).whole rest).nothing_else in
    omega arith

-- ---- senders that hear wrongly
-- one that heeds nothing waits for good: send may be written, and finish is not
data Stuck (e : Exchange) : Type 0 where
  before : e.todo ≡ orders_of none → Stuck e
  waiting : e.todo ≡ Order.finish ∷ [] → is_open e.sender.transfer.stage ≡ false → Stuck e

module _ (e : Exchange) (out : List ℕ) where
  abbrev t : Transfer
  t = e.sender.transfer

  sent-stuck : {vs : List Value} {a : Wrote} (buffer : List ℕ) → e.todo ≡ orders_of none
      → Way e.sender (asked t (ascii "m")) vs false (is_fresh t.stage) out a
      → Stuck (after_write e (Order.finish ∷ []) (outcome a buffer))
  sent-stuck buffer q (Way.refused n) = Stuck.before q
  sent-stuck buffer q (Way.written n o r w) = Stuck.waiting refl refl

  finish-stuck : {vs : List Value} {a : Wrote} (buffer : List ℕ) → e.todo ≡ Order.finish ∷ [] → is_open t.stage ≡ false
      → Way e.sender (with_stage t Stage.Finished) vs false (is_idle t) out a
      → Stuck (after_write e [] (outcome a buffer))
  finish-stuck buffer q h (Way.refused n) = Stuck.waiting q h
  finish-stuck buffer q h (Way.written n o r w) = no_way (sym (both_test (is_open t.stage) _ r).0 ∙ h)

  write-stuck : Stuck e → Stuck (turn heedless e (Turn.write out))
  unfolding send_of finish_of
  write-stuck (Stuck.before q) =
      subst (λ os. Stuck (write_turn heedless e os out)) (sym q) (sent-stuck _ q (call-way _ _ _ out _ _))
  write-stuck (Stuck.waiting q h) =
      subst (λ os. Stuck (write_turn heedless e os out)) (sym q) (finish-stuck _ q h (call-way _ _ _ out _ _))

turn-stuck : (e : Exchange) (t : Turn) → Stuck e → Stuck (turn heedless e t)
turn-stuck e (Turn.write out) s = write-stuck e out s
turn-stuck e (Turn.hear n scratch) (Stuck.before q) = Stuck.before q
turn-stuck e (Turn.hear n scratch) (Stuck.waiting q h) = Stuck.waiting q h
turn-stuck e (Turn.feed n scratch reply) (Stuck.before q) = Stuck.before q
turn-stuck e (Turn.feed n scratch reply) (Stuck.waiting q h) = Stuck.waiting q h
turn-stuck e (Turn.allow id reply) (Stuck.before q) = Stuck.before q
turn-stuck e (Turn.allow id reply) (Stuck.waiting q h) = Stuck.waiting q h
turn-stuck e (Turn.done reply) (Stuck.before q) = Stuck.before q
turn-stuck e (Turn.done reply) (Stuck.waiting q h) = Stuck.waiting q h

after-stuck : (e : Exchange) (ts : List Turn) → Stuck e → Stuck (after heedless e ts)
after-stuck e [] s = s
after-stuck e (t ∷ ts) s = after-stuck (turn heedless e t) ts (turn-stuck e t s)

nothing-heeded : Arrives heedless → ⊥
nothing-heeded claim = go (after-stuck (begin none carry₀ carry₀) ts (Stuck.before refl))
  where
    goes : (ts : List Turn) × AtRest (after heedless (begin none carry₀ carry₀) ts)
    goes = (claim none fit_none carry₀ carry₀ []).goes_on has_room has_room

    ts : List Turn
    ts = goes.0

    go : Stuck (after heedless (begin none carry₀ carry₀) ts) → ⊥
    go (Stuck.before q) = cons≢nil (sym q ∙ goes.1.todo)
    go (Stuck.waiting q h) = cons≢nil (sym q ∙ goes.1.todo)

all-reported : Arrives alarmed → ⊥
unfolding every
all-reported claim = no_way (sym (claim none fit_none [] [] (Turn.hear 0 [] ∷ [])).news)

-- ---- senders that write something else
-- what is sent instead
abbrev cut_file : File
cut_file = file_of (ascii "a") (ascii "/nz") 0 (ascii "a") []

abbrev empty_file : File
empty_file = file_of (ascii "a") (ascii "/nz") 0 [] (ascii "b")

abbrev other_name : File
other_name = file_of (ascii "a") (ascii "/nzx") 0 (ascii "a") (ascii "b")

abbrev other_id : File
other_id = file_of (ascii "ax") (ascii "/nz") 0 (ascii "a") (ascii "b")

-- ---- a file that arrived as two is one
record Same (f f' : File) : Type 0 where
  contents : contents_of f ≡ contents_of f'
  name : f.name ≡ f'.name
  size : count f.size ≡ count f'.size

same-file : (id : List ℕ) (f f' : File) (m : List Mark) (t t' : Transfer) → f.id ≡ f'.id → Arrived id f m t → Arrived id f' m t'
    → Same f f'
same-file id f f' m t t' e x y =
    let k = key id f'.id in
    let from : since k m ≡ Some x.stretch = rw e at x.started in
    let same : x.stretch ≡ y.stretch = same_Some _ _ (sym from ∙ y.started) in
    record {
      contents = sym (rw e at x.whole) ∙ ap (λ (s : Stretch). parts k s.marks) same ∙ y.whole;
      name = sym x.name ∙ ap (λ (s : Stretch). name_in s.command) same ∙ y.name;
      size = sym x.size ∙ ap (λ (s : Stretch). size_of s.command) same ∙ y.size;
    }

same_sent : (g : Order → Order) (f f' : File) → Arrives ours → Arrives (mistaking g) → Fit (one f) → Fit (one f')
    → map g (orders_of (one f)) ≡ orders_of (one f') → f.id ≡ f'.id → Same f f'
same_sent g f f' right wrong fit fit' sends e =
    let w = both-whole g right wrong (one f) (one f') fit fit' sends in
    same-file (ascii "m") f f' _ _ _ e w.given.files.0 w.other.files.0

module _ (right : Arrives ours) where
  without-tail : Arrives (mistaking tail_dropped) → ⊥
  unfolding computing
  without-tail wrong =
      let fits = fit _ _ 0 _ _ ids-fit.0 refl pieces-fit.0 pieces-fit.2 (inl refl) in
      let same = same_sent tail_dropped (given 0) cut_file right wrong (fit-given 0 (inl refl)) fits refl refl in
      let z : ◌≡◌ {A = ℕ} 2 1 = ap length same.contents in
      omega arith

  without-pieces : Arrives (mistaking pieces_lost) → ⊥
  unfolding computing
  without-pieces wrong =
      let fits = fit _ _ 0 _ _ ids-fit.0 refl pieces-fit.2 pieces-fit.1 (inl refl) in
      let same = same_sent pieces_lost (given 0) empty_file right wrong (fit-given 0 (inl refl)) fits refl refl in
      let z : ◌≡◌ {A = ℕ} 2 1 = ap length same.contents in
      omega arith

  by_another-name : Arrives (mistaking renamed) → ⊥
  unfolding computing
  by_another-name wrong =
      let fits = fit _ (ascii "/nzx") 0 _ _ ids-fit.0 refl pieces-fit.0 pieces-fit.1 (inl refl) in
      let same = same_sent renamed (given 0) other_name right wrong (fit-given 0 (inl refl)) fits refl refl in
      let z : ◌≡◌ {A = ℕ} 3 4 = ap length same.name in
      omega arith

  without-size : Arrives (mistaking size_left_out) → ⊥
  without-size wrong =
      let same = same_sent size_left_out (given 2) (given 0) right wrong (fit-given 2 (inr refl)) (fit-given 0 (inl refl)) refl refl in
      let z : ◌≡◌ {A = ℕ} 2 0 = ap (λ (n : Number). n.magnitude) same.size in
      omega arith

  by_another-id : Arrives (mistaking readdressed) → ⊥
  unfolding computing
  by_another-id wrong =
      let fits = fit _ _ 0 _ _ ids-fit.1 refl pieces-fit.0 pieces-fit.1 (inl refl) in
      let w = both-whole readdressed right wrong (one (given 0)) (one other_id) (fit-given 0 (inl refl)) fits refl in
      let same : commands_of (one (given 0)) ≡ commands_of (one other_id) = sym w.given.nothing_else ∙ w.other.nothing_else in
      let z : ◌≡◌ {A = ℕ} 1 2 = ap (λ (cs : List (List Value)). length (file_id_of (get_or cs 1 []))) same in
      omega arith

  pub wrong-senders-fall : WrongSendersFall
  wrong-senders-fall =
      record {
        never_ready = never-ready;
        faults_found = faults-found;
        nothing_written = nothing_written;
        nothing_heeded = nothing-heeded;
        all_reported = all-reported;
        never_closed = never-closed;
        not_waited = not-waited;
        only_the_last_counted = only_the-last-counted;
        letters_for_bytes = letters_for-bytes;
        last_as_another = last-as-another;
        without_the_tail = without-tail;
        without_the_pieces = without-pieces;
        by_another_name = by_another-name;
        without_the_size = without-size;
        by_another_id = by_another-id;
      }
