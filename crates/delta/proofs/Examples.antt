-- The examples hold, and the laws are false of the wrong ones: each by computing the definitions.
use Prim.Native.Nat.{ℕ, ◌≤◌, ◌<◌}
use mathlib.Core.Path.{◌≡◌, refl, ap}
use mathlib.Core.Bool.{true, cond}
use mathlib.Core.Logic.{◌⊎◌, inl, inr}
use mathlib.Core.List.{List, [], ◌∷◌}
use native.Mathlib.Omega.{arith}
use lib.ListN.{length, get_or, replicate, length-replicate}
use Rattle.octets.specs.Bytes.{Bytes}
use Rattle.octets.specs.Little.{little, number}
use Rattle.octets.specs.Outcome.{Outcome}
use Rattle.delta.specs.Layout as Layout
use Rattle.delta.specs.Read as Read
use Rattle.delta.specs.Patch as Patch
use Rattle.delta.specs.Calls as Calls
use Rattle.delta.specs.Weak as Weak
use Rattle.delta.specs.Laws.{listed, signature, Signs, Taken}
use Rattle.delta.specs.Examples.{DeltaExamples, head}
use Rattle.delta.specs.WrongPatchers.{light_of, DeltaTeeth}
use Rattle.delta.specs.declared.Refusal.{Refusal}
use Rattle.delta.specs.declared.Entry.{Entry}
use Rattle.delta.specs.declared.Step.{Step}
use Rattle.std.specs.Prelude.{None, Result, Ok, Err, is_some}
use Rattle.delta.specs.declared.Measured.{Measured}
use Rattle.delta.proofs.CallLaws.{hash_in}
use Rattle.delta.specs.declared.Measured.{Measured}

-- what computing opens: who names one of these on an `unfolding` line opens all that its own line names
unfoldable layout : Unit {0}
unfolding little number Layout.laid Layout.laid_all Layout.laid_entry Layout.laid_entries Layout.laid_signature
layout = tt

unfoldable patching : Unit {0}
unfolding layout Read.plain_in Read.signature_of Read.entry_in Read.entry_of Read.block_in Read.blocks_in Read.payload_in Read.operation_of
    Read.placed Read.step_of Read.delta_from Patch.range_of Patch.sound Patch.hashes Patch.joined Patch.hash_from Patch.result_of
    Calls.inputs_of Calls.patched_of Calls.patch_of Calls.apply_of
patching = tt

unfoldable summing : Unit {0}
unfolding Weak.sum_of Weak.weighed_of Weak.weak_of Weak.rolled_of light_of
summing = tt

pub examples_hold : DeltaExamples
unfolding patching summing
examples_hold = (
  refl,
  record { damaged_first = refl; short = refl; enough = refl; behind = refl },
  record { header = refl; first = refl; second = refl; no_third = refl },
  record { empty = refl; four = refl; moved = refl; afresh = refl },
  record { most = refl; codes = refl },
)

-- ---- the laws are false of the wrong ones
signs : Signs 4 []
unfolding layout
signs = record { some = omega arith; fits = omega arith; entries = tt; short = omega arith }

-- a delta of one hash at most, with no old file
taken : (os : List Layout.Op) → Layout.AllFit os → Patch.sound 4 [] (listed os) ≡ true → Patch.hashes (listed os) ≤ 1
    → length (Layout.laid_all os) ≤ 65536 → Taken (head 4) [] (Layout.laid_all os) 4 [] os
taken os f s h l =
    record {
      signs = signs;
      signature = refl;
      fits = f;
      delta = refl;
      inside = s;
      one_hash = h;
      short_old = omega arith;
      short_delta = l;
    }

-- no bytes are no signature
unsigned : (size : ℕ) (es : List Entry) → [] ≡ Layout.laid_signature size es → ⊥
unfolding layout
unsigned size es e = let z : 0 ≡ length (Layout.laid_signature size es) = ap length e in omega arith

-- what an answer has
next_in : Result Step Refusal → ℕ
next_in (Ok p) = p.next
next_in (Err why) = 0

hash_count : Result Measured Refusal → ℕ
hash_count r = cond (is_some (hash_in r)) 1 0

-- a hash of no bytes
abbrev hash : Layout.Op
hash = Layout.Op.hash []

abbrev new : Layout.Op
new = Layout.Op.bytes (0 ∷ [])

-- inputs of no bytes are not too long
none-long : (65536 < 0) ⊎ ((65536 < 0) ⊎ (65536 < 0)) → ⊥
none-long (inl h) = omega arith
none-long (inr (inl h)) = omega arith
none-long (inr (inr h)) = omega arith

pub teeth : DeltaTeeth
unfolding patching summing next_in hash_count
teeth =
    record {
      damage_is_end = λ h. let z : ◌≡◌ {A = ℕ} 0 1 = ap length (h (4 ∷ []) [] (omega arith, tt) refl).0 in omega arith;
      first_alone = λ h. let e = h (hash ∷ hash ∷ []) (omega arith, (omega arith, tt)) in let z : ◌≡◌ {A = ℕ} 0 1 = cc in omega arith;
      rest_ignored = λ h.
          let small : Bytes (2 ∷ 0 ∷ 0 ∷ []) = (omega arith, (omega arith, (omega arith, tt))) in
          let all : Bytes (2 ∷ 0 ∷ 0 ∷ 2 ∷ 0 ∷ 0 ∷ []) = (omega arith, (omega arith, (omega arith, small))) in
          let z : ◌≡◌ {A = ℕ} 3 6 = ap length (h (2 ∷ 0 ∷ 0 ∷ 2 ∷ 0 ∷ 0 ∷ []) (hash ∷ []) all refl).0 in
          omega arith;
      data_too_short = λ h.
          let z : ◌≡◌ {A = ℕ} 0 5 = ap next_in (h [] [] (Layout.Op.bytes []) (omega arith) (omega arith)) in
          omega arith;
      any_header = λ h. let l = h [] (signature 1 0) tt refl in unsigned 1 l.entries l.laid;
      no_header = λ h. let e = (h 4 [] signs).0 in let z : ◌≡◌ {A = ℕ} 0 1 = cc in omega arith;
      all_refused = λ h.
          let e = ap (λ (o : Outcome (Result Measured Refusal)). o.answer)
          (h (head 4) [] [] [] 4 [] [] (taken [] tt refl (omega arith) (omega arith)) (omega arith) (omega arith)) in
          let z : ◌≡◌ {A = ℕ} 0 1 = cc in
          omega arith;
      long_damaged = λ h.
          let l : 65536 < length (replicate {A = ℕ} 65537 0) = omega (arith, length-replicate {A = ℕ} 65537 0) in
          let e = ap (λ (o : Outcome (Result Measured Refusal)). o.answer) (h (replicate 65537 0) [] [] [] (inl l)) in
          let z : ◌≡◌ {A = ℕ} 0 1 = cc in
          omega arith;
      all_too_long = λ h. none-long (h [] [] [] [] refl);
      all_taken = λ h. let m = (h [] [] [] [] 0 None tt tt refl).0 in unsigned m.size m.entries m.taken.signature;
      no_room_damaged = λ h.
          let t = taken (new ∷ []) (omega arith, tt) refl (omega arith) (omega arith) in
          let o = h (head 4) [] (Layout.laid_all (new ∷ [])) [] 4 [] (new ∷ []) t (inr (omega arith)) in
          let e = ap (λ (o : Outcome (Result Measured Refusal)). o.answer) o in
          let z : ◌≡◌ {A = ℕ} 0 1 = cc in
          omega arith;
      room_asked_first = λ h. let m = (h [] [] [] [] tt tt refl).made in unsigned m.size m.entries m.taken.signature;
      hash_not_told = λ h.
          let e = ap (λ (o : Outcome (Result Measured Refusal)). o.answer)
          (h (head 4) [] (2 ∷ 0 ∷ 0 ∷ []) [] 4 [] (hash ∷ [])
          (taken (hash ∷ []) (omega arith, tt) refl (omega arith) (omega arith)) (omega arith) (omega arith)) in
          let z : ◌≡◌ {A = ℕ} 0 1 = ap hash_count e in
          omega arith;
      written_anyway = λ h.
          let e = h [] [] [] (1 ∷ []) Refusal.Damaged refl in
          let z : ◌≡◌ {A = ℕ} 0 1 = ap (λ (l : List ℕ). get_or l 0 0) e in
          omega arith;
      nothing_measured = λ h.
          let e = (h [] [] [] []).0 0 None refl (omega arith) in
          let z : ◌≡◌ {A = ℕ} 0 1 = cc in
          omega arith;
      light_weights = λ h. let e = h [] 1 0 (omega arith) in omega arith;
      one_less = λ h. let e = h [] 1 0 (omega arith) in omega arith;
      stale_low = λ h. let e = h [] 1 0 (omega arith) in omega arith;
    }
