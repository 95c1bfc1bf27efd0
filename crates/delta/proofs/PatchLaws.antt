-- What is taken, what is refused, and in which order.
use Prim.Native.Nat.{ℕ, ◌-◌, ◌/◌, ◌≤◌, ◌<◌}
use mathlib.Core.Path.{◌≡◌, refl, sym, ap}
use mathlib.Core.Bool.{Bool, true, false, cond, ◌&&◌, ◌||◌}
use mathlib.Core.Logic.{◌⊎◌, inl, inr}
use mathlib.Core.List.{List, [], ◌∷◌}
use native.Mathlib.Omega.{arith}
use lib.ListN.{length}
use lib.Seq.{sets}
use lib.Dec.{leb, ltb}
use borrow.Author.Tests.{lt-ltb, le-ltb, ltb-true, ltb-false, le-leb, leb-true}
use Rattle.octets.specs.Bytes.{Bytes}
use Rattle.octets.specs.Outcome.{outcome}
use Rattle.octets.proofs.Below.{both_test}
use Rattle.delta.specs.Layout.{Op}
use Rattle.delta.specs.Read.{measured, limit, Delta, delta_of, field_in, is_signature, signature_of}
use Rattle.delta.specs.Patch.{inside, sound, hashes, joined, hash_from, NewFile, result_of}
use Rattle.delta.specs.Calls.{Patched, inputs_of, limited, patched_of, patch_by, patch_of, measured_in, stored_in, measure_of, apply_of}
use Rattle.delta.specs.Laws.{listed, new_file, Taken, Made, TooLarge, Applies, OnlyApplies, TooLongFirst, TooLongOnly, KeepsOutput}
use Rattle.delta.specs.Laws.{RefusesTooLarge, NoRoomLast, Measures}
use Rattle.delta.specs.declared.Refusal.{Refusal}
use Rattle.delta.specs.declared.Entry.{Entry}
use Rattle.delta.specs.declared.Signature.{Signature}
use Rattle.std.proofs.lemmas.Bool.{cond_both}
use Rattle.delta.proofs.CallLaws.{length_in, hash_in, inputs_read, inputs-signed}
use Rattle.delta.proofs.LayoutLaws.{reads-laid, laid-reads}
use Rattle.delta.proofs.SignatureLaws.{reads-signature, laid-signatures}
use Rattle.std.specs.Prelude.{Option, Result, Ok, Err}
use Rattle.delta.specs.declared.Span.{Span}
use Rattle.delta.specs.declared.Measured.{Measured}

-- ---- what is taken is made
made_of : (s old d : List ℕ) (size : ℕ) (es : List Entry) (os : List Op) → Taken s old d size es os
    → patch_of s old d ≡ limited (NewFile.made (new_file size old os) (hash_from 0 (listed os)))
unfolding patch_of inputs_of patched_of result_of
made_of s old d size es os t =
    rw (le-ltb limit (length old) t.short_old, le-ltb limit (length d) t.short_delta)
    (rw (t.signature, (reads-signature size es t.signs).0, t.delta, reads-laid os t.fits, t.inside, le-leb _ _ t.one_hash))

pub applies : Applies apply_of
unfolding apply_of
applies s old d out size es os t short room =
    let n = length (new_file size old os) in
    rw (made_of s old d size es os t, le-ltb limit n short, le-ltb (length out) n room)

too_large : (bs out : List ℕ) (h : Option Span) → (limit < length bs) ⊎ (length out < length bs)
    → stored_in (limited (NewFile.made bs h)) out ≡ outcome (Err Refusal.NoRoom) out
too_large bs out h (inl l) = rw (lt-ltb limit (length bs) l)
too_large bs out h (inr l) =
    cond_both (ltb limit (length bs)) _ _ (λ (p : Patched). stored_in p out ≡ outcome (Err Refusal.NoRoom) out) (λ _. refl)
    (λ _. rw (lt-ltb (length out) (length bs) l))

pub refuses-too-large : RefusesTooLarge apply_of
unfolding apply_of
refuses-too-large s old d out size es os t m =
    rw (made_of s old d size es os t) (too_large (new_file size old os) out (hash_from 0 (listed os)) m)

-- ---- and nothing else
ops_in : Delta → List Op
ops_in Delta.end = []
ops_in Delta.damaged = []
ops_in (Delta.next o d) = o ∷ ops_in d

sound-listed : (size : ℕ) (old : List ℕ) (d : Delta) → sound size old d ≡ true → d ≡ listed (ops_in d)
unfolding sound ops_in
sound-listed size old Delta.end h = refl
sound-listed size old Delta.damaged h = let z : ◌≡◌ {A = ℕ} 0 1 = cc in absurd (omega arith)
sound-listed size old (Delta.next o d) h =
    ap (λ (r : Delta). Delta.next o r) (sound-listed size old d (both_test (inside size old o) (sound size old d) h).1)

module _ (s old d out : List ℕ) (b : Bytes s) (c : Bytes d) where
  module _ {g : Signature} (e : inputs_of s old d ≡ Ok g) where
    abbrev size : ℕ
    size = g.block_size

    taken_in : sound size old (delta_of d) && leb (hashes (delta_of d)) 1 ≡ true
        → Made s old d out (length (joined size old (delta_of d))) (hash_from 0 (delta_of d))
    taken_in q =
        let h = both_test (sound size old (delta_of d)) _ q in
        let g = laid-signatures s _ b (inputs-signed s old d e) in
        let i = inputs_read s old d e in
        let ops = ops_in (delta_of d) in
        let l : delta_of d ≡ listed ops = sound-listed size old (delta_of d) h.0 in
        let r = laid-reads d ops c l in
        record {
          size = size;
          entries = g.entries;
          operations = ops;
          taken = record {
            signs = g.signs;
            signature = g.laid;
            fits = r.1;
            delta = sym r.0;
            inside = rw l at h.0;
            one_hash = rw l at (leb-true (hashes (delta_of d)) 1 h.1);
            short_old = i.1;
            short_delta = i.2;
          };
          counted = ap (λ (x : Delta). length (joined size old x)) l;
          told = ap (hash_from 0) l;
        }

  -- what is known of each answer
  abbrev Judged : Patched → Type 0
  Judged (Patched.refused Refusal.TooLong) = Unit {0}
  Judged (Patched.refused Refusal.Damaged) = Unit {0}
  Judged (Patched.refused Refusal.NoRoom) = TooLarge s old d out
  Judged (Patched.patched bs h) = Made s old d out (length bs) h × (length bs ≤ limit)

  -- reading a signature asks for no room
  abbrev Roomless : Result Signature Refusal → Type 0
  Roomless (Ok g) = Unit {0}
  Roomless (Err Refusal.TooLong) = Unit {0}
  Roomless (Err Refusal.Damaged) = Unit {0}
  Roomless (Err Refusal.NoRoom) = ⊥

  inputs-roomless : Roomless (inputs_of s old d)
  unfolding inputs_of signature_of
  inputs-roomless =
      cond_both (ltb limit (length old) || ltb limit (length d)) _ _ Roomless (λ _. tt)
      (λ _. cond_both (ltb limit (length s)) _ _ Roomless (λ _. tt) (λ _. cond_both (is_signature s) _ _ Roomless (λ _. tt) (λ _. tt)))

  judged-result : {g : Signature} → inputs_of s old d ≡ Ok g → Judged (patched_of g.block_size old d)
  unfolding patched_of result_of
  judged-result {g} e =
      cond_both (sound g.block_size old (delta_of d) && leb (hashes (delta_of d)) 1) _ _ (λ (r : NewFile). Judged (limited r))
      (λ q. let m = taken_in e q in
      let n = length (joined g.block_size old (delta_of d)) in
      cond_both (ltb limit n) _ _ Judged
      (λ u. record { n = n; h = hash_from 0 (delta_of d); made = m; more = inl (ltb-true limit n u) }) (λ u. (m, ltb-false limit n u)))
      (λ _. tt)

  judged : Judged (patch_of s old d)
  unfolding patch_of
  judged = go (inputs_of s old d) refl inputs-roomless
    where
      go : (i : Result Signature Refusal) → inputs_of s old d ≡ i → Roomless i → Judged (patch_by i old d)
      go (Ok g) e r = judged-result e
      go (Err Refusal.TooLong) e r = tt
      go (Err Refusal.Damaged) e r = tt
      go (Err Refusal.NoRoom) e r = absurd r

  only_in : (p : Patched) → Judged p → (n : ℕ) (h : Option Span) → (stored_in p out).answer ≡ Ok (measured n h)
      → Made s old d out n h × (n ≤ limit) × (n ≤ length out)
  only_in (Patched.refused why) j n h e = let z : ◌≡◌ {A = ℕ} 0 1 = cc in absurd (omega arith)
  only_in (Patched.patched bs k) j n h e = by (ltb (length out) (length bs)) refl e
    where
      by : (u : Bool) → ltb (length out) (length bs) ≡ u
          → (cond u (outcome (Err Refusal.NoRoom) out) (outcome (Ok (measured (length bs) k)) (sets out 0 bs))).answer
          ≡ Ok (measured n h)
          → Made s old d out n h × (n ≤ limit) × (n ≤ length out)
      by true q e = let z : ◌≡◌ {A = ℕ} 0 1 = cc in absurd (omega arith)
      by false q e =
          let m : length bs ≡ n = ap length_in e in
          let l : k ≡ h = ap hash_in e in
          let f = ltb-false (length out) (length bs) q in
          (rw (m, l) at j.0, omega (arith, j.1), omega arith)

  room_in : (p : Patched) → Judged p → (stored_in p out).answer ≡ Err Refusal.NoRoom → TooLarge s old d out
  room_in (Patched.refused Refusal.TooLong) j e = let z : ◌≡◌ {A = ℕ} 0 1 = cc in absurd (omega arith)
  room_in (Patched.refused Refusal.Damaged) j e = let z : ◌≡◌ {A = ℕ} 0 1 = cc in absurd (omega arith)
  room_in (Patched.refused Refusal.NoRoom) j e = j
  room_in (Patched.patched bs k) j e = by (ltb (length out) (length bs)) refl e
    where
      by : (u : Bool) → ltb (length out) (length bs) ≡ u
          → (cond u (outcome (Err Refusal.NoRoom) out) (outcome (Ok (measured (length bs) k)) (sets out 0 bs))).answer
          ≡ Err Refusal.NoRoom
          → TooLarge s old d out
      by true q e = record { n = length bs; h = k; made = j.0; more = inr (ltb-true (length out) (length bs) q) }
      by false q e = let z : ◌≡◌ {A = ℕ} 0 1 = cc in absurd (omega arith)

pub only-applies : OnlyApplies apply_of
unfolding apply_of
only-applies s old d out n h b c e = only_in s old d out b c (patch_of s old d) (judged s old d out b c) n h e

pub no-room-last : NoRoomLast apply_of
unfolding apply_of
no-room-last s old d out b c e = room_in s old d out b c (patch_of s old d) (judged s old d out b c) e

-- ---- the output is as before
pub keeps_output : KeepsOutput apply_of
unfolding apply_of
keeps_output s old d out why e = go (patch_of s old d) e
  where
    go : (p : Patched) → (stored_in p out).answer ≡ Err why → (stored_in p out).buffer ≡ out
    go (Patched.refused why) e = refl
    go (Patched.patched bs k) e = by (ltb (length out) (length bs)) e
      where
        by : (u : Bool)
            → let o = cond u (outcome (Err Refusal.NoRoom) out) (outcome (Ok (measured (length bs) k)) (sets out 0 bs)) in
            o.answer ≡ Err why → o.buffer ≡ out
        by true e = refl
        by false e = let z : ◌≡◌ {A = ℕ} 0 1 = cc in absurd (omega arith)

-- ---- 17 comes first
too_long : (s old d : List ℕ) → (limit < length s) ⊎ ((limit < length old) ⊎ (limit < length d))
    → inputs_of s old d ≡ Err Refusal.TooLong
unfolding inputs_of signature_of
too_long s old d (inl h) =
    rw (lt-ltb limit (length s) h)
    (cond_both (ltb limit (length old) || ltb limit (length d)) _ _ (λ (x : Result Signature Refusal). x ≡ Err Refusal.TooLong)
    (λ _. refl) (λ _. refl))
too_long s old d (inr (inl h)) = rw (lt-ltb limit (length old) h)
too_long s old d (inr (inr h)) = rw (lt-ltb limit (length d) h) (go (ltb limit (length old)))
  where
    go : (u : Bool) → cond (u || true) (Err Refusal.TooLong) (signature_of s) ≡ Err Refusal.TooLong
    go true = refl
    go false = refl

pub too-long-first : TooLongFirst apply_of
unfolding apply_of patch_of
too-long-first s old d out h = rw (too_long s old d h)

-- ---- and nothing else gets 17
-- the signature and the delta of inputs that are short enough
not_too-long : (old d out : List ℕ) (x : Result Signature Refusal) → (x ≡ Err Refusal.TooLong → ⊥)
    → (stored_in (patch_by x old d) out).answer ≡ Err Refusal.TooLong → ⊥
unfolding patched_of
not_too-long old d out (Err why) n e = n (cc)
not_too-long old d out (Ok g) n e = made (result_of g.block_size old d) e
  where
    -- an answer that is not 17
    other : {m : Result Measured Refusal} → m ≡ Err Refusal.NoRoom → m ≡ Err Refusal.TooLong → ⊥
    other a b = let z : ◌≡◌ {A = ℕ} 0 1 = cc in omega arith

    made : (r : NewFile) → (stored_in (limited r) out).answer ≡ Err Refusal.TooLong → ⊥
    made NewFile.damaged e = let z : ◌≡◌ {A = ℕ} 0 1 = cc in omega arith
    made (NewFile.made bs h) e = within (ltb limit (length bs)) e
      where
        stored : (v : Bool)
            → (cond v (outcome (Err Refusal.NoRoom) out) (outcome (Ok (measured (length bs) h)) (sets out 0 bs))).answer
            ≡ Err Refusal.TooLong → ⊥
        stored true e = other refl e
        stored false e = let z : ◌≡◌ {A = ℕ} 0 1 = cc in omega arith

        within : (u : Bool)
            → (stored_in (cond u (Patched.refused Refusal.NoRoom) (Patched.patched bs h)) out).answer
            ≡ Err Refusal.TooLong → ⊥
        within true e = other refl e
        within false e = stored (ltb (length out) (length bs)) e

pub too-long-only : TooLongOnly apply_of
unfolding apply_of patch_of inputs_of signature_of
too-long-only s old d out = by (ltb limit (length old)) refl (ltb limit (length d)) refl (ltb limit (length s)) refl
  where
    read : Result Signature Refusal
    read = cond (is_signature s) (Ok (record { block_size = field_in s 8 4; blocks = (length s - 12) / 20 }))
        (Err Refusal.Damaged)

    by : (a : Bool) → ltb limit (length old) ≡ a → (b : Bool) → ltb limit (length d) ≡ b → (c : Bool) → ltb limit (length s) ≡ c
        → let x = cond (a || b) (Err Refusal.TooLong) (cond c (Err Refusal.TooLong) read) in
        (stored_in (patch_by x old d) out).answer ≡ Err Refusal.TooLong
        → (limit < length s) ⊎ ((limit < length old) ⊎ (limit < length d))
    by true q b r c t e = inr (inl (ltb-true limit (length old) q))
    by false q true r c t e = inr (inr (ltb-true limit (length d) r))
    by false q false r true t e = inl (ltb-true limit (length s) t)
    by false q false r false t e =
        absurd (not_too-long old d out read
        (cond_both (is_signature s) _ _ (λ (x : Result Signature Refusal). x ≡ Err Refusal.TooLong → ⊥)
        (λ _ k. let z : ◌≡◌ {A = ℕ} 0 1 = cc in omega arith) (λ _ k. let z : ◌≡◌ {A = ℕ} 0 1 = cc in omega arith)) e)

-- ---- measured first
pub measures : Measures apply_of measure_of
unfolding apply_of measure_of
measures s old d out = go (patch_of s old d)
  where
    go : (p : Patched)
        → ((n : ℕ) (h : Option Span) → measured_in p ≡ Ok (measured n h) → n ≤ length out → (stored_in p out).answer ≡ Ok (measured n h))
        × ((why : Refusal) → measured_in p ≡ Err why → (stored_in p out).answer ≡ Err why)
    go (Patched.refused w) = (λ n h e l. (let z : ◌≡◌ {A = ℕ} 0 1 = cc in absurd (omega arith)), λ why e. e)
    go (Patched.patched bs k) = (
      λ n h e l. (let m : length bs ≡ n = ap length_in e in rw (le-ltb (length out) (length bs) (omega arith)) e),
      λ why e. (let z : ◌≡◌ {A = ℕ} 0 1 = cc in absurd (omega arith)),
    )
