-- Contents gathered: what is left to join, and that it fits.
use Prim.Native.Nat.{ℕ, ◌+◌, ◌-◌, ◌≤◌, ◌<◌}
use mathlib.Core.Path.{◌≡◌, ap, ◌∙◌}
use mathlib.Core.Bool.{Bool, true, false, cond}
use mathlib.Core.List.{List, [], ◌++◌}
use native.Mathlib.Omega.{arith}
use lib.ListN.{length, get_or, take, drop, length-append, length-take}
use lib.Seq.{sets, length-sets}
use lib.Dec.{leb}
use borrow.Author.Tests.{le-leb, eq-eqb, ne_eqb}
use Rattle.octets.specs.Outcome.{Outcome, outcome}
use Rattle.octets.specs.Slices.{part_of, copy_at}
use Rattle.std.specs.Prelude.{Option}
use Rattle.octets.proofs.Stores.{sets-append, part-stored}
use Rattle.protocol.specs.Stretches.{Key}
use Rattle.windows.specs.Compare.{same_key, contents_of}
use Rattle.hearing.specs.Rows.{happenings_in, Apart}
use Rattle.windows.specs.Steps.{Side, key_at}
use Rattle.windows.proofs.RowsLeft.{no_row, contents-at, apart-less, apart-within, apart-at}

part_length : (xs : List ℕ) (at n : ℕ) → length (part_of xs at n) ≤ n
unfolding part_of
part_length xs at n = by (leb (at + n) (length xs))
  where
    by : (t : Bool) → length (cond t (take n (drop at xs)) []) ≤ n
    by true = omega (arith, length-take n (drop at xs))
    by false = omega arith

copied : {r : Option ℕ} {into' : List ℕ} (part into : List ℕ) (n : ℕ) → n + length part ≤ length into
    → outcome r into' ≡ copy_at part into n → into' ≡ sets into n part
unfolding copy_at
copied part into n h e =
    ap (λ (o : Outcome (Option ℕ)). o.buffer) (rw (le-leb (n + length part) (length into) h) at e)

module _ (s : Side) (k : Key) where
  abbrev ahead : ℕ → List ℕ
  ahead at = contents_of k (happenings_in s.recording s.parts (drop at s.numbers))

  module _ (from : ℕ) (into₀ : List ℕ) where
    -- n bytes are joined, no more than lie before the next part
    pub record Gathering (at n : ℕ) (into : List ℕ) : Type 0 where
      pub within : at ≤ length s.numbers
      pub size : length into ≡ length into₀
      pub apart : Apart n (length s.parts) (drop at s.numbers)
      pub counted : n + length (ahead at) ≡ length (ahead from)
      pub stored : sets into n (ahead at) ≡ sets into₀ 0 (ahead from)

    module _ (at n : ℕ) (into : List ℕ) (g : Gathering at n into) where
      -- nothing is left to join
      pub gathered : length s.parts ≤ length into₀ → ahead at ≡ []
          → (n ≤ length into) × (length into ≡ length into₀) × (take n into ≡ ahead from)
      gathered h e =
          let c : n ≡ length (ahead from) = omega (arith, ap length e, g.counted) in
          let w = apart-within n (length s.parts) (drop at s.numbers) g.apart in
          let q : into ≡ sets into₀ 0 (ahead from) = rw e at g.stored in
          (omega (arith, w, g.size), g.size, rw (q, c) (part-stored (ahead from) into₀ 0 (omega (arith, c, w))))

      pub gather-ends : length s.parts ≤ length into₀ → length s.numbers - at < 7
          → (n ≤ length into) × (length into ≡ length into₀) × (take n into ≡ ahead from)
      unfolding contents_of
      gather-ends h l = gathered h (rw (no_row s.recording s.parts s.numbers at l))

      module _ (l : at + 7 ≤ length s.numbers) where
        abbrev part : List ℕ
        part = part_of s.parts (get_or s.numbers (at + 5) 0) (get_or s.numbers (at + 6) 0)

        apart_next : (n ≤ get_or s.numbers (at + 5) 0)
            × Apart (get_or s.numbers (at + 5) 0 + get_or s.numbers (at + 6) 0) (length s.parts) (drop (at + 7) s.numbers)
        apart_next = apart-at n (length s.parts) s.numbers at l g.apart

        -- a happening of another pair
        pub gather-past : same_key k (key_at s.recording s.numbers at) ≡ false → Gathering (at + 7) n into
        gather-past e =
            let q : ahead at ≡ ahead (at + 7) = contents-at s at l k ∙ rw e in
            record {
              within = l;
              size = g.size;
              apart = apart-less n _ (length s.parts) (drop (at + 7) s.numbers) (omega (arith, apart_next.0)) apart_next.1;
              counted = rw q at g.counted;
              stored = rw q at g.stored;
            }

        -- the pair's next start
        pub gather_stops : length s.parts ≤ length into₀ → same_key k (key_at s.recording s.numbers at) ≡ true
            → (get_or s.numbers at 0 ≡ 0 → ⊥) → (n ≤ length into) × (length into ≡ length into₀) × (take n into ≡ ahead from)
        gather_stops h e m = gathered h (contents-at s at l k ∙ rw (e, ne_eqb (get_or s.numbers at 0) 0 m))

        module _ (h : length s.parts ≤ length into₀) where
          pub part-fits : n + length part ≤ length into
          part-fits =
              omega (
                arith,
                part_length s.parts (get_or s.numbers (at + 5) 0) (get_or s.numbers (at + 6) 0),
                apart_next.0,
                apart-within _ (length s.parts) (drop (at + 7) s.numbers) apart_next.1,
                g.size,
              )

          -- a part of it
          pub gather-part : {r : Option ℕ} {into' : List ℕ} → same_key k (key_at s.recording s.numbers at) ≡ true
              → get_or s.numbers at 0 ≡ 0 → outcome r into' ≡ copy_at part into n → Gathering (at + 7) (n + length part) into'
          gather-part e m o =
              let q : ahead at ≡ part ++ ahead (at + 7) = contents-at s at l k ∙ rw (e, eq-eqb (get_or s.numbers at 0) 0 m) in
              let i = copied part into n part-fits o in
              let f = part_length s.parts (get_or s.numbers (at + 5) 0) (get_or s.numbers (at + 6) 0) in
              record {
                within = l;
                size = ap length i ∙ length-sets into n part ∙ g.size;
                apart = apart-less (n + length part) _ (length s.parts) (drop (at + 7) s.numbers) (omega (arith, apart_next.0, f))
                    apart_next.1;
                counted = omega (arith, ap length q, length-append part (ahead (at + 7)), g.counted);
                stored = rw i (sets-append part (ahead (at + 7)) into n ∙ (rw q at g.stored));
              }
