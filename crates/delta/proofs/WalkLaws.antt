-- A walk over a delta makes what the definitions say.
use Prim.Native.Nat.{ℕ, zero, suc, ◌+◌, ◌-◌, ◌*◌, ◌≤◌, ◌<◌, min}
use mathlib.Core.Path.{◌≡◌, refl, sym, ap, ◌∙◌}
use mathlib.Core.Bool.{Bool, true, false, cond, ◌&&◌}
use mathlib.Core.List.{List, [], ◌∷◌, ◌++◌, append_assoc, append-nil}
use native.Mathlib.Omega.{arith}
use native.Mathlib.Nat.{add-zero, zero-add, mul-le-mul_right}
use lib.ListN.{length, get_or, drop, length-append, length-drop}
use lib.Seq.{sets, length-sets, drop-drop}
use lib.Dec.{leb, leb-suc-zero, leb-suc-suc}
use borrow.Author.Tests.{le-leb, ltb-true}
use Rattle.octets.specs.Outcome.{Outcome}
use Rattle.octets.specs.Slices.{part_of, copy_at}
use Rattle.octets.proofs.Lists.{drop_at, drop-end}
use Rattle.octets.proofs.Stores.{sets-append}
use Rattle.delta.specs.Layout.{Op, laid}
use Rattle.delta.specs.Read.{span, measured, limit, Read, operation_of, Delta, delta_from, delta_of, placed}
use Rattle.delta.specs.Patch.{within, range_of, inside, piece_of, sound, hashes, joined, hash_from, NewFile, result_of}
use Rattle.delta.specs.Walk.{tally, span_of, put_of, copied_of, hashed_of, turn_of, Makes}
use Rattle.delta.specs.declared.Step.{Step}
use Rattle.delta.specs.declared.walk.Tally.{Tally}
use Rattle.std.proofs.lemmas.Bool.{cond_both}
use Rattle.delta.proofs.FieldLaws.{part-within, part_small}
use Rattle.delta.proofs.OperationLaws.{Held, held, held-size}
use Rattle.delta.proofs.RangeLaws.{part-range}
use Rattle.std.specs.Prelude.{Option, Some, None, Result, Ok, Err}
use Rattle.delta.specs.declared.Span.{Span}
use Rattle.delta.specs.declared.Refusal.{Refusal}

-- ---- what is left to make, from a place on and after a hash
abbrev pub prefixed : List ℕ → NewFile → NewFile
prefixed p NewFile.damaged = NewFile.damaged
prefixed p (NewFile.made bs h) = NewFile.made (p ++ bs) h

prefixed-twice : (p q : List ℕ) (r : NewFile) → prefixed p (prefixed q r) ≡ prefixed (p ++ q) r
prefixed-twice p q NewFile.damaged = refl
prefixed-twice p q (NewFile.made bs h) = ap (λ (l : List ℕ). NewFile.made l h) (sym (append_assoc p q bs))

prefixed-none : (r : NewFile) → prefixed [] r ≡ r
prefixed-none NewFile.damaged = refl
prefixed-none (NewFile.made bs h) = refl

-- an operation after a hash: a second one is damage
abbrev noted : Op → Option Span → ℕ → (Option Span → NewFile) → NewFile
noted (Op.block i) h at f = f h
noted (Op.bytes bs) h at f = f h
noted (Op.hash bs) None at f = f (Some (span (at + 3) (length bs)))
noted (Op.hash bs) (Some p) at f = NewFile.damaged
noted (Op.blocks i n) h at f = f h

module _ (size : ℕ) (old : List ℕ) where
  unfoldable pub result_from : ℕ → Option Span → Delta → NewFile
  result_from at h Delta.end = NewFile.made [] h
  result_from at h Delta.damaged = NewFile.damaged
  result_from at h (Delta.next o d) =
      cond (inside size old o)
      (noted o h at (λ k. prefixed (piece_of size old o) (result_from (at + length (laid o)) k d)))
      NewFile.damaged

  -- how many hashes may follow, and which is told
  abbrev free : Option Span → ℕ
  free None = 1
  free (Some p) = 0

  abbrev first : Option Span → Option Span → Option Span
  first None k = k
  first (Some p) k = Some p

  all_of : (b s l : Bool) (p bs : List ℕ) (h : Option Span)
      → cond b (prefixed p (cond (s && l) (NewFile.made bs h) NewFile.damaged)) NewFile.damaged
      ≡ cond ((b && s) && l) (NewFile.made (p ++ bs) h) NewFile.damaged
  all_of true true true p bs h = refl
  all_of true true false p bs h = refl
  all_of true false l p bs h = refl
  all_of false s l p bs h = refl

  never : (s : Bool) (r : NewFile) → NewFile.damaged ≡ cond (s && false) r NewFile.damaged
  never true r = refl
  never false r = refl

  result-from : (d : Delta) (at : ℕ) (h : Option Span)
      → result_from at h d
      ≡ cond (sound size old d && leb (hashes d) (free h)) (NewFile.made (joined size old d) (first h (hash_from at d))) NewFile.damaged
  unfolding result_from sound hashes joined hash_from
  result-from Delta.end at None = refl
  result-from Delta.end at (Some p) = refl
  result-from Delta.damaged at h = refl
  result-from (Delta.next (Op.block i) d) at h =
      rw (result-from d (at + length (laid (Op.block i))) h)
      (all_of (within size old i) (sound size old d) (leb (hashes d) (free h)) _ (joined size old d) _)
  result-from (Delta.next (Op.bytes bs) d) at h =
      rw (result-from d (at + length (laid (Op.bytes bs))) h)
      (all_of true (sound size old d) (leb (hashes d) (free h)) bs (joined size old d) _)
  result-from (Delta.next (Op.hash bs) d) at None =
      rw (result-from d (at + length (laid (Op.hash bs))) (Some (span (at + 3) (length bs))), leb-suc-suc (hashes d) 0)
      (all_of true (sound size old d) (leb (hashes d) 0) [] (joined size old d) _)
  result-from (Delta.next (Op.hash bs) d) at (Some p) = rw (leb-suc-zero (hashes d)) (never (sound size old d) _)
  result-from (Delta.next (Op.blocks i n) d) at h =
      rw (result-from d (at + length (laid (Op.blocks i n))) h)
      (all_of (within size old (i + n)) (sound size old d) (leb (hashes d) (free h)) _ (joined size old d) _)

-- ---- the delta from a place on
pub skip : (k : ℕ) (r : List ℕ) → delta_from k r ≡ delta_of (drop k r)
unfolding delta_from
skip zero r = refl
skip (suc k) [] = refl
skip (suc k) (b ∷ r) = skip k r

module _ (d : List ℕ) (at : ℕ) (h : at < length d) where
  abbrev here : Read
  here = operation_of (get_or d at 0) (drop (at + 1) d)

  delta-damaged : here ≡ Read.damaged → delta_of (drop at d) ≡ Delta.damaged
  unfolding delta_from
  delta-damaged e = rw (drop_at d at h, e)

  delta-next : (o : Op) (m : ℕ) → here ≡ Read.one o m → delta_of (drop at d) ≡ Delta.next o (delta_of (drop (at + 1 + m) d))
  delta-next o m e =
      let first : delta_of (drop at d) ≡ Delta.next o (delta_from m (drop (at + 1) d)) = unfold delta_from in rw (drop_at d at h, e) in
      first ∙ ap (λ (r : Delta). Delta.next o r) (skip m (drop (at + 1) d) ∙ ap delta_of (drop-drop m (at + 1) d))

-- ---- stores
stored-put : (p out : List ℕ) (at : ℕ) → at + length p ≤ length out → (copy_at p out at).buffer ≡ sets out at p
unfolding copy_at
stored-put p out at h = rw (le-leb (at + length p) (length out) h)

stored-size : (p out : List ℕ) (at : ℕ) → length (copy_at p out at).buffer ≡ length out
unfolding copy_at
stored-size p out at =
    cond_both (leb (at + length p) (length out)) _ _ (λ (o : Outcome (Option ℕ)). length o.buffer ≡ length out)
    (λ _. length-sets out at p) (λ _. refl)

-- ---- a turn does not ask where its tally stands
pub copied_moved : (p : Option Span) (at next total : ℕ) (h : Option Span) (old out : List ℕ)
    → copied_of p next (tally next total h) old out ≡ copied_of p next (tally at total h) old out
unfolding copied_of put_of
copied_moved None at next total h old out = refl
copied_moved (Some p) at next total h old out = refl

-- what a turn needs
pub ruleset turning = (part_small, copied_moved)

-- ---- a walk on its way
module _ (size : ℕ) (old d out₀ : List ℕ) where
  abbrev left : Tally → NewFile
  left t = result_from size old t.at t.checksum (delta_of (drop t.at d))

  pub record Walking (t : Tally) (out : List ℕ) : Type 0 where
    pub within : t.at ≤ length d
    pub few : t.total ≤ 65536 * t.at
    pub before : List ℕ
    pub total : t.total ≡ length before
    pub room : length out ≡ length out₀
    pub stored : length before ≤ length out₀ → out ≡ sets out₀ 0 before
    pub whole : result_of size old d ≡ prefixed before (left t)

  -- what a turn gives: a walk that has come further, or damage
  abbrev pub Turned : Tally → Result Tally Refusal → List ℕ → Type 0
  Turned t (Ok u) out = Walking u out × (t.at < u.at)
  Turned t (Err why) out = (why ≡ Refusal.Damaged) × (result_of size old d ≡ NewFile.damaged)

  abbrev TurnedBy : Tally → Outcome (Result Tally Refusal) → Type 0
  TurnedBy t o = Turned t o.answer o.buffer

  pub start-walks : Walking (tally 0 0 None) out₀
  unfolding result_of
  start-walks =
      record {
        within = omega arith;
        few = omega arith;
        before = [];
        total = refl;
        room = refl;
        stored = λ h. refl;
        whole = sym (prefixed-none _ ∙ result-from size old (delta_of d) 0 None);
      }

  module _ (t : Tally) (out : List ℕ) (w : Walking t out) where
    -- past an operation that makes a piece
    made-turn : (piece : List ℕ) (next : ℕ) (h : Option Span) → t.at < next → next ≤ length d → length piece ≤ limit
        → result_of size old d ≡ prefixed w.before (prefixed piece (result_from size old next h (delta_of (drop next d))))
        → Walking (tally next (t.total + length piece) h) (copy_at piece out t.total).buffer
    made-turn piece next h l m s e =
        record {
          within = m;
          few = omega (arith, w.few);
          before = w.before ++ piece;
          total = omega (arith, w.total, length-append w.before piece);
          room = stored-size piece out t.total ∙ w.room;
          stored = λ r.
              let n : length w.before + length piece ≤ length out₀ = omega (arith, length-append w.before piece) in
              stored-put piece out t.total (omega (arith, w.total, w.room))
              ∙ rw (w.stored (omega arith), w.total, ← zero-add (length w.before)) (sets-append w.before piece out₀ 0);
          whole = e ∙ prefixed-twice w.before piece (result_from size old next h (delta_of (drop next d)));
        }

    put-turn : (piece : List ℕ) (next : ℕ) → t.at < next → next ≤ length d → length piece ≤ limit
        → result_of size old d ≡ prefixed w.before (prefixed piece (result_from size old next t.checksum (delta_of (drop next d))))
        → TurnedBy t (put_of piece next t out)
    unfolding put_of
    put-turn piece next l m s e = (made-turn piece next t.checksum l m s e, l)

    -- a block, and a range
    copied-turn : (i n next : ℕ) → t.at < next → next ≤ length d → length old ≤ limit
        → result_of size old d
        ≡ prefixed w.before
        (cond (within size old (i + n))
        (prefixed (range_of size old i n) (result_from size old next t.checksum (delta_of (drop next d))))
        NewFile.damaged)
        → TurnedBy t (copied_of (span_of size (length old) i n) next t old out)
    unfolding span_of copied_of
    copied-turn i n next l m s e = by (within size old (i + n)) refl e
      where
        start : within size old (i + n) ≡ true → i * size ≤ length old
        start u = omega (arith, ltb-true ((i + n) * size) (length old) u, mul-le-mul_right {m = i} {n = i + n} size (omega arith))

        by : (u : Bool) → within size old (i + n) ≡ u
            → result_of size old d
            ≡ prefixed w.before
            (cond u (prefixed (range_of size old i n) (result_from size old next t.checksum (delta_of (drop next d)))) NewFile.damaged)
            → TurnedBy t
            (copied_of (cond u (Some (span (i * size) (min ((n + 1) * size) (length old - i * size)))) None) next t old out)
        by true u q =
            let p = part-range size old i n (start u) in
            let few = part_small old (i * size) (min ((n + 1) * size) (length old - i * size)) in
            rw p (put-turn (range_of size old i n) next l m (omega (arith, rw p at few)) q)
        by false u q = (refl, q)

    hash-turn : (bs : List ℕ) (next : ℕ) (h : Option Span) → t.at < next → next ≤ length d
        → result_of size old d
        ≡ prefixed w.before (noted (Op.hash bs) h t.at (λ k. prefixed [] (result_from size old next k (delta_of (drop next d)))))
        → Turned t (hashed_of h t (span (t.at + 3) (length bs)) next) out
    hash-turn bs next None l m e = (
      record {
        within = m;
        few = omega (arith, w.few);
        before = w.before;
        total = w.total;
        room = w.room;
        stored = w.stored;
        whole = e ∙ ap (prefixed w.before) (prefixed-none (result_from size old next _ (delta_of (drop next d))));
      },
      l,
    )
    hash-turn bs next (Some p) l m e = (refl, e)

    module _ (l : t.at < length d) (s : length old ≤ limit) (k : length d ≤ limit) where
      abbrev rest : List ℕ
      rest = drop (t.at + 1) d

      from-here : {r : Delta} → delta_of (drop t.at d) ≡ r
          → result_of size old d ≡ prefixed w.before (result_from size old t.at t.checksum r)
      from-here e = w.whole ∙ ap (λ (r : Delta). prefixed w.before (result_from size old t.at t.checksum r)) e

      -- what is left, at the operation that stands next
      ahead : (o : Op) (m : ℕ) → here d t.at l ≡ Read.one o m → Held (get_or d t.at 0) rest (Read.one o m)
          → result_of size old d
          ≡ prefixed w.before
          (cond (inside size old o)
          (noted o t.checksum t.at
          (λ k. prefixed (piece_of size old o) (result_from size old (t.at + 1 + m) k (delta_of (drop (t.at + 1 + m) d)))))
          NewFile.damaged)
      unfolding result_from
      ahead o m e h =
          let n : t.at + length (laid o) ≡ t.at + 1 + m = omega (arith, held-size (get_or d t.at 0) rest o m h) in
          rw n at (from-here (delta-next d t.at l o m e))

      ends : (m : ℕ) → m ≤ length rest → t.at + 1 + m ≤ length d
      ends m h = omega (arith, length-drop (t.at + 1) d)

      -- an operation that was read is passed, and one that was not is damage
      abbrev StepTurns : Result Step Refusal → Type 0
      StepTurns (Ok p) = TurnedBy t (turn_of p.operation p.next t size old d out)
      StepTurns (Err why) = (why ≡ Refusal.Damaged) × (result_of size old d ≡ NewFile.damaged)

      turned_by : (x : Read) → here d t.at l ≡ x → Held (get_or d t.at 0) rest x → StepTurns (placed t.at x)
      unfolding placed turn_of range_of result_from
      turned_by Read.damaged e h = (refl, from-here (delta-damaged d t.at l e))
      turned_by (Read.one (Op.block i) m) e h =
          let q : i + 0 ≡ i = add-zero i in
          copied-turn i 0 (t.at + 1 + m) (omega arith) (ends m (omega (arith, h.1, h.2))) s (rw q (ahead (Op.block i) m e h))
      turned_by (Read.one (Op.bytes bs) m) e h =
          let n = ends m h.1.1 in
          let q : t.at + 1 + 4 ≡ t.at + 5 = omega arith in
          let p : part_of d (t.at + 5) (length bs) ≡ bs =
          part-within d (t.at + 5) (length bs) (omega (arith, h.1.0)) ∙ sym (rw (drop-drop 4 (t.at + 1) d, q) at h.1.3) in
          rw p (put-turn bs (t.at + 1 + m) (omega arith) n (omega arith) (ahead (Op.bytes bs) m e h))
      turned_by (Read.one (Op.hash bs) m) e h =
          hash-turn bs (t.at + 1 + m) t.checksum (omega arith) (ends m h.1.1) (ahead (Op.hash bs) m e h)
      turned_by (Read.one (Op.blocks i n) m) e h =
          copied-turn i n (t.at + 1 + m) (omega arith) (ends m (omega (arith, h.1, h.2))) s (ahead (Op.blocks i n) m e h)

      -- a turn of the loop
      module _ {r : Result Step Refusal} (e : r ≡ placed t.at (operation_of (get_or d t.at 0) (drop (t.at + 1) d))) where
        stepped : StepTurns r
        stepped = rw e (turned_by (here d t.at l) refl (held (get_or d t.at 0) (drop (t.at + 1) d)))

        pub turned_on : {p : Step} {o : Outcome (Result Tally Refusal)} {u : Tally} → r ≡ Ok p
            → o ≡ turn_of p.operation p.next t size old d out → o.answer ≡ Ok u → Walking u o.buffer × (t.at < u.at)
        turned_on a q b = let h = rw (a, ← q) at stepped in rw b at h

        pub turned-off : {p : Step} {o : Outcome (Result Tally Refusal)} {why : Refusal} → r ≡ Ok p
            → o ≡ turn_of p.operation p.next t size old d out → o.answer ≡ Err why → Makes (result_of size old d) out₀ (Err why) o.buffer
        turned-off a q b = let h = rw (a, ← q) at stepped in let k = rw b at h in rw (k.0, k.1) refl

        pub no-step : {why : Refusal} → r ≡ Err why → Makes (result_of size old d) out₀ (Err why) out
        no-step a = let k = rw a at stepped in rw (k.0, k.1) refl

    -- the end
    pub walked : length d ≤ t.at → Makes (result_of size old d) out₀ (Ok (measured t.total t.checksum)) out
    walked h =
        let e : left t ≡ NewFile.made [] t.checksum = unfold delta_from result_from in rw (drop-end d t.at h) in
        rw (w.whole, e, append-nil) (ap (λ (n : ℕ). Ok (measured n t.checksum)) w.total, w.stored)
