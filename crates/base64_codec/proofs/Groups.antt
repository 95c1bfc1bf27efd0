-- The valid texts as a grammar: groups of four characters, the last of which may end with one or two `=` after unused bits of
-- zero. `verdict_of` says `Ok` of these and of no other, and the laws on valid texts go by this grammar.
use Prim.Native.Nat.{ℕ, ◌<◌, ◌%◌}
use mathlib.Core.Path.{◌≡◌, refl, ◌∙◌, ap}
use mathlib.Core.Bool.{Bool, true, false}
use mathlib.Core.Logic.{◌⊎◌, inl, inr}
use mathlib.Core.List.{List, [], ◌∷◌}
use native.Mathlib.Omega.{arith}
use lib.ListN.{length}
use lib.Dec.{eqb}
use borrow.Author.Tests.{eq-eqb, ne_eqb, eqb-true, eqb-false}
use Rattle.base64_codec.specs.Alphabet.{pad, value_of}
use Rattle.base64_codec.specs.Decode.{unused, ending, scan, verdict_of}
use Rattle.base64_codec.specs.declared.Fault.{Fault}
use Rattle.std.specs.Prelude.{Result, Ok, Err}
use Rattle.base64_codec.proofs.Letters.{Letter, is-letter, value-pad}

-- a text with that many padding characters
pub data Groups : List ℕ → ℕ → Type 0 where
  none : Groups [] 0
  full : {a b c d k : ℕ} {r : List ℕ} → Letter a → Letter b → Letter c → Letter d → Groups r k → Groups (a ∷ b ∷ c ∷ d ∷ r) k
  pad1 : {a b c : ℕ} → Letter a → Letter b → Letter c → value_of c % 4 ≡ 0 → Groups (a ∷ b ∷ c ∷ pad ∷ []) 1
  pad2 : {a b : ℕ} → Letter a → Letter b → value_of b % 16 ≡ 0 → Groups (a ∷ b ∷ pad ∷ pad ∷ []) 2

-- ---- these texts are valid
scan-letter : (p c : ℕ) (r : List ℕ) → Letter c → scan p (c ∷ r) ≡ scan (value_of c) r
unfolding scan
scan-letter p c r h = rw (ne_eqb (value_of c) 64 (λ e. omega arith))

scan-pad : (p : ℕ) (r : List ℕ) → scan p (pad ∷ r) ≡ ending p r
unfolding scan
scan-pad p r = rw value-pad

groups-scan : {t : List ℕ} {k : ℕ} (p : ℕ) → Groups t k → scan p t ≡ Ok k
groups-scan p none = unfold scan in refl
groups-scan p (full {a} {b} {c} {d} ha hb hc hd g) =
    scan-letter p a _ ha ∙ scan-letter _ b _ hb ∙ scan-letter _ c _ hc ∙ scan-letter _ d _ hd ∙ groups-scan (value_of d) g
groups-scan p (pad1 {a} {b} {c} ha hb hc z) =
    scan-letter p a _ ha ∙ scan-letter _ b _ hb ∙ scan-letter _ c _ hc ∙ scan-pad _ _ ∙ (unfold ending in rw z)
groups-scan p (pad2 {a} {b} ha hb z) =
    scan-letter p a _ ha ∙ scan-letter _ b _ hb ∙ scan-pad _ _ ∙ (unfold ending in rw z)

pub groups-length : {t : List ℕ} {k : ℕ} → Groups t k → length t % 4 ≡ 0
groups-length none = refl
groups-length (full ha hb hc hd g) = omega (arith, groups-length g)
groups-length (pad1 ha hb hc z) = refl
groups-length (pad2 ha hb z) = refl

-- a group that is not the last is of letters
pub full-group : {a b c d k : ℕ} {r : List ℕ} → Groups (a ∷ b ∷ c ∷ d ∷ r) k → 0 < length r
    → (Letter a) × (Letter b) × (Letter c) × (Letter d) × Groups r k
full-group (full ha hb hc hd g) h = (ha, hb, hc, hd, g)
full-group (pad1 ha hb hc z) h = absurd (omega arith)
full-group (pad2 ha hb z) h = absurd (omega arith)

-- what the grammar makes is valid
pub groups_valid : {t : List ℕ} {k : ℕ} → Groups t k → verdict_of t ≡ Ok k
unfolding verdict_of
groups_valid g = rw (eq-eqb _ _ (groups-length g)) (groups-scan 0 g)

-- ---- and no others
not_valid : {f : Fault} {k : ℕ} → Err f ≡ Ok k → ⊥
not_valid e = let z : ◌≡◌ {A = ℕ} 0 1 = cc in omega arith

unused-zero : (bits n k : ℕ) → unused bits n ≡ Ok k → (bits ≡ 0) × (k ≡ n)
unused-zero bits n k e = go (eqb bits 0) refl
  where
    go : (x : Bool) → eqb bits 0 ≡ x → (bits ≡ 0) × (k ≡ n)
    go true ex = let q : Ok n ≡ Ok k = rw ex at e in (eqb-true bits 0 ex, cc)
    go false ex = absurd (not_valid (rw ex at e))

-- what the first `=` has after it
abbrev Ends : ℕ → List ℕ → ℕ → Type 0
Ends p r k = ((r ≡ []) × (p % 4 ≡ 0) × (k ≡ 1)) ⊎ ((r ≡ pad ∷ []) × (p % 16 ≡ 0) × (k ≡ 2))

ends : (p : ℕ) (r : List ℕ) (k : ℕ) → ending p r ≡ Ok k → Ends p r k
unfolding ending
ends p [] k e = let u = unused-zero _ _ k e in inl (refl, u.0, u.1)
ends p (d ∷ []) k e = go (eqb d pad) refl
  where
    go : (x : Bool) → eqb d pad ≡ x → Ends p (d ∷ []) k
    go true ex = let u = unused-zero _ _ k (rw ex at e) in inr (rw (eqb-true d pad ex), u.0, u.1)
    go false ex = absurd (not_valid (rw ex at e))
ends p (d ∷ e ∷ r) k q = absurd (not_valid q)

-- what a character is, and what comes after it
abbrev Step : ℕ → ℕ → List ℕ → ℕ → Type 0
Step p c r k = ((Letter c) × (scan (value_of c) r ≡ Ok k)) ⊎ ((c ≡ pad) × Ends p r k)

step : (p c : ℕ) (r : List ℕ) (k : ℕ) → scan p (c ∷ r) ≡ Ok k → Step p c r k
unfolding scan
step p c r k e = go (eqb (value_of c) 64) refl (eqb c pad) refl
  where
    go : (x : Bool) → eqb (value_of c) 64 ≡ x → (y : Bool) → eqb c pad ≡ y → Step p c r k
    go true ex true ey = inr (eqb-true _ _ ey, ends p r k (rw (ex, ey) at e))
    go true ex false ey = absurd (not_valid (rw (ex, ey) at e))
    go false ex y ey = inl (is-letter c (eqb-false _ _ ex), rw ex at e)

-- a character that two more come after is no `=`
early : (p c x y : ℕ) (r : List ℕ) (k : ℕ) → scan p (c ∷ x ∷ y ∷ r) ≡ Ok k → (Letter c) × (scan (value_of c) (x ∷ y ∷ r) ≡ Ok k)
early p c x y r k e = go (step p c (x ∷ y ∷ r) k e)
  where
    go : Step p c (x ∷ y ∷ r) k → (Letter c) × (scan (value_of c) (x ∷ y ∷ r) ≡ Ok k)
    go (inl s) = s
    go (inr (q, inl s)) = absurd (omega (arith, ap length s.0))
    go (inr (q, inr s)) = absurd (omega (arith, ap length s.0))

scan-groups : (t : List ℕ) (p k : ℕ) → length t % 4 ≡ 0 → scan p t ≡ Ok k → Groups t k
scan-groups [] p k l e = let q : ◌≡◌ {A = Result ℕ Fault} (Ok 0) (Ok k) = unfold scan in e in let z : k ≡ 0 = cc in rw z none
scan-groups (a ∷ []) p k l e = absurd (omega arith)
scan-groups (a ∷ b ∷ []) p k l e = absurd (omega arith)
scan-groups (a ∷ b ∷ c ∷ []) p k l e = absurd (omega arith)
scan-groups (a ∷ b ∷ c ∷ d ∷ r) p k l e =
    let f = early p a b c (d ∷ r) k e in
    let s = early (value_of a) b c d r k f.1 in
    third f.0 s.0 (step _ c _ k s.1) (scan-groups r (value_of d) k (omega arith))
  where
    fourth : Letter a → Letter b → Letter c → Step (value_of c) d r k
        → (scan (value_of d) r ≡ Ok k → Groups r k) → Groups (a ∷ b ∷ c ∷ d ∷ r) k
    fourth ha hb hc (inl s) ih = full ha hb hc s.0 (ih s.1)
    fourth ha hb hc (inr (q, inl s)) ih = rw (q, s.0, s.2) (pad1 ha hb hc s.1)
    fourth ha hb hc (inr (q, inr s)) ih = absurd (omega (arith, ap length s.0))

    third : Letter a → Letter b → Step (value_of b) c (d ∷ r) k
        → (scan (value_of d) r ≡ Ok k → Groups r k) → Groups (a ∷ b ∷ c ∷ d ∷ r) k
    third ha hb (inl s) ih = fourth ha hb s.0 (step _ d r k s.1) ih
    third ha hb (inr (q, inl s)) ih = absurd (omega (arith, ap length s.0))
    third ha hb (inr (q, inr s)) ih = rw (q, s.0, s.2) (pad2 ha hb s.1)

-- what is valid the grammar makes
pub valid-groups : (t : List ℕ) (k : ℕ) → verdict_of t ≡ Ok k → Groups t k
unfolding verdict_of
valid-groups t k e = go (eqb (length t % 4) 0) refl
  where
    go : (x : Bool) → eqb (length t % 4) 0 ≡ x → Groups t k
    go true ex = scan-groups t 0 k (eqb-true _ _ ex) (rw ex at e)
    go false ex = absurd (not_valid (rw ex at e))
