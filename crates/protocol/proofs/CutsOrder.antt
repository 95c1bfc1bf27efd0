-- The calls among moves, each with the number of reports before it, and the number of all reports tell in which order all of them came.
use Prim.Native.Nat.{ℕ, suc, ◌≤◌}
use mathlib.Core.Path.{◌≡◌, refl, sym, ap}
use mathlib.Core.Bool.{Bool, true, false, cond}
use mathlib.Core.List.{List, [], ◌∷◌}
use native.Mathlib.Omega.{arith}
use Rattle.protocol.specs.Cuts.{calls_among}

module _ {M : Type 0} (report : M → Bool) where
  abbrev pub reports : List M → ℕ
  reports [] = 0
  reports (m ∷ ms) = cond (report m) (suc (reports ms)) (reports ms)

  -- the calls of a move and of those after it, given whether it is a report
  abbrev calls_by : Bool → ℕ → M → List M → List (ℕ × M)
  calls_by b n m ms = cond b (calls_among report (suc n) ms) ((n, m) ∷ calls_among report n ms)

  -- ---- the first call comes after n reports or more
  abbrev From : ℕ → List (ℕ × M) → Type 0
  From n [] = Unit {0}
  From n (x ∷ xs) = n ≤ x.0

  from_less : (n : ℕ) (xs : List (ℕ × M)) → From (suc n) xs → From n xs
  from_less n [] h = tt
  from_less n (x ∷ xs) h = omega arith

  from : (n : ℕ) (ms : List M) → From n (calls_among report n ms)
  from n [] = tt
  from n (m ∷ ms) = go (report m) (from (suc n) ms)
    where
      go : (b : Bool) → From (suc n) (calls_among report (suc n) ms) → From n (calls_by b n m ms)
      go true h = from_less n (calls_among report (suc n) ms) h
      go false h = omega arith

  -- so none after n reports comes where one more is to come
  too_late : {A : Type 0} (n : ℕ) (ms : List M) (m : M) (xs : List (ℕ × M)) → calls_among report (suc n) ms ≡ (n, m) ∷ xs → A
  too_late n ms m xs e = let h : suc n ≤ n = rw e at (from (suc n) ms) in absurd (omega arith)

  -- ---- the order
  -- something follows, or nothing does
  nothing-more : {A : Type 0} (n : ℕ) (m : M) (ms : List M) → reports (m ∷ ms) ≡ 0 → calls_among report n (m ∷ ms) ≡ [] → A
  nothing-more {A} n m ms r c = go (report m) r c
    where
      go : (b : Bool) → cond b (suc (reports ms)) (reports ms) ≡ 0 → calls_by b n m ms ≡ [] → A
      go true r c = absurd (omega arith)
      go false r c = let z : ◌≡◌ {A = ℕ} 0 1 = cc in absurd (omega arith)

  -- where reports are all one move
  pub same-order : (move : M) → ((m : M) → report m ≡ true → m ≡ move) → (n : ℕ) (ms₁ ms₂ : List M) → reports ms₁ ≡ reports ms₂
      → calls_among report n ms₁ ≡ calls_among report n ms₂ → ms₁ ≡ ms₂
  same-order move is n [] [] r c = refl
  same-order move is n [] (m ∷ ms) r c = nothing-more n m ms (sym r) (sym c)
  same-order move is n (m ∷ ms) [] r c = nothing-more n m ms r c
  same-order move is n (m₁ ∷ ms₁) (m₂ ∷ ms₂) r c =
      go (report m₁) refl (report m₂) refl r c (λ k. same-order move is k ms₁ ms₂)
    where
      go : (b₁ : Bool) → report m₁ ≡ b₁ → (b₂ : Bool) → report m₂ ≡ b₂
          → cond b₁ (suc (reports ms₁)) (reports ms₁) ≡ cond b₂ (suc (reports ms₂)) (reports ms₂)
          → calls_by b₁ n m₁ ms₁ ≡ calls_by b₂ n m₂ ms₂
          → ((k : ℕ) → reports ms₁ ≡ reports ms₂ → calls_among report k ms₁ ≡ calls_among report k ms₂ → ms₁ ≡ ms₂)
          → m₁ ∷ ms₁ ≡ m₂ ∷ ms₂
      go true e true f r c more = rw (is m₁ e, is m₂ f, more (suc n) (omega arith) c)
      go true e false f r c more = too_late n ms₁ m₂ (calls_among report n ms₂) c
      go false e true f r c more = too_late n ms₂ m₁ (calls_among report n ms₁) (sym c)
      go false e false f r c more =
          let first : ◌≡◌ {A = ℕ × M} (n, m₁) (n, m₂) = cc in
          let after : calls_among report n ms₁ ≡ calls_among report n ms₂ = cc in
          rw (ap (λ (x : ℕ × M). x.1) first, more n r after)
