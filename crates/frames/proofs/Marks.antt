-- Texts and marks: what a byte more makes of a text that may be of a mark, and that a text with a byte may be of one mark alone.
use Prim.Native.Nat.{ℕ, suc, ◌<◌, ◌≤◌}
use mathlib.Core.Path.{◌≡◌, refl, sym, ◌∙◌}
use mathlib.Core.List.{List, [], ◌∷◌, ◌++◌}
use mathlib.Core.Bool.{Bool, true, false, cond, ◌&&◌, ◌||◌}
use native.Mathlib.Numerals.{add-one}
use native.Mathlib.Omega.{arith}
use lib.ListN.{length, get_or, take, length-append}
use lib.Seq.{take_all}
use lib.Dec.{ltb, eqb}
use borrow.Author.Tests.{ltb-true, ltb-false, eqb-true}
use Rattle.octets.specs.Slices.{starts_with}
use Rattle.octets.proofs.Compare.{starts-short}
use Rattle.frames.specs.Stream.{is_command, is_drag_drop, is_reported}
use Rattle.frames.specs.Framings.{mark_of, may_be}
use Rattle.frames.specs.declared.Mark.{Mark}
use Rattle.frames.specs.declared.Mark.TheVariants.{Transfer, DragDrop}
use Rattle.frames.proofs.Choices.{by_cond}

-- ---- a byte more of a text that may be of a mark
-- while it is shorter than the mark: the byte must be the mark's
starts-next : (t w : List ℕ) (b : ℕ) → length t < length w
    → starts_with (t ++ (b ∷ [])) (take (suc (length t)) w) ≡ (starts_with t (take (length t) w) && eqb b (get_or w (length t) 0))
unfolding starts_with
starts-next t [] b h = absurd (omega arith)
starts-next [] (y ∷ w) b h = by_cond (λ (u : Bool). u ≡ eqb b y) (eqb b y) (λ e. sym e) (λ e. sym e)
starts-next (x ∷ t) (y ∷ w) b h = by (eqb x y) (starts-next t w b (omega arith))
  where
    by : (u : Bool) → let longer = starts_with (t ++ (b ∷ [])) (take (suc (length t)) w) in
        let start = starts_with t (take (length t) w) in
        let next = eqb b (get_or w (length t) 0) in
        longer ≡ (start && next) → cond u longer false ≡ (cond u start false && next)
    by true ih = ih
    by false ih = refl

-- once it is as long: it starts with the mark as before
starts_more : (t w : List ℕ) (b : ℕ) → length w ≤ length t → starts_with (t ++ (b ∷ [])) w ≡ starts_with t w
unfolding starts_with
starts_more t [] b h = refl
starts_more [] (y ∷ w) b h = absurd (omega arith)
starts_more (x ∷ t) (y ∷ w) b h = rw (starts_more t w b (omega arith))

module _ (k : Mark) (t : List ℕ) (b : ℕ) where
  pub may-next : length t < length (mark_of k) → may_be k (t ++ (b ∷ [])) ≡ (may_be k t && eqb b (get_or (mark_of k) (length t) 0))
  unfolding may_be
  may-next h = rw (length-append, add-one) (starts-next t (mark_of k) b h)

  pub may-long : length (mark_of k) ≤ length t → may_be k t ≡ starts_with t (mark_of k)
  unfolding may_be
  may-long h = rw (take_all (length t) (mark_of k) h)

  pub may_more : length (mark_of k) ≤ length t → may_be k (t ++ (b ∷ [])) ≡ starts_with t (mark_of k)
  unfolding may_be
  may_more h =
      rw (take_all (length (t ++ (b ∷ []))) (mark_of k) (simp length-append (omega arith))) (starts_more t (mark_of k) b h)

  -- a text known not to be of a mark stays so
  pub may_not : may_be k t ≡ false → (starts_with t (mark_of k) ≡ false) × (may_be k (t ++ (b ∷ [])) ≡ false)
  may_not e = by (ltb (length t) (length (mark_of k))) refl
    where
      by : (u : Bool) → ltb (length t) (length (mark_of k)) ≡ u
          → (starts_with t (mark_of k) ≡ false) × (may_be k (t ++ (b ∷ [])) ≡ false)
      by true q = let h = ltb-true _ _ q in (starts-short t (mark_of k) h, may-next h ∙ rw e)
      by false q =
          let h = ltb-false _ _ q in
          let n : starts_with t (mark_of k) ≡ false = sym (may-long h) ∙ e in
          (n, may_more h ∙ n)

-- ---- one mark alone
-- two words that differ in their first byte: no text starts with both
starts_apart : (y z : ℕ) → eqb y z ≡ false → (t u v : List ℕ) → starts_with t (y ∷ u) ≡ true → starts_with t (z ∷ v) ≡ false
unfolding starts_with
starts_apart y z n [] u v e = refl
starts_apart y z n (x ∷ t) u v e = by (eqb x y) refl e
  where
    by : (q : Bool) → eqb x y ≡ q → cond q (starts_with t u) false ≡ true → cond (eqb x z) (starts_with t v) false ≡ false
    by true q p = rw (eqb-true x y q, n)
    by false q p = let i : ◌≡◌ {A = ℕ} 0 1 = cc in absurd (omega arith)

-- a command is no text of drag and drop
pub not_drag : (t : List ℕ) → is_command t ≡ true → is_drag_drop t ≡ false
not_drag t e = starts_apart 0x35 0x37 refl t _ _ e

abbrev pub other : Mark → Mark
other Transfer = DragDrop
other DragDrop = Transfer

-- a text that has a byte and may be of one mark may not be of the other
pub apart : (k : Mark) (x : ℕ) (t : List ℕ) → may_be k (x ∷ t) ≡ true → may_be (other k) (x ∷ t) ≡ false
unfolding may_be
apart Transfer x t e = starts_apart 0x35 0x37 refl (x ∷ t) _ _ e
apart DragDrop x t e = starts_apart 0x37 0x35 refl (x ∷ t) _ _ e

-- so it is reported where it has that mark
pub reported_as : (k : Mark) (x : ℕ) (t : List ℕ) → may_be k (x ∷ t) ≡ true → is_reported (x ∷ t) ≡ starts_with (x ∷ t) (mark_of k)
reported_as Transfer x t e = rw (may_not DragDrop (x ∷ t) 0 (apart Transfer x t e)).0 (by (is_command (x ∷ t)))
  where
    by : (u : Bool) → (u || false) ≡ u
    by true = refl
    by false = refl
reported_as DragDrop x t e = rw (may_not Transfer (x ∷ t) 0 (apart DragDrop x t e)).0

-- and a text that may be of neither is not reported
pub reported_not : (t : List ℕ) → may_be Transfer t ≡ false → may_be DragDrop t ≡ false → is_reported t ≡ false
reported_not t e f = rw ((may_not Transfer t 0 e).0, (may_not DragDrop t 0 f).0)
