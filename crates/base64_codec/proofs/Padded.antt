-- What a text lacks: whole groups lack nothing, and the text of some bytes without its padding lacks just that.
use Prim.Native.Nat.{ℕ, suc, ◌+◌, ◌-◌, ◌*◌, ◌/◌, ◌%◌, ◌<◌, ◌≤◌}
use mathlib.Core.Path.{◌≡◌, refl, sym, ◌∙◌, ap}
use mathlib.Core.Bool.{Bool, true, false, cond}
use mathlib.Core.List.{List, [], ◌∷◌, ◌++◌, append-nil, append_assoc}
use native.Mathlib.Omega.{arith}
use lib.ListN.{length, get_or, take, drop, take-append-drop, length-drop}
use lib.Seq.{get_or-drop}
use lib.Dec.{eqb}
use borrow.Author.Tests.{eq-eqb, ne_eqb}
use Rattle.octets.specs.Search.{index_of, index_after}
use Rattle.octets.specs.Bytes.{Bytes}
use Rattle.base64_codec.specs.Alphabet.{pad}
use Rattle.base64_codec.specs.Decode.{verdict_of}
use Rattle.base64_codec.specs.Encode.{text_of}
use Rattle.base64_codec.specs.Padding.{last_of, lacking, padded, unpadded}
use Rattle.base64_codec.specs.declared.Padding.{Padding}
use Rattle.base64_codec.specs.declared.Padding.TheVariants.{Required, Optional}
use Rattle.std.specs.Prelude.{Ok}
use Rattle.base64_codec.proofs.Letters.{Letter, not-pad}
use Rattle.base64_codec.proofs.Groups.{Groups, none, full, pad1, pad2, groups-length, valid-groups}
use Rattle.base64_codec.proofs.RoundTrip.{padding_of, valid-text}

-- ---- nothing is added
-- to whole groups, and to one character more
pub few-padded : (t : List ℕ) → length t % 4 < 2 → padded Optional t ≡ t
unfolding padded
few-padded t h = by (eqb (last_of t) pad)
  where
    by : (b : Bool) → cond b t (t ++ lacking (length t % 4)) ≡ t
    by true = refl
    by false = rw (ne_eqb (length t % 4) 2 (λ z. omega arith), ne_eqb (length t % 4) 3 (λ z. omega arith)) (append-nil t)

-- to a text that ends with `=`
pub ended-padded : (t : List ℕ) → last_of t ≡ pad → padded Optional t ≡ t
unfolding padded
ended-padded t h = rw (eq-eqb (last_of t) pad h)

-- to a valid text
pub valid-padded : (p : Padding) (t : List ℕ) (k : ℕ) → verdict_of t ≡ Ok k → padded p t ≡ t
unfolding padded
valid-padded Required t k e = refl
valid-padded Optional t k e =
    let n = groups-length (valid-groups t k e) in
    few-padded t (omega arith)

-- ---- to what is left over, as the code completes it
module _ (t u : List ℕ) (e : u ≡ drop (length t / 4 * 4) t) where
  over-is : length u ≡ length t % 4
  over-is = ap length e ∙ length-drop (length t / 4 * 4) t ∙ omega arith

  last-left : (j : ℕ) → j + 1 ≡ length u → last_of t ≡ get_or u j 0
  last-left j h =
      let n : length t / 4 * 4 + j ≡ length t - 1 = omega (arith, over-is) in
      ap (λ (k : ℕ). get_or t k 0) (sym n) ∙ sym (get_or-drop (length t / 4 * 4) t j 0) ∙ ap (λ (l : List ℕ). get_or l j 0) (sym e)

  -- nothing, where it is fewer than two or ends with `=`
  pub nothing-lacks : length u < 2 → padded Optional t ≡ t
  nothing-lacks h = few-padded t (omega (arith, over-is))

  pub ended-lacks : (j : ℕ) → j + 1 ≡ length u → get_or u j 0 ≡ pad → padded Optional t ≡ t
  ended-lacks j h q = ended-padded t (last-left j h ∙ q)

  -- else as many `=` as make it a group
  left-lacks : (j : ℕ) → j + 1 ≡ length u → (get_or u j 0 ≡ pad → ⊥)
      → padded Optional t ≡ take (length t / 4 * 4) t ++ (u ++ lacking (length u))
  unfolding padded
  left-lacks j h q =
      rw (ne_eqb (last_of t) pad (λ z. q (sym (last-left j h) ∙ z)), ← over-is)
      (ap (λ (l : List ℕ). l ++ lacking (length u)) (sym (take-append-drop (length t / 4 * 4) t))
      ∙ append_assoc (take (length t / 4 * 4) t) (drop (length t / 4 * 4) t) (lacking (length u))
      ∙ ap (λ (l : List ℕ). take (length t / 4 * 4) t ++ (l ++ lacking (length u))) (sym e))

-- a short last group, with `=` past its end
filled : (u : List ℕ) → 2 ≤ length u → length u < 4 → u ++ lacking (length u) ≡ get_or u 0 0 ∷ get_or u 1 0 ∷ get_or u 2 pad ∷ pad ∷ []
filled [] h k = absurd (omega arith)
filled (a ∷ []) h k = absurd (omega arith)
filled (a ∷ b ∷ []) h k = refl
filled (a ∷ b ∷ c ∷ []) h k = refl
filled (a ∷ b ∷ c ∷ d ∷ r) h k = absurd (omega arith)

pub lacking-padded : (t u : List ℕ) → u ≡ drop (length t / 4 * 4) t → 2 ≤ length u → (get_or u (length u - 1) 0 ≡ pad → ⊥)
    → padded Optional t ≡ take (length t / 4 * 4) t ++ (get_or u 0 0 ∷ get_or u 1 0 ∷ get_or u 2 pad ∷ pad ∷ [])
lacking-padded t u e h q =
    rw (filled u h (omega (arith, over-is t u e))) at (left-lacks t u e (length u - 1) (omega arith) q)

-- ---- to a text without its padding, just that
-- the search for a `=` passes letters
letter-unpadded : (c : ℕ) (r : List ℕ) → Letter c → unpadded (c ∷ r) ≡ c ∷ unpadded r
unfolding index_of index_after
letter-unpadded c r h = rw (not-pad c h)

pad-unpadded : (r : List ℕ) → unpadded (pad ∷ r) ≡ []
unfolding index_of index_after
pad-unpadded r = refl

-- four characters before a text change nothing of what it lacks, where the last of them is no `=`
group-padded : (a b c d : ℕ) (u : List ℕ) → Letter d → padded Optional (a ∷ b ∷ c ∷ d ∷ u) ≡ a ∷ b ∷ c ∷ d ∷ padded Optional u
unfolding padded
group-padded a b c d [] h = rw (not-pad d h)
group-padded a b c d (x ∷ v) h =
    let n : length (a ∷ b ∷ c ∷ d ∷ x ∷ v) % 4 ≡ length (x ∷ v) % 4 = omega arith in
    let i : length (a ∷ b ∷ c ∷ d ∷ x ∷ v) - 1 ≡ suc (suc (suc (suc (length v)))) = omega arith in
    let j : length (x ∷ v) - 1 ≡ length v = omega arith in
    rw (n, i, j) (by (eqb (get_or (x ∷ v) (length v) 0) pad))
  where
    by : (s : Bool) → let l = lacking (length (x ∷ v) % 4) in
        cond s (a ∷ b ∷ c ∷ d ∷ x ∷ v) ((a ∷ b ∷ c ∷ d ∷ x ∷ v) ++ l) ≡ a ∷ b ∷ c ∷ d ∷ cond s (x ∷ v) ((x ∷ v) ++ l)
    by true = refl
    by false = refl

groups-padded : {t : List ℕ} {k : ℕ} → Groups t k → padded Optional (unpadded t) ≡ t
groups-padded none = unfold padded index_of in refl
groups-padded (full {a} {b} {c} {d} {k} {r} ha hb hc hd g) =
    rw (
      letter-unpadded a (b ∷ c ∷ d ∷ r) ha,
      letter-unpadded b (c ∷ d ∷ r) hb,
      letter-unpadded c (d ∷ r) hc,
      letter-unpadded d r hd,
      group-padded a b c d (unpadded r) hd,
      groups-padded g,
    )
groups-padded (pad1 {a} {b} {c} ha hb hc z) =
    rw (letter-unpadded a _ ha, letter-unpadded b _ hb, letter-unpadded c _ hc, pad-unpadded [])
    (unfold padded in rw (not-pad c hc))
groups-padded (pad2 {a} {b} ha hb z) =
    rw (letter-unpadded a _ ha, letter-unpadded b _ hb, pad-unpadded (pad ∷ []))
    (unfold padded in rw (not-pad b hb))

pub text-padded : (x : List ℕ) → Bytes x → padded Optional (unpadded (text_of x)) ≡ text_of x
text-padded x h = groups-padded (valid-groups (text_of x) (padding_of x) (valid-text x h))
