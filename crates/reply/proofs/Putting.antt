-- Parts put one after another are their bytes stored at once.
use Prim.Native.Nat.{ℕ, ◌+◌, ◌≤◌, ◌<◌}
use mathlib.Core.Path.{◌≡◌, refl, ◌∙◌, ap}
use mathlib.Core.Bool.{Bool, true, false, cond}
use mathlib.Core.List.{List, [], ◌∷◌, ◌++◌}
use native.Mathlib.Omega.{arith}
use native.Mathlib.Nat.{add-zero}
use lib.ListN.{length, length-append}
use lib.Seq.{sets, length-sets}
use lib.Dec.{leb}
use borrow.Author.Tests.{le-leb, lt-leb}
use Rattle.octets.specs.Outcome.{Outcome, outcome}
use Rattle.octets.specs.Slices.{copy_at}
use Rattle.std.specs.Prelude.{Option, Some, None, unwrap_or}
use Rattle.octets.proofs.Stores.{sets-append}
use Rattle.reply.specs.Puts.{put, put_all}
use Rattle.reply.specs.Parts.{joined, written}

-- ---- one part
-- as `copy_at` stores it
pub put-copied : (part buf : List ℕ) (at : ℕ) (o : Outcome (Option ℕ)) → o ≡ copy_at part buf at
    → outcome (unwrap_or o.answer at) o.buffer ≡ put (outcome at buf) part
unfolding copy_at put
put-copied part buf at o e = ap placed e ∙ go (leb (at + length part) (length buf))
  where
    placed : Outcome (Option ℕ) → Outcome ℕ
    placed q = outcome (unwrap_or q.answer at) q.buffer

    go : (t : Bool) → placed (cond t (outcome (Some (at + length part)) (sets buf at part)) (outcome None buf))
        ≡ cond t (outcome (at + length part) (sets buf at part)) (outcome at buf)
    go true = refl
    go false = refl

-- a buffer keeps its length
put-length : (o : Outcome ℕ) (p : List ℕ) → length (put o p).buffer ≡ length o.buffer
unfolding put
put-length o p = go (leb (o.answer + length p) (length o.buffer))
  where
    go : (t : Bool)
        → length (cond t (outcome (o.answer + length p) (sets o.buffer o.answer p)) (outcome o.answer o.buffer)).buffer
        ≡ length o.buffer
    go true = length-sets o.buffer o.answer p
    go false = refl

-- ---- all of them
pub put-all-length : (ps : List (List ℕ)) (o : Outcome ℕ) → length (put_all o ps).buffer ≡ length o.buffer
put-all-length [] o = refl
put-all-length (p ∷ ps) o = put-all-length ps (put o p) ∙ put-length o p

put-all : (ps : List (List ℕ)) (l : List ℕ) (at : ℕ) → at + length (joined ps) ≤ length l
    → put_all (outcome at l) ps ≡ outcome (at + length (joined ps)) (sets l at (joined ps))
unfolding joined put
put-all [] l at h = rw add-zero
put-all (p ∷ ps) l at h =
    let e : length (p ++ joined ps) ≡ length p + length (joined ps) = length-append p (joined ps) in
    let f : leb (at + length p) (length l) ≡ true = le-leb (at + length p) (length l) (omega arith) in
    let k : length (sets l at p) ≡ length l = length-sets l at p in
    let n : at + length p + length (joined ps) ≡ at + length (p ++ joined ps) = omega arith in
    rw f (put-all ps (sets l at p) (at + length p) (omega arith)
    ∙ (λ i. outcome (n i) (sets-append p (joined ps) l at i)))

-- so parts put from the start on are their bytes stored there, where these fit
pub put-all-fits : (ps : List (List ℕ)) (l : List ℕ) → length (joined ps) ≤ length l → put_all (outcome 0 l) ps ≡ written (joined ps) l
put-all-fits ps l h =
    let k : 0 + length (joined ps) ≤ length l = omega arith in
    let n : 0 + length (joined ps) ≡ length (joined ps) = omega arith in
    put-all ps l 0 k ∙ rw (le-leb _ _ k) (ap (λ (m : ℕ). outcome m (sets l 0 (joined ps))) n)

-- ---- where nothing is stored: the bytes do not fit, or there are none
pub written-short : (bs l : List ℕ) → length l < length bs → outcome 0 l ≡ written bs l
written-short bs l h = let k : length l < 0 + length bs = omega arith in rw (lt-leb _ _ k)

pub written_none : (l : List ℕ) → outcome 0 l ≡ written [] l
written_none l = let k : 0 + 0 ≤ length l = omega arith in rw (le-leb _ _ k)
