use Rattle.std.proofs.Common.{◌≡◌, ℕ, ◌+◌, ◌-◌, ◌*◌, ◌/◌, ◌%◌, ◌<◌, List, [], ◌∷◌, ◌++◌, length, take, drop, refl, sym, ◌∙◌, ap, arith}
use Rattle.std.specs.Prelude.{Ok}
use Rattle.std.proofs.lemmas.List.{take-append-drop, length-drop}
use Rattle.base64_codec.specs.Decode.{verdict_of, bytes_of}
use Rattle.base64_codec.proofs.Lengths.{length_valid}
use Rattle.base64_codec.proofs.Halves.{verdict-joined, both_valid, size-first, size-last, size-both, sets-both}
use Rattle.base64_codec.proofs.Inner.{valid-letters}
use Rattle.base64_codec.proofs.decoder.fill.Goals as goal

-- the last group, and those before it
module _
    (t h g : List ℕ) (eh : h ≡ take (length t - 4) t) (eg : g ≡ drop (length t - 4) t) (n : length h + 4 ≡ length t) (k : ℕ)
    (v : verdict_of t ≡ Ok k) where
  joined-is : h ++ g ≡ t
  joined-is = rw (eh, eg) (take-append-drop (length t - 4) t)

  whole : length h % 4 ≡ 0
  whole = omega (arith, (length_valid t k v).0)

  four : length g ≡ 4
  four = ap length eg ∙ length-drop (length t - 4) t ∙ omega arith

  both : (verdict_of h ≡ Ok 0) × (verdict_of g ≡ Ok k)
  both = both_valid (verdict_of h) (verdict_of g) k (sym (verdict-joined h g whole four) ∙ rw joined-is v)

  count-first : length (bytes_of h) ≡ length h / 4 * 3
  count-first = size-first h g whole four k both.0 both.1

  count-last : length (bytes_of g) + k ≡ 3
  count-last = size-last h g whole four k both.0 both.1

  count : length (bytes_of t) ≡ (length h / 4 * 3 + 3) - k
  count = rw joined-is at (size-both h g whole four k both.0 both.1)

-- no text of fewer characters is valid but the empty one
few : (t : List ℕ) (k : ℕ) → length t < 4 → verdict_of t ≡ Ok k → bytes_of t ≡ []
unfolding bytes_of
few [] k h v = refl
few (a ∷ t) k h v = absurd (omega (arith, (length_valid (a ∷ t) k v).0))

pub full-requires-clause-letters : goal.full-requires-clause-letters
full-requires-clause-letters c =
    let q = c.in-Some.ensures.cases in
    let v = c.requires.text_value in
    (valid-letters _ (both c.args.text.now _ _ q.0 q.1 q.2 v.0 v.1).0, whole c.args.text.now _ _ q.0 q.1 q.2 v.0 v.1)

pub full-requires-clause-room : goal.full-requires-clause-room
full-requires-clause-room c =
    let q = c.in-Some.ensures.cases in
    let v = c.requires.text_value in
    let n = count-first c.args.text.now _ _ q.0 q.1 q.2 v.0 v.1 in
    let m = count-last c.args.text.now _ _ q.0 q.1 q.2 v.0 v.1 in
    omega (arith, n, m, count c.args.text.now _ _ q.0 q.1 q.2 v.0 v.1)

pub last-requires : goal.last-requires
last-requires c =
    let q = c.in-Some.ensures.cases in
    let v = c.requires.text_value in
    let m = count-last c.args.text.now _ _ q.0 q.1 q.2 v.0 v.1 in
    omega (arith, m, count c.args.text.now _ _ q.0 q.1 q.2 v.0 v.1)

pub returns-in-Some : goal.returns-in-Some
returns-in-Some c =
    let t = c.args.text.now in
    let q = c.in-Some.ensures.cases in
    let v = c.requires.text_value in
    let b = both t _ _ q.0 q.1 q.2 v.0 v.1 in
    let s = sets-both _ _ (whole t _ _ q.0 q.1 q.2 v.0 v.1) (four t _ _ q.0 q.1 q.2 v.0 v.1) v.0 b.0 b.1 c.args.out.now c.args.at in
    rw (c.last.ensures, c.full.ensures) (rw (joined-is t _ _ q.0 q.1 q.2 v.0 v.1) at s)

pub returns-in_default : goal.returns-in_default
returns-in_default c =
    let v = c.requires.text_value in
    rw (few c.args.text.now v.0 c.in_default.ensures.cases v.1)
