-- A read puts its bytes behind those that were read before.
use Rattle.std.proofs.Common.{◌≡◌, ℕ, ◌+◌, ◌≤◌, List, ◌++◌, arith, rules, length, take, sym, ap, subst, ◌∙◌}
use Rattle.std.proofs.Common.{le_refl, drop_at, length-take-le}
use Rattle.std.proofs.lemmas.Slice.{take-put_mid_below}
use Rattle.std.proofs.KnownBytes.{Consumes-trans}
use Rattle.std.specs.Io.KnownBytes.{Consumes}
use borrow.Rule.Slice.PartMut.{put_mid, post_of}
use lib.Seq.{take-add, take-append-le}
use Rattle.streams.proofs.input.fill.Goals as goal

put_behind : (a k n : ℕ) (xs ys : List ℕ) → a ≤ length xs → n ≤ length ys → take a xs ++ take n ys ≡ take (a + n) (put_mid a k xs ys)
put_behind a k n xs ys within fits =
    let all = put_mid a k xs ys in
    let after = post_of a k xs in
    let front = take-put_mid_below a k xs ys a (le_refl a) within in
    let back = ap (take n) (drop_at (take a xs) (ys ++ after) a (length-take-le a xs within)) ∙ take-append-le n ys after fits in
    ap (λ l. l ++ take n ys) (sym front) ∙ ap (λ l. take a all ++ l) (sym back) ∙ sym (take-add a n all)

pub loop-at-preserved : goal.loop-at-preserved
loop-at-preserved g c =
    let before = c.loop-at.invariant in
    let came = c.in_ok-n.ensures in
    let joined = put_behind c.loop-at.at _ c.in_ok-n.n c.loop-at.buf c.read.new.buf before.0 came.bound.0 in
    (omega (arith, came.bound.0), search rules, subst (Consumes _ _) joined (Consumes-trans _ _ _ _ _ before.2 came.bytes.0))
