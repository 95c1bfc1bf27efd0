-- A pair's starts are matched in order; and so the lists the other way round.
use Prim.Native.Nat.{ℕ}
use mathlib.Core.Path.{◌≡◌, refl, ap, sym, ◌∙◌}
use mathlib.Core.Bool.{false}
use mathlib.Core.List.{List, [], ◌∷◌, map}
use Rattle.protocol.specs.Stretches.{Key}
use Rattle.windows.specs.Compare.{same_key, Start, Verdict, partner, without, against, only_seconds, compared}
use Rattle.windows.specs.Laws.{verdicts, of_key, lines_for, contents_for, zipped, mirror, MatchedInOrder, Mirrored}
use Rattle.windows.proofs.KeyLaws.{by_test, key-sound, key-other}
use Rattle.windows.proofs.OffsetLaws.{diff-mirror}

-- ---- one start taken away
-- of another pair
pub without_other : (j k : Key) (ys : List Start) → same_key j k ≡ false → of_key j (without k ys) ≡ of_key j ys
unfolding of_key without
without_other j k [] d = refl
without_other j k (y ∷ ys) d =
    by_test (same_key k y.key) (λ e. rw (e, key-other j k y.key d e)) (λ e. rw (e, without_other j k ys d))

-- of its own: the first of them, which is its partner
matched-first : (k : Key) (x : Start) (cs : List (List ℕ)) (ys : List Start)
    → against x (partner k ys) ∷ zipped cs (contents_for k (without k ys)) ≡ zipped (x.contents ∷ cs) (contents_for k ys)
unfolding partner without zipped of_key
matched-first k x cs [] = refl
matched-first k x cs (y ∷ ys) = by_test (same_key k y.key) (λ e. rw e) (λ e. rw (e, e) (matched-first k x cs ys))

-- ---- all of them
seconds-left : (k : Key) (ys : List Start) → verdicts (lines_for k (only_seconds ys)) ≡ zipped [] (contents_for k ys)
unfolding lines_for only_seconds zipped of_key
seconds-left k [] = refl
seconds-left k (y ∷ ys) = by_test (same_key k y.key) (λ e. rw (e, seconds-left k ys)) (λ e. rw (e, seconds-left k ys))

pub matched_in-order : MatchedInOrder compared
unfolding compared lines_for of_key
matched_in-order k [] ys = seconds-left k ys
matched_in-order k (x ∷ xs) ys =
    by_test (same_key k x.key)
    (λ e.
    rw (e, matched_in-order k xs (without x.key ys))
    (ap taking (sym (key-sound k x.key e)) ∙ matched-first k x (contents_for k xs) ys))
    (λ e. rw (e, matched_in-order k xs (without x.key ys), without_other k x.key ys e))
  where
    taking : Key → List Verdict
    taking j = against x (partner j ys) ∷ zipped (contents_for k xs) (contents_for k (without j ys))

-- ---- the other way round
zipped-mirror : (cs ds : List (List ℕ)) → zipped ds cs ≡ map mirror (zipped cs ds)
unfolding zipped
zipped-mirror [] [] = refl
zipped-mirror [] (b ∷ ds) = rw (zipped-mirror [] ds)
zipped-mirror (a ∷ cs) [] = rw (zipped-mirror cs [])
zipped-mirror (a ∷ cs) (b ∷ ds) = rw (diff-mirror a b, zipped-mirror cs ds)

pub mirrored : Mirrored compared
mirrored k xs ys =
    rw (matched_in-order k ys xs, matched_in-order k xs ys) (zipped-mirror (contents_for k xs) (contents_for k ys))
