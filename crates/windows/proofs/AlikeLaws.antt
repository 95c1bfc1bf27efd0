-- Verdicts depend on pairs and contents alone, not on places; so what is heard alike, places apart, is the same.
use Prim.Native.Nat.{ℕ}
use mathlib.Core.Path.{◌≡◌, refl, ap, sym, ◌∙◌}
use mathlib.Core.List.{List, [], ◌∷◌, map}
use lib.ListN.{length, replicate, length-map}
use Rattle.protocol.specs.Stretches.{Key}
use Rattle.recordings.specs.Pieces.{mended_of}
use Rattle.hearing.specs.Hearing.{Happening}
use Rattle.windows.specs.Compare.{same_key, Start, contents_of, starts_of, Verdict, partner, without, against, only_seconds, compared}
use Rattle.hearing.specs.Laws.{Hearer, nowhere, bare, MendedAlike}
use Rattle.windows.specs.Laws.{verdicts, SameAlone, MendedSame}
use Rattle.windows.proofs.KeyLaws.{by_test, key_refl}
use Rattle.windows.proofs.OffsetLaws.{diff_refl}

-- ---- against itself
pub same-alone : SameAlone compared
unfolding compared partner without only_seconds
same-alone [] = refl
same-alone (x ∷ xs) = rw (key_refl x.key, diff_refl x.contents, same-alone xs)

-- ---- places apart
abbrev pub bare_start : Start → Start
bare_start x = record { key = x.key; place = nowhere; contents = x.contents }

without-bare : (k : Key) (ys : List Start) → without k (map bare_start ys) ≡ map bare_start (without k ys)
unfolding without
without-bare k [] = refl
without-bare k (y ∷ ys) = by_test (same_key k y.key) (λ e. rw e) (λ e. rw (e, without-bare k ys))

against-bare : (x : Start) (ys : List Start)
    → against (bare_start x) (partner x.key (map bare_start ys)) ≡ against x (partner x.key ys)
unfolding partner
against-bare x [] = refl
against-bare x (y ∷ ys) = by_test (same_key x.key y.key) (λ e. rw e) (λ e. rw (e, against-bare x ys))

seconds-bare : (ys : List Start) → verdicts (only_seconds (map bare_start ys)) ≡ verdicts (only_seconds ys)
unfolding only_seconds
seconds-bare [] = refl
seconds-bare (y ∷ ys) = rw (seconds-bare ys)

pub verdicts-bare : (xs ys : List Start) → verdicts (compared (map bare_start xs) (map bare_start ys)) ≡ verdicts (compared xs ys)
unfolding compared
verdicts-bare [] ys = seconds-bare ys
verdicts-bare (x ∷ xs) ys =
    rw (against-bare x ys, without-bare x.key ys, verdicts-bare xs (without x.key ys))

-- ---- as heard
contents-bare : (k : Key) (hs : List Happening) → contents_of k (map bare hs) ≡ contents_of k hs
unfolding contents_of
contents-bare k [] = refl
contents-bare k (Happening.starts j p ∷ hs) = rw (contents-bare k hs)
contents-bare k (Happening.hands j b ∷ hs) = rw (contents-bare k hs)

starts-bare : (hs : List Happening) → starts_of (map bare hs) ≡ map bare_start (starts_of hs)
unfolding starts_of
starts-bare [] = refl
starts-bare (Happening.starts k p ∷ hs) = rw (contents-bare k hs, starts-bare hs)
starts-bare (Happening.hands k b ∷ hs) = starts-bare hs

pub alike_same : (hs hs' : List Happening) → map bare hs ≡ map bare hs'
    → verdicts (compared (starts_of hs) (starts_of hs')) ≡ replicate (length (starts_of hs)) Verdict.same
alike_same hs hs' e =
    let ss = map bare_start (starts_of hs) in
    let e' : map bare_start (starts_of hs') ≡ ss = sym (starts-bare hs') ∙ ap starts_of (sym e) ∙ starts-bare hs in
    sym (verdicts-bare (starts_of hs) (starts_of hs'))
    ∙ ap (λ (ys : List Start). verdicts (compared ss ys)) e'
    ∙ same-alone ss
    ∙ ap (λ (n : ℕ). replicate n Verdict.same) (length-map (starts_of hs) bare_start)

pub mended-same : (h : Hearer) → MendedAlike h → MendedSame compared h
mended-same h alike xs = alike_same (h xs) (h (mended_of xs)) (sym (alike xs))
