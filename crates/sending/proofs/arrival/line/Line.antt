-- A line of framed texts that is read in pieces: what a piece tells is the next text, or nothing.
use Prim.Native.Nat.{ℕ, ◌≤◌}
use mathlib.Core.Path.{◌≡◌, refl, sym, ap, ◌∙◌}
use mathlib.Core.List.{List, [], ◌∷◌, ◌++◌, append_assoc, append-nil, append_cancel_left, map-append, head-eq_of_cons-eq}
use native.Mathlib.Omega.{arith}
use lib.ListN.{length, take, drop, take-append-drop, length-take}
use lib.Seq.{take-take}
use Rattle.frames.specs.Stream.{Mode, Told, stream}
use Rattle.frames.proofs.Follows.{stream-append}
use Rattle.sending.proofs.arrival.path.Points.{frames, tells}
use Rattle.sending.proofs.arrival.path.Paths.{frames-append}

-- the bytes that were read, and those on their way, are the texts rs, which are told, and the texts us, which are not yet
pub record Line (old there : List ℕ) (rs us : List (List ℕ)) : Type 0 where
  pub bytes : old ++ there ≡ frames (rs ++ us)
  pub told : (stream Mode.outside old).0 ≡ tells rs
  pub whole : stream Mode.outside (frames (rs ++ us)) ≡ (tells (rs ++ us), Mode.outside)

abbrev pub mode_of : List ℕ → Mode
mode_of old = (stream Mode.outside old).1

-- what some bytes of a line tell: nothing, or the next text, or more than one thing
pub data Next (old there : List ℕ) (rs us : List (List ℕ)) : List Told → Type 0 where
  nothing : Line old there rs us → Next old there rs us []
  one : (u : List ℕ) (rest : List (List ℕ)) → us ≡ u ∷ rest → Line old there (rs ++ u ∷ []) rest
      → Next old there rs us (Told.command u ∷ [])
  more : (d d' : Told) (ds : List Told) → Next old there rs us (d ∷ d' ∷ ds)

-- some bytes c of those on their way are read
pub reads_on : (old c there : List ℕ) (rs us : List (List ℕ)) → Line old (c ++ there) rs us
    → Next (old ++ c) there rs us (stream (mode_of old) c).0
reads_on old c there rs us l = go (stream (mode_of old) c).0 us refl l left
  where
    later : List Told
    later = (stream (stream (mode_of old) c).1 there).0

    read : (stream Mode.outside (old ++ c)).0 ≡ tells rs ++ (stream (mode_of old) c).0
    read = rw (stream-append Mode.outside old c, l.told)

    left : (stream (mode_of old) c).0 ++ later ≡ tells us
    left =
        let whole : (stream Mode.outside (old ++ (c ++ there))).0 ≡ tells (rs ++ us) = rw (l.bytes, l.whole) in
        let cut : (stream Mode.outside (old ++ (c ++ there))).0 ≡ tells rs ++ ((stream (mode_of old) c).0 ++ later) =
        rw (stream-append Mode.outside old (c ++ there), stream-append (mode_of old) c there, l.told) in
        append_cancel_left (tells rs) _ _ (sym cut ∙ whole ∙ map-append Told.command rs us)

    go : (ds : List Told) (us : List (List ℕ)) → (stream (mode_of old) c).0 ≡ ds → Line old (c ++ there) rs us → ds ++ later ≡ tells us
        → Next (old ++ c) there rs us ds
    go [] us e l q =
        nothing (record { bytes = append_assoc old c there ∙ l.bytes; told = read ∙ rw (e, append-nil); whole = l.whole })
    go (d ∷ []) [] e l q = let z : ◌≡◌ {A = ℕ} 0 1 = cc in absurd (omega arith)
    go (d ∷ []) (u ∷ rest) e l q =
        let h : d ≡ Told.command u = head-eq_of_cons-eq q in
        let a : rs ++ u ∷ rest ≡ (rs ++ u ∷ []) ++ rest = sym (append_assoc rs (u ∷ []) rest) in
        rw h (one u rest refl
        (record {
          bytes = append_assoc old c there ∙ l.bytes ∙ ap frames a;
          told = read ∙ rw (e, h) (sym (map-append Told.command rs (u ∷ [])));
          whole = rw (← a) l.whole;
        }))
    go (d ∷ d' ∷ ds) us e l q = more d d' ds

-- ---- by what is told
pub next-nothing : {old there : List ℕ} {rs us : List (List ℕ)} {ds : List Told} → Next old there rs us ds → ds ≡ [] → Line old there rs us
next-nothing (nothing l) e = l
next-nothing (one u rest q l) e = let z : ◌≡◌ {A = ℕ} 0 1 = cc in absurd (omega arith)
next-nothing (more d d' ds) e = let z : ◌≡◌ {A = ℕ} 0 1 = cc in absurd (omega arith)

-- where a text is told, it is the next one
pub record NextText (old there : List ℕ) (rs us : List (List ℕ)) (t : List ℕ) : Type 0 where
  pub rest : List (List ℕ)
  pub first : us ≡ t ∷ rest
  pub line : Line old there (rs ++ t ∷ []) rest

pub next-text : {old there : List ℕ} {rs us : List (List ℕ)} {ds : List Told} (t : List ℕ) → Next old there rs us ds
    → ds ≡ Told.command t ∷ [] → NextText old there rs us t
next-text t (nothing l) e = let z : ◌≡◌ {A = ℕ} 0 1 = cc in absurd (omega arith)
next-text t (one u rest q l) e = let h : u ≡ t = cc in record { rest = rest; first = rw (← h) q; line = rw (← h) l }
next-text t (more d d' ds) e = let z : ◌≡◌ {A = ℕ} 0 1 = cc in absurd (omega arith)

-- no text is refused for its frame
pub next-long : {old there : List ℕ} {rs us : List (List ℕ)} {ds : List Told} → Next old there rs us ds → ds ≡ Told.too_long ∷ [] → ⊥
next-long (nothing l) e = let z : ◌≡◌ {A = ℕ} 0 1 = cc in omega arith
next-long (one u rest q l) e = let z : ◌≡◌ {A = ℕ} 0 1 = cc in omega arith
next-long (more d d' ds) e = let z : ◌≡◌ {A = ℕ} 0 1 = cc in omega arith

pub next-left : {old there : List ℕ} {rs us : List (List ℕ)} {ds : List Told} → Next old there rs us ds → ds ≡ Told.abandoned ∷ [] → ⊥
next-left (nothing l) e = let z : ◌≡◌ {A = ℕ} 0 1 = cc in omega arith
next-left (one u rest q l) e = let z : ◌≡◌ {A = ℕ} 0 1 = cc in omega arith
next-left (more d d' ds) e = let z : ◌≡◌ {A = ℕ} 0 1 = cc in omega arith

pub next-other : {old there : List ℕ} {rs us : List (List ℕ)} {ds : List Told} (t : List ℕ) → Next old there rs us ds
    → ds ≡ Told.drag_drop t ∷ [] → ⊥
next-other t (nothing l) e = let z : ◌≡◌ {A = ℕ} 0 1 = cc in omega arith
next-other t (one u rest q l) e = let z : ◌≡◌ {A = ℕ} 0 1 = cc in omega arith
next-other t (more d d' ds) e = let z : ◌≡◌ {A = ℕ} 0 1 = cc in omega arith

-- ---- the ends of a line
-- a line that is read to its end has told all
pub all_told : (old there : List ℕ) (rs us : List (List ℕ)) → Line old there rs us → there ≡ [] → us ≡ []
all_told old there rs [] l q = refl
all_told old there rs (u ∷ us) l q =
    let e : old ≡ frames (rs ++ u ∷ us) = sym (append-nil old) ∙ ap (λ (bs : List ℕ). old ++ bs) (sym q) ∙ l.bytes in
    let t : tells (rs ++ u ∷ us) ≡ tells rs = sym (rw (e, l.whole)) ∙ l.told in
    let n : tells (u ∷ us) ≡ [] =
    append_cancel_left (tells rs) (tells (u ∷ us)) [] (sym (map-append Told.command rs (u ∷ us)) ∙ t ∙ sym (append-nil (tells rs))) in
    let z : ◌≡◌ {A = ℕ} 0 1 = cc in
    absurd (omega arith)

-- a line goes on by texts that are framed at its end
pub line-more : (old there : List ℕ) (rs us vs : List (List ℕ)) → Line old there rs us
    → stream Mode.outside (frames (rs ++ (us ++ vs))) ≡ (tells (rs ++ (us ++ vs)), Mode.outside)
    → Line old (there ++ frames vs) rs (us ++ vs)
line-more old there rs us vs l w =
    let e : frames (rs ++ us) ++ frames vs ≡ frames (rs ++ (us ++ vs)) =
    sym (frames-append (rs ++ us) vs) ∙ ap frames (append_assoc rs us vs) in
    record {
      bytes = sym (append_assoc old there (frames vs)) ∙ ap (λ (bs : List ℕ). bs ++ frames vs) l.bytes ∙ e;
      told = l.told;
      whole = w;
    }

-- the bytes that a call takes of a piece of those on their way, and those that it leaves
pub taken-first : (k n : ℕ) (there : List ℕ) → k ≤ length (take n there) → take k (take n there) ++ drop k there ≡ there
taken-first k n there h = rw (take-take k n there (omega (arith, length-take n there))) (take-append-drop k there)
