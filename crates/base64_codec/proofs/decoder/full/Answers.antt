use Rattle.std.proofs.Common.{◌≡◌, ℕ, ◌+◌, ◌*◌, ◌/◌, ◌<◌, true, List, [], ◌∷◌, ◌++◌, length, get_or, take, drop, refl, sym, ◌∙◌, ap, arith}
use lib.ListN.{length-append}
use Rattle.std.proofs.lemmas.List.Edits.{sets}
use Rattle.std.proofs.lemmas.List.{take_all}
use Rattle.std.specs.Simd.{first_chunks}
use Rattle.octets.specs.Members.{every}
use Rattle.octets.proofs.Stores.{sets-append}
use Rattle.base64_codec.specs.Letters.{is_letter}
use Rattle.base64_codec.specs.Decode.{bytes_of}
use Rattle.base64_codec.proofs.Chunks.{chunk-left}
use Rattle.base64_codec.proofs.Halves.{bytes_halves}
use Rattle.base64_codec.proofs.Inner.{every-parts, every-left, letters-length}
use Rattle.base64_codec.proofs.decoder.full.Goals as goal

abbrev first_four : List ℕ → List ℕ
first_four g = get_or g 0 0 ∷ get_or g 1 0 ∷ get_or g 2 0 ∷ get_or g 3 0 ∷ []

abbrev last_four : List ℕ → List ℕ
last_four g = get_or g 4 0 ∷ get_or g 5 0 ∷ get_or g 6 0 ∷ get_or g 7 0 ∷ []

eight-list : (g : List ℕ) → length g ≡ 8 → g ≡ first_four g ++ last_four g
eight-list [] h = absurd (omega arith)
eight-list (a ∷ []) h = absurd (omega arith)
eight-list (a ∷ b ∷ []) h = absurd (omega arith)
eight-list (a ∷ b ∷ c ∷ []) h = absurd (omega arith)
eight-list (a ∷ b ∷ c ∷ d ∷ []) h = absurd (omega arith)
eight-list (a ∷ b ∷ c ∷ d ∷ e ∷ []) h = absurd (omega arith)
eight-list (a ∷ b ∷ c ∷ d ∷ e ∷ f ∷ []) h = absurd (omega arith)
eight-list (a ∷ b ∷ c ∷ d ∷ e ∷ f ∷ g ∷ []) h = absurd (omega arith)
eight-list (a ∷ b ∷ c ∷ d ∷ e ∷ f ∷ g ∷ x ∷ []) h = refl
eight-list (a ∷ b ∷ c ∷ d ∷ e ∷ f ∷ g ∷ x ∷ y ∷ r) h = absurd (omega arith)

-- ---- a turn's two groups
module _ (t : List ℕ) (k : ℕ) (gs : List (List ℕ)) (e : gs ≡ first_chunks 8 (length t / 8) t) (h : k < length t / 8) where
  abbrev pair : List ℕ
  pair = get_or gs k []

  abbrev after : List ℕ
  after = drop ((k + 1) * 8) t

  pair-left : drop (k * 8) t ≡ first_four pair ++ (last_four pair ++ after)
  pair-left =
      let l = chunk-left 8 (length t / 8) k t h (omega arith) in
      let n : length pair ≡ 8 = rw e l.0 in
      let d : drop (k * 8) t ≡ pair ++ after = rw e l.1 in
      d ∙ ap (λ (g : List ℕ). g ++ after) (eight-list pair n)

  module _ (v : every is_letter t ≡ true) where
    letters-left : every is_letter (first_four pair ++ (last_four pair ++ after)) ≡ true
    letters-left = rw pair-left at (every-left t (k * 8) v)

    letters-first : every is_letter (first_four pair) ≡ true
    letters-first = (every-parts (first_four pair) (last_four pair ++ after) letters-left).0

    letters-last : every is_letter (last_four pair) ≡ true
    letters-last = (every-parts (last_four pair) after (every-parts (first_four pair) (last_four pair ++ after) letters-left).1).0

    three-first : length (bytes_of (first_four pair)) ≡ 3
    three-first = letters-length (first_four pair) refl letters-first

    three-last : length (bytes_of (last_four pair)) ≡ 3
    three-last = letters-length (last_four pair) refl letters-last

  bytes-left : bytes_of (drop (k * 8) t) ≡ bytes_of (first_four pair) ++ (bytes_of (last_four pair) ++ bytes_of after)
  bytes-left =
      rw (pair-left, bytes_halves (first_four pair) (last_four pair ++ after) refl, bytes_halves (last_four pair) after refl)

  -- six bytes, and those that are left after them
  turn-room : every is_letter t ≡ true → length (bytes_of (drop (k * 8) t)) ≡ 6 + length (bytes_of after)
  turn-room v =
      ap length bytes-left
      ∙ length-append (bytes_of (first_four pair)) (bytes_of (last_four pair) ++ bytes_of after)
      ∙ omega (arith, length-append (bytes_of (last_four pair)) (bytes_of after), three-first v, three-last v)

-- two strings of three stored one after the other, and another after them
stored-pair : (l : List ℕ) (o : ℕ) (p q r : List ℕ) → length p ≡ 3 → length q ≡ 3
    → sets (sets (sets l o p) (o + 3) q) (o + 6) r ≡ sets l o (p ++ (q ++ r))
stored-pair l o p q r h k =
    let e : o + 6 ≡ o + 3 + length q = omega arith in
    let f : o + 3 ≡ o + length p = omega arith in
    rw (e, sets-append q r (sets l o p) (o + 3), f) (sets-append p (q ++ r) l o)

-- ---- what is left after the last turn: one group or none
module _ (t : List ℕ) (k : ℕ) (s : List ℕ) (d : s ≡ drop (length t / 8 * 8) t) (e : k ≡ length t / 8) where
  rest-is : drop (k * 8) t ≡ s
  rest-is = rw e (sym d)

  bytes-none : length s < 1 → bytes_of (drop (k * 8) t) ≡ []
  unfolding bytes_of
  bytes-none h = rw rest-is (go s h)
    where
      go : (r : List ℕ) → length r < 1 → bytes_of r ≡ []
      go [] q = refl
      go (x ∷ r) q = absurd (omega arith)

  module _ (g : List ℕ) (q : g ≡ take 4 s) (h : length s ≡ 4) (v : every is_letter t ≡ true) where
    single-is : drop (k * 8) t ≡ g
    single-is = rest-is ∙ sym (take_all 4 s (omega arith)) ∙ sym q

    single-four : length g ≡ 4
    single-four = ap length (sym single-is ∙ rest-is) ∙ h

    single-letters : every is_letter g ≡ true
    single-letters = rw single-is at (every-left t (k * 8) v)

    single-room : length (bytes_of (drop (k * 8) t)) ≡ 3
    single-room = rw single-is (letters-length g single-four single-letters)

pub put-requires-clause-letters : goal.put-requires-clause-letters
put-requires-clause-letters c =
    letters-first c.args.text.now c.loop-a.a-index _ c.as_chunks.ensures.front (omega arith) c.requires.letters.0

pub put-requires-clause-room : goal.put-requires-clause-room
put-requires-clause-room c =
    let l = c.loop-a in
    let n = turn-room c.args.text.now l.a-index _ c.as_chunks.ensures.front (omega arith) c.requires.letters.0 in
    omega (arith, n)

pub put-requires-in-loop-a-clause-letters : goal.put-requires-in-loop-a-clause-letters
put-requires-in-loop-a-clause-letters c =
    letters-last c.args.text.now c.loop-a.a-index _ c.as_chunks.ensures.front (omega arith) c.requires.letters.0

pub put-requires-in-loop-a-clause-room : goal.put-requires-in-loop-a-clause-room
put-requires-in-loop-a-clause-room c =
    let l = c.loop-a in
    let n = turn-room c.args.text.now l.a-index _ c.as_chunks.ensures.front (omega arith) c.requires.letters.0 in
    omega (arith, n)

pub loop-a-preserved : goal.loop-a-preserved
loop-a-preserved c =
    let l = c.loop-a in
    let t = c.args.text.now in
    let f = c.as_chunks.ensures.front in
    let v = c.requires.letters.0 in
    let n = turn-room t l.a-index _ f (omega arith) v in
    let b = bytes-left t l.a-index _ f (omega arith) in
    let s = stored-pair l.out l.o _ _ _ (three-first t l.a-index _ f (omega arith) v) (three-last t l.a-index _ f (omega arith) v) in
    (omega (arith, n), rw (c.put-in-loop-a.ensures, c.put.ensures) (s ∙ rw b at l.invariant.1))

pub put-requires-in-Some-clause-letters : goal.put-requires-in-Some-clause-letters
put-requires-in-Some-clause-letters c =
    let q = c.in-Some.ensures.cases in
    single-letters c.args.text.now c.loop-a.a-index _ c.as_chunks.ensures.back (omega arith) _ q.0 (omega (arith, q.2)) c.requires.letters.0

pub put-requires-in-Some-clause-room : goal.put-requires-in-Some-clause-room
put-requires-in-Some-clause-room c =
    let q = c.in-Some.ensures.cases in
    let b = c.as_chunks.ensures.back in
    let n = single-room c.args.text.now c.loop-a.a-index _ b (omega arith) _ q.0 (omega (arith, q.2)) c.requires.letters.0 in
    omega (arith, n)

pub returns-in_default : goal.returns-in_default
returns-in_default c =
    let l = c.loop-a in
    let q = c.in_default.ensures.cases in
    let e = bytes-none c.args.text.now l.a-index _ c.as_chunks.ensures.back (omega arith) (omega (arith, q)) in
    rw e at l.invariant.1
