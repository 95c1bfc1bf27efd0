-- What the texts that are found say of the pieces.
use Prim.Native.Nat.{ℕ, ◌+◌, ◌-◌, ◌≤◌, ◌<◌}
use mathlib.Core.Path.{◌≡◌, refl, ap, sym, ◌∙◌}
use mathlib.Core.Bool.{Bool, true, false, cond}
use mathlib.Core.List.{List}
use native.Mathlib.Omega.{arith}
use lib.ListN.{length, get_or, take, drop, length-take, length-drop, length-append}
use lib.Seq.{drop-drop, take-add, drop_at, take-take, length-take-le}
use lib.Dec.{leb, eqb}
use borrow.Author.Tests.{leb-true}
use Rattle.octets.proofs.Compare.{starts-sound}
use Rattle.frames.specs.Stream.{mark, is_command}
use Rattle.frames.proofs.Choices.{by_cond}
use Rattle.recordings.specs.Laws.{text_in}
use Rattle.recordings.specs.Walk.{next_escape, Seen, closed_of, abandoned_of, text_at, escape_at}
use Rattle.recordings.specs.Texts.{closed_text, abandoned_text, text_from, escape_text, next_text, text_between, sight_of}
use Rattle.recordings.specs.declared.texts.TextSight.{TextSight}
use Rattle.recordings.proofs.SightLaws.{between, Sees, next-sees}

-- ---- read, they are what `mend` sees
-- a choice made before or after
choice : {A B : Type 0} (f : A → B) (u : Bool) (x y : A) → f (cond u x y) ≡ cond u (f x) (f y)
choice f true x y = refl
choice f false x y = refl

command-long : (t : List ℕ) → is_command t ≡ true → 5 ≤ length t
command-long t e = let q = ap length (starts-sound t mark e) in omega (arith, q, length-append mark (drop 5 t))

module _ (xs : List ℕ) where
  closed-read : (start end : ℕ) → let t = take (end - (start + 2)) (drop (start + 2) xs) in
      sight_of xs (closed_text t start (end + 2)) ≡ closed_of t start (end + 2)
  unfolding closed_text closed_of
  closed-read start end =
      let t = take (end - (start + 2)) (drop (start + 2) xs) in
      let n : end + 2 - 2 - (start + 2) ≡ end - (start + 2) = omega arith in
      choice (sight_of xs) (is_command t) (TextSight.Text start (end + 2)) (TextSight.Outside (end + 2)) ∙ rw n

  abandoned-read : (t : List ℕ) (start end : ℕ) → sight_of xs (abandoned_text t start end) ≡ abandoned_of t start end
  unfolding abandoned_text abandoned_of
  abandoned-read t start end = choice (sight_of xs) (is_command t) (TextSight.Abandoned start end) (TextSight.Outside end)

  text-read : (start end : ℕ) → sight_of xs (text_from xs start end) ≡ text_at xs start end
  unfolding text_from text_at
  text-read start end =
      let t = take (end - (start + 2)) (drop (start + 2) xs) in
      let b = eqb (get_or xs (end + 1) 0) 0x5C in
      choice (sight_of xs) (leb (end + 2) (length xs)) (cond b (closed_text t start (end + 2)) (abandoned_text t start end)) _
      ∙ ap (λ (s : Seen). cond (leb (end + 2) (length xs)) s (Seen.outside (length xs)))
      (choice (sight_of xs) b (closed_text t start (end + 2)) (abandoned_text t start end)
      ∙ rw (closed-read start end, abandoned-read t start end))

  escape-read : (i : ℕ) → sight_of xs (escape_text xs i) ≡ escape_at xs i
  unfolding escape_text escape_at
  escape-read i =
      let b = eqb (get_or xs (i + 1) 0) 0x5D in
      let s = text_from xs i (next_escape xs (i + 2)) in
      choice (sight_of xs) (leb (i + 2) (length xs)) (cond b s (TextSight.Outside (i + 1))) _
      ∙ ap (λ (s : Seen). cond (leb (i + 2) (length xs)) s (Seen.outside (length xs)))
      (choice (sight_of xs) b s (TextSight.Outside (i + 1)) ∙ rw (text-read i (next_escape xs (i + 2))))

  -- as `mend` sees them
  pub next-read : (at : ℕ) → sight_of xs (next_text xs at) ≡ escape_at xs (next_escape xs at)
  next-read at = escape-read (next_escape xs at)

  pub text-sees : (at : ℕ) → at < length xs → Sees xs at (sight_of xs (next_text xs at))
  text-sees at h = rw (escape-read (next_escape xs at)) (next-sees xs at h)

  -- ---- a frame has nine bytes at least: its opener, its closer, and the mark of a command
  abbrev pub Whole : TextSight → Type 0
  Whole (TextSight.Outside to) = Unit {0}
  Whole (TextSight.Text start end) = (start + 9 ≤ end) × (end ≤ length xs)
  Whole (TextSight.Abandoned start end) = Unit {0}

  text-whole : (start end : ℕ) → start + 2 ≤ end → Whole (text_from xs start end)
  unfolding text_from closed_text abandoned_text
  text-whole start end h =
      let t = take (end - (start + 2)) (drop (start + 2) xs) in
      by_cond Whole (leb (end + 2) (length xs))
      (λ l. by_cond Whole (eqb (get_or xs (end + 1) 0) 0x5C)
      (λ _. by_cond Whole (is_command t)
      (λ c. (omega (arith, command-long t c, length-take (end - (start + 2)) (drop (start + 2) xs)), leb-true (end + 2) (length xs) l))
      (λ _. tt))
      (λ _. by_cond Whole (is_command t) (λ _. tt) (λ _. tt)))
      (λ _. tt)

  pub next-whole : (at : ℕ) → Whole (next_text xs at)
  unfolding escape_text
  next-whole at =
      let i = next_escape xs at in
      by_cond Whole (leb (i + 2) (length xs))
      (λ _. by_cond Whole (eqb (get_or xs (i + 1) 0) 0x5D) (λ _. text-whole i (next_escape xs (i + 2)) (omega arith)) (λ _. tt))
      (λ _. tt)

  pub frame-whole : {s : TextSight} {start end : ℕ} (at : ℕ) → s ≡ next_text xs at → s ≡ TextSight.Text start end
      → (start + 9 ≤ end) × (end ≤ length xs)
  frame-whole at e k = rw (sym e ∙ k) at (next-whole at)

  -- the text of the frame that lies there
  pub text-between : (start end : ℕ) → start + 4 ≤ end → end ≤ length xs → text_in (between xs start end) ≡ text_between xs start end
  text-between start end h k =
      let d = drop start xs in
      let m = end - (start + 2) in
      let size : length (between xs start end) ≡ end - start = length-take-le (end - start) d (omega (arith, length-drop start xs)) in
      let n : end - start - 4 ≡ end - 2 - (start + 2) = omega arith in
      let more : end - start ≡ 2 + m = omega arith in
      let two : length (take 2 d) ≡ 2 = length-take-le 2 d (omega (arith, length-drop start xs)) in
      rw (size, n, more, take-add 2 m d, drop_at (take 2 d) (take m (drop 2 d)) 2 two, drop-drop 2 start xs)
      (take-take (end - 2 - (start + 2)) m (drop (start + 2) xs) (omega arith))
