-- A writer's parts put in one by one.
use Prim.Native.Nat.{ℕ, zero, suc, ◌+◌, ◌-◌, ◌<◌, ◌≤◌}
use mathlib.Core.Path.{◌≡◌, refl, sym}
use mathlib.Core.Bool.{true, false}
use mathlib.Core.List.{List, [], ◌∷◌}
use native.Mathlib.Omega.{arith}
use native.Mathlib.Numerals.{add-one}
use denote.Ref.{Bor}
use lib.ListN.{length, length-append, take, drop, get_or, drop_of_length-le}
use lib.Seq.{drop-cons}
use lib.Dec.{leb}
use borrow.Author.Tests.{lt-leb, le-leb}
use Rattle.octets.specs.Outcome.{Outcome}
use Rattle.reply.specs.Parts.{joined}
use Rattle.reply.specs.Puts.{put, put_all, stored, stored_all, texts}
use Rattle.reply.specs.declared.writer.Writer.{Writer}

put-all-next : (parts : List (Bor (List ℕ))) (o : Outcome ℕ) (i : ℕ) (d : Bor (List ℕ)) → i < length parts
    → put_all o (texts (take (suc i) parts)) ≡ put (put_all o (texts (take i parts))) (get_or parts i d).now
put-all-next [] o i d h = absurd (omega arith)
put-all-next (p ∷ ps) o zero d h = refl
put-all-next (p ∷ ps) o (suc i) d h = put-all-next ps (put o p.now) i d (omega arith)

pub stored_next : (w x y : Writer) (parts : List (Bor (List ℕ))) (i : ℕ) (d : Bor (List ℕ)) → i < length parts
    → x ≡ stored_all w (texts (take i parts)) → y ≡ stored x (get_or parts i d).now → y ≡ stored_all w (texts (take (i + 1) parts))
stored_next w x y parts i d h before last = rw (last, before, add-one, put-all-next parts _ i d h)

-- ---- whether parts have room: what was taken of it is what those before a place have
rest-joined : (parts : List (Bor (List ℕ))) (i : ℕ) (d : Bor (List ℕ)) → i < length parts
    → length (joined (texts (drop i parts))) ≡ length (get_or parts i d).now + length (joined (texts (drop (i + 1) parts)))
unfolding joined
rest-joined parts i d h = rw (drop-cons parts i d h, add-one) (length-append _ _)

module _ (parts : List (Bor (List ℕ))) (i left room : ℕ)
    (so_far : left + length (joined (texts parts)) ≡ room + length (joined (texts (drop i parts)))) where
  pub none-fits : (d : Bor (List ℕ)) → i < length parts → left < length (get_or parts i d).now
      → false ≡ leb (length (joined (texts parts))) room
  none-fits d h more = sym (lt-leb _ _ (omega (arith, rest-joined parts i d h)))

  pub next-fits : (d : Bor (List ℕ)) → i < length parts → length (get_or parts i d).now ≤ left
      → (left - length (get_or parts i d).now) + length (joined (texts parts)) ≡ room + length (joined (texts (drop (i + 1) parts)))
  next-fits d h less = omega (arith, rest-joined parts i d h)

  pub all-fit : length parts ≤ i → true ≡ leb (length (joined (texts parts))) room
  unfolding joined
  all-fit h =
      let none = rw (drop_of_length-le parts h) at so_far in
      sym (le-leb _ _ (omega arith))
