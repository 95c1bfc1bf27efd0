-- EVERY RECORDING IS REPLAYED WHOLE by some turns. So a hearer of which `ReplayHears` holds hears in every recording what ours does,
-- places apart: that law leaves no other.
use Prim.Native.Nat.{ℕ, zero, suc, ◌<◌, ◌≤◌}
use mathlib.Core.Path.{◌≡◌, sym, ap, ◌∙◌}
use mathlib.Core.List.{List, [], ◌∷◌, ◌++◌, append-nil, append_assoc, map}
use native.Mathlib.Omega.{arith}
use lib.ListN.{length, take, drop, replicate, length-drop, take-append-drop}
use lib.Dec.{lit≤}
use borrow.Author.Tests.{le-ltb}
use Rattle.std.specs.Prelude.{None}
use Rattle.frames.specs.Stream.{text_limit}
use Rattle.frames.proofs.Choices.{by_cond}
use Rattle.frames.proofs.CallLaws.{scan-room, consumes}
use Rattle.protocol.specs.Replies.{reply_room}
use Rattle.protocol.specs.Calls.{is_owed, Feeding, scanned_feed, is_short, feed_of}
use Rattle.protocol.specs.History.{bytes_of}
use Rattle.protocol.specs.Machine.{World, is_unfed, start}
use Rattle.protocol.specs.declared.Receiver.{Receiver}
use Rattle.protocol.proofs.CutsRun.{zeros}
use Rattle.protocol.specs.Replay.{Turn, turned, replayed, Answerable}
use Rattle.hearing.specs.Hearing.{heard_in}
use Rattle.hearing.specs.Laws.{Hearer, bare, ReplayHears}
use Rattle.hearing.proofs.Replaying.{Good, start-good, turn-good, turn-carry, turn-bytes, replay-hears}

-- ---- the carry keeps its room
abbrev Long : List ℕ → Type 0
Long c = text_limit ≤ length c

feed-long : (r : Receiver) (piece carry scratch reply : List ℕ) → Long carry → Long (feed_of r piece carry scratch reply).carry
unfolding feed_of scanned_feed
feed-long r piece carry scratch reply h =
    by_cond P (is_short carry scratch reply) (λ _. h)
    (λ _. by_cond P (is_owed r.table.owed) (λ _. h) (λ _. scan-room r.framing piece carry h))
  where
    P : Feeding → Type 0
    P f = Long f.carry

-- ---- a feed with room consumes something
reply_zeros : List ℕ
reply_zeros = replicate reply_room 0

feed-on : (r : Receiver) → r.table.owed ≡ None → (piece carry : List ℕ) → Long carry → 0 < length piece
    → 0 < (feed_of r piece carry zeros reply_zeros).fed.consumed
unfolding feed_of scanned_feed reply_zeros
feed-on r e piece carry h l =
    rw (le-ltb (length carry) text_limit h, e) ((consumes r.framing piece carry h).2 l)

-- ---- a whole recording
-- turns whose feeds consume it, from a world
record Consumed (w : World) (xs : List ℕ) : Type 0 where
  turns : List Turn
  answerable : Answerable turns
  bytes : bytes_of (replayed w turns).history ≡ bytes_of w.history ++ xs

-- a turn that feeds all that is left
turn_of : List ℕ → Turn
turn_of xs = record { piece = xs; scratch = zeros; reply = reply_zeros; answer_reply = reply_zeros }

nothing-consumed : (w : World) → Consumed w []
nothing-consumed w = record { turns = []; answerable = tt; bytes = sym (append-nil (bytes_of w.history)) }

-- those of at most n bytes
abbrev Short : ℕ → Type 0
Short n = (xs : List ℕ) → length xs ≤ n → (w : World) → Good w → Long w.carry → Consumed w xs

one_more : (n : ℕ) → Short n → Short (suc n)
unfolding turn_of reply_zeros
one_more n shorter [] l w ok h = nothing-consumed w
one_more n shorter (b ∷ xs) l w ok h =
    let x = turn_of (b ∷ xs) in
    let f = feed_of w.receiver (b ∷ xs) w.carry zeros reply_zeros in
    let k = f.fed.consumed in
    let some : 0 < k = feed-on w.receiver ok.rests.owed (b ∷ xs) w.carry h (omega arith) in
    let long = by_cond Long (is_unfed f.fed.told) (λ _. h) (λ _. feed-long w.receiver (b ∷ xs) w.carry zeros reply_zeros h) in
    let rest = shorter (drop k (b ∷ xs)) (omega (arith, length-drop k (b ∷ xs))) (turned w x) (turn-good w ok x (lit≤ tt))
    (rw (turn-carry w ok x (lit≤ tt)) long) in
    record {
      turns = x ∷ rest.turns;
      answerable = (lit≤ tt, rest.answerable);
      bytes =
          rest.bytes
          ∙ rw (turn-bytes w ok x (lit≤ tt), append_assoc (bytes_of w.history) (take k (b ∷ xs)) (drop k (b ∷ xs)))
          (ap (λ (y : List ℕ). bytes_of w.history ++ y) (take-append-drop k (b ∷ xs)));
    }

consume : (n : ℕ) → Short n
consume zero [] l w ok h = nothing-consumed w
consume zero (b ∷ xs) l w ok h = absurd (omega arith)
consume (suc n) xs l w ok h = one_more n (consume n) xs l w ok h

pub hears-alike : (h : Hearer) → ReplayHears h → (xs : List ℕ) → map bare (h xs) ≡ map bare (heard_in xs)
hears-alike h law xs =
    let carry : List ℕ = replicate text_limit 0 in
    let c = consume (length xs) xs (omega arith) (start carry) (start-good carry) (lit≤ tt) in
    let history = (replayed (start carry) c.turns).history in
    let e : bytes_of history ≡ xs = c.bytes in
    rw e at (sym (law carry c.turns c.answerable) ∙ replay-hears carry c.turns c.answerable)
