-- The turns of a piece are a replay of its bytes.
-- going_on the loop over a piece, after a turn
use Prim.Native.Nat.{ℕ, ◌+◌, ◌≤◌}
use mathlib.Core.Path.{◌≡◌, refl, sym, ◌∙◌, ap, subst}
use mathlib.Core.Bool.{Bool, true, false, cond}
use mathlib.Core.List.{List, [], ◌∷◌, ◌++◌, append-nil, append_assoc}
use native.Mathlib.Omega.{arith}
use lib.ListN.{length, take, drop, length-drop}
use lib.Seq.{sets, length-sets, take-add}
use lib.Dec.{leb}
use Rattle.std.specs.Prelude.{Option}
use Rattle.octets.specs.Outcome.{outcome}
use Rattle.frames.specs.Calls.{scan_of}
use Rattle.protocol.specs.Replies.{reply_room, reply_bytes, replied_of}
use Rattle.protocol.specs.Calls.{Feeding, feed_of, feeding, feed_refused, scanned_feed, is_short, is_owed}
use Rattle.protocol.specs.History.{bytes_of}
use Rattle.protocol.specs.Machine.{ours, Call, World, is_unfed, after_feed, start}
use Rattle.protocol.specs.Cuts.{after}
use Rattle.protocol.specs.Promises.{FeedPromise}
use Rattle.protocol.specs.Supplies.{Supply}
use Rattle.protocol.specs.declared.Receiver.{Receiver}
use Rattle.protocol.specs.declared.Reply.{Reply}
use Rattle.protocol.specs.declared.Failure.TheVariants as Failure
use Rattle.protocol.specs.declared.Told.{Told}
use Rattle.protocol.proofs.CutsCalls.{Kept, start-kept, steps}
use Rattle.protocol.proofs.Promises.{every_call}
use Rattle.streams.specs.Streams.{is_well}
use Rattle.protocol.specs.Replay.{answers_to, replayed_of, fed_id, Turn, turned, replayed, Answerable}
use Rattle.replay.specs.Plans.{LeftByTurn}
use Rattle.replay.specs.Pieces.{OnAfter, ReplayOf}
use Rattle.replay.specs.declared.console.Onward.{Onward}

-- ---- what the answer leaves
module _ (w : World) (id reply : List ℕ) where
  answer-receiver : (told : Told) → (after ours w (answers_to told id reply)).receiver ≡ replayed_of w.receiver told id reply
  answer-receiver Told.Nothing = refl
  answer-receiver (Told.Refused n) = refl
  answer-receiver Told.Ignored = refl
  answer-receiver Told.DragDrop = refl
  answer-receiver Told.Asked = refl
  answer-receiver Told.Naming = refl
  answer-receiver Told.Path = refl
  answer-receiver Told.LastPath = refl
  answer-receiver (Told.Ask a) = refl
  answer-receiver (Told.Status s) = refl
  answer-receiver Told.Withdrawn = refl
  answer-receiver Told.Discarded = refl
  answer-receiver Told.Committed = refl

  answer-carry : (told : Told) → (after ours w (answers_to told id reply)).carry ≡ w.carry
  answer-carry Told.Nothing = refl
  answer-carry (Told.Refused n) = refl
  answer-carry Told.Ignored = refl
  answer-carry Told.DragDrop = refl
  answer-carry Told.Asked = refl
  answer-carry Told.Naming = refl
  answer-carry Told.Path = refl
  answer-carry Told.LastPath = refl
  answer-carry (Told.Ask a) = refl
  answer-carry (Told.Status s) = refl
  answer-carry Told.Withdrawn = refl
  answer-carry Told.Discarded = refl
  answer-carry Told.Committed = refl

  module _ (ok : Kept w) where
    allow-bytes : bytes_of (after ours w (Call.allow id reply ∷ [])).history ≡ bytes_of w.history
    allow-bytes = (steps w ok (Call.allow id reply) tt).bytes ∙ append-nil (bytes_of w.history)

    done-bytes : bytes_of (after ours w (Call.done reply ∷ [])).history ≡ bytes_of w.history
    done-bytes = (steps w ok (Call.done reply) tt).bytes ∙ append-nil (bytes_of w.history)

    answer-bytes : (told : Told) → bytes_of (after ours w (answers_to told id reply)).history ≡ bytes_of w.history
    answer-bytes Told.Nothing = refl
    answer-bytes (Told.Refused n) = refl
    answer-bytes Told.Ignored = refl
    answer-bytes Told.DragDrop = refl
    answer-bytes Told.Asked = allow-bytes
    answer-bytes Told.Naming = refl
    answer-bytes Told.Path = refl
    answer-bytes Told.LastPath = allow-bytes
    answer-bytes (Told.Ask a) = done-bytes
    answer-bytes (Told.Status s) = refl
    answer-bytes Told.Withdrawn = refl
    answer-bytes Told.Discarded = refl
    answer-bytes Told.Committed = refl

    answer-kept : (told : Told) → Kept (after ours w (answers_to told id reply))
    answer-kept Told.Nothing = ok
    answer-kept (Told.Refused n) = ok
    answer-kept Told.Ignored = ok
    answer-kept Told.DragDrop = ok
    answer-kept Told.Asked = (steps w ok (Call.allow id reply) tt).kept
    answer-kept Told.Naming = ok
    answer-kept Told.Path = ok
    answer-kept Told.LastPath = (steps w ok (Call.allow id reply) tt).kept
    answer-kept (Told.Ask a) = (steps w ok (Call.done reply) tt).kept
    answer-kept (Told.Status s) = ok
    answer-kept Told.Withdrawn = ok
    answer-kept Told.Discarded = ok
    answer-kept Told.Committed = ok

-- ---- a turn
abbrev fed_by : World → Turn → Feeding
fed_by w x = feed_of w.receiver x.piece w.carry x.scratch x.reply

abbrev fed_to : World → Turn → World
fed_to w x = after_feed w x.piece (fed_by w x)

fed-kept : (w : World) (x : Turn) → Kept w → Kept (fed_to w x)
fed-kept w x ok = (steps w ok (Call.feed x.piece w.carry x.scratch x.reply) (λ _. refl)).kept

turned-kept : (w : World) (x : Turn) → Kept w → Kept (turned w x)
turned-kept w x ok = answer-kept (fed_to w x) (fed_id x.piece (fed_by w x)) x.answer_reply (fed-kept w x ok) (fed_by w x).fed.told

turned-bytes : (w : World) (x : Turn) → Kept w
    → bytes_of (turned w x).history ≡ bytes_of w.history ++ take (fed_by w x).fed.consumed x.piece
turned-bytes w x ok =
    answer-bytes (fed_to w x) (fed_id x.piece (fed_by w x)) x.answer_reply (fed-kept w x ok) (fed_by w x).fed.told

feed-promised : (w : World) (x : Turn) → Kept w → FeedPromise w.receiver x.piece w.carry x.scratch x.reply (fed_by w x)
feed-promised w x ok =
    (every_call w.receiver ok.sized x.piece w.carry x.scratch x.reply [] Failure.Eio (Supply.home [] []) []).feeds

-- a feed refused with 9 or 10 left the carry as it was
turned-carry : (w : World) (x : Turn) → Kept w → (turned w x).carry ≡ (fed_by w x).carry
turned-carry w x ok =
    answer-carry (fed_to w x) (fed_id x.piece (fed_by w x)) x.answer_reply (fed_by w x).fed.told
    ∙ go (is_unfed (fed_by w x).fed.told) (λ u. ((feed-promised w x ok).unfed u).3)
  where
    go : (b : Bool) → (b ≡ true → (fed_by w x).carry ≡ w.carry) → cond b w.carry (fed_by w x).carry ≡ (fed_by w x).carry
    go true e = sym (e refl)
    go false e = refl

-- ---- turns one after another
replayed-kept : (w : World) (xs : List Turn) → Kept w → Kept (replayed w xs)
replayed-kept w [] ok = ok
replayed-kept w (x ∷ xs) ok = replayed-kept (turned w x) xs (turned-kept w x ok)

replayed-last : (w : World) (xs : List Turn) (x : Turn) → replayed w (xs ++ x ∷ []) ≡ turned (replayed w xs) x
replayed-last w [] x = refl
replayed-last w (y ∷ xs) x = replayed-last (turned w y) xs x

answerable-last : (xs : List Turn) (x : Turn) → Answerable xs → reply_room ≤ length x.answer_reply → Answerable (xs ++ x ∷ [])
answerable-last [] x a h = (h, tt)
answerable-last (y ∷ xs) x a h = (a.0, answerable-last xs x a.1 h)

-- ---- the reply buffer is as long as it was
replied-length : (y : Option Reply) (buf : List ℕ) → length (replied_of y buf).buffer ≡ length buf
unfolding replied_of
replied-length y buf = go (leb (0 + length (reply_bytes y)) (length buf))
  where
    go : (b : Bool) → length (cond b (outcome (length (reply_bytes y)) (sets buf 0 (reply_bytes y))) (outcome 0 buf)).buffer ≡ length buf
    go true = length-sets buf 0 (reply_bytes y)
    go false = refl

fed-reply : (r : Receiver) (piece carry scratch reply : List ℕ) → length (feed_of r piece carry scratch reply).reply ≡ length reply
unfolding feed_of scanned_feed
fed-reply r piece carry scratch reply = go (is_short carry scratch reply) (is_owed r.table.owed)
  where
    go : (s o : Bool) → length (cond s (feeding (feed_refused r 9) carry scratch reply)
        (cond o (feeding (feed_refused r 10) carry scratch reply)
        (scanned_feed r.table piece (scan_of r.framing piece carry) scratch reply))).reply ≡ length reply
    go true o = refl
    go false true = refl
    go false false = replied-length _ reply

-- ---- a replay goes on by a turn
added : (first : List ℕ) (xs : List Turn) → Answerable xs → (s y l : List ℕ) → reply_room ≤ length y → (r : Receiver) (c s' : List ℕ)
    → let w = replayed (start first) xs in let f = feed_of w.receiver l w.carry s y in
    LeftByTurn r c s' l f → ReplayOf (bytes_of w.history ++ take f.fed.consumed l) r c
added first xs a s y l long r c s' left =
    let w = replayed (start first) xs in
    let f = feed_of w.receiver l w.carry s y in
    let x : Turn = record { piece = l; scratch = s; reply = y; answer_reply = f.reply } in
    let ok = replayed-kept (start first) xs (start-kept first) in
    let e = replayed-last (start first) xs x in
    record {
      first = first;
      turns = xs ++ x ∷ [];
      answerable = answerable-last xs x a (omega (arith, long, fed-reply w.receiver l w.carry s y));
      receiver =
          ap (λ (v : World). v.receiver) e ∙ (answer-receiver (fed_to w x) (fed_id l f) f.reply f.fed.told ∙ sym left.2);
      left = ap (λ (v : World). v.carry) e ∙ (turned-carry w x ok ∙ sym left.0);
      bytes = ap (λ (v : World). bytes_of v.history) e ∙ turned-bytes w x ok;
    }

replay-on : (bs : List ℕ) (g r : Receiver) (k c s s' y l : List ℕ) → reply_room ≤ length y → ReplayOf bs g k
    → let f = feed_of g l k s y in LeftByTurn r c s' l f → ReplayOf (bs ++ take f.fed.consumed l) r c
replay-on bs g r k c s s' y l long p =
    rw (← p.bytes, ← p.receiver, ← p.left) (added p.first p.turns p.answerable s y l long r c s')

replay-within : (bs : List ℕ) (g : Receiver) (k s y l : List ℕ) → ReplayOf bs g k → (feed_of g l k s y).fed.consumed ≤ length l
replay-within bs g k s y l p =
    let w = replayed (start p.first) p.turns in
    let ok = replayed-kept (start p.first) p.turns (start-kept p.first) in
    rw (← p.receiver, ← p.left) (feed-promised w (record { piece = l; scratch = s; reply = y; answer_reply = [] }) ok).within

-- ---- the loop over a piece: so far, all before the place is replayed, where the run is well
abbrev pub Going : (piece reply : List ℕ) → Receiver → (carry : List ℕ) → Onward → Receiver → (carry : List ℕ) → Type 0
Going piece reply r carry o r' carry' = is_well o.run ≡ true → reply_room ≤ length reply → (bs : List ℕ) → ReplayOf bs r carry
    → (o.at ≤ length piece) × ReplayOf (bs ++ take o.at piece) r' carry'

pub going_on : (piece reply : List ℕ) (h : Receiver) (c₀ : List ℕ) (o o' : Onward) (g g' : Receiver) (c c' s s' y : List ℕ)
    → length y ≡ length reply → Going piece reply h c₀ o g c
    → let l = drop o.at piece in let f = feed_of g l c s y in
    LeftByTurn g' c' s' l f → OnAfter (length piece) f.fed.consumed o o' → Going piece reply h c₀ o' g' c'
going_on piece reply h c₀ o o' g g' c c' s s' y same going left on well long bs p =
    let l = drop o.at piece in
    let used : ℕ = (feed_of g l c s y).fed.consumed in
    let was = on well in
    let b = going was.0 long bs p in
    let before = bs ++ take o.at piece in
    let within : used ≤ length l = replay-within before g c s y l b.1 in
    let inside : o.at + used ≤ length piece = omega (arith, within, length-drop o.at piece, b.0) in
    let e : o'.at ≡ o.at + used = was.1 inside in
    let q : bs ++ take o'.at piece ≡ before ++ take used l =
    ap (λ (n : ℕ). bs ++ take n piece) e
    ∙ (ap (λ (k : List ℕ). bs ++ k) (take-add o.at used piece) ∙ sym (append_assoc bs (take o.at piece) (take used l))) in (
      omega (arith, e, inside),
      subst (λ (k : List ℕ). ReplayOf k g' c') (sym q) (replay-on before g g' c c' s s' y l (omega (arith, same, long)) b.1 left),
    )
