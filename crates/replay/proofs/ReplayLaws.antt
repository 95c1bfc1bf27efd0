-- What a turn leaves: after a feed, the answer that `answers_to` gives.
-- turned_on after the one call; of the reply buffer that it was lent, only the length counts
use mathlib.Core.Path.{◌≡◌, refl, sym, ◌∙◌, ap}
use mathlib.Core.Bool.{Bool, true, false, cond}
use mathlib.Core.List.{List}
use Prim.Native.Nat.{ℕ}
use lib.ListN.{length}
use lib.Dec.{ltb}
use Rattle.octets.specs.Outcome.{outcome}
use Rattle.protocol.specs.Calls.{feeding, feed_of, guarded, replied, answered_by, allow_of, done_of}
use Rattle.protocol.specs.Change.{telling}
use Rattle.protocol.specs.Replies.{reply_room}
use Rattle.protocol.specs.declared.Receiver.{Receiver}
use Rattle.protocol.specs.declared.Stepped.{Stepped}
use Rattle.protocol.specs.declared.Told.{Told}
use Rattle.session_in_place.specs.Calls.{answered, called_of}
use Rattle.session_in_place.specs.Calls.{fed_id as id_of}
use Rattle.session_in_place.specs.Feeds.{fed_in}
use Rattle.session_in_place.specs.declared.Call.{Call}
use Rattle.session_in_place.specs.declared.AnsweredInPlace.{AnsweredInPlace}
use Rattle.session_in_place.specs.declared.FedInPlace.{FedInPlace}
use Rattle.protocol.specs.Replay.{replayed_of}
use Rattle.std.specs.Prelude.{Some, None}
use Rattle.std.proofs.lemmas.Option.{none-some, same_Some}
use Rattle.replay.specs.Plans.{call_for, LeftByTurn}

-- ---- by the length of the reply buffer alone
guarded-alike : (r : Receiver) (s : Stepped) (a b : List ℕ) → length a ≡ length b
    → (guarded r s a).answer.receiver ≡ (guarded r s b).answer.receiver
unfolding guarded
guarded-alike r s a b e = rw e (go (ltb (length b) reply_room))
  where
    go : (t : Bool)
        → (cond t (outcome (answered_by r.framing (telling r.table (Told.Refused 9)) 0) a) (replied r.framing s a)).answer.receiver
        ≡ (cond t (outcome (answered_by r.framing (telling r.table (Told.Refused 9)) 0) b) (replied r.framing s b)).answer.receiver
    go true = refl
    go false = refl

pub replayed-alike : (r : Receiver) (told : Told) (id a b : List ℕ) → length a ≡ length b
    → replayed_of r told id a ≡ replayed_of r told id b
unfolding allow_of done_of
replayed-alike r Told.Nothing id a b e = refl
replayed-alike r (Told.Refused n) id a b e = refl
replayed-alike r Told.Ignored id a b e = refl
replayed-alike r Told.DragDrop id a b e = refl
replayed-alike r Told.Asked id a b e = guarded-alike r _ a b e
replayed-alike r Told.Naming id a b e = refl
replayed-alike r Told.Path id a b e = refl
replayed-alike r Told.LastPath id a b e = guarded-alike r _ a b e
replayed-alike r (Told.Ask k) id a b e = guarded-alike r _ a b e
replayed-alike r (Told.Status w) id a b e = refl
replayed-alike r Told.Withdrawn id a b e = refl
replayed-alike r Told.Discarded id a b e = refl
replayed-alike r Told.Committed id a b e = refl

-- ---- none, or the one call
replayed-on : (r : Receiver) (told : Told) (id b : List ℕ) (k : Call) → call_for told ≡ Some k
    → replayed_of r told id b ≡ (called_of r k id b).answer.receiver
unfolding called_of
replayed-on r Told.Nothing id b k e = absurd (none-some k e)
replayed-on r (Told.Refused n) id b k e = absurd (none-some k e)
replayed-on r Told.Ignored id b k e = absurd (none-some k e)
replayed-on r Told.DragDrop id b k e = absurd (none-some k e)
replayed-on r Told.Asked id b k e = rw (← same_Some _ _ e)
replayed-on r Told.Naming id b k e = absurd (none-some k e)
replayed-on r Told.Path id b k e = absurd (none-some k e)
replayed-on r Told.LastPath id b k e = rw (← same_Some _ _ e)
replayed-on r (Told.Ask a) id b k e = rw (← same_Some _ _ e)
replayed-on r (Told.Status w) id b k e = absurd (none-some k e)
replayed-on r Told.Withdrawn id b k e = absurd (none-some k e)
replayed-on r Told.Discarded id b k e = absurd (none-some k e)
replayed-on r Told.Committed id b k e = absurd (none-some k e)

-- where nothing is to answer
replayed-none : (r : Receiver) (told : Told) (id b : List ℕ) → call_for told ≡ None → replayed_of r told id b ≡ r
replayed-none r Told.Nothing id b e = refl
replayed-none r (Told.Refused n) id b e = refl
replayed-none r Told.Ignored id b e = refl
replayed-none r Told.DragDrop id b e = refl
replayed-none r Told.Asked id b e = absurd (none-some _ (sym e))
replayed-none r Told.Naming id b e = refl
replayed-none r Told.Path id b e = refl
replayed-none r Told.LastPath id b e = absurd (none-some _ (sym e))
replayed-none r (Told.Ask a) id b e = absurd (none-some _ (sym e))
replayed-none r (Told.Status w) id b e = refl
replayed-none r Told.Withdrawn id b e = refl
replayed-none r Told.Discarded id b e = refl
replayed-none r Told.Committed id b e = refl

-- ---- the end of a turn: a feed of what was left, l, and its answer
pub turned_on : (h g g' : Receiver) (r : FedInPlace) (a : AnsweredInPlace) (k : Call) (c₀ s₀ y₀ c c' s y y' z l : List ℕ)
    → feeding (fed_in g r) c s y ≡ feed_of h l c₀ s₀ y₀ → call_for r.told ≡ Some k → length y' ≡ length y
    → outcome (answered g' a) z ≡ called_of g k (id_of r l c) y' → c' ≡ c → LeftByTurn g' c' s l (feed_of h l c₀ s₀ y₀)
turned_on h g g' r a k c₀ s₀ y₀ c c' s y y' z l fed on same called kept =
    rw (← fed) (
      kept,
      refl,
      ap (λ o. o.answer.receiver) called
          ∙ (sym (replayed-on g r.told (id_of r l c) y' k on) ∙ replayed-alike g r.told (id_of r l c) y' y same),
    )

-- with no answer
pub turned_over : (h g : Receiver) (r : FedInPlace) (c₀ s₀ y₀ c s y l : List ℕ) → feeding (fed_in g r) c s y ≡ feed_of h l c₀ s₀ y₀
    → call_for r.told ≡ None → LeftByTurn g c s l (feed_of h l c₀ s₀ y₀)
turned_over h g r c₀ s₀ y₀ c s y l fed over = rw (← fed) (refl, refl, sym (replayed-none g r.told (id_of r l c) y over))
