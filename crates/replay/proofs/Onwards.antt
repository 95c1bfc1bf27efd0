-- Where a piece goes on.
-- fed-after, answered-after the end of a turn: the feed as it is by value, and after the answer
use Prim.Native.Nat.{ℕ}
use mathlib.Core.Path.{◌≡◌, ◌∙◌, ap, subst}
use mathlib.Core.Bool.{true}
use mathlib.Core.List.{List}
use Rattle.protocol.specs.Calls.{Feeding, feeding, feed_of}
use Rattle.protocol.specs.declared.Receiver.{Receiver}
use Rattle.session_in_place.specs.Feeds.{fed_in}
use Rattle.session_in_place.specs.declared.FedInPlace.{FedInPlace}
use Rattle.streams.specs.Streams.{is_well}
use Rattle.replay.specs.Pieces.{OnAfter}
use Rattle.replay.specs.declared.console.Onward.{Onward}

-- the feed of what was left, as it is by value
pub fed-after : (h g : Receiver) (r : FedInPlace) (c₀ s₀ y₀ c s y l : List ℕ) (len : ℕ) (o o' : Onward)
    → feeding (fed_in g r) c s y ≡ feed_of h l c₀ s₀ y₀ → OnAfter len r.consumed o o'
    → OnAfter len (feed_of h l c₀ s₀ y₀).fed.consumed o o'
fed-after h g r c₀ s₀ y₀ c s y l len o o' fed on =
    subst (λ (n : ℕ). OnAfter len n o o') (ap (λ (f : Feeding). f.fed.consumed) fed) on

pub answered-after : (len used : ℕ) (o o' o'' : Onward) → OnAfter len used o o'
    → (is_well o''.run ≡ true → (is_well o'.run ≡ true) × (o''.at ≡ o'.at)) → OnAfter len used o o''
answered-after len used o o' o'' on finished well =
    let f = finished well in
    let b = on f.0 in
    (b.0, λ room. f.1 ∙ b.1 room)
