-- A call put together: of what the functions that it calls promise, its own promise. The session that is copied out is read at any
-- default d: its place is one of the table.
use Prim.Native.Nat.{ℕ, ◌<◌}
use mathlib.Core.Path.{◌≡◌, sym, ◌∙◌, ap}
use native.Mathlib.Omega.{arith}
use mathlib.Core.List.{List}
use lib.ListN.{length, get_or}
use Rattle.std.specs.Prelude.{Option, Ok, Err}
use Rattle.std.proofs.lemmas.List.{get_or_default}
use Rattle.octets.specs.Outcome.{Outcome, outcome}
use Rattle.frames.specs.Calls.{text_of}
use Rattle.command.specs.declared.Command.{Command}
use Rattle.protocol.specs.Table.{no_session, session_at, find_session}
use Rattle.protocol.specs.Calls.{feeding, feed_of}
use Rattle.protocol.specs.Supplies.{supply_of}
use Rattle.protocol.specs.declared.Session.{Session}
use Rattle.protocol.specs.declared.Told.{Told}
use Rattle.protocol.specs.declared.Receiver.{Receiver}
use Rattle.supplying.specs.Supplied.{given_in}
use Rattle.supplying.specs.Turns as Turns
use Rattle.supplying.specs.declared.Given.{Given}
use Rattle.supplying.specs.declared.Left.{Left}
use Rattle.session_in_place.specs.Steps.{place_of, takes, left_in}
use Rattle.session_in_place.specs.Calls.{answered, called_of, concerned, answer_at}
use Rattle.session_in_place.specs.Feeds.{Hearing, hearing, hear_of, act_of, fed_in}
use Rattle.session_in_place.specs.Supplies.{supply_at}
use Rattle.session_in_place.specs.declared.Call.{Call}
use Rattle.session_in_place.specs.declared.feeds.Heard.{Heard}
use Rattle.session_in_place.proofs.Halves.{unread_fed, left_fed, reframed}
use Rattle.session_in_place.proofs.InPlace.{answers, in-place-answer, in-place-supply, without_step, by_said}
use Rattle.session_in_place.proofs.InPlace.{in-place-unread, in-place-feed}

module _ (r : Receiver) (four : length r.table.sessions ≡ 4) (f : Option ℕ) (i : ℕ) (at : i ≡ place_of f) (inside : i < 4)
    (d : Session) where
  copied : get_or r.table.sessions i d ≡ session_at r.table (place_of f)
  copied = get_or_default r.table.sessions i d no_session (omega arith) ∙ ap (session_at r.table) at

  -- ---- answer
  pub answer-joined : (k : Call) (id reply b : List ℕ) (l : Left) → f ≡ concerned k r.table.owed r.table.sessions id
      → outcome l b ≡ answer_at k f (get_or r.table.sessions i d) r.table.owed reply
      → outcome (answered (takes r i l) (left_in l)) b ≡ called_of r k id reply
  answer-joined k id reply b l found step =
      let step' = rw copied at step in
      rw at (ap (answers r (place_of f)) step' ∙ rw found (in-place-answer r k id reply four))

  -- ---- supply
  pub supply-joined : (g : Given) (out b : List ℕ) (l : Left)
      → f ≡ Turns.concerned g.supplying r.table.owed g.text.now (find_session r.table)
      → outcome l b ≡ supply_at g f (get_or r.table.sessions i d) r.table.owed out
      → outcome (answered (takes r i l) (left_in l)) b ≡ supply_of r (given_in g) out
  supply-joined g out b l found step =
      let step' = rw copied at step in
      rw at (ap (answers r (place_of f)) step' ∙ rw found (in-place-supply r g out four))

-- ---- feed
module _ (r : Receiver) (piece carry scratch reply : List ℕ) (h : Heard) (c s : List ℕ)
    (half : hearing h c s ≡ hear_of r.framing r.table.owed r.table.sessions piece carry scratch (length reply)) where
  -- where no command was read, whatever the table's length
  pub unread-joined : (w : Told) → h.said ≡ Err w
      → feeding (fed_in (reframed r h.framing) (unread_fed h w)) c s reply ≡ feed_of r piece carry scratch reply
  unread-joined w q =
      ap (λ (x : Hearing). without_step r piece reply x w) half
      ∙ in-place-unread r piece reply carry scratch w (ap (λ (x : Hearing). x.heard.said) (sym half) ∙ q)

  module _ (four : length r.table.sessions ≡ 4) where
    whole : by_said r piece reply (hearing h c s) h.said ≡ feed_of r piece carry scratch reply
    whole = ap (λ (x : Hearing). by_said r piece reply x x.heard.said) half ∙ in-place-feed r piece reply carry scratch four

    pub feed-joined : (i : ℕ) → i ≡ place_of h.found → i < 4 → (k : Command) → h.said ≡ Ok k
        → (d : Session) (l : Left) (y text : List ℕ) → text ≡ text_of piece c h.report
        → outcome l y ≡ act_of h.found (get_or r.table.sessions i d) r.table.owed k text s reply
        → feeding (fed_in (takes (reframed r h.framing) i l) (left_fed h k l)) c s y ≡ feed_of r piece carry scratch reply
    feed-joined i at inside k q d l y text is step =
        let step' = rw (copied r four h.found i at inside d, is) at step in
        rw at
        (ap
        (λ (o : Outcome Left). feeding (fed_in (takes (reframed r h.framing) (place_of h.found) o.answer) (left_fed h k o.answer)) c s
        o.buffer)
        step'
        ∙ (ap (by_said r piece reply (hearing h c s)) (sym q) ∙ whole))
