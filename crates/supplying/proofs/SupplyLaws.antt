-- One session that is supplied, put back, is what the definitions say of the table; and what the writer says of two buffers.
use Prim.Native.Nat.{ℕ, ◌≤◌}
use mathlib.Core.Path.{◌≡◌, refl}
use mathlib.Core.Bool.{Bool, true, false, cond, ◌||◌}
use mathlib.Core.List.{List}
use native.Mathlib.Omega.{arith}
use lib.ListN.{length, set, replicate, length-replicate}
use lib.Seq.{set-get_or}
use lib.Dec.{ltb}
use Rattle.std.specs.Prelude.{None, Option, Some}
use Rattle.octets.specs.Outcome.{Outcome, outcome}
use Rattle.command.specs.Write.{Answer}
use Rattle.command.specs.Framed.{frame_room, framed_of}
use Rattle.protocol.specs.Table.{no_session, session_at, find_session}
use Rattle.protocol.specs.Change.{stepped}
use Rattle.protocol.specs.Calls.{answered_by}
use Rattle.protocol.specs.Supplies.{Supply, values_for, is_over, is_listing, listing_at, turn_of, passes_home, framed_for, is_held_back}
use Rattle.protocol.specs.Supplies.{refused_with, wrote_at, supplied_at, supply_of}
use Rattle.protocol.specs.declared.Session.{Session}
use Rattle.protocol.specs.declared.Table.{Table}
use Rattle.protocol.specs.declared.Receiver.{Receiver}
use Rattle.protocol.specs.declared.Answered.{Answered}
use Rattle.protocol.proofs.Frames.{refused-same-buffer, written_same}
use Rattle.supplying.specs.Supplied.{supply_in, unsupplied, taken_in, found_in, supplied_in}
use Rattle.supplying.specs.Turns.{is_part, concerned, seat_of, in_turn}
use Rattle.supplying.specs.declared.Supplying.{Supplying}
use Rattle.supplying.specs.declared.Left.{Left}

-- ---- the writer
framed-same : (s : Session) (u : Supply) (out out' : List ℕ) → frame_room ≤ length out → frame_room ≤ length out'
    → (framed_for s u out).answer ≡ (framed_for s u out').answer
unfolding framed_for
framed-same s u out out' h h' = go (passes_home u)
  where
    go : (b : Bool) → (cond b (outcome (Answer.refused 9) out) (framed_of (values_for s u) out)).answer
        ≡ (cond b (outcome (Answer.refused 9) out') (framed_of (values_for s u) out')).answer
    go true = refl
    go false = written_same (values_for s u) out out' h h'

-- what is held back is written into a buffer of its own
pub framed_aside : (s : Session) (u : Supply) (out : List ℕ) → frame_room ≤ length out
    → (framed_for s u out).answer ≡ (framed_for s u (replicate frame_room 0)).answer
framed_aside s u out h = framed-same s u out (replicate frame_room 0) h (rw (length-replicate {A = ℕ} frame_room 0) (omega arith))

refused-same : (s : Session) (u : Supply) (out : List ℕ) (n : ℕ) → (framed_for s u out).answer ≡ Answer.refused n
    → (framed_for s u out).buffer ≡ out
unfolding framed_for
refused-same s u out n = go (passes_home u)
  where
    go : (b : Bool) → let x = cond b (outcome (Answer.refused 9) out) (framed_of (values_for s u) out) in
        x.answer ≡ Answer.refused n → x.buffer ≡ out
    go true e = refl
    go false e = refused-same-buffer (values_for s u) out n e

-- ---- put back
-- what a call leaves, at a place of the table
abbrev pub put_back : Receiver → ℕ → Outcome Left → Outcome Answered
put_back r i x =
    let a = x.answer in
    outcome (answered_by r.framing
    (stepped (record { sessions = set r.table.sessions i a.session; owed = a.owed }) a.told None) a.written) x.buffer

-- a session's place; where none is found, any
pub data Sits : Option ℕ → ℕ → Type 0 where
  none : (k : ℕ) → Sits None k
  there : (i : ℕ) → Sits (Some i) i

sits-there : (f : Option ℕ) → Sits f (seat_of f)
sits-there None = Sits.none 0
sits-there (Some i) = Sits.there i

sits-chosen : (b : Bool) (f : Option ℕ) → Sits (cond b f None) (seat_of f)
sits-chosen true f = sits-there f
sits-chosen false f = Sits.none (seat_of f)

module _ (r : Receiver) (u : Supply) (out : List ℕ) where
  abbrev t : Table
  t = r.table

  -- a refusal puts it back as it was
  refuses : (i n : ℕ) → put_back r i (outcome (unsupplied (session_at t i) t.owed n) out) ≡ refused_with r n out
  refuses i n = rw (set-get_or t.sessions i no_session)

  takes : (i : ℕ) → let s = session_at t i in
      put_back r i (taken_in u i s t.owed out) ≡ wrote_at r i u out (framed_for s u out)
  unfolding taken_in
  takes i = go (is_held_back s u) refl (framed_for s u out).answer refl
    where
      s : Session
      s = session_at t i

      go : (b : Bool) → is_held_back s u ≡ b → (a : Answer) → (framed_for s u out).answer ≡ a
          → put_back r i (taken_in u i s t.owed out) ≡ wrote_at r i u out (framed_for s u out)
      go true h (Answer.refused n) w = rw (h, w) (refuses i n)
      go true h (Answer.written n) w = rw (w, h)
      go false h (Answer.refused n) w = rw (h, w, refused-same s u out n w) (refuses i n)
      go false h (Answer.written n) w = rw (w, h)

  found : {f : Option ℕ} {k : ℕ} → Sits f k → put_back r k (found_in u f (session_at t k) t.owed out) ≡ supplied_at r u out f
  found (Sits.none k) = refuses k 18
  found (Sits.there i) = takes i

  -- the session in which it is in turn, wherever its place lies
  pub put-back : (k : ℕ) → Sits (turn_of t u) k
      → put_back r k (supplied_in u (turn_of t u) (session_at t k) t.owed out) ≡ supply_of r u out
  unfolding supplied_in supply_of
  put-back k h = go (ltb (length out) frame_room) refl (is_over u) refl
    where
      go : (b : Bool) → ltb (length out) frame_room ≡ b → (c : Bool) → is_over u ≡ c
          → put_back r k (supplied_in u (turn_of t u) (session_at t k) t.owed out) ≡ supply_of r u out
      go true e c o = rw e (refuses k 9)
      go false e true o = rw (e, o) (refuses k 17)
      go false e false o = rw (e, o) (found h)

-- ---- in turn
listing : (t : Table) {f : Option ℕ} {k : ℕ} → Sits f k → cond (is_listing (session_at t k).state) f None ≡ listing_at t f
listing t (Sits.none k) = go (is_listing (session_at t k).state)
  where
    go : (b : Bool) → cond {A = Option ℕ} b None None ≡ None
    go true = refl
    go false = refl
listing t (Sits.there i) = refl

module _ (x : Supplying) (text : List ℕ) where
  abbrev at : Table → Option ℕ
  at t = concerned x t.owed text (find_session t)

  -- the session that is found, and then its state
  pub in-turn : (contents : List ℕ) (t : Table) (k : ℕ) → Sits (at t) k
      → in_turn x (session_at t k).state (at t) ≡ turn_of t (supply_in x text contents)
  in-turn contents t k h = go x h
    where
      go : (x : Supplying) → let f = concerned x t.owed text (find_session t) in
          Sits f k → in_turn x (session_at t k).state f ≡ turn_of t (supply_in x text contents)
      go (Supplying.List e) h = listing t h
      go (Supplying.ListFailed id path code) h = listing t h
      go Supplying.Home h = listing t h
      go (Supplying.Part last) h = refl

  -- found by the table, supplied and put back
  pub supplied-back : (contents : List ℕ) (r : Receiver) (out : List ℕ)
      → let k = seat_of (at r.table) in
      let s = session_at r.table k in
      let u = supply_in x text contents in
      put_back r k (supplied_in u (in_turn x s.state (at r.table)) s r.table.owed out) ≡ supply_of r u out
  supplied-back contents r out =
      let k = seat_of (at r.table) in
      let u = supply_in x text contents in
      let e = in-turn contents r.table k (sits-there (at r.table)) in
      rw e (put-back r u out k (rw (← e) (sits-chosen (is_part x || is_listing (session_at r.table k).state) (at r.table))))
