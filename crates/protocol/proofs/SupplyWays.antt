-- THE WAYS of a call that supplies something: refused, held back by quiet, or written. What is proved of these calls goes by these cases.
use Prim.Native.Nat.{ℕ, ◌≤◌, ◌<◌}
use mathlib.Core.Path.{◌≡◌, refl, sym, ◌∙◌}
use mathlib.Core.Bool.{Bool, true, false, cond}
use mathlib.Core.List.{List, [], ◌∷◌}
use native.Mathlib.Omega.{arith}
use lib.ListN.{length, take}
use lib.Dec.{ltb}
use borrow.Author.Tests.{le-ltb}
use Rattle.std.specs.Prelude.{Option, Some, None}
use Rattle.octets.specs.Outcome.{Outcome, outcome}
use Rattle.frames.specs.declared.Framing.{Framing}
use Rattle.command.specs.Meaning as Meaning
use Rattle.command.specs.Slots.{nowhere, slots_of, values_of}
use Rattle.command.specs.Write.{Answer}
use Rattle.command.specs.Framed.{frame_room, framed_of}
use Rattle.protocol.specs.Table.{no_session, session_at, id_of, session_used, find_session}
use Rattle.protocol.specs.Written.{piece_values}
use Rattle.protocol.specs.Change.{telling, step_by}
use Rattle.protocol.specs.Sessions.{string_in}
use Rattle.protocol.specs.Calls.{answered_by}
use Rattle.protocol.specs.Supplies.{Supply, values_for, is_over, is_listing, listing_at, request_at, turn_of, passes_home, framed_for}
use Rattle.protocol.specs.Supplies.{is_held_back, change_for, refused_with, wrote_at, supplied_at, supply_of}
use Rattle.protocol.specs.History.{Part}
use Rattle.protocol.specs.Stretches.{Key, is_for}
use Rattle.protocol.specs.Supplied.{parts_among}
use Rattle.protocol.specs.Machine.{part_of}
use Rattle.protocol.specs.declared.Session.{Session}
use Rattle.protocol.specs.declared.Due.{Due}
use Rattle.protocol.specs.declared.Table.{Table}
use Rattle.protocol.specs.declared.Receiver.{Receiver}
use Rattle.protocol.specs.declared.Told.TheVariants as Told
use Rattle.protocol.specs.declared.Stepped.{Stepped}
use Rattle.protocol.specs.declared.Answered.{Answered}
use Rattle.protocol.proofs.Laws.{found_at}
use Rattle.protocol.proofs.Means.{string-means}
use Rattle.protocol.proofs.Frames.{written_same, written-same-bytes}

-- ---- the ways
pub data Way (r : Receiver) (u : Supply) (out : List ℕ) : Outcome Answered → Type 0 where
  refused : (n : ℕ) → Way r u out (refused_with r n out)
  held : (i n : ℕ) → turn_of r.table u ≡ Some i
      → (framed_of (values_for (session_at r.table i) u) out).answer ≡ Answer.written n
      → is_held_back (session_at r.table i) u ≡ true → is_over u ≡ false → passes_home u ≡ false
      → Way r u out (outcome (answered_by r.framing (step_by r.table i nowhere (change_for u)) 0) out)
  wrote : (i n : ℕ) → turn_of r.table u ≡ Some i
      → (framed_of (values_for (session_at r.table i) u) out).answer ≡ Answer.written n
      → is_held_back (session_at r.table i) u ≡ false → is_over u ≡ false → passes_home u ≡ false
      → Way r u out (outcome (answered_by r.framing (step_by r.table i nowhere (change_for u)) n)
      (framed_of (values_for (session_at r.table i) u) out).buffer)

module _ (r : Receiver) (u : Supply) (out : List ℕ) where
  module _ (i : ℕ) (turn : turn_of r.table u ≡ Some i) (over : is_over u ≡ false) where
    abbrev s : Session
    s = session_at r.table i

    abbrev written : Outcome Answer
    written = framed_of (values_for s u) out

    -- held back or not
    taken : (n : ℕ) → written.answer ≡ Answer.written n → passes_home u ≡ false → (b : Bool) → is_held_back s u ≡ b
        → let a = step_by r.table i nowhere (change_for u) in
        Way r u out (cond b (outcome (answered_by r.framing a 0) out) (outcome (answered_by r.framing a n) written.buffer))
    taken n w p true h = Way.held i n turn w h over p
    taken n w p false h = Way.wrote i n turn w h over p

    answer-way : passes_home u ≡ false → (a : Answer) → written.answer ≡ a → Way r u out (wrote_at r i u out written)
    answer-way p (Answer.refused n) w = rw w (Way.refused n)
    answer-way p (Answer.written n) w = rw w (taken n w p (is_held_back s u) refl)

    at-way : (b : Bool) → passes_home u ≡ b → Way r u out (wrote_at r i u out (framed_for s u out))
    unfolding framed_for
    at-way true p = rw p (Way.refused 9)
    at-way false p = rw p (answer-way p written.answer refl)

  turn-way : is_over u ≡ false → (f : Option ℕ) → turn_of r.table u ≡ f → Way r u out (supplied_at r u out f)
  turn-way over None e = Way.refused 18
  turn-way over (Some i) e = at-way i e over (passes_home u) refl

  pub way : Way r u out (supply_of r u out)
  unfolding supply_of
  way = go (ltb (length out) frame_room) (is_over u) refl
    where
      go : (short over : Bool) → is_over u ≡ over
          → Way r u out (cond short (refused_with r 9 out) (cond over (refused_with r 17 out) (supplied_at r u out (turn_of r.table u))))
      go true over o = Way.refused 9
      go false true o = Way.refused 17
      go false false o = turn-way o (turn_of r.table u) refl

-- ---- two buffers that have room, and any framings: a call gives and writes the same
pub data Alike (f f' : Framing) : Outcome Answered → Outcome Answered → Type 0 where
  alike : (s : Stepped) (n : ℕ) (b b' : List ℕ) → take n b ≡ take n b'
      → Alike f f' (outcome (answered_by f s n) b) (outcome (answered_by f' s n) b')

module _ (f f' : Framing) (t : Table) (u : Supply) (out out' : List ℕ)
    (room : frame_room ≤ length out) (room' : frame_room ≤ length out') where
  abbrev r : Receiver
  r = record { framing = f; table = t }

  abbrev r' : Receiver
  r' = record { framing = f'; table = t }

  refused-alike : (n : ℕ) → Alike f f' (refused_with r n out) (refused_with r' n out')
  refused-alike n = Alike.alike (telling t (Told.Refused n)) 0 out out' refl

  at-alike : (i : ℕ) → let s = session_at t i in
      Alike f f' (wrote_at r i u out (framed_for s u out)) (wrote_at r' i u out' (framed_for s u out'))
  unfolding framed_for
  at-alike i = go (passes_home u)
    where
      s : Session
      s = session_at t i

      o : Outcome Answer
      o = framed_of (values_for s u) out

      o' : Outcome Answer
      o' = framed_of (values_for s u) out'

      a : Stepped
      a = step_by t i nowhere (change_for u)

      taken : (n : ℕ) → take n o.buffer ≡ take n o'.buffer → (b : Bool)
          → Alike f f' (cond b (outcome (answered_by f a 0) out) (outcome (answered_by f a n) o.buffer))
          (cond b (outcome (answered_by f' a 0) out') (outcome (answered_by f' a n) o'.buffer))
      taken n e true = Alike.alike a 0 out out' refl
      taken n e false = Alike.alike a n o.buffer o'.buffer e

      answer : (x : Answer) → o.answer ≡ x → o'.answer ≡ x → Alike f f' (wrote_at r i u out o) (wrote_at r' i u out' o')
      answer (Answer.refused n) w w' = rw (w, w') (refused-alike n)
      answer (Answer.written n) w w' =
          rw (w, w') (taken n (written-same-bytes (values_for s u) out out' n w w') (is_held_back s u))

      go : (b : Bool) → Alike f f' (wrote_at r i u out (cond b (outcome (Answer.refused 9) out) o))
          (wrote_at r' i u out' (cond b (outcome (Answer.refused 9) out') o'))
      go true = refused-alike 9
      go false = answer o'.answer (written_same (values_for s u) out out' room room') refl

  pub supply-alike : Alike f f' (supply_of r u out) (supply_of r' u out')
  unfolding supply_of
  supply-alike = rw (le-ltb (length out) frame_room room, le-ltb (length out') frame_room room') (go (is_over u))
    where
      turn : (x : Option ℕ) → Alike f f' (supplied_at r u out x) (supplied_at r' u out' x)
      turn None = refused-alike 18
      turn (Some i) = at-alike i

      go : (over : Bool) → Alike f f' (cond over (refused_with r 17 out) (supplied_at r u out (turn_of t u)))
          (cond over (refused_with r' 17 out') (supplied_at r' u out' (turn_of t u)))
      go true = refused-alike 17
      go false = turn (turn_of t u)

-- ---- in turn: the listing and the home path
not_none : {A : Type 0} {p : Part} → Some p ≡ None → A
not_none e = let z : ◌≡◌ {A = ℕ} 0 1 = cc in absurd (omega arith)

not_at : {A : Type 0} {i : ℕ} → None ≡ Some i → A
not_at e = let z : ◌≡◌ {A = ℕ} 0 1 = cc in absurd (omega arith)

-- what is supplied of the listing is for a session that lists, by its id
pub record Lists (t : Table) (u : Supply) (i : ℕ) : Type 0 where
  pub inside : i < length t.sessions
  pub listing : is_listing (session_at t i).state ≡ true
  pub id : Meaning.id_of (values_for (session_at t i) u) ≡ id_of (session_at t i)

-- the id that the session is found by
abbrev pub id_for : Supply → List ℕ
id_for (Supply.list e text contents) = string_in text e.id
id_for (Supply.list_failed text id path code) = string_in text id
id_for (Supply.home id path) = id
id_for (Supply.part last bytes) = []

pub values-id : (s : Session) (u : Supply) → part_of u ≡ None → Meaning.id_of (values_for s u) ≡ id_for u
unfolding values_of slots_of
values-id s (Supply.list e text contents) h = sym (string-means text e.id)
values-id s (Supply.list_failed text id path code) h = sym (string-means text id)
values-id s (Supply.home id path) h = refl
values-id s (Supply.part last bytes) h = not_none h

turn-found : (t : Table) (u : Supply) → part_of u ≡ None → turn_of t u ≡ listing_at t (find_session t (id_for u))
turn-found t (Supply.list e text contents) h = refl
turn-found t (Supply.list_failed text id path code) h = refl
turn-found t (Supply.home id path) h = refl
turn-found t (Supply.part last bytes) h = not_none h

pub turn-lists : (t : Table) (u : Supply) (i : ℕ) → part_of u ≡ None → turn_of t u ≡ Some i → Lists t u i
turn-lists t u i h e = found (find_session t (id_for u)) refl (sym (turn-found t u h) ∙ e)
  where
    listed : (k : ℕ) → find_session t (id_for u) ≡ Some k → (b : Bool) → is_listing (session_at t k).state ≡ b
        → cond b (Some k) None ≡ Some i → Lists t u i
    listed k q true l w =
        let z : k ≡ i = cc in
        let f = found_at session_used id_of no_session t.sessions (id_for u) k q in
        rw (← z) (record { inside = f.0; listing = l; id = values-id (session_at t k) u h ∙ sym f.2 })
    listed k q false l w = not_at w

    found : (f : Option ℕ) → find_session t (id_for u) ≡ f → listing_at t f ≡ Some i → Lists t u i
    found None q w = not_at w
    found (Some k) q w = listed k q (is_listing (session_at t k).state) refl w

-- no part of a file
pub lists-no-part : (k : Key) (s : Session) (u : Supply) → part_of u ≡ None → parts_among k (values_for s u ∷ []) ≡ []
unfolding values_of slots_of
lists-no-part k s (Supply.list e text contents) h = refl
lists-no-part k s (Supply.list_failed text id path code) h = refl
lists-no-part k s (Supply.home id path) h = refl
lists-no-part k s (Supply.part last bytes) h = not_none h

-- ---- in turn: a part of the file that is owed
pub turn-owes : (t : Table) (last : Bool) (bytes : List ℕ) (i : ℕ) → turn_of t (Supply.part last bytes) ≡ Some i
    → t.owed ≡ Some (i, Due.Request)
turn-owes t last bytes i = go t.owed
  where
    go : (o : Option (ℕ × Due)) → request_at o ≡ Some i → o ≡ Some (i, Due.Request)
    go None e = not_at e
    go (Some (j, Due.OpenFile k)) e = not_at e
    go (Some (j, Due.OpenDirectory k)) e = not_at e
    go (Some (j, Due.Write k n)) e = not_at e
    go (Some (j, Due.WriteLast k n)) e = not_at e
    go (Some (j, Due.Commit)) e = not_at e
    go (Some (j, Due.Request)) e = cc

module _ (id file bytes : List ℕ) where
  pub piece-id : (last : Bool) → Meaning.id_of (piece_values id file bytes last) ≡ id
  piece-id last = refl

  pub piece-file : (last : Bool) → Meaning.file_id_of (piece_values id file bytes last) ≡ file
  piece-file last = refl

  pub piece-part : (k : Key) (last : Bool) → parts_among k (piece_values id file bytes last ∷ [])
      ≡ cond (is_for k (piece_values id file bytes last)) (record { last = last; bytes = bytes } ∷ []) []
  piece-part k true = refl
  piece-part k false = refl
