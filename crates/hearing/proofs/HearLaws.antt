-- One turn of the hearing, and the whole of it: what is noted, and what is left to hear.
use Prim.Native.Nat.{ℕ, ◌+◌, ◌-◌, ◌*◌, ◌≤◌, ◌<◌}
use mathlib.Core.Path.{◌≡◌, refl, ap, sym, ◌∙◌}
use mathlib.Core.List.{List, [], ◌∷◌, ◌++◌, append-nil, append_assoc}
use native.Mathlib.Omega.{arith}
use native.Mathlib.Nat.{add-zero, add_assoc}
use lib.ListN.{length, drop, replicate, length-append, length-take, length-drop, length-replicate}
use lib.Seq.{length-take-le}
use Rattle.octets.specs.Outcome.{Outcome, outcome}
use Rattle.octets.proofs.Lists.{drop-end}
use Rattle.command.specs.Meaning.{Meaning, meaning_of}
use Rattle.command.specs.Read.{Answer, answered, scratch_room, read_of, meaning_in}
use Rattle.command.specs.declared.Command.{Command}
use Rattle.command.specs.declared.Refusal.{Refusal}
use Rattle.std.specs.Prelude.{Result, Ok}
use Rattle.command.proofs.Simulation.{read-means}
use Rattle.protocol.specs.Table.{empty_table}
use Rattle.protocol.specs.Sessions.{id_in, obey_of}
use Rattle.protocol.specs.Calls.{read_act}
use Rattle.protocol.specs.Promises.{Sized}
use Rattle.protocol.specs.declared.Table.{Table}
use Rattle.protocol.specs.declared.Told.{Told}
use Rattle.protocol.specs.declared.Decision.TheVariants as Decision
use Rattle.protocol.proofs.Sizes.{empty-sized, obey-sized, done-sized, decided-sized}
use Rattle.protocol.proofs.CutsReading.{SameReading, refused, read, same-reading}
use Rattle.protocol.proofs.CutsSteps.{act-same}
use Rattle.recordings.specs.Pieces.{Piece, cut, outside_first, joined, pieces_after, pieces_of}
use Rattle.recordings.specs.Mend.{recording_limit}
use Rattle.recordings.specs.Walk.{Seen, meant}
use Rattle.recordings.specs.Texts.{next_text, text_between, sight_of}
use Rattle.recordings.specs.declared.texts.TextSight.{TextSight}
use Rattle.recordings.proofs.SightLaws.{between, Sees}
use Rattle.recordings.proofs.TextLaws.{text-sees, Whole, next-whole, text-between}
use Rattle.hearing.specs.Hearing.{Sighting, sightings_from, Happening, heard_told, answered_by, heard_by, table_after}
use Rattle.hearing.specs.Hearing.{heard_from, heard_in}
use Rattle.hearing.specs.Steps.{Near, Course, course, past, command_turn, answer_turn, text_turn, turn_of, AllHeard}
use Rattle.hearing.specs.Rows.{happenings_in, Apart}
use Rattle.hearing.specs.declared.turns.Reached.{Reached}
use Rattle.hearing.proofs.Places.{read-placed, lent-stands}
use Rattle.hearing.proofs.RowLaws.{none, apart-later, Stored, stored-later}
use Rattle.hearing.proofs.NotedLaws.{read-payload, heard-same, told-stored}

-- ---- what is left to hear
-- bytes outside a command only move the places
sightings-first : (at : ℕ) (p : List ℕ) (ps : List Piece) → sightings_from at (outside_first p ps) ≡ sightings_from (at + length p) ps
unfolding sightings_from
sightings-first at [] ps = rw add-zero
sightings-first at (b ∷ p) ps = refl

sightings-joined : (at : ℕ) (p : List ℕ) (ps : List Piece)
    → sightings_from at (joined p ps) ≡ sightings_from (at + length p) (joined [] ps)
unfolding joined
sightings-joined at p [] = sightings-first at p []
sightings-joined at p (Piece.outside bs ∷ ps) =
    sightings-joined at (p ++ bs) ps
    ∙ ap (λ (n : ℕ). sightings_from n (joined [] ps)) (rw (length-append p bs) (sym (add_assoc at (length p) (length bs))))
    ∙ sym (sightings-joined (at + length p) bs ps)
sightings-joined at p (Piece.kept f ∷ ps) = sightings-first at p (Piece.kept f ∷ joined [] ps)
sightings-joined at p (Piece.refused n bs ∷ ps) = sightings-first at p (Piece.refused n bs ∷ joined [] ps)

module _ (xs : List ℕ) where
  abbrev left : ℕ → List Sighting
  left at = sightings_from at (pieces_after [] (drop at xs))

  between_ends : (from to : ℕ) → from ≤ to → to ≤ length xs → from + length (between xs from to) ≡ to
  between_ends from to h k =
      let n : length (between xs from to) ≡ to - from = length-take-le (to - from) (drop from xs) (omega (arith, length-drop from xs)) in
      omega (arith, n)

  left-outside : (at to : ℕ) → Sees xs at (Seen.outside to) → left at ≡ left to
  left-outside at to e =
      ap (sightings_from at) (e.2 [])
      ∙ sightings-joined at (between xs at to) (cut _ (drop to xs))
      ∙ ap (λ (n : ℕ). sightings_from n (pieces_after [] (drop to xs))) (between_ends at to (omega (arith, e.0)) e.1)

  left-refused : (at start end n : ℕ) → Sees xs at (Seen.refuses start end n) → left at ≡ left end
  unfolding sightings_from
  left-refused at start end n e =
      ap (sightings_from at) (e.3 [])
      ∙ sightings-first at (between xs at start) (Piece.refused n (between xs start end) ∷ pieces_after [] (drop end xs))
      ∙ ap (λ (m : ℕ). sightings_from (m + length (between xs start end)) (pieces_after [] (drop end xs)))
      (between_ends at start e.0 (omega (arith, e.1, e.2)))
      ∙ ap (λ (m : ℕ). sightings_from m (pieces_after [] (drop end xs))) (between_ends start end (omega (arith, e.1)) e.2)

  left-kept : (at start end : ℕ) → start + 4 ≤ end → Sees xs at (Seen.keeps start end)
      → left at ≡ record { start = start + 2; text = text_between xs start end } ∷ left end
  unfolding sightings_from
  left-kept at start end l e =
      ap (sightings_from at) (e.3 [])
      ∙ sightings-first at (between xs at start) (Piece.kept (between xs start end) ∷ pieces_after [] (drop end xs))
      ∙ rw (
        between_ends at start e.0 (omega (arith, e.1, e.2)),
        between_ends start end (omega (arith, e.1)) e.2,
        text-between xs start end l e.2,
      )

-- ---- the table
answered-sized : (t : Table) (id : List ℕ) (w : Told) → Sized t → Sized (answered_by t id w)
answered-sized t id Told.Nothing h = h
answered-sized t id (Told.Refused n) h = h
answered-sized t id Told.Ignored h = h
answered-sized t id Told.DragDrop h = h
answered-sized t id Told.Asked h = (decided-sized t h Decision.Allow id).table
answered-sized t id Told.Naming h = h
answered-sized t id Told.Path h = h
answered-sized t id Told.LastPath h = (decided-sized t h Decision.Allow id).table
answered-sized t id (Told.Ask a) h = (done-sized t h).table
answered-sized t id (Told.Status w) h = h
answered-sized t id Told.Withdrawn h = h
answered-sized t id Told.Discarded h = h
answered-sized t id Told.Committed h = h

-- ---- a command acts with any scratch as it does with the definition's
not-read : {A : Type 0} {n : ℕ} {c : Command} → Answer.refused n ≡ Answer.read c → A
not-read e = let z : ◌≡◌ {A = ℕ} 0 1 = cc in absurd (omega arith)

module _ (t : Table) (h : Sized t) (x : Sighting) (c : Command) where
  pub record Acts (scratch : List ℕ) (o : Outcome Answer) : Type 0 where
    pub heard : heard_by x (read_act t x.text o) ≡ heard_told x c scratch (obey_of t c x.text scratch).told
    pub table : table_after x.text (read_act t x.text o)
        ≡ answered_by (obey_of t c x.text scratch).table (id_in c x.text) (obey_of t c x.text scratch).told

  same-acts : (after after' : List ℕ) → SameReading x.text (outcome (Answer.read c) after) (outcome (Answer.read c) after')
      → heard_told x c after (obey_of t c x.text after).told ≡ heard_told x c after' (obey_of t c x.text after).told
      → Acts after (outcome (Answer.read c) after')
  same-acts after after' r e =
      let s : obey_of t c x.text after ≡ obey_of t c x.text after' = (act-same t h x.text r).step in
      record { heard = sym (e ∙ rw s); table = rw s }

  pub acts : {o o' : Outcome Answer} → SameReading x.text o o' → o.answer ≡ Answer.read c → Acts o.buffer o'
  acts (refused n after after' l) e = not-read e
  acts (read d after after' s) e =
      let z : d ≡ c = cc in
      let r : SameReading x.text (outcome (Answer.read c) after) (outcome (Answer.read c) after') = rw z at (read d after after' s) in
      let w = (obey-sized t h c x.text after).told in
      rw z (same-acts after after' r (heard-same x c after after' (rw z at s.payload) w))

zeros-room : (n : ℕ) → n ≤ length {A = ℕ} (replicate n 0)
zeros-room n = omega (arith, length-replicate {A = ℕ} n 0)

-- ---- a hearing on its way
module _ (xs : List ℕ) (fits : length xs ≤ recording_limit) where
  pub record Hearing (k : Course) : Type 0 where
    pub within : k.reached.at ≤ length xs
    pub sized : Sized k.reached.table
    pub so : List Happening
    pub stored : Stored xs k.reached.at k.reached.rows k.events k.bytes so
    pub rest : so ++ heard_from k.reached.table (left xs k.reached.at) ≡ heard_in xs

  module _ (r : Reached) (events bytes : List ℕ) (k : Hearing (course r events bytes)) where
    -- nothing is heard up to a place
    past-hears : (to : ℕ) → r.at ≤ to → to ≤ length xs → left xs r.at ≡ left xs to → Hearing (past r to events bytes)
    past-hears to h w e =
        record { within = w; sized = k.sized; so = k.so; stored = stored-later xs h k.stored; rest = rw e at k.rest }

    module _ (scratch : List ℕ) (room : scratch_room ≤ length scratch) (start end : ℕ) (long : start + 9 ≤ end) (w : end ≤ length xs) where
      abbrev t : List ℕ
      t = text_between xs start end

      abbrev x : Sighting
      x = record { start = start + 2; text = t }

      t-length : start + 2 + length t ≤ end
      t-length = omega (arith, length-take (end - 2 - (start + 2)) (drop (start + 2) xs))

      command-hears : (c : Command) → (read_of t scratch).answer ≡ Answer.read c → Sees xs r.at (Seen.keeps start end)
          → Hearing (command_turn r c (start + 2) end t (read_of t scratch).buffer events bytes)
      unfolding command_turn heard_from
      command-hears c e v =
          let after = (read_of t scratch).buffer in
          let s = obey_of r.table c t after in
          let o = obey-sized r.table k.sized c t after in
          let a = acts r.table k.sized x c (same-reading t scratch (replicate scratch_room 0) room (zeros-room scratch_room)) e in
          let more = heard_told x c after s.told in
          let table = answered_by s.table (id_in c t) s.told in
          record {
            within = w;
            sized = answered-sized s.table (id_in c t) s.told o.sized.table;
            so = k.so ++ more;
            stored = told-stored xs t r.at r.rows (start + 2) end events bytes after c k.so k.stored
                (lent-stands xs (start + 2) (end - 2 - (start + 2))) (read-placed t scratch c e) (read-payload t scratch c e)
                (omega (arith, v.0)) t-length (omega (arith, v.0)) (omega arith) o.told;
            rest = append_assoc k.so more (heard_from table (left xs end))
                ∙ ap (λ (l : List Happening). k.so ++ l)
                (rw (← a.heard, ← a.table) (sym (ap (heard_from r.table) (left-kept xs r.at start end (omega arith) v))))
                ∙ k.rest;
          }

      answer-hears : (a : Answer) → (read_of t scratch).answer ≡ a → meaning_in t (outcome a (read_of t scratch).buffer) ≡ meaning_of t
          → Sees xs r.at (meant (meaning_of t) start end)
          → Hearing (answer_turn r (start + 2) end t (read_of t scratch).buffer events bytes a)
      answer-hears (Answer.read c) e m v = command-hears c e (rw (← m) at v)
      answer-hears (Answer.refused n) e m v =
          let u : Sees xs r.at (Seen.refuses start end n) = rw (← m) at v in
          past-hears end (omega (arith, u.0, u.1)) w (left-refused xs r.at start end n u)

      text-hears : Sees xs r.at (meant (meaning_of t) start end) → Hearing (text_turn r start end xs scratch events bytes)
      unfolding text_turn
      text-hears v = answer-hears (read_of t scratch).answer refl (read-means t scratch room) v

      answer-goes : (a : Answer) (after : List ℕ) → (answer_turn r (start + 2) end t after events bytes a).reached.at ≡ end
      unfolding command_turn
      answer-goes (Answer.read c) after = refl
      answer-goes (Answer.refused n) after = refl

      meant-goes : (m : Meaning) → Sees xs r.at (meant m start end) → r.at < end
      meant-goes (Meaning.command vs) v = omega (arith, v.0, v.1)
      meant-goes (Meaning.refused n) v = omega (arith, v.0, v.1)

    -- a turn, which goes on
    turn-hears : (scratch : List ℕ) → scratch_room ≤ length scratch → (s : TextSight) → Whole xs s → Sees xs r.at (sight_of xs s)
        → let k = turn_of s r xs scratch events bytes in Hearing k × (r.at < k.reached.at)
    unfolding turn_of text_turn
    turn-hears scratch room (TextSight.Outside to) w v =
        (past-hears to (omega (arith, v.0)) v.1 (left-outside xs r.at to v), v.0)
    turn-hears scratch room (TextSight.Text start end) w v =
        let t = text_between xs start end in
        let o = read_of t scratch in (
          text-hears scratch room start end w.0 w.1 v,
          rw (answer-goes scratch room start end w.0 w.1 o.answer o.buffer)
              (meant-goes scratch room start end w.0 w.1 (meaning_of t) v),
        )
    turn-hears scratch room (TextSight.Abandoned start end) w v = (
      past-hears end (omega (arith, v.0, v.1)) v.2 (left-refused xs r.at start end 2 v),
      omega (arith, v.0, v.1),
    )

    pub turned : {n : Course} (scratch : List ℕ) → scratch_room ≤ length scratch → r.at < length xs
        → n ≡ turn_of (next_text xs r.at) r xs scratch events bytes → Hearing n × (length xs - n.reached.at < length xs - r.at)
    turned scratch room h e =
        let z = turn-hears scratch room (next_text xs r.at) (next-whole xs r.at) (text-sees xs r.at h) in
        let g = z.1 in
        let m = z.0.within in
        rw e (z.0, omega (arith, g, m))

    -- at the end nothing is left
    pub heard-whole : length xs ≤ r.at → AllHeard xs (r.rows * 7) events bytes
    unfolding cut joined sightings_from heard_from
    heard-whole h =
        let s = k.stored in
        record {
          few = omega (arith, s.few, k.within);
          within = omega (arith, s.few, s.events_room, k.within);
          heard = s.heard ∙ sym (append-nil k.so) ∙ (rw (drop-end xs r.at h) at k.rest);
          apart = apart-later 0 (omega (arith, s.bytes_room, k.within)) s.rowed s.apart;
        }

  -- from its start
  pub start-hears : (events bytes : List ℕ) → recording_limit ≤ length events → recording_limit ≤ length bytes
      → Hearing (course (record { at = 0; rows = 0; table = empty_table }) events bytes)
  unfolding pieces_of happenings_in Apart
  start-hears events bytes h b =
      record {
        within = omega arith;
        sized = empty-sized;
        so = [];
        stored = record {
          events_room = h;
          bytes_room = b;
          few = omega arith;
          rowed = none;
          apart = omega arith;
          heard = refl;
        };
        rest = refl;
      }

-- ---- a command's places are no large numbers
pub near : (xs scratch after : List ℕ) (start end : ℕ) {r : Result Command Refusal} {c : Command} → length xs ≤ recording_limit
    → start + 4 ≤ end → end ≤ length xs → outcome (answered r) after ≡ read_of (text_between xs start end) scratch → r ≡ Ok c
    → Near (start + 2) c
near xs scratch after start end {r} {c} fits h w e k =
    let t = text_between xs start end in
    let a : (read_of t scratch).answer ≡ Answer.read c = ap (λ (o : Outcome Answer). o.answer) (sym e) ∙ ap answered k in
    let p = read-placed t scratch c a in
    let n = length-take (end - 2 - (start + 2)) (drop (start + 2) xs) in
    (omega arith, omega (arith, p.id, n), omega (arith, p.file, n))
