-- What a call that supplies something makes of one session: its turn alone where it is for it, and nothing otherwise.
use Prim.Native.Nat.{ℕ, ◌≤◌, ◌<◌}
use mathlib.Core.Path.{◌≡◌, refl, sym, ap, ◌∙◌}
use mathlib.Core.Bool.{Bool, true, false}
use mathlib.Core.List.{List, [], ◌∷◌}
use lib.ListN.{length, take}
use lib.Dec.{lit≤}
use Rattle.std.specs.Prelude.{Some, None}
use Rattle.octets.specs.Slices.{equals}
use Rattle.octets.specs.Outcome.{Outcome}
use Rattle.octets.proofs.Compare.{equals_refl, equals-sound}
use Rattle.command.specs.Slots.{nowhere}
use Rattle.command.specs.Meaning as Meaning
use Rattle.command.specs.Values.{Value}
use Rattle.command.specs.Write.{Answer}
use Rattle.command.specs.Framed.{frame_room, framed_of}
use Rattle.protocol.specs.Table.{session_at, file_at, id_of, file_id_of, is_present, session_used}
use Rattle.protocol.specs.Change.{told_by, after}
use Rattle.protocol.specs.Supplies.{Supply, values_for, turn_of, is_held_back, change_for, supply_of}
use Rattle.protocol.specs.History.{Question, commands_in}
use Rattle.protocol.specs.Machine.{part_of}
use Rattle.protocol.specs.Sound.{SoundSession, due_of, Sound}
use Rattle.protocol.specs.Isolation.{command_acts, unless_refused, is_supplied_to, supply_act, answered, Records, records_of}
use Rattle.protocol.specs.declared.Session.{Session}
use Rattle.protocol.specs.declared.Due.TheVariants as Due
use Rattle.protocol.specs.declared.Table.{Table}
use Rattle.protocol.specs.declared.Receiver.{Receiver}
use Rattle.protocol.specs.declared.Told.{Told}
use Rattle.protocol.specs.declared.Answered.{Answered}
use Rattle.protocol.proofs.Laws.{no_way, both_false, equals-other}
use Rattle.protocol.proofs.Invariant.{Asking, AskedLast}
use Rattle.protocol.proofs.Tellings.{is_plain, plain}
use Rattle.protocol.proofs.Frames.{written-accepted, written-told, nothing-told, written_same, written-same-bytes}
use Rattle.protocol.proofs.SupplyWays as SupplyWays
use Rattle.protocol.proofs.SupplyWays.{turn-lists, values-id, turn-owes, piece-id}
use Rattle.protocol.proofs.SoundSteps.{InTurn, supplied-steps}
use Rattle.protocol.proofs.SoundTable.{in-turn}
use Rattle.protocol.proofs.isolation.Alone.{Turn, supply_turn, frame_zeros, written_or, bytes_written, alone}
use Rattle.protocol.proofs.isolation.Views.{find-used, own-step, other_step}
use Rattle.protocol.proofs.isolation.Calls.{Single, other, own, seen_by}

-- what it makes of the session alone
alone-supplied : (A : List ℕ) (v : Records) (q : Question) (u : Supply) → is_supplied_to A q u ≡ true
    → alone A v (supply_act u) ≡ supply_turn v (is_held_back v.session u) (values_for v.session u) (change_for u)
alone-supplied A v q (Supply.list e text contents) z = refl
alone-supplied A v q (Supply.list_failed text id path code) z = refl
alone-supplied A v q (Supply.home id path) z = rw (equals-sound id A z)
alone-supplied A v q (Supply.part true bytes) z = refl
alone-supplied A v q (Supply.part false bytes) z = refl

supplied-plain : (u : Supply) → is_plain (told_by nowhere (change_for u).news) ≡ true
supplied-plain (Supply.list e text contents) = refl
supplied-plain (Supply.list_failed text id path code) = refl
supplied-plain (Supply.home id path) = refl
supplied-plain (Supply.part true bytes) = refl
supplied-plain (Supply.part false bytes) = refl

-- what is written does not hang on the buffer
same-written : (values : List Value) (out : List ℕ) (n : ℕ) → frame_room ≤ length out → (framed_of values out).answer ≡ Answer.written n
    → take n (framed_of values out).buffer ≡ written_or false values
same-written values out n room e =
    let same : (framed_of values frame_zeros).answer ≡ Answer.written n = sym (written_same values out frame_zeros room (lit≤ tt)) ∙ e in
    written-same-bytes values out frame_zeros n e same
    ∙ ap (λ (a : Answer). bytes_written a (framed_of values frame_zeros).buffer) (sym same)

module _ (A : List ℕ) {t : Table} (ok : Sound t) (q : Question) (asked : AskedLast t.sessions q t.owed) where
  -- a part is for the session whose ask was told last
  asking : (i : ℕ) → t.owed ≡ Some (i, Due.Request) → Asking (session_at t i) q Due.Request
  asking i e = rw e at asked

  listed : (u : Supply) (i : ℕ) → part_of u ≡ None → turn_of t u ≡ Some i → SupplyWays.id_for u ≡ id_of (session_at t i)
  listed u i n e = sym (values-id (session_at t i) u n) ∙ (turn-lists t u i n e).id

  whose : (u : Supply) (i : ℕ) → turn_of t u ≡ Some i → is_supplied_to A q u ≡ equals (id_of (session_at t i)) A
  whose (Supply.list x text contents) i e = ap (λ (k : List ℕ). equals k A) (listed (Supply.list x text contents) i refl e)
  whose (Supply.list_failed text id path code) i e =
      ap (λ (k : List ℕ). equals k A) (listed (Supply.list_failed text id path code) i refl e)
  whose (Supply.home id path) i e = ap (λ (k : List ℕ). equals k A) (listed (Supply.home id path) i refl e)
  whose (Supply.part last bytes) i e = let a = asking i (turn-owes t last bytes i e) in rw (a.asked, a.id)

  turn-used : (u : Supply) (i : ℕ) → InTurn (session_at t i) (due_of t.owed i) u → session_used (session_at t i) ≡ true
  turn-used (Supply.list x text contents) i e = ap is_present e
  turn-used (Supply.list_failed text id path code) i e = ap is_present e
  turn-used (Supply.home id path) i e = ap is_present e
  turn-used (Supply.part last bytes) i e =
      let s : SoundSession (session_at t i) (Some Due.Request) = rw e at (ok.each i) in ap is_present s.fits.0

  -- a call that is in turn at a place, and wrote these bytes
  module _ (u : Supply) (i : ℕ) (e : turn_of t u ≡ Some i) where
    abbrev s : Session
    s = session_at t i

    abbrev told : Told
    told = told_by nowhere (change_for u).news

    -- what is written names the session
    supplied-id : Meaning.id_of (values_for s u) ≡ id_of s
    supplied-id = go u refl
      where
        go : (x : Supply) → u ≡ x → Meaning.id_of (values_for s x) ≡ id_of s
        go (Supply.list y text contents) q = (turn-lists t (Supply.list y text contents) i refl (rw q at e)).id
        go (Supply.list_failed text id path code) q = (turn-lists t (Supply.list_failed text id path code) i refl (rw q at e)).id
        go (Supply.home id path) q = (turn-lists t (Supply.home id path) i refl (rw q at e)).id
        go (Supply.part last bytes) q = piece-id (id_of s) (file_id_of (file_at s 0)) bytes last

    pub written-other : (bs : List ℕ) → commands_in bs ≡ values_for s u ∷ [] → (id_of s ≡ A → ⊥) → command_acts A (commands_in bs) ≡ []
    written-other bs w n = rw (w, supplied-id, equals-other (id_of s) A n)

    pub taken-single : (q' : Question) (bs : List ℕ) → bs ≡ written_or (is_held_back s u) (values_for s u)
        → ((id_of s ≡ A → ⊥) → command_acts A (commands_in bs) ≡ [])
        → Single A t (after t i (change_for u)) (unless_refused (is_supplied_to A q u) told (supply_act u)) q' (seen_by told bs)
    taken-single q' bs w silent = go (equals (id_of s) A) refl
      where
        inside : i < length t.sessions
        inside = (in-turn ok u i e).0

        used : session_used s ≡ true
        used = turn-used u i (in-turn ok u i e).1

        go : (b : Bool) → equals (id_of s) A ≡ b
            → Single A t (after t i (change_for u)) (unless_refused (is_supplied_to A q u) told (supply_act u)) q' (seen_by told bs)
        go true z =
            let is : id_of s ≡ A = equals-sound (id_of s) A z in
            let turns = alone-supplied A (records_of A t) q u (whose u i e ∙ z) in
            own (supply_act u) (rw (whose u i e, z, (plain told (supplied-plain u)).accepted))
            (rw (turns, w, find-used ok A i used is))
            (own-step ok A i (change_for u) inside (λ y. no_way (sym y)) (supplied-steps (ok.each i) u (in-turn ok u i e).1) used is
            ∙ ap (λ (x : Turn). x.after) (sym turns))
        go false z =
            other (rw (whose u i e, z)) (rw (silent (λ y. no_way (rw (y, equals_refl A) at z))))
            (rw ((plain told (supplied-plain u)).unasking []))
            (other_step ok A i (change_for u) inside (λ y. no_way (sym y)) (supplied-steps (ok.each i) u (in-turn ok u i e).1)
            (λ y. no_way (rw (y, equals_refl A) at z)))

pub supply-single : (A : List ℕ) (r : Receiver) → Sound r.table → (q : Question) → AskedLast r.table.sessions q r.table.owed
    → (u : Supply) (out : List ℕ) (q' : Question) → let o = supply_of r u out in
    Single A r.table o.answer.receiver.table (unless_refused (is_supplied_to A q u) o.answer.told (supply_act u)) q' (answered o)
supply-single A r ok q asked u out q' = go (SupplyWays.way r u out)
  where
    go : {o : Outcome Answered} → SupplyWays.Way r u out o
        → Single A r.table o.answer.receiver.table (unless_refused (is_supplied_to A q u) o.answer.told (supply_act u)) q'
        (answered o)
    go (SupplyWays.refused n) = other (rw (both_false (is_supplied_to A q u))) (rw nothing-told) refl refl
    go (SupplyWays.held i n turn w h _ _) = taken-single A ok q asked u i turn q' _ (rw h) (λ _. rw nothing-told)
    go (SupplyWays.wrote i n turn w h _ _) =
        taken-single A ok q asked u i turn q' _ (rw h (same-written _ out n (written-accepted _ out n w).0 w))
        (written-other A ok q asked u i turn _ (written-told _ out n w))
