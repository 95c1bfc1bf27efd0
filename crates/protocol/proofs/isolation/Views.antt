-- What a table has of one session, found by its id: after a step of that session, after a step of another, and after a new one.
use Prim.Native.Nat.{ℕ, ◌<◌}
use mathlib.Core.Path.{◌≡◌, refl, sym, ap, ◌∙◌}
use mathlib.Core.Bool.{Bool, true, false}
use mathlib.Core.List.{List}
use native.Mathlib.Decide.{ℕ_discrete}
use lib.ListN.{length, set}
use lib.Seq.{get_or-set_same, get_or-set_other}
use Rattle.std.specs.Prelude.{Option, Some, None}
use Rattle.protocol.specs.Table.{absent_session, no_session, session_at, id_of, is_present, session_used, find_session}
use Rattle.protocol.specs.Change.{owed_after, after}
use Rattle.protocol.specs.Sound.{DueFits, SoundSession, due_of, Sound}
use Rattle.protocol.specs.declared.Session.{Session}
use Rattle.protocol.specs.declared.Due.{Due}
use Rattle.protocol.specs.declared.Table.{Table}
use Rattle.protocol.specs.declared.Change.{Change}
use Rattle.protocol.specs.Isolation.{records, records_at, records_of}
use Rattle.protocol.proofs.Laws.{no_way, equals-same, found_at, found_nowhere}
use Rattle.protocol.proofs.SoundRule.{due-present, edited_by, Steps}
use Rattle.protocol.proofs.SoundTable.{due-here, due-other, after-sound}
use Rattle.protocol.proofs.isolation.Alone.{records_by}

-- ---- finding
module _ {t : Table} (ok : Sound t) (A : List ℕ) where
  pub find-used : (i : ℕ) → session_used (session_at t i) ≡ true → id_of (session_at t i) ≡ A → find_session t A ≡ Some i
  find-used i u e = go (find_session t A) refl
    where
      go : (f : Option ℕ) → find_session t A ≡ f → f ≡ Some i
      go None q =
          no_way (sym (equals-same _ _ e) ∙ found_nowhere session_used id_of no_session t.sessions A refl q i u)
      go (Some j) q =
          let f = found_at session_used id_of no_session t.sessions A j q in
          ap (λ (n : ℕ). Some n) (ok.alone j i f.1 u (f.2 ∙ sym e))

find_none : (t : Table) (A : List ℕ) → ((j : ℕ) → session_used (session_at t j) ≡ true → id_of (session_at t j) ≡ A → ⊥)
    → find_session t A ≡ None
find_none t A none = go (find_session t A) refl
  where
    go : (f : Option ℕ) → find_session t A ≡ f → f ≡ None
    go None q = refl
    go (Some j) q = let f = found_at session_used id_of no_session t.sessions A j q in absurd (none j f.1 f.2)

-- nothing is due for an absent session
absent-due : {s : Session} → s ≡ absent_session → (due : Option Due) → DueFits s due → due ≡ None
absent-due e None f = refl
absent-due e (Some d) f =
    no_way (sym (due-present d) ∙ sym (ap is_present f.0) ∙ ap (λ (x : Session). is_present x.state) e)

abbrev pub put : Table → ℕ → Session → Option (ℕ × Due) → Table
put t i s o = record { sessions = set t.sessions i s; owed = o }

module _ {t : Table} (ok : Sound t) (A : List ℕ) where
  -- ---- a session put at the place of the one with the id
  module _ (i : ℕ) (s : Session) (o : Option (ℕ × Due)) (inside : i < length t.sessions) (sound : Sound (put t i s o)) where
    here : session_at (put t i s o) i ≡ s
    here = get_or-set_same t.sessions i s no_session inside

    there : (j : ℕ) → (j ≡ i → ⊥) → session_at (put t i s o) j ≡ session_at t j
    there j n = get_or-set_other t.sessions i j s no_session n

    pub put-used : session_used s ≡ true → id_of s ≡ A → records_of A (put t i s o) ≡ records s (due_of o i)
    put-used u e = rw (find-used sound A i (rw here u) (rw here e), here)

    -- an absent one, where none of the others has the id
    put-absent : ((j : ℕ) → (j ≡ i → ⊥) → session_used (session_at t j) ≡ true → id_of (session_at t j) ≡ A → ⊥) → session_used s ≡ false
        → records_of A (put t i s o) ≡ records s (due_of o i)
    put-absent others u =
        let each : SoundSession s (due_of o i) = rw here at (sound.each i) in
        let blank : s ≡ absent_session = each.blank u in
        let due : due_of o i ≡ None = absent-due blank (due_of o i) each.fits in
        let none : find_session (put t i s o) A ≡ None = find_none (put t i s o) A each-other in
        rw (none, due, blank)
      where
        each-other : (j : ℕ) → session_used (session_at (put t i s o) j) ≡ true → id_of (session_at (put t i s o) j) ≡ A → ⊥
        each-other j v e = go (ℕ_discrete j i)
          where
            go : Dec (j ≡ i) → ⊥
            go (yes q) = no_way (sym (rw (q, here) at v) ∙ u)
            go (no n) = others j n (rw (there j n) at v) (rw (there j n) at e)

    -- ---- a session put at the place of another
    pub put_other : (session_used (session_at t i) ≡ true → id_of (session_at t i) ≡ A → ⊥) → (session_used s ≡ true → id_of s ≡ A → ⊥)
        → ((j : ℕ) → (j ≡ i → ⊥) → due_of o j ≡ due_of t.owed j) → records_of A (put t i s o) ≡ records_of A t
    put_other before now dues = go (find_session t A) refl
      where
        go : (f : Option ℕ) → find_session t A ≡ f → records_of A (put t i s o) ≡ records_at t f
        go None q = rw (find_none (put t i s o) A none)
          where
            none : (j : ℕ) → session_used (session_at (put t i s o) j) ≡ true → id_of (session_at (put t i s o) j) ≡ A → ⊥
            none j v e = by (ℕ_discrete j i)
              where
                by : Dec (j ≡ i) → ⊥
                by (yes p) = now (rw (p, here) at v) (rw (p, here) at e)
                by (no n) =
                    no_way (sym (equals-same _ _ (rw (there j n) at e))
                    ∙ found_nowhere session_used id_of no_session t.sessions A refl q j (rw (there j n) at v))
        go (Some k) q =
            let f = found_at session_used id_of no_session t.sessions A k q in
            let n : k ≡ i → ⊥ = λ e. before (rw e at f.1) (rw e at f.2) in
            rw (find-used sound A k (rw (there k n) f.1) (rw (there k n) f.2), there k n, dues k n)

  -- ---- a step of a session
  module _ (i : ℕ) (c : Change) (inside : i < length t.sessions) {idle : Bool} (free : idle ≡ true → t.owed ≡ None)
      (steps : Steps idle (session_at t i) (due_of t.owed i) c) where
    abbrev s : Session
    s = session_at t i

    abbrev o : Option (ℕ × Due)
    o = owed_after t.owed i c.news

    sound : Sound (after t i c)
    sound = after-sound ok i c inside free steps

    -- the one with the id
    pub own-step : session_used s ≡ true → id_of s ≡ A → records_of A (after t i c) ≡ records_by (records_of A t) c
    own-step u e =
        rw (find-used ok A i u e)
        (go (session_used (edited_by s c)) refl ∙ ap (λ (d : Option Due). records (edited_by s c) d) (due-here t.owed i c.news))
      where
        others : (j : ℕ) → (j ≡ i → ⊥) → session_used (session_at t j) ≡ true → id_of (session_at t j) ≡ A → ⊥
        others j n v q = n (ok.alone j i v u (q ∙ sym e))

        go : (b : Bool) → session_used (edited_by s c) ≡ b → records_of A (after t i c) ≡ records (edited_by s c) (due_of o i)
        go true v = put-used i (edited_by s c) o inside sound v ((steps.same_id v).1 ∙ e)
        go false v = put-absent i (edited_by s c) o inside sound others v

    -- another
    pub other_step : (id_of s ≡ A → ⊥) → records_of A (after t i c) ≡ records_of A t
    other_step n =
        put_other i (edited_by s c) o inside sound (λ _. n) (λ v e. n (sym (steps.same_id v).1 ∙ e))
        (λ j m. due-other t.owed i c.news j m (λ a. free (steps.asking a)))
