-- Stores into the table: a session put at its place, and a file of it, keep the invariant where their own parts hold; and no record turns
-- done by a store that puts no done one.
use Prim.Native.Nat.{ℕ, ◌<◌}
use mathlib.Core.Path.{◌≡◌, refl, sym, ◌∙◌}
use mathlib.Core.Bool.{Bool, true, false, cond}
use mathlib.Core.Logic.{◌⊎◌, inl, inr}
use mathlib.Core.List.{List, ◌∷◌}
use native.Mathlib.Omega.{arith}
use lib.ListN.{length, set}
use native.Mathlib.Decide.{ℕ_discrete}
use lib.Seq.{get_or-set_same, get_or-set_other}
use Rattle.std.specs.Prelude.{Option, Some}
use Rattle.protocol.specs.Table.{file_room, absent_session, no_file, no_session, session_at, file_at, id_of, file_id_of, put_file}
use Rattle.protocol.specs.Calls.{is_owed}
use Rattle.protocol.specs.History.{Mark, Question, last_ask}
use Rattle.protocol.specs.Stretches.{Key, AllStand}
use Rattle.protocol.specs.Machine.{is_refused}
use Rattle.protocol.specs.Claim.{Closes}
use Rattle.protocol.specs.declared.FileState.{FileState}
use Rattle.protocol.specs.declared.FileRecord.{FileRecord}
use Rattle.protocol.specs.declared.SessionState.TheVariants as SessionState
use Rattle.protocol.specs.declared.Session.{Session}
use Rattle.protocol.specs.declared.Due.{Due}
use Rattle.protocol.specs.declared.Table.{Table}
use Rattle.protocol.specs.declared.Stepped.{Stepped}
use Rattle.protocol.proofs.Done.{state_at, WasDone, NoneDone, none_le}
use Rattle.protocol.proofs.Laws.{no_way, is_past, set-each, set-any, replicate-each}
use Rattle.protocol.proofs.Backs.{table}
use Rattle.protocol.proofs.Invariant.{key_of, file_key, RecordOK, NoneStands, Holds, OpenOK, is_supplied, SessionOK, Asking, AskedLast}
use Rattle.protocol.proofs.Invariant.{Served, TableOK}

-- the marks after a console call's step, which is refused or adds the mark x
abbrev pub noted_marks : List Mark → Mark → Stepped → List Mark
noted_marks m x out = cond (is_refused out.told) m (x ∷ m)

-- states that differ
pub absent-open : SessionState.Absent ≡ SessionState.Open → ⊥
absent-open e = let z : ◌≡◌ {A = ℕ} 0 1 = cc in omega arith

pub free-done : {A : Type 0} → FileState.Free ≡ FileState.Done → A
free-done e = let z : ◌≡◌ {A = ℕ} 0 1 = cc in absurd (omega arith)

-- ---- a session
pub put-ok : (t : Table) {m : List Mark} (i : ℕ) (s : Session) (o : Option (ℕ × Due)) → i < length t.sessions
    → ((j : ℕ) → (j ≡ i → ⊥) → SessionOK (is_owed o) m (session_at t j))
    → SessionOK (is_owed o) m s
    → AskedLast (set t.sessions i s) (last_ask m) o
    → AllStand m
    → Served m
    → TableOK (table (set t.sessions i s) o) m
put-ok t {m} i s o h there here owed told served =
    record {
      each = set-each (λ (x : Session). SessionOK (is_owed o) m x) no_session t.sessions i s h here there;
      owed = owed;
      told = told;
      served = served;
    }

-- of a session that is not open
pub shut_ok : {b : Bool} {m : List Mark} {s : Session} → (s.state ≡ SessionState.Open → ⊥) → is_supplied s.state ≡ false
    → SessionOK b m s
shut_ok o n = record { sends = λ e. absurd (o e); serves = λ e. no_way (sym e ∙ n) }

pub absent-ok : {b : Bool} {m : List Mark} → SessionOK b m absent_session
absent-ok = shut_ok absent-open refl

pub free-files : (j : ℕ) → (file_at absent_session j).state ≡ FileState.Free
free-files j = replicate-each (λ (f : FileRecord). f.state ≡ FileState.Free) refl refl file_room j

-- ---- a file
pub put-file : {b b' : Bool} {m m' : List Mark} (s : Session) (j : ℕ) (f : FileRecord) → OpenOK b m s → j < length s.files
    → Holds b' (id_of s) m'
    → ((n : ℕ) → (n ≡ j → ⊥) → (file_at s n).state ≡ FileState.Started → RecordOK b' m' s (file_at s n))
    → (f.state ≡ FileState.Started → RecordOK b' m' s f)
    → (is_past (file_at s j).state ≡ true → (is_past f.state ≡ true) × (file_id_of f ≡ file_id_of (file_at s j)))
    → ((g : List ℕ) → (is_past f.state ≡ true → file_id_of f ≡ g → ⊥) → NoneStands m (file_key s g) → NoneStands m' (file_key s g))
    → OpenOK b' m' (put_file s j f)
put-file {b} {b'} {m} {m'} s j f ok h hold there here past goes =
    record {
      stand = hold;
      each = set-each Each no_file s.files j f h here there;
      unstarted = λ g p. goes g (rw same at (p j)) (ok.unstarted g (λ n. still g p n (ℕ_discrete n j)));
    }
  where
    Each : FileRecord → Type 0
    Each x = x.state ≡ FileState.Started → RecordOK b' m' s x

    same : file_at (put_file s j f) j ≡ f
    same = get_or-set_same s.files j f no_file h

    still : (g : List ℕ) → ((n : ℕ) → is_past (file_at (put_file s j f) n).state ≡ true → file_id_of (file_at (put_file s j f) n) ≡ g → ⊥)
        → (n : ℕ) → Dec (n ≡ j) → is_past (file_at s n).state ≡ true → file_id_of (file_at s n) ≡ g → ⊥
    still g p n (yes e) q r = let u = past (rw e at q) in (rw same at (p j)) u.0 (u.1 ∙ (rw e at r))
    still g p n (no e) q r = (rw (get_or-set_other s.files j n f no_file e) at (p n)) q r

-- ---- what is owed
-- for a session that stays as it is
pub asked-other : (ss : List Session) (i k : ℕ) (s : Session) (q : Question) (d : Due) → (k ≡ i → ⊥)
    → AskedLast ss q (Some (k, d)) → AskedLast (set ss i s) q (Some (k, d))
asked-other ss i k s q d n a = rw (get_or-set_other ss i k s no_session n) a

-- for the session that is put
pub asked_here : (ss : List Session) (i : ℕ) (s : Session) (q : Question) (d : Due) → i < length ss → Asking s q d
    → AskedLast (set ss i s) q (Some (i, d))
asked_here ss i s q d h a = rw (get_or-set_same ss i s no_session h) a

-- ---- no record turns done: one that is done was so before
pub none-same : (t : Table) (o : Option (ℕ × Due)) → NoneDone t (table t.sessions o)
none-same t o i j q = (q, refl, refl, refl)

pub none-put : (t : Table) (i : ℕ) (s : Session) (o : Option (ℕ × Due))
    → ((j : ℕ) → (file_at s j).state ≡ FileState.Done → WasDone (session_at t i) s j)
    → NoneDone t (table (set t.sessions i s) o)
none-put t i s o h i' j =
    set-any (λ (n : ℕ) (x : Session). (file_at x j).state ≡ FileState.Done → WasDone (session_at t n) x j)
    t.sessions i s no_session (h j) (λ n q. (q, refl, refl, refl)) i'

pub none_free : (t : Table) (i : ℕ) (s : Session) (o : Option (ℕ × Due)) → ((j : ℕ) → (file_at s j).state ≡ FileState.Free)
    → NoneDone t (table (set t.sessions i s) o)
none_free t i s o free = none-put t i s o (λ j q. free-done (sym (free j) ∙ q))

-- the table with a record put at a place
abbrev pub with_file : Table → ℕ → ℕ → FileRecord → Option (ℕ × Due) → Table
with_file t i j f o = table (set t.sessions i (put_file (session_at t i) j f)) o

-- a record put at a place is the only one that can turn done
pub only-there : (t : Table) (i j : ℕ) (f : FileRecord) (o : Option (ℕ × Due)) (i' j' : ℕ) → let t' = with_file t i j f o in
    state_at t' i' j' ≡ FileState.Done
    → WasDone (session_at t i') (session_at t' i') j' ⊎ ((i' ≡ i) × (j' ≡ j) × (f.state ≡ FileState.Done))
only-there t i j f o i' j' =
    set-any (λ (n : ℕ) (x : Session). (file_at x j').state ≡ FileState.Done → Or n x)
    t.sessions i (put_file (session_at t i) j f) no_session (λ q. here (inside j' q)) (λ n q. inl (q, refl, refl, refl)) i'
  where
    s : Session
    s = session_at t i

    Or : ℕ → Session → Type 0
    Or n x = WasDone (session_at t n) x j' ⊎ ((n ≡ i) × (j' ≡ j) × (f.state ≡ FileState.Done))

    At : ℕ → FileRecord → Type 0
    At n x =
        (((file_at s n).state ≡ FileState.Done) × (key_of s (file_at s n) ≡ key_of s x) × ((file_at s n).count ≡ x.count))
        ⊎ ((n ≡ j) × (f.state ≡ FileState.Done))

    inside : (n : ℕ) → (file_at (put_file s j f) n).state ≡ FileState.Done → At n (file_at (put_file s j f) n)
    inside =
        set-any (λ (n : ℕ) (x : FileRecord). x.state ≡ FileState.Done → At n x)
        s.files j f no_file (λ q. inr (refl, q)) (λ n q. inl (q, refl, refl))

    here : At j' (file_at (put_file s j f) j') → Or i (put_file s j f)
    here (inl q) = inl (q.0, q.1, q.2, refl)
    here (inr q) = inr (refl, q.0, q.1)

pub none-file : (t : Table) (i j : ℕ) (f : FileRecord) (o : Option (ℕ × Due)) → (f.state ≡ FileState.Done → ⊥)
    → NoneDone t (with_file t i j f o)
none-file t i j f o h i' j' q = go (only-there t i j f o i' j' q)
  where
    go : {A : Type 0} → A ⊎ ((i' ≡ i) × (j' ≡ j) × (f.state ≡ FileState.Done)) → A
    go (inl w) = w
    go (inr e) = absurd (h e.2)

-- so no file closes
pub none-closes : (t t' : Table) (k : Key) (n quiet : ℕ) → NoneDone t t' → Closes t t' k n quiet → ⊥
none-closes t t' k n quiet none c = omega (arith, none_le k n quiet t t' none)
