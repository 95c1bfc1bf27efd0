-- How many records of a table are done with some ids, count and quiet: as many or fewer where each that is done was so before, and one more
-- where one is put that was not.
use Prim.Native.Nat.{ℕ, zero, suc, ◌≤◌, ◌<◌}
use mathlib.Core.Path.{◌≡◌, refl, sym, ap}
use mathlib.Core.Bool.{Bool, true, false, cond}
use mathlib.Core.List.{List, [], ◌∷◌}
use native.Mathlib.Omega.{arith}
use native.Mathlib.Nat.{le_of_suc-le-suc}
use lib.ListN.{length, get_or, set}
use Rattle.std.specs.Prelude.{Option}
use Rattle.octets.proofs.Below.{both_test}
use Rattle.protocol.specs.Table.{no_file, no_session, session_at, file_at, is_done, total, put_file}
use Rattle.protocol.specs.Stretches.{Key}
use Rattle.protocol.specs.Claim.{is_done_as, done_in, done_as}
use Rattle.protocol.specs.declared.Due.{Due}
use Rattle.protocol.specs.declared.FileState.{FileState}
use Rattle.protocol.specs.declared.FileRecord.{FileRecord}
use Rattle.protocol.specs.declared.Session.{Session}
use Rattle.protocol.specs.declared.Table.{Table}
use Rattle.protocol.proofs.Laws.{no_way}
use Rattle.protocol.proofs.Invariant.{key_of}

-- ---- the record at a place
abbrev pub state_at : Table → ℕ → ℕ → FileState
state_at t i j = (file_at (session_at t i) j).state

abbrev pub count_at : Table → ℕ → ℕ → ℕ
count_at t i j = (file_at (session_at t i) j).count

abbrev pub key_at : Table → ℕ → ℕ → Key
key_at t i j = key_of (session_at t i) (file_at (session_at t i) j)

-- it is done only if its state is
pub done-state : (g : FileState) → is_done g ≡ true → g ≡ FileState.Done
done-state FileState.Free e = no_way (sym e)
done-state FileState.Opening e = no_way (sym e)
done-state FileState.Started e = no_way (sym e)
done-state FileState.Done e = refl
done-state FileState.Failed e = no_way (sym e)
done-state FileState.Named e = no_way (sym e)

-- a record that is done was so before, with the same ids, count and quiet
abbrev pub WasDone : Session → Session → ℕ → Type 0
WasDone s s' j =
    ((file_at s j).state ≡ FileState.Done)
    × (key_of s (file_at s j) ≡ key_of s' (file_at s' j))
    × ((file_at s j).count ≡ (file_at s' j).count)
    × (s.quiet ≡ s'.quiet)

abbrev pub NoneDone : Table → Table → Type 0
NoneDone t t' = (i j : ℕ) → state_at t' i j ≡ FileState.Done → WasDone (session_at t i) (session_at t' i) j

-- ---- sums
module _ {A : Type 0} (d : A) where
  -- of no more at each place
  total_le : (g h : A → ℕ) → g d ≡ 0 → (xs ys : List A) → ((i : ℕ) → h (get_or ys i d) ≤ g (get_or xs i d)) → total h ys ≤ total g xs
  total_le g h z xs [] le = omega arith
  total_le g h z [] (y ∷ ys) le =
      let first : h y ≤ g d = le 0 in let rest : total h ys ≤ 0 = total_le g h z [] ys (λ i. le (suc i)) in omega arith
  total_le g h z (x ∷ xs) (y ∷ ys) le =
      let first : h y ≤ g x = le 0 in let rest : total h ys ≤ total g xs = total_le g h z xs ys (λ i. le (suc i)) in omega arith

  -- of one more at one place
  total-more : (g : A → ℕ) (xs : List A) (i : ℕ) (x : A) → i < length xs → g x ≡ suc (g (get_or xs i d))
      → total g (set xs i x) ≡ suc (total g xs)
  total-more g [] i x l e = absurd (omega arith)
  total-more g (y ∷ xs) zero x l e = omega arith
  total-more g (y ∷ xs) (suc i) x l e =
      let rest : total g (set xs i x) ≡ suc (total g xs) = total-more g xs i x (le_of_suc-le-suc l) e in omega arith

module _ (k : Key) (n quiet : ℕ) where
  abbrev counts : Session → FileRecord → Bool
  counts s f = is_done_as k n quiet s f

  pub counts-done : (s : Session) (f : FileRecord) → counts s f ≡ true → f.state ≡ FileState.Done
  counts-done s f e = done-state f.state (both_test _ _ e).0

  was-counted : (s s' : Session) (j : ℕ) → (file_at s' j).state ≡ FileState.Done → WasDone s s' j → counts s' (file_at s' j) ≡ true
      → counts s (file_at s j) ≡ true
  was-counted s s' j e w h =
      rw (w.0, ap (λ (x : Key). x.id) w.1, ap (λ (x : Key). x.file) w.1, w.2, w.3) (rw e at h)

  -- ---- no more than before, where each that counts did so
  one_le : (b c : Bool) → (b ≡ true → c ≡ true) → cond b 1 0 ≤ cond c 1 0
  one_le true true h = omega arith
  one_le true false h = no_way (sym (h refl))
  one_le false c h = omega arith

  no-file : (s : Session) → ◌≡◌ {A = ℕ} (cond (counts s no_file) 1 0) 0
  no-file s = refl

  no-session : done_in k n quiet no_session ≡ 0
  no-session = refl

  pub each_le : (t t' : Table)
      → ((i j : ℕ) → counts (session_at t' i) (file_at (session_at t' i) j) ≡ true
      → counts (session_at t i) (file_at (session_at t i) j) ≡ true)
      → done_as k n quiet t' ≤ done_as k n quiet t
  each_le t t' h =
      total_le no_session (done_in k n quiet) (done_in k n quiet) no-session t.sessions t'.sessions
      (λ i. let s = session_at t i in let s' = session_at t' i in
      let one : Session → FileRecord → ℕ = λ x f. cond (counts x f) 1 0 in
      total_le no_file (one s) (one s') (no-file s) s.files s'.files
      (λ j. one_le (counts s' (file_at s' j)) (counts s (file_at s j)) (h i j)))

  pub was_le : (t t' : Table) (i j : ℕ) → WasDone (session_at t i) (session_at t' i) j
      → counts (session_at t' i) (file_at (session_at t' i) j) ≡ true
      → counts (session_at t i) (file_at (session_at t i) j) ≡ true
  was_le t t' i j w e = was-counted (session_at t i) (session_at t' i) j (counts-done (session_at t' i) (file_at (session_at t' i) j) e) w e

  pub none_le : (t t' : Table) → NoneDone t t' → done_as k n quiet t' ≤ done_as k n quiet t
  none_le t t' none =
      each_le t t' (λ i j e. was_le t t' i j (none i j (counts-done (session_at t' i) (file_at (session_at t' i) j) e)) e)

  -- ---- one more than before, where a record is put that counts and the old one did not
  pub put-more : (t : Table) (i j : ℕ) (f : FileRecord) (o : Option (ℕ × Due)) → let s = session_at t i in
      i < length t.sessions → j < length s.files
      → counts s (file_at s j) ≡ false → counts s f ≡ true
      → done_as k n quiet t < done_as k n quiet (record { sessions = set t.sessions i (put_file s j f); owed = o })
  put-more t i j f o inside within a b =
      let s = session_at t i in
      let one : FileRecord → ℕ = λ g. cond (counts s g) 1 0 in
      let here : one f ≡ suc (one (file_at s j)) = rw (a, b) in
      let more-here = total-more no_file one s.files j f within here in
      let more = total-more no_session (done_in k n quiet) t.sessions i (put_file s j f) inside more-here in
      rw more (omega arith)
