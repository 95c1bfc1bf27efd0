-- What the history of a whole send has of each file since its start: its contents, and its last part with them.
use Prim.Native.Nat.{ℕ}
use mathlib.Core.Path.{◌≡◌, refl}
use mathlib.Core.Bool.{Bool, true, false, not, ◌||◌}
use mathlib.Core.List.{List, [], ◌∷◌, ◌++◌, map, append_assoc, append-nil}
use Rattle.std.specs.Prelude.{Some, None}
use Rattle.octets.specs.Members.{every}
use Rattle.octets.specs.Slices.{equals}
use Rattle.octets.proofs.Below.{both_test}
use Rattle.octets.proofs.Compare.{equals_refl}
use Rattle.command.specs.Meaning.{id_of, file_id_of}
use Rattle.protocol.specs.Written.{piece_values}
use Rattle.protocol.specs.History.{Command, Heard, Mark, Question}
use Rattle.protocol.specs.Stretches.{Key, is_for, start_at, since, parts}
use Rattle.protocol.proofs.Marks.{file-other, part-other, starts_other}
use Rattle.sending.specs.Commands.{file_values}
use Rattle.sending.specs.Plans.{File, joined_with, contents_of}
use Rattle.sending.specs.Arrives.{closes_by, closed_in}
use Rattle.sending.proofs.arrival.lists.Members.{not-true}
use Rattle.sending.proofs.arrival.history.Marks.{done_by, piece_marks, start_marks, file_marks}

-- ---- what the history has since the start of a file by the command c: parts, and whether the last one is among them
pub record Since (k : Key) (c : Command) (got : List ℕ) (closed : Bool) (m : List Mark) : Type 0 where
  pub marks : List Mark
  pub started : since k m ≡ Some (record { command = c; marks = marks })
  pub whole : parts k marks ≡ got
  pub shut : closed_in k marks ≡ closed

closes-other : (k : Key) (d : Command) (a : Heard) → is_for k d ≡ false → closes_by k (Mark.answer true (Question.asks d a)) ≡ false
closes-other k d Heard.opens e = refl
closes-other k d (Heard.writes p) e = refl
closes-other k d (Heard.writes_last p) e = e
closes-other k d Heard.commits e = refl
closes-other k d Heard.requests e = refl

module _ {k : Key} {c : Command} {got : List ℕ} {closed : Bool} {m : List Mark} where
  -- what is read, asked and answered done after the start
  further : (d : Command) (a : Heard) (p : List ℕ) (b : Bool) → start_at k (Mark.answer true (Question.asks d a)) ≡ None
      → parts k (Mark.answer true (Question.asks d a) ∷ []) ≡ p → closes_by k (Mark.answer true (Question.asks d a)) ≡ b
      → Since k c got closed m → Since k c (got ++ p) (b || closed) (done_by d a m)
  further d a p b none part last s =
      record {
        marks = done_by d a s.marks;
        started = rw (none, s.started);
        whole = rw (s.whole, part);
        shut = rw (last, s.shut);
      }

  -- for another file, and a commit
  other : (d : Command) (a : Heard) → is_for k d ≡ false → Since k c got closed m → Since k c got closed (done_by d a m)
  other d a e s =
      rw (append-nil got) at
      (further d a [] false (rw (starts_other k d a e)) (part-other k d a e) (closes-other k d a e) s)

  commit : (d : Command) → Since k c got closed m → Since k c got closed (done_by d Heard.commits m)
  commit d s = rw (append-nil got) at (further d Heard.commits [] false refl refl refl s)

module _ (id k : List ℕ) where
  abbrev pub key : Key
  key = record { id = id; file = k }

  own : (d : Command) → id_of d ≡ id → file_id_of d ≡ k → is_for key d ≡ true
  own d i j = rw (i, j, equals_refl id, equals_refl k)

  -- its own pieces
  pieces-own : (ps : List (List ℕ)) (last : List ℕ) {c : Command} {got : List ℕ} {m : List Mark}
      → Since key c got false m → Since key c (got ++ joined_with ps last) true (piece_marks id k ps last m)
  pieces-own [] last s =
      let mine = own (piece_values id k last true) refl refl in
      further (piece_values id k last true) (Heard.writes_last last) last true refl (rw mine) mine s
  pieces-own (p ∷ ps) last {c} {got} {m} s =
      let mine = own (piece_values id k p false) refl refl in
      let t = further (piece_values id k p false) (Heard.writes p) p false refl (rw mine) refl s in
      rw (append_assoc got p (joined_with ps last)) at (pieces-own ps last t)

  -- those of another file
  module _ (k' : List ℕ) (e : equals k k' ≡ false) where
    pieces-other : (ps : List (List ℕ)) (last : List ℕ) {c : Command} {got : List ℕ} {closed : Bool} {m : List Mark}
        → Since key c got closed m → Since key c got closed (piece_marks id k' ps last m)
    pieces-other [] last s = other _ _ (file-other key (piece_values id k' last true) e) s
    pieces-other (p ∷ ps) last s = pieces-other ps last (other _ _ (file-other key (piece_values id k' p false) e) s)

  -- all later ones, and the commit
  files-later : (fs : List File) {c : Command} {got : List ℕ} {closed : Bool} {m : List Mark}
      → every (λ j. not (equals k j)) (map (λ (f : File). f.id) fs) ≡ true
      → Since key c got closed m → Since key c got closed (file_marks id fs m)
  unfolding every
  files-later [] e s = commit _ s
  files-later (f ∷ fs) e s =
      let b = both_test (not (equals k f.id)) _ e in
      let n = not-true (equals k f.id) b.0 in
      files-later fs b.1
      (pieces-other f.id n f.pieces f.last (other _ _ (file-other key (file_values id f.id f.name f.size) n) s))

-- a file, from its start on
pub file-since : (id : List ℕ) (f : File) (fs : List File) (m : List Mark)
    → every (λ j. not (equals f.id j)) (map (λ (f : File). f.id) fs) ≡ true
    → Since (key id f.id) (file_values id f.id f.name f.size) (contents_of f) true (file_marks id (f ∷ fs) m)
file-since id f fs m e = files-later id f.id fs e (pieces-own id f.id f.pieces f.last start)
  where
    c : Command
    c = file_values id f.id f.name f.size

    start : Since (key id f.id) c [] false (start_marks id f m)
    start = record { marks = []; started = rw (own id f.id c refl refl); whole = refl; shut = refl }
