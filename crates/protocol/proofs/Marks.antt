-- How each mark of the history moves a file's part of the invariant, and a session's.
use Prim.Native.Nat.{ℕ, ◌+◌}
use mathlib.Core.Path.{◌≡◌, refl, sym, ap, ◌∙◌}
use mathlib.Core.Bool.{Bool, true, false, not, cond, ◌&&◌, ◌||◌}
use mathlib.Core.List.{List, [], ◌∷◌, ◌++◌, append-nil}
use native.Mathlib.Nat.{add-zero}
use lib.ListN.{length, length-append}
use Rattle.std.specs.Prelude.{Option, Some, None}
use Rattle.octets.specs.Slices.{equals}
use Rattle.command.specs.Meaning.{id_of, file_id_of}
use Rattle.protocol.specs.Table.{file_at}
use Rattle.protocol.specs.Table as Table
use Rattle.protocol.specs.History.{Command, Heard, Mark, hearing_mark, Part, Question, last_ask}
use Rattle.protocol.specs.Stretches.{Key, is_for, is_data, is_end, is_regular, is_file, starts_for, part_for, content_for, declared_in}
use Rattle.protocol.specs.Stretches.{Stretch, start_at, longer, onward, since, parts, contents, allows, allowed_in, start_stands, stands}
use Rattle.protocol.specs.Supplied.{wants}
use Rattle.protocol.specs.declared.FileState.TheVariants as FileState
use Rattle.protocol.specs.declared.SessionState.{SessionState}
use Rattle.protocol.specs.declared.Session.{Session}
use Rattle.protocol.proofs.Laws.{no_way, both_false}
use Rattle.protocol.proofs.Invariant.{key_of, file_key, FileOK, RecordOK, NoneStands, commits_for, Holds, standing, committing}
use Rattle.protocol.proofs.Invariant.{is_supplied, SessionOK, Served}

-- ---- of which commands and asks a file has nothing
-- what an ask, if one was heard, hands over for the file of the command read
abbrev pub handed : Key → Command → Option Heard → List ℕ
handed k d None = []
handed k d (Some a) = part_for k (Question.asks d a)

abbrev pub is_heard : Option Heard → Bool
is_heard None = false
is_heard (Some a) = true

pub id_other : (k : Key) (d : Command) → equals k.id (id_of d) ≡ false → is_for k d ≡ false
id_other k d e = rw e

pub file-other : (k : Key) (d : Command) → equals k.file (file_id_of d) ≡ false → is_for k d ≡ false
file-other k d e = rw e (both_false (equals k.id (id_of d)))

pub content-other : (k : Key) (d : Command) → is_for k d ≡ false → content_for k d ≡ []
content-other k d e = rw (e, both_false (is_data d))

pub content-none : (k : Key) (d : Command) → is_data d ≡ false → content_for k d ≡ []
content-none k d e = rw e

pub part-other : (k : Key) (d : Command) (a : Heard) → is_for k d ≡ false → part_for k (Question.asks d a) ≡ []
part-other k d Heard.opens e = refl
part-other k d (Heard.writes p) e = rw e
part-other k d (Heard.writes_last p) e = rw e
part-other k d Heard.commits e = refl
part-other k d Heard.requests e = refl

handed-other : (k : Key) (d : Command) (x : Option Heard) → is_for k d ≡ false → handed k d x ≡ []
handed-other k d None e = refl
handed-other k d (Some a) e = part-other k d a e

pub starts_other : (k : Key) (d : Command) (a : Heard) → is_for k d ≡ false → starts_for k (Question.asks d a) ≡ false
starts_other k d Heard.opens e = rw (e, both_false (is_regular d)) (both_false (is_file d))
starts_other k d (Heard.writes p) e = refl
starts_other k d (Heard.writes_last p) e = refl
starts_other k d Heard.commits e = refl
starts_other k d Heard.requests e = refl

pub commits-other : (i : List ℕ) (d : Command) (a : Heard) → equals i (id_of d) ≡ false → commits_for i (Question.asks d a) ≡ false
commits-other i d Heard.opens e = refl
commits-other i d (Heard.writes p) e = refl
commits-other i d (Heard.writes_last p) e = refl
commits-other i d Heard.commits e = e
commits-other i d Heard.requests e = refl

no_start : (k : Key) (q : Question) → starts_for k q ≡ false → start_at k (Mark.answer true q) ≡ None
no_start k Question.none e = refl
no_start k (Question.asks d a) e = rw e

-- ---- a file
module _ {m : List Mark} {k : Key} {n l : ℕ} where
  -- a command read, whose content is what is then handed over: for every key
  pub file-read : (d : Command) (x : Option Heard) → content_for k d ≡ handed k d x → FileOK false m k n l
      → FileOK (is_heard x) (hearing_mark x (Mark.read d ∷ m)) k n l
  file-read d None e f =
      record {
        stretch = longer (Mark.read d) f.stretch;
        started = rw f.started;
        joined = rw (e, append-nil (contents k f.stretch.marks)) f.joined;
        counted = f.counted;
        declares = f.declares;
      }
  file-read d (Some a) e f =
      record {
        stretch = longer (Mark.asked a) (longer (Mark.read d) f.stretch);
        started = rw f.started;
        joined = rw (e, f.joined, append-nil (parts k f.stretch.marks));
        counted = f.counted;
        declares = f.declares;
      }

  -- an ask answered done that is not the file's open: what was pending is now among the parts, for every key
  pub file-done : (q : Question) → last_ask m ≡ q → starts_for k q ≡ false → FileOK true m k n l
      → FileOK false (Mark.answer true (last_ask m) ∷ m) k (n + length (part_for k q)) l
  file-done q ask e f =
      record {
        stretch = longer (Mark.answer true q) f.stretch;
        started = rw (ask, no_start k q e, f.started);
        joined = rw (append-nil (parts k f.stretch.marks ++ part_for k q)) (rw ask at f.joined);
        counted = rw (length-append (parts k f.stretch.marks) (part_for k q)) (ap (λ (x : ℕ). x + length (part_for k q)) f.counted);
        declares = f.declares;
      }

  -- an ask failed that handed over nothing for the file
  file-failed : (q : Question) → last_ask m ≡ q → part_for k q ≡ [] → FileOK true m k n l
      → FileOK false (Mark.answer false (last_ask m) ∷ m) k n l
  file-failed q ask e f =
      record {
        stretch = longer (Mark.answer false (last_ask m)) f.stretch;
        started = rw f.started;
        joined = rw (ask, e) at f.joined;
        counted = f.counted;
        declares = f.declares;
      }

-- an answer to an ask for another file
pub file-answered : {m : List Mark} {k : Key} {n l : ℕ} (d : Command) (a : Heard) (v : Bool) → last_ask m ≡ Question.asks d a
    → is_for k d ≡ false → FileOK true m k n l → FileOK false (Mark.answer v (last_ask m) ∷ m) k n l
file-answered {m} {k} {n} d a true ask e f =
    rw (part-other k d a e, add-zero n) at (file-done (Question.asks d a) ask (starts_other k d a e) f)
file-answered {m} {k} {n} d a false ask e f = file-failed (Question.asks d a) ask (part-other k d a e) f

-- the open of a regular file answered done: it starts with nothing, and with what its command declared
pub file-starts : {m : List Mark} {k : Key} {l : ℕ} (d : Command) (a : Heard) → last_ask m ≡ Question.asks d a
    → starts_for k (Question.asks d a) ≡ true → l ≡ declared_in d → FileOK false (Mark.answer true (last_ask m) ∷ m) k 0 l
file-starts d a ask e declares =
    record {
      stretch = record { command = d; marks = [] };
      started = rw (ask, e);
      joined = refl;
      counted = refl;
      declares = declares;
    }

-- ---- a file of which no start stands
none-onward : (k : Key) (x : Mark) (s : Option Stretch) → start_stands k s ≡ false → start_stands k (onward x s) ≡ false
none-onward k x None e = refl
none-onward k x (Some s) e = go (allows k.id x)
  where
    go : (b : Bool) → not (b || allowed_in k.id s.marks) ≡ false
    go true = refl
    go false = e

-- an allow of its session ends every start
pub none_allowed : (k : Key) (i : List ℕ) (s : Option Stretch) → equals k.id i ≡ true → start_stands k (onward (Mark.allow i) s) ≡ false
none_allowed k i None e = refl
none_allowed k i (Some s) e = rw e

pub none_read : (m : List Mark) (k : Key) (d : Command) (x : Option Heard) → NoneStands m k
    → NoneStands (hearing_mark x (Mark.read d ∷ m)) k
none_read m k d None e = none-onward k (Mark.read d) (since k m) e
none_read m k d (Some a) e =
    none-onward k (Mark.asked a) (onward (Mark.read d) (since k m)) (none-onward k (Mark.read d) (since k m) e)

pub none-noted : (m : List Mark) (k : Key) (i : List ℕ) → NoneStands m k → NoneStands (Mark.allow i ∷ m) k × NoneStands (Mark.drop i ∷ m) k
none-noted m k i e = (none-onward k (Mark.allow i) (since k m) e, none-onward k (Mark.drop i) (since k m) e)

pub none-wrote : (m : List Mark) (k : Key) (p : Option Part) (bs : List ℕ) → NoneStands m k → NoneStands (Mark.wrote p bs ∷ m) k
none-wrote m k p bs e = none-onward k (Mark.wrote p bs) (since k m) e

-- an answer to an ask for another file
pub none-answered : (m : List Mark) (k : Key) (d : Command) (a : Heard) (v : Bool) → last_ask m ≡ Question.asks d a → is_for k d ≡ false
    → NoneStands m k → NoneStands (Mark.answer v (last_ask m) ∷ m) k
none-answered m k d a false ask e f = none-onward k (Mark.answer false (last_ask m)) (since k m) f
none-answered m k d a true ask e f = rw (ask, starts_other k d a e) (none-onward k (Mark.answer true (Question.asks d a)) (since k m) f)

-- ---- a session
pub holds_read : {i : List ℕ} {m : List Mark} (d : Command) (x : Option Heard) → (is_end d && equals i (id_of d)) ≡ false
    → Holds false i m → Holds (is_heard x) i (hearing_mark x (Mark.read d ∷ m))
holds_read d None e (standing h) = standing (rw e h)
holds_read d (Some a) e (standing h) = standing (rw e h)
holds_read d x e (committing f g) = no_way (sym f)

pub holds-answered : {i : List ℕ} {m : List Mark} (q : Question) (v : Bool) → last_ask m ≡ q → commits_for i q ≡ false → Holds true i m
    → Holds false i (Mark.answer v (last_ask m) ∷ m)
holds-answered q v ask e (standing h) = standing h
holds-answered q v ask e (committing f g) = no_way (sym (rw ask at g) ∙ e)

-- it goes on standing
pub stands_read : (i : List ℕ) (m : List Mark) (d : Command) (x : Option Heard) → (is_end d && equals i (id_of d)) ≡ false
    → stands i m ≡ true → stands i (hearing_mark x (Mark.read d ∷ m)) ≡ true
stands_read i m d None e h = rw e h
stands_read i m d (Some a) e h = rw e h

-- ---- what an open session keeps, if it goes on standing and its started files go on
pub session_map : {b b' : Bool} {m m' : List Mark} {s : Session}
    → (s.state ≡ SessionState.Open → Holds b (Table.id_of s) m → Holds b' (Table.id_of s) m')
    → (s.state ≡ SessionState.Open → (j : ℕ) → (file_at s j).state ≡ FileState.Started
    → RecordOK b m s (file_at s j) → RecordOK b' m' s (file_at s j))
    → (s.state ≡ SessionState.Open → (f : List ℕ) → NoneStands m (file_key s f) → NoneStands m' (file_key s f))
    → (is_supplied s.state ≡ true → stands (Table.id_of s) m ≡ true → stands (Table.id_of s) m' ≡ true)
    → SessionOK b m s → SessionOK b' m' s
session_map h f g k o =
    record {
      sends = λ e. let p = o.sends e in
          record { stand = h e p.stand; each = λ j u. f e j u (p.each j u); unstarted = λ n u. g e n (p.unstarted n u) };
      serves = λ e. k e (o.serves e);
    }

-- a command read, whose content is what is then handed over
pub session-heard : (d : Command) (m : List Mark) (x : Option Heard) (s : Session)
    → (s.state ≡ SessionState.Open → Holds false (Table.id_of s) m → Holds (is_heard x) (Table.id_of s) (hearing_mark x (Mark.read d ∷ m)))
    → (s.state ≡ SessionState.Open → (j : ℕ) → (file_at s j).state ≡ FileState.Started
    → let k = key_of s (file_at s j) in content_for k d ≡ handed k d x)
    → (is_supplied s.state ≡ true → (is_end d && equals (Table.id_of s) (id_of d)) ≡ false)
    → SessionOK false m s → SessionOK (is_heard x) (hearing_mark x (Mark.read d ∷ m)) s
session-heard d m x s h f e =
    session_map h (λ o j g. file-read d x (f o j g)) (λ _ n. none_read m (file_key s n) d x) (λ o. stands_read (Table.id_of s) m d x (e o))

-- one that is open, of either kind, is present
pub open-used : {g : SessionState} → g ≡ SessionState.Open → Table.is_present g ≡ true
open-used e = ap Table.is_present e

pub supplied-used : (g : SessionState) → is_supplied g ≡ true → Table.is_present g ≡ true
supplied-used SessionState.Absent e = no_way (sym e)
supplied-used SessionState.Asked e = refl
supplied-used SessionState.Open e = refl
supplied-used SessionState.Naming e = refl
supplied-used SessionState.Waiting e = refl
supplied-used SessionState.Listing e = refl
supplied-used SessionState.Serving e = refl

-- one for another session
pub session-read : (d : Command) (m : List Mark) (x : Option Heard) (s : Session)
    → (Table.session_used s ≡ true → equals (Table.id_of s) (id_of d) ≡ false)
    → SessionOK false m s → SessionOK (is_heard x) (hearing_mark x (Mark.read d ∷ m)) s
session-read d m x s other =
    session-heard d m x s (λ o. holds_read d x (not-ended (open-used o)))
    (λ o j _. let k = key_of s (file_at s j) in
    let e = id_other k d (other (open-used o)) in
    content-other k d e ∙ sym (handed-other k d x e))
    (λ o. not-ended (supplied-used s.state o))
  where
    not-ended : Table.session_used s ≡ true → (is_end d && equals (Table.id_of s) (id_of d)) ≡ false
    not-ended u = rw (other u) (both_false (is_end d))

-- an answer to an ask for another session
pub session-answered : {m : List Mark} (d : Command) (a : Heard) (v : Bool) → last_ask m ≡ Question.asks d a → (s : Session)
    → (Table.session_used s ≡ true → equals (Table.id_of s) (id_of d) ≡ false)
    → SessionOK true m s → SessionOK false (Mark.answer v (last_ask m) ∷ m) s
session-answered {m} d a v ask s other =
    session_map (λ o. holds-answered (Question.asks d a) v ask (commits-other (Table.id_of s) d a (other (open-used o))))
    (λ o j _. file-answered d a v ask (id_other (key_of s (file_at s j)) d (other (open-used o))))
    (λ o f. none-answered m (file_key s f) d a v ask (id_other (file_key s f) d (other (open-used o))))
    (λ _ h. h)

-- ---- what was supplied and written: a command read, and an ask heard or none
pub served-read : (m : List Mark) (d : Command) (x : Option Heard) → Served m → Served (hearing_mark x (Mark.read d ∷ m))
served-read m d None h k = h k
served-read m d (Some a) h k = ap (λ (l : List Part). cond (wants k (Question.asks d a)) [] l) (h k)
