-- One session and what is due for it stay sound at a change: no table, and no place in it.
use Prim.Native.Nat.{ℕ, ◌+◌, ◌≤◌, ◌<◌}
use mathlib.Core.Path.{◌≡◌, refl, sym, ap, ◌∙◌}
use mathlib.Core.Bool.{Bool, true, false}
use mathlib.Core.Logic.{inl, inr}
use mathlib.Core.List.{List}
use native.Mathlib.Omega.{arith}
use lib.ListN.{length, length-set}
use lib.Seq.{get_or-set_same}
use Rattle.std.proofs.lemmas.Option.{none-some}
use Rattle.std.specs.Prelude.{Option, Some, None}
use Rattle.protocol.specs.Table.{file_room, free_file, no_files, absent_session, no_file, file_at, id_of, file_id_of, padded, is_present}
use Rattle.protocol.specs.Table.{is_used, session_used, file_used, with_state, put_file, moved}
use Rattle.protocol.specs.Change.{change, tells, asks, opens, drops, turns, edited}
use Rattle.protocol.specs.Files.{opening, settled, failed_file, count_limit}
use Rattle.protocol.specs.Receives.{named, request_of}
use Rattle.protocol.specs.Sessions.{asked_session, naming_session}
use Rattle.protocol.specs.Rule.{grown}
use Rattle.protocol.specs.Sound.{IsId, IsFileId, Held, SoundFile, FileIs, PartFits, Fits, due_in, DueFits, opens_at, FileFor}
use Rattle.protocol.specs.Sound.{Counted, SoundSession}
use Rattle.protocol.specs.declared.FileState.{FileState}
use Rattle.protocol.specs.declared.FileRecord.{FileRecord}
use Rattle.protocol.specs.declared.SessionState.{SessionState}
use Rattle.protocol.specs.declared.Session.{Session}
use Rattle.protocol.specs.declared.Due.{Due}
use Rattle.protocol.specs.declared.Status.{Status}
use Rattle.protocol.specs.declared.Told.{Told}
use Rattle.protocol.specs.declared.Reply.{Reply}
use Rattle.protocol.specs.declared.Edit.TheVariants as Edit
use Rattle.protocol.specs.declared.News.{News}
use Rattle.protocol.specs.declared.Change.{Change}
use Rattle.protocol.proofs.Counts.{put-counted}
use Rattle.protocol.proofs.Laws.{is_past, past-used, no_way, set_at, set-each, set-unique, replicate-each, padded-id}

-- ---- what it is that a change keeps a session sound
-- what is due for it afterwards
abbrev pub due_after : Option Due → News → Option Due
due_after due (News.Tells w) = due
due_after due (News.Clears w) = None
due_after due (News.Asks d) = Some d

abbrev pub asks_something : News → Bool
asks_something (News.Tells w) = false
asks_something (News.Clears w) = false
asks_something (News.Asks d) = true

abbrev pub edited_by : Session → Change → Session
edited_by s c = edited s c.file c.edit

-- a session left present was so before, with the same id; only while the table is idle (nothing owed) may a change ask something
pub record Steps (idle : Bool) (s : Session) (due : Option Due) (c : Change) : Type 0 where
  pub sound : SoundSession (edited_by s c) (due_after due c.news)
  pub same_id : session_used (edited_by s c) ≡ true → (session_used s ≡ true) × (id_of (edited_by s c) ≡ id_of s)
  pub asking : asks_something c.news ≡ true → idle ≡ true

-- ---- file records
free-file : SoundFile free_file
free-file = record { blank = λ _. refl; named = λ e. no_way (sym e); filled = refl; counted = omega arith; held = tt }

free-at : (j : ℕ) → file_at absent_session j ≡ free_file
free-at = replicate-each (λ (f : FileRecord). f ≡ free_file) refl refl file_room

opening-file : (k : List ℕ) (d : ℕ) → IsId k → SoundFile (opening k d)
opening-file k d id =
    let e = padded-id k id.short in
    record {
      blank = λ z. no_way z;
      named = λ _. rw e (record { safe = id.safe; some = λ _. id.some; short = id.short });
      filled = ap padded (sym e);
      counted = omega arith;
      held = refl;
    }

named-file : (k : List ℕ) → IsFileId FileState.Named k → SoundFile (named k)
named-file k id =
    let e = padded-id k id.short in
    record { blank = λ z. no_way z; named = λ _. rw e id; filled = ap padded (sym e); counted = omega arith; held = refl }

-- it was not one that is only named
moved-file : {f : FileRecord} → SoundFile f → file_used f ≡ true → (f.state ≡ FileState.Named → ⊥) → (g : FileState) → is_past g ≡ true
    → (n : ℕ) → n ≤ count_limit → Held g n f.declared → SoundFile (moved f g n)
moved-file ok used known g past n le held =
    let id = ok.named used in
    record {
      blank = λ z. no_way (sym (past-used g past) ∙ z);
      named = λ _. record { safe = id.safe; some = λ _. id.some known; short = id.short };
      filled = ok.filled;
      counted = le;
      held = held;
    }

-- a file that fails keeps its count
failed-held : (g : FileState) (n d : ℕ) → is_used g ≡ true → Held g n d → Held FileState.Failed n d
failed-held FileState.Free n d u h = no_way (sym u)
failed-held FileState.Opening n d u h = λ some. omega arith
failed-held FileState.Started n d u h = h
failed-held FileState.Done n d u h = λ some. let e = h some in omega arith
failed-held FileState.Failed n d u h = h
failed-held FileState.Named n d u h = λ some. omega arith

-- the count with a part that fits: the cap is not met
pub grown-fits : {s : Session} {g : FileState} {j n : ℕ} → PartFits s g j n → grown s j n ≡ (file_at s j).count + n
grown-fits p = let fits = p.fits in omega arith

pub grown-held : {s : Session} {g : FileState} {j n : ℕ} → PartFits s g j n → Held g (grown s j n) (file_at s j).declared
grown-held p = rw (grown-fits p) p.held

-- ---- a session without files, and nothing due
-- a free record is right in every state
free_for : (g : SessionState) (j : ℕ) {f : FileRecord} → f ≡ free_file → FileFor g j f
free_for SessionState.Absent j e = e
free_for SessionState.Asked j e = e
free_for SessionState.Open j e = λ n. no_way (sym (ap is_used n) ∙ ap file_used e)
free_for SessionState.Naming j e = inl e
free_for SessionState.Waiting j e = e
free_for SessionState.Listing j e = e
free_for SessionState.Serving j e = inl e

fileless : {s : Session} → length s.files ≡ file_room → ((j : ℕ) → file_at s j ≡ free_file)
    → (session_used s ≡ false → s ≡ absent_session) → (session_used s ≡ true → IsId (id_of s)) → s.id.bytes ≡ padded (id_of s) → s.quiet ≤ 2
    → Counted s → SoundSession s None
fileless {s} room free blank named filled quiet counted =
    record {
      room = room;
      blank = blank;
      file_for = λ j. free_for s.state j (free j);
      named = named;
      filled = filled;
      quiet = quiet;
      alone = λ j j' p _ _. no_way (sym p ∙ ap file_used (free j));
      each = λ j. rw (free j) free-file;
      counted = counted;
      opening = λ j e. no_way (ap is_used (sym e) ∙ ap file_used (free j));
      fits = tt;
    }

pub absent-sound : SoundSession absent_session None
absent-sound =
    fileless refl free-at (λ _. refl) (λ e. no_way (sym e)) refl (omega arith) (record { started = refl; done_bytes = refl })

-- a present session with that id and quiet, in any state, and wanting any number of paths
abbrev emptied : SessionState → (wanted : ℕ) → Session → Session
emptied g n s =
    record {
      state = g;
      quiet = s.quiet;
      id = s.id;
      wanted = n;
      started = 0;
      done_bytes = 0;
      files = no_files;
    }

emptied-sound : (g : SessionState) → is_present g ≡ true → (n : ℕ) (s : Session) → IsId (id_of s) → s.id.bytes ≡ padded (id_of s)
    → s.quiet ≤ 2 → SoundSession (emptied g n s) None
emptied-sound g p n s id filled quiet =
    fileless refl free-at (λ z. no_way (sym p ∙ z)) (λ _. id) filled quiet (record { started = refl; done_bytes = refl })

module _ (quiet : ℕ) (k : List ℕ) (le : quiet ≤ 2) (id : IsId k) where
  new-sound : (g : SessionState) → is_present g ≡ true → (n : ℕ) → SoundSession (emptied g n (asked_session quiet k)) None
  new-sound g p n =
      let e = padded-id k id.short in
      emptied-sound g p n (asked_session quiet k) (rw e id) (ap padded (sym e)) le

  pub asked-sound : SoundSession (asked_session quiet k) None
  asked-sound = new-sound SessionState.Asked refl 0

  pub naming-sound : (n : ℕ) → SoundSession (naming_session (asked_session quiet k) n) None
  naming-sound n = new-sound SessionState.Naming refl n

-- ---- changes
pub tells-steps : {idle : Bool} {s : Session} {due : Option Due} (w : Told) (r : Option Reply) → SoundSession s due
    → Steps idle s due (tells w r)
tells-steps w r ok = record { sound = ok; same_id = λ u. (u, refl); asking = λ e. no_way (sym e) }

pub drops-steps : {idle : Bool} {s : Session} {due : Option Due} (w : Told) (r : Option Reply) → Steps idle s due (drops w r)
drops-steps w r = record { sound = absent-sound; same_id = λ u. no_way (sym u); asking = λ e. no_way (sym e) }

-- the last path is named
pub waits-steps : {idle : Bool} {s : Session} (w : Told) (r : Option Reply) → SoundSession s None → s.state ≡ SessionState.Naming
    → Steps idle s None (change Edit.Waits no_file (News.Tells w) r)
waits-steps {s = s} w r ok o =
    let used : session_used s ≡ true = ap is_present o in
    record {
      sound = emptied-sound SessionState.Waiting refl s.wanted s (ok.named used) ok.filled ok.quiet;
      same_id = λ _. (used, refl);
      asking = λ e. no_way (sym e);
    }

-- the same session with something else due, or nothing
redue : {s : Session} {due : Option Due} (next : Option Due) → SoundSession s due
    → ((j : ℕ) → opens_at due ≡ Some j → opens_at next ≡ Some j) → DueFits s next → SoundSession s next
redue next ok opens fits =
    record {
      room = ok.room;
      blank = ok.blank;
      file_for = ok.file_for;
      named = ok.named;
      filled = ok.filled;
      quiet = ok.quiet;
      alone = ok.alone;
      each = ok.each;
      counted = ok.counted;
      opening = λ j e. opens j (ok.opening j e);
      fits = fits;
    }

-- a request is settled
pub clears-steps : {idle : Bool} {s : Session} (w : Told) (r : Option Reply) → SoundSession s (Some Due.Request)
    → Steps idle s (Some Due.Request) (change Edit.Same no_file (News.Clears w) r)
clears-steps w r ok = record { sound = redue None ok (λ j e. e) tt; same_id = λ u. (u, refl); asking = λ e. no_way (sym e) }

-- ---- a session turned to another state
-- the states in which a session has no file, and nothing is due for it
abbrev pub is_shut : SessionState → Bool
is_shut SessionState.Absent = true
is_shut SessionState.Asked = true
is_shut SessionState.Open = false
is_shut SessionState.Naming = false
is_shut SessionState.Waiting = true
is_shut SessionState.Listing = true
is_shut SessionState.Serving = false

shut-free : (g : SessionState) → is_shut g ≡ true → (j : ℕ) {f : FileRecord} → FileFor g j f → f ≡ free_file
shut-free SessionState.Absent e j h = h
shut-free SessionState.Asked e j h = h
shut-free SessionState.Open e j h = no_way (sym e)
shut-free SessionState.Naming e j h = no_way (sym e)
shut-free SessionState.Waiting e j h = h
shut-free SessionState.Listing e j h = h
shut-free SessionState.Serving e j h = no_way (sym e)

due-open : (d : Due) → is_shut (due_in d) ≡ false
due-open (Due.OpenFile j) = refl
due-open (Due.OpenDirectory j) = refl
due-open (Due.Write j n) = refl
due-open (Due.WriteLast j n) = refl
due-open Due.Commit = refl
due-open Due.Request = refl

pub due-present : (d : Due) → is_present (due_in d) ≡ true
due-present (Due.OpenFile j) = refl
due-present (Due.OpenDirectory j) = refl
due-present (Due.Write j n) = refl
due-present (Due.WriteLast j n) = refl
due-present Due.Commit = refl
due-present Due.Request = refl

pub turns-steps : {idle : Bool} {s : Session} {due : Option Due} (g : SessionState) (r : Option Reply) → SoundSession s due
    → is_shut s.state ≡ true → session_used s ≡ true → is_present g ≡ true → Steps idle s due (turns g r)
turns-steps {s = s} {due} g r ok shut used p =
    record { sound = go due ok; same_id = λ _. (used, refl); asking = λ e. no_way (sym e) }
  where
    go : (due : Option Due) → SoundSession s due → SoundSession (with_state s g) due
    go None k =
        fileless k.room (λ j. shut-free s.state shut j (k.file_for j)) (λ e. no_way (sym p ∙ e)) (λ _. k.named used) k.filled
        k.quiet (record { started = k.counted.started; done_bytes = k.counted.done_bytes })
    go (Some d) k = no_way (sym shut ∙ ap is_shut k.fits.0 ∙ due-open d)

-- ---- a file record put in a session
module _ {s : Session} {due : Option Due} (ok : SoundSession s due) (present : session_used s ≡ true) where
  -- at a place, while no other file is opening
  put-file : (j : ℕ) (f : FileRecord) (next : Option Due) → j < length s.files → SoundFile f → FileFor s.state j f
      → ((n : ℕ) → (n ≡ j → ⊥) → file_used (file_at s n) ≡ true → file_id_of (file_at s n) ≡ file_id_of f → ⊥)
      → ((n : ℕ) → opens_at due ≡ Some n → n ≡ j)
      → (f.state ≡ FileState.Opening → opens_at next ≡ Some j)
      → DueFits (put_file s j f) next
      → SoundSession (put_file s j f) next
  put-file j f next h file mine new only here fits =
      record {
        room = length-set s.files j f ∙ ok.room;
        blank = λ e. no_way (sym present ∙ e);
        file_for = set_at (FileFor s.state) no_file s.files j f h mine (λ n _. ok.file_for n);
        named = ok.named;
        filled = ok.filled;
        quiet = ok.quiet;
        alone = set-unique file_used file_id_of no_file s.files j f h ok.alone (λ _. new);
        each = each;
        counted = put-counted s j f ok.room each ok.counted;
        opening =
            set_at (λ (n : ℕ) (x : FileRecord). x.state ≡ FileState.Opening → opens_at next ≡ Some n) no_file s.files j f h here
            (λ n r e. absurd (r (only n (ok.opening n e))));
        fits = fits;
      }
    where
      each : (n : ℕ) → SoundFile (file_at (put_file s j f) n)
      each = set-each SoundFile no_file s.files j f h file (λ n _. ok.each n)

module _ {s : Session} {due : Option Due} (ok : SoundSession s due) (o : s.state ≡ SessionState.Open) where
  -- the record j, which is used and the only one that may be opening, moves past its opening
  pub settled-steps : {idle : Bool} (j : ℕ) (old : FileState) → is_used old ≡ true → FileIs s j old
      → ((n : ℕ) → opens_at due ≡ Some n → n ≡ j)
      → (g : FileState) → is_past g ≡ true → (n : ℕ) → n ≤ count_limit → Held g n (file_at s j).declared → (w : Status) (size : ℕ)
      → Steps idle s due (settled s j g n w size)
  settled-steps j old u at only g past n le held w size =
      record {
        sound =
            put-file ok present j (moved (file_at s j) g n) None at.within
            (moved-file (ok.each j) used (rw o at (ok.file_for j)) g past n le held) (rw o (λ e. no_way (sym past ∙ ap is_past e)))
            (λ i r p e. r (ok.alone i j p used e)) only (λ e. no_way (sym past ∙ ap is_past e)) tt;
        same_id = λ _. (present, refl);
        asking = λ e. no_way (sym e);
      }
    where
      present : session_used s ≡ true
      present = ap is_present o

      used : file_used (file_at s j) ≡ true
      used = ap is_used at.state ∙ u

  pub file-failed-steps : {idle : Bool} (j : ℕ) (old : FileState) → is_used old ≡ true → FileIs s j old
      → ((n : ℕ) → opens_at due ≡ Some n → n ≡ j) → (w : Status) → Steps idle s due (failed_file s j w)
  file-failed-steps j old u at only w =
      let f = ok.each j in
      settled-steps j old u at only FileState.Failed refl (file_at s j).count f.counted
      (failed-held (file_at s j).state (file_at s j).count (file_at s j).declared (ap is_used at.state ∙ u) f.held) w 0

-- nothing was due, so no file is opening
pub none-opens : {n j : ℕ} → opens_at None ≡ Some n → n ≡ j
none-opens {n} e = absurd (none-some n e)

-- a record that is only named does not open
named-opening : {A : Type 0} → FileState.Named ≡ FileState.Opening → A
named-opening e = let z : ◌≡◌ {A = ℕ} 0 1 = cc in absurd (omega arith)

module _ {s : Session} (ok : SoundSession s None) where
  pub asks-steps : (d : Due) → s.state ≡ due_in d → Fits s d → Steps true s None (asks d)
  asks-steps d o fits =
      record {
        sound = redue (Some d) ok (λ j e. absurd (none-some j e)) (o, fits);
        same_id = λ u. (u, refl);
        asking = λ _. refl;
      }

  -- a new record, whatever is told or asked of it
  files-steps : (present : session_used s ≡ true) (j : ℕ) (f : FileRecord) (w : News) (r : Option Reply) → j < length s.files → SoundFile f
      → FileFor s.state j f
      → ((n : ℕ) → (n ≡ j → ⊥) → file_used (file_at s n) ≡ true → file_id_of (file_at s n) ≡ file_id_of f → ⊥)
      → (f.state ≡ FileState.Opening → opens_at (due_after None w) ≡ Some j)
      → (file_at (put_file s j f) j ≡ f → FileIs (put_file s j f) j f.state → DueFits (put_file s j f) (due_after None w))
      → Steps true s None (change (Edit.Filed j) f w r)
  files-steps present j f w r h file mine new here fits =
      record {
        sound =
            put-file ok present j f (due_after None w) h file mine new (λ n. none-opens) here
            (fits same (record { within = rw length-set h; state = ap (λ (x : FileRecord). x.state) same }));
        same_id = λ _. (present, refl);
        asking = λ _. refl;
      }
    where
      same : file_at (put_file s j f) j ≡ f
      same = get_or-set_same s.files j f no_file h

  -- a record that opens, of an id that no file has
  pub opens-steps : s.state ≡ SessionState.Open → (j : ℕ) (k : List ℕ) (l : ℕ) (d : Due) → j < length s.files → IsId k
      → ((n : ℕ) → file_used (file_at s n) ≡ true → file_id_of (file_at s n) ≡ k → ⊥)
      → opens_at (Some d) ≡ Some j → due_in d ≡ SessionState.Open
      → (let new = put_file s j (opening k l) in FileIs new j FileState.Opening → (file_at new j).declared ≡ l → Fits new d)
      → Steps true s None (opens j (opening k l) d)
  opens-steps o j k l d h id new at due fits =
      files-steps (ap is_present o) j (opening k l) (News.Asks d) None h (opening-file k l id)
      (rw o (λ e. named-opening (sym e))) (λ n _ u e. new n u (e ∙ padded-id k id.short)) (λ _. at)
      (λ same f. (o ∙ sym due, fits f (ap (λ (x : FileRecord). x.declared) same)))

  -- a path is named, of an id that none has
  pub path-steps : s.state ≡ SessionState.Naming → (j : ℕ) (k : List ℕ) (w : Told) (r : Option Reply) → j < length s.files
      → IsFileId FileState.Named k → ((n : ℕ) → file_used (file_at s n) ≡ true → file_id_of (file_at s n) ≡ k → ⊥)
      → Steps true s None (change (Edit.Filed j) (named k) (News.Tells w) r)
  path-steps o j k w r h id new =
      files-steps (ap is_present o) j (named k) (News.Tells w) r h (named-file k id) (rw o (inr refl))
      (λ n _ u e. new n u (e ∙ padded-id k id.short)) named-opening (λ _ _. tt)

  -- a file is asked for: it takes the only place at which this session has a record, so that its id may be any
  pub request-steps : s.state ≡ SessionState.Serving → (k : List ℕ) → IsFileId FileState.Named k → Steps true s None (request_of k)
  request-steps o k id =
      files-steps (ap is_present o) 0 (named k) (News.Asks Due.Request) None (rw ok.room (omega arith)) (named-file k id)
      (rw o (inr (refl, refl))) (λ n r u _. other n r u (rw o at (ok.file_for n))) named-opening (λ _ f. (o, f))
    where
      other : (n : ℕ) → (n ≡ 0 → ⊥) → file_used (file_at s n) ≡ true → FileFor SessionState.Serving n (file_at s n) → ⊥
      other n r u (inl e) = no_way (sym u ∙ ap file_used e)
      other n r u (inr e) = r e.0
