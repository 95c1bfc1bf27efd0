-- Each way of a command in a session keeps the invariant.
use Prim.Native.Nat.{ℕ, ◌<◌}
use mathlib.Core.Path.{◌≡◌, refl, sym, ap, ◌∙◌, subst}
use mathlib.Core.Bool.{Bool, true, false, not, cond}
use mathlib.Core.List.{List, [], ◌∷◌}
use native.Mathlib.Omega.{arith}
use lib.ListN.{length}
use lib.Seq.{get_or-set_same}
use Rattle.std.specs.Prelude.{Option, Some, None}
use Rattle.octets.specs.Slices.{equals}
use Rattle.decimal.specs.declared.Number.{Number}
use Rattle.command.specs.Meaning as Meaning
use Rattle.command.specs.Slots as Slots
use Rattle.command.specs.declared.Action.TheVariants as Action
use Rattle.command.specs.declared.FileType.{FileType}
use Rattle.command.specs.declared.Command.{Command as PlacedCommand}
use Rattle.protocol.specs.Table.{absent_session, no_file, file_at, id_of, file_id_of, is_used, file_used, is_free, waiting, put_file, moved}
use Rattle.protocol.specs.Change.{change, asks, opens, ask_of, step_by}
use Rattle.protocol.specs.Files.{Request, opening, link_like, declared_by, is_directory, open_due, failed_file, write_due}
use Rattle.protocol.specs.Receives.{named, request_of}
use Rattle.protocol.specs.Sessions.{request_in}
use Rattle.protocol.specs.History.{Command, Heard, hearing, Mark, hearing_mark, Question}
use Rattle.protocol.specs.Stretches.{is_data, is_end, Key, part_for, content_for, declared_in, stands, StandsFor}
use Rattle.protocol.specs.Sound.{Sound}
use Rattle.protocol.specs.declared.FileState.{FileState}
use Rattle.protocol.specs.declared.FileRecord.{FileRecord}
use Rattle.protocol.specs.declared.SessionState.TheVariants as SessionState
use Rattle.protocol.specs.declared.Session.{Session}
use Rattle.protocol.specs.declared.Due.{Due}
use Rattle.protocol.specs.declared.Status.{Status}
use Rattle.protocol.specs.declared.Told.TheVariants as Told
use Rattle.protocol.specs.declared.Edit.TheVariants as Edit
use Rattle.protocol.specs.declared.News.TheVariants as News
use Rattle.protocol.specs.declared.Change.{Change}
use Rattle.protocol.proofs.Laws.{is_past, no_way, equals-same, first-at, found_at, unique-other, padded-id}
use Rattle.protocol.proofs.Means.{Means, acts_as}
use Rattle.protocol.proofs.Invariant.{key_of, file_key, Holds, standing, committing, OpenOK, SessionOK, OpenAsked, write_heard, About}
use Rattle.protocol.proofs.Invariant.{is_supplied, TableOK}
use Rattle.protocol.proofs.Marks.{file-other, content-other, content-none, handed, is_heard, holds_read, file-read, none_read}
use Rattle.protocol.proofs.Marks.{stands_read, session-heard}
use Rattle.protocol.proofs.Tellings.{plain}
use Rattle.protocol.proofs.Puts.{shut_ok, absent-ok, free-files, put-file, asked_here, none-put, none_free, none-file}
use Rattle.protocol.proofs.Ways.{brings, ends, NewFile, PartOf, Way, nothing, dropped, open_asked, part_failed, write_asked}
use Rattle.protocol.proofs.Ways.{commit_asked, path_named, last_named, request_asked, for-none}
use Rattle.protocol.proofs.Obeyed.{idle, session_in, Kept, Here, kept_put}

-- what an open session holds while nothing is owed
stands-still : {i : List ℕ} {m : List Mark} → Holds false i m → stands i m ≡ true
stands-still (standing h) = h
stands-still (committing f g) = no_way (sym f)

-- a free record is not past its opening
free-past : (g : FileState) → not (is_used g) ≡ true → is_past g ≡ true → ⊥
free-past FileState.Free e p = no_way (sym p)
free-past FileState.Opening e p = no_way (sym p)
free-past FileState.Started e p = no_way (sym e)
free-past FileState.Done e p = no_way (sym e)
free-past FileState.Failed e p = no_way (sym e)
free-past FileState.Named e p = no_way (sym e)

module _ {ss : List Session} {c : PlacedCommand} {text scratch : List ℕ} {d : Command} {m : List Mark} (means : Means c text scratch d)
    (sound : Sound (idle ss)) (ok : TableOK (idle ss) m) {i : ℕ} (h : Here ss d i) where
  abbrev s : Session
  s = session_in ss i

  abbrev q : Request
  q = request_in c text scratch

  -- the marks with the command read, and an ask heard or none
  abbrev marks : Option Heard → List Mark
  marks x = hearing_mark x (Mark.read d ∷ m)

  abbrev Keeps : Change → Type 0
  Keeps x = Kept ss m d scratch (step_by (idle ss) i c.payload x)

  brings_as : is_data d ≡ brings q.action
  brings_as = rw means.action

  ends_as : is_end d ≡ ends q.action
  ends_as = rw means.action

  -- the session stays, and its started files get what is handed over
  stays : (x : Option Heard) → is_end d ≡ false
      → (s.state ≡ SessionState.Open → (j : ℕ) → (file_at s j).state ≡ FileState.Started
      → let k = key_of s (file_at s j) in content_for k d ≡ handed k d x)
      → SessionOK (is_heard x) (marks x) s
  stays x e f = session-heard d m x s (λ o. holds_read d x (rw e)) f (λ _. rw e) (ok.each i)

  -- ---- nothing changes
  nothing-brought : (b : Bool) → is_data d ≡ b
      → ((j : ℕ) → (file_at s j).state ≡ FileState.Started → b ≡ true → equals (file_id_of (file_at s j)) q.file ≡ false)
      → (j : ℕ) → (file_at s j).state ≡ FileState.Started → content_for (key_of s (file_at s j)) d ≡ []
  nothing-brought true e f j g =
      let k = key_of s (file_at s j) in content-other k d (file-other k d (rw means.file at (f j g refl)))
  nothing-brought false e f j g = content-none (key_of s (file_at s j)) d e

  -- ---- a new record, opening
  module _ (j : ℕ) (o : s.state ≡ SessionState.Open) (n : NewFile s q j) (type-ok : link_like q.type ≡ false) where
    abbrev record-asked : FileRecord
    record-asked = opening q.file (declared_by q.type q.size)

    abbrev new : Session
    new = put_file s j record-asked

    within : j < length s.files
    within = (first-at is_free no_file s.files j n.room).0

    acts : Meaning.action_code d ≡ Slots.action_code Action.File
    acts = acts_as means Action.File n.action

    is-file : is_data d ≡ false
    is-file = rw acts

    opened : OpenOK true (marks (Some Heard.opens)) new
    opened =
        let a = (ok.each i).sends o in
        put-file s j record-asked a within
        (holds_read d (Some Heard.opens) (rw acts) a.stand)
        (λ k _ w. file-read d (Some Heard.opens) (content-none (key_of s (file_at s k)) d is-file) (a.each k w))
        (λ (w : FileState.Opening ≡ FileState.Started). let z : ◌≡◌ {A = ℕ} 0 1 = cc in absurd (omega arith))
        (λ p. absurd (free-past (file_at s j).state (first-at is_free no_file s.files j n.room).1 p))
        (λ g _. none_read m (file_key s g) d (Some Heard.opens))

    there : file_at new j ≡ record-asked
    there = get_or-set_same s.files j _ no_file within

    its-id : file_id_of (file_at new j) ≡ Meaning.file_id_of d
    its-id = rw there (padded-id q.file (rw means.file means.named.file-short) ∙ means.file)

    its-length : q.type ≡ FileType.Regular → (file_at new j).declared ≡ declared_in d
    its-length e = rw (there, e) (ap (λ (n : Number). cond n.negative 0 n.magnitude) means.size)

    open-asked : (type : FileType) → q.type ≡ type → (Slots.file_type_code type ≡ 0 → (file_at new j).declared ≡ declared_in d)
        → OpenAsked (Slots.file_type_code type) new d Heard.opens j
    open-asked type e l =
        record { heard = refl; action = acts; kind = means.file_type ∙ ap Slots.file_type_code e; file = its-id; declares = l }

    about : (type : FileType) → q.type ≡ type → link_like type ≡ false → About new d Heard.opens (open_due (is_directory type) j)
    about FileType.Regular e _ = open-asked FileType.Regular e (λ _. its-length e)
    about FileType.Directory e _ = open-asked FileType.Directory e (λ z. absurd (omega arith))
    about FileType.Symlink e l = no_way l
    about FileType.Link e l = no_way l

    hears-open : (b : Bool) → hearing (Told.Ask (ask_of c.payload (open_due b j))) scratch ≡ Some Heard.opens
    hears-open true = refl
    hears-open false = refl

    open_kept : Keeps (opens j record-asked (open_due (is_directory q.type) j))
    open_kept =
        let due = open_due (is_directory q.type) j in
        kept_put sound ok h new (Some (i, due)) _ None (Some Heard.opens) (hears-open (is_directory q.type)) refl refl
        (record { sends = λ _. opened; serves = λ e. no_way (sym e ∙ ap is_supplied o) })
        (asked_here ss i new (Question.asks d Heard.opens) due h.inside
        (record { command = d; heard = Heard.opens; asked = refl; id = h.id; about = about q.type refl type-ok }))
        (tt, ok.told)
        (none-file (idle ss) i j record-asked (Some (i, due))
        (λ (e : FileState.Opening ≡ FileState.Done). let z : ◌≡◌ {A = ℕ} 0 1 = cc in omega arith))

  -- ---- a part for a started file
  module _ (j : ℕ) (o : s.state ≡ SessionState.Open) (p : PartOf s q j) where
    abbrev s-ok : OpenOK false m s
    s-ok = (ok.each i).sends o

    file : (j < length s.files) × (file_used (file_at s j) ≡ true) × (file_id_of (file_at s j) ≡ q.file)
    file = found_at file_used file_id_of no_file s.files q.file j p.found

    the-id : file_id_of (file_at s j) ≡ Meaning.file_id_of d
    the-id = file.2 ∙ means.file

    ends_not : is_end d ≡ false
    ends_not = ends_as ∙ p.ends

    -- the record fails: the part is for no other started file
    failed-kept : (w : Status) → Keeps (failed_file s j w)
    failed-kept w =
        let f = moved (file_at s j) FileState.Failed (file_at s j).count in
        kept_put sound ok h (put_file s j f) None (Told.Status w) _ None refl refl refl
        (record {
          sends = λ _. put-file s j f s-ok file.0 (holds_read d None (rw ends_not) s-ok.stand)
              (λ n u v. let k = key_of s (file_at s n) in
              file-read d None (content-other k d (file-other k d (other-file n u v))) (s-ok.each n v))
              (λ (e : FileState.Failed ≡ FileState.Started). let z : ◌≡◌ {A = ℕ} 0 1 = cc in absurd (omega arith))
              (λ _. (refl, refl)) (λ g _. none_read m (file_key s g) d None);
          serves = λ e. no_way (sym e ∙ ap is_supplied o);
        })
        tt ok.told
        (none-file (idle ss) i j f None (λ (e : FileState.Failed ≡ FileState.Done). let z : ◌≡◌ {A = ℕ} 0 1 = cc in omega arith))
      where
        other-file : (n : ℕ) → (n ≡ j → ⊥) → (file_at s n).state ≡ FileState.Started
            → equals (file_id_of (file_at s n)) (Meaning.file_id_of d) ≡ false
        other-file n u g =
            let alone = (sound.each i).alone in
            unique-other file_used file_id_of no_file s.files j (Meaning.file_id_of d) alone file.1 the-id n u (ap is_used g)

    -- a write is asked: the content read is the part handed over, for every key
    module _ (last : Bool) where
      abbrev heard : Heard
      heard = write_heard last (Meaning.data_of d)

      part_content : (v : Bool) (k : Key) → content_for k d ≡ part_for k (Question.asks d (write_heard v (Meaning.data_of d)))
      part_content true k = rw (brings_as ∙ p.brings)
      part_content false k = rw (brings_as ∙ p.brings)

      part-stands : (v : Bool) → StandsFor (Some d) (write_heard v (Meaning.data_of d)) (Mark.read d ∷ m)
      part-stands true = rw ends_not (subst (λ (x : List ℕ). stands x m ≡ true) h.id (stands-still s-ok.stand))
      part-stands false = rw ends_not (subst (λ (x : List ℕ). stands x m ≡ true) h.id (stands-still s-ok.stand))

      hears-part : (v : Bool)
          → hearing (Told.Ask (ask_of c.payload (write_due v j q.long))) scratch ≡ Some (write_heard v (Meaning.data_of d))
      hears-part true = rw means.part
      hears-part false = rw means.part

      part-about : (v : Bool) → About s d (write_heard v (Meaning.data_of d)) (write_due v j q.long)
      part-about true = record { part = Meaning.data_of d; heard = refl; long = means.long; file = the-id }
      part-about false = record { part = Meaning.data_of d; heard = refl; long = means.long; file = the-id }

      write_kept : Keeps (asks (write_due last j q.long))
      write_kept =
          let due = write_due last j q.long in
          kept_put sound ok h s (Some (i, due)) _ None (Some heard) (hears-part last) refl refl
          (stays (Some heard) ends_not (λ _ n _. part_content last (key_of s (file_at s n))))
          (asked_here ss i s (Question.asks d heard) due h.inside
          (record { command = d; heard = heard; asked = refl; id = h.id; about = part-about last }))
          (part-stands last, ok.told)
          (none-put (idle ss) i s (Some (i, due)) (λ n g. (g, refl, refl, refl)))

  -- ---- a commit is asked: the session stands no more
  commit-kept : s.state ≡ SessionState.Open → is_data d ≡ false → Keeps (asks Due.Commit)
  commit-kept o b =
      kept_put sound ok h s (Some (i, Due.Commit)) _ None (Some Heard.commits) refl refl refl
      (session-heard d m (Some Heard.commits) s (λ _ _. committing refl (equals-same _ _ h.id))
      (λ _ j _. content-none (key_of s (file_at s j)) d b) (λ e. no_way (sym e ∙ ap is_supplied o)) (ok.each i))
      (asked_here ss i s (Question.asks d Heard.commits) Due.Commit h.inside
      (record { command = d; heard = Heard.commits; asked = refl; id = h.id; about = refl }))
      (tt, ok.told)
      (none-put (idle ss) i s (Some (i, Due.Commit)) (λ n g. (g, refl, refl, refl)))

  -- ---- paths: one that names them is not open, nor is one that waits
  path-kept : (j : ℕ) → s.state ≡ SessionState.Naming → Keeps (change (Edit.Filed j) (named q.file) (News.Tells Told.Path) None)
  path-kept j o =
      kept_put sound ok h (put_file s j (named q.file)) None Told.Path None None refl refl refl
      (shut_ok
      (λ (z : s.state ≡ SessionState.Open). let x : SessionState.Naming ≡ SessionState.Open = sym o ∙ z in
      let w : ◌≡◌ {A = ℕ} 0 1 = cc in omega arith) (ap is_supplied o))
      tt ok.told
      (none-file (idle ss) i j (named q.file) None
      (λ (e : FileState.Named ≡ FileState.Done). let z : ◌≡◌ {A = ℕ} 0 1 = cc in omega arith))

  last-kept : Keeps (change Edit.Waits no_file (News.Tells Told.LastPath) None)
  last-kept =
      kept_put sound ok h (waiting s) None Told.LastPath None None refl refl refl
      (shut_ok (λ (z : SessionState.Waiting ≡ SessionState.Open). let w : ◌≡◌ {A = ℕ} 0 1 = cc in omega arith) refl)
      tt ok.told (none_free (idle ss) i (waiting s) None free-files)

  -- ---- a request: the session stands, and its first record has the command's file id
  module _ (o : s.state ≡ SessionState.Serving) (a : q.action ≡ Action.File) where
    abbrev asked-for : Session
    asked-for = put_file s 0 (named q.file)

    acts-file : Meaning.action_code d ≡ Slots.action_code Action.File
    acts-file = acts_as means Action.File a

    still-stands : (k : List ℕ) → id_of s ≡ k → stands k (Mark.read d ∷ m) ≡ true
    still-stands k e = stands_read k m d None (rw acts-file) (rw (← e) ((ok.each i).serves (ap is_supplied o)))

    first-id : file_id_of (file_at asked-for 0) ≡ Meaning.file_id_of d
    first-id =
        rw (get_or-set_same s.files 0 (named q.file) no_file (rw (sound.each i).room (omega arith)))
        (padded-id q.file (rw means.file means.named.file-short) ∙ means.file)

    request-kept : Keeps (request_of q.file)
    request-kept =
        kept_put sound ok h asked-for (Some (i, Due.Request)) _ None (Some Heard.requests) refl refl refl
        (record {
          sends = λ (z : s.state ≡ SessionState.Open). let x : SessionState.Serving ≡ SessionState.Open = sym o ∙ z in
              let w : ◌≡◌ {A = ℕ} 0 1 = cc in absurd (omega arith);
          serves = λ _. still-stands (id_of s) refl;
        })
        (asked_here ss i asked-for (Question.asks d Heard.requests) Due.Request h.inside
        (record { command = d; heard = Heard.requests; asked = refl; id = h.id; about = (refl, first-id) }))
        (still-stands (Meaning.id_of d) h.id, ok.told)
        (none-file (idle ss) i 0 (named q.file) (Some (i, Due.Request))
        (λ (e : FileState.Named ≡ FileState.Done). let z : ◌≡◌ {A = ℕ} 0 1 = cc in omega arith))

  -- ---- whatever the way
  pub way-kept : {x : Change} → Way s q x → Keeps x
  way-kept (nothing w r e _ f g) =
      let p = plain w e in
      kept_put sound ok h s None w r None (p.silent scratch) p.taken refl
      (stays None (ends_as ∙ f)
      (λ o. nothing-brought (is_data d) refl (λ n u b. for-none s q (sound.each i).alone (g o (sym brings_as ∙ b)) n u)))
      tt ok.told (none-put (idle ss) i s None (λ n u. (u, refl, refl, refl)))
  way-kept (dropped w r e _) =
      let p = plain w e in
      kept_put sound ok h absent_session None w r None (p.silent scratch) p.taken refl absent-ok tt ok.told
      (none_free (idle ss) i absent_session None free-files)
  way-kept (open_asked j o n t) = open_kept j o n t
  way-kept (part_failed j w o p) = failed-kept j o p w
  way-kept (write_asked last j o p _ _ _) = write_kept j o p last
  way-kept (commit_asked o b _) = commit-kept o (brings_as ∙ b)
  way-kept (path_named j o n) = path-kept j o
  way-kept (last_named o a) = last-kept
  way-kept (request_asked o a) = request-kept o a
