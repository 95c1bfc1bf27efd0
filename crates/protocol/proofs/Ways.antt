-- THE WAYS of a command in a session that is present: each change that the rule can make of it, with what holds where it makes it. What is
-- proved of every command goes by these cases, not through the rule.
use Prim.Native.Nat.{ℕ, ◌+◌, ◌≤◌}
use mathlib.Core.Path.{◌≡◌, refl, sym, ap, ◌∙◌}
use mathlib.Core.Bool.{Bool, true, false, cond, ◌||◌}
use native.Mathlib.Decide.{ℕ_discrete}
use native.Mathlib.Omega.{arith}
use lib.ListN.{length}
use lib.Dec.{ltb, eqb}
use borrow.Author.Tests.{lt-ltb, ltb-false, eqb-true, eqb-false}
use Rattle.std.specs.Prelude.{Option, Some, None}
use Rattle.octets.specs.Slices.{equals}
use Rattle.frames.proofs.Choices.{by_cond}
use Rattle.pathname.specs.Name.{valid_name}
use Rattle.command.specs.Slots.{action_code}
use Rattle.command.specs.declared.Action.{Action}
use Rattle.protocol.specs.Table.{no_file, file_at, file_id_of, is_present, is_used, file_used, find_file, first, is_free, is_started_state}
use Rattle.protocol.specs.Table.{is_started}
use Rattle.protocol.specs.Actions.{result_in, kind_of}
use Rattle.protocol.specs.Replies.{session_reply, file_reply}
use Rattle.protocol.specs.Change.{change, tells, asks, opens, drops}
use Rattle.protocol.specs.Files.{Request, ignored, opening, file_status, link_like, is_rsync, bad_permissions, bad_size, declared_by}
use Rattle.protocol.specs.Files.{is_directory, open_due, passes, ends_short}
use Rattle.protocol.specs.Files.{file_recorded, file_checked, unless_known, if_new, file_of}
use Rattle.protocol.specs.Files.{failed_file, write_due, part_limit, count_limit}
use Rattle.protocol.specs.Files.{part_asked, part_found, data_of, finish_of}
use Rattle.protocol.specs.Receives.{named, path_checked, path_of, request_of}
use Rattle.protocol.specs.Receives as Receives
use Rattle.protocol.specs.Rule.{is_open, drop_told, present_result, obeyed_by}
use Rattle.protocol.specs.Sound.{Held, Unique}
use Rattle.protocol.specs.declared.FileState.{FileState}
use Rattle.protocol.specs.declared.SessionState.{SessionState}
use Rattle.protocol.specs.declared.Session.{Session}
use Rattle.protocol.specs.declared.Due.TheVariants as Due
use Rattle.protocol.specs.declared.Status.{Status}
use Rattle.protocol.specs.declared.Told.{Told}
use Rattle.protocol.specs.declared.Reply.{Reply}
use Rattle.protocol.specs.declared.Edit.TheVariants as Edit
use Rattle.protocol.specs.declared.News.TheVariants as News
use Rattle.protocol.specs.declared.Change.{Change}
use Rattle.protocol.proofs.Laws.{no_way, found_at, found_nowhere, unique-other}
use Rattle.protocol.proofs.Tellings.{is_plain}

-- an action that brings content to a file, and one that ends its session, by their codes
abbrev pub brings : Action → Bool
brings a = eqb (action_code a) 4 || eqb (action_code a) 5

abbrev pub ends : Action → Bool
ends a = eqb (action_code a) 6 || eqb (action_code a) 7

-- the state that a part brings its file to
abbrev pub brought : Bool → FileState
brought true = FileState.Done
brought false = FileState.Started

module _ (s : Session) (q : Request) where
  -- a reply about the session, or about the command's file
  pub data About : Option Reply → Type 0 where
    nobody : About None
    session : (w : Status) → About (Some (session_reply w s))
    file : (w : Status) → About (Some (file_reply w s (opening q.file 0) 0))

  -- a new file or path, with room at place j
  pub record NewFile (j : ℕ) : Type 0 where
    pub action : q.action ≡ Action.File
    pub some : length q.file ≡ 0 → ⊥
    pub new : find_file s q.file ≡ None
    pub room : first is_free s.files ≡ Some j

  -- a part for the started file at place j
  pub record PartOf (j : ℕ) : Type 0 where
    pub brings : brings q.action ≡ true
    pub ends : ends q.action ≡ false
    pub found : find_file s q.file ≡ Some j
    pub started : (file_at s j).state ≡ FileState.Started

  -- its file is unknown, or not started
  pub data Unstarted : Option ℕ → Type 0 where
    nowhere : Unstarted None
    waits : {j : ℕ} → ((file_at s j).state ≡ FileState.Started → ⊥) → Unstarted (Some j)

  pub data Way : Change → Type 0 where
    nothing : (w : Told) (r : Option Reply) → is_plain w ≡ true → About r → ends q.action ≡ false
        → (s.state ≡ SessionState.Open → brings q.action ≡ true → Unstarted (find_file s q.file)) → Way (tells w r)
    dropped : (w : Told) (r : Option Reply) → is_plain w ≡ true → About r → Way (drops w r)
    open_asked : (j : ℕ) → s.state ≡ SessionState.Open → NewFile j → link_like q.type ≡ false
        → Way (opens j (opening q.file (declared_by q.type q.size)) (open_due (is_directory q.type) j))
    part_failed : (j : ℕ) (w : Status) → s.state ≡ SessionState.Open → PartOf j → Way (failed_file s j w)
    write_asked : (last : Bool) (j : ℕ) → s.state ≡ SessionState.Open → PartOf j → q.long ≤ part_limit
        → (file_at s j).count + q.long ≤ count_limit → Held (brought last) ((file_at s j).count + q.long) (file_at s j).declared
        → Way (asks (write_due last j q.long))
    commit_asked : s.state ≡ SessionState.Open → brings q.action ≡ false → s.started ≡ 0 → Way (asks Due.Commit)
    path_named : (j : ℕ) → s.state ≡ SessionState.Naming → NewFile j
        → Way (change (Edit.Filed j) (named q.file) (News.Tells Told.Path) None)
    last_named : s.state ≡ SessionState.Naming → q.action ≡ Action.File
        → Way (change Edit.Waits no_file (News.Tells Told.LastPath) None)
    request_asked : s.state ≡ SessionState.Serving → q.action ≡ Action.File → Way (request_of q.file)

is-started : (g : FileState) → is_started_state g ≡ true → g ≡ FileState.Started
is-started FileState.Free e = no_way (sym e)
is-started FileState.Opening e = no_way (sym e)
is-started FileState.Started e = refl
is-started FileState.Done e = no_way (sym e)
is-started FileState.Failed e = no_way (sym e)
is-started FileState.Named e = no_way (sym e)

-- the count with a part that neither passes the declared length nor ends short of it
held_by : (last : Bool) (d n : ℕ) → passes d n ≡ false → ends_short last d n ≡ false → Held (brought last) n d
held_by true d n p e = λ some.
    let le : n ≤ d = ltb-false _ _ (rw (lt-ltb 0 d some) at p) in let ge : d ≤ n = ltb-false _ _ e in omega arith
held_by false d n p e = λ some. ltb-false _ _ (rw (lt-ltb 0 d some) at p)

module _ (s : Session) (q : Request) where
  -- ---- a file command: a status about its file, or what becomes of a file whose id is new
  module _ (a : q.action ≡ Action.File) where
    status-way : (w : Status) → Way s q (file_status s q.file w)
    status-way w = nothing (Told.Status w) _ refl (file w) (rw a) (λ _ e. no_way (sym (rw a at e)))

    new-way : (x : Change) → ((length q.file ≡ 0 → ⊥) → find_file s q.file ≡ None → Way s q x) → Way s q (if_new s q.file x)
    new-way x f = go (eqb (length q.file) 0) refl
      where
        known : (length q.file ≡ 0 → ⊥) → (r : Option ℕ) → find_file s q.file ≡ r → Way s q (unless_known s q.file x r)
        known some None e = f some e
        known some (Some j) e = status-way Status.Eexist

        go : (b : Bool) → eqb (length q.file) 0 ≡ b
            → Way s q (cond b (file_status s q.file Status.Einval) (unless_known s q.file x (find_file s q.file)))
        go true e = status-way Status.Einval
        go false e = known (eqb-false _ _ e) (find_file s q.file) refl

  -- ---- a path
  module _ (o : s.state ≡ SessionState.Naming) (a : q.action ≡ Action.File) where
    named-way : (length q.file ≡ 0 → ⊥) → find_file s q.file ≡ None → (f : Option ℕ) → first is_free s.files ≡ f
        → Way s q (Receives.path_named s q.file f)
    named-way some new None r = status-way a Status.Emfile
    named-way some new (Some j) r =
        by_cond (Way s q) (ltb (j + 1) s.wanted) (λ _. path_named j o (record { action = a; some = some; new = new; room = r }))
        (λ _. last_named o a)

    path-way : Way s q (path_of s q)
    unfolding path_of path_checked
    path-way =
        new-way a (path_checked s q.file q.name) (λ some new.
        by_cond (Way s q) (valid_name q.name) (λ _. named-way some new (first is_free s.files) refl) (λ _. status-way a Status.Einval))

  -- ---- file, "first that applies"
  module _ (o : s.state ≡ SessionState.Open) (a : q.action ≡ Action.File) where
    recorded-way : (length q.file ≡ 0 → ⊥) → find_file s q.file ≡ None → link_like q.type ≡ false
        → (f : Option ℕ) → first is_free s.files ≡ f → Way s q (file_recorded s q f)
    recorded-way some new e None r = status-way a Status.Emfile
    recorded-way some new e (Some j) r = open_asked j o (record { action = a; some = some; new = new; room = r }) e

    checked-way : (length q.file ≡ 0 → ⊥) → find_file s q.file ≡ None → Way s q (file_checked s q)
    unfolding file_checked
    checked-way some new =
        go (link_like q.type) refl (is_rsync q.transmission) (bad_permissions q.permissions) (bad_size q.type q.size)
        (valid_name q.name)
      where
        refuses : Status → Change
        refuses w = file_status s q.file w

        go : (x : Bool) → link_like q.type ≡ x → (y u z v : Bool)
            → Way s q (cond (x || y) (refuses Status.Enotsup) (cond u (refuses Status.Einval) (cond z (refuses Status.Einval)
            (cond v (file_recorded s q (first is_free s.files)) (refuses Status.Einval)))))
        go true e y u z v = status-way a Status.Enotsup
        go false e true u z v = status-way a Status.Enotsup
        go false e false true z v = status-way a Status.Einval
        go false e false false true v = status-way a Status.Einval
        go false e false false false true = recorded-way some new e (first is_free s.files) refl
        go false e false false false false = status-way a Status.Einval

    file-way : Way s q (file_of s q)
    unfolding file_of
    file-way = new-way a (file_checked s q) checked-way

  -- ---- data, end_data
  module _ (o : s.state ≡ SessionState.Open) (b : brings q.action ≡ true) (e : ends q.action ≡ false) (last : Bool) where
    ignored-way : Unstarted s q (find_file s q.file) → Way s q ignored
    ignored-way f = nothing Told.Ignored None refl nobody e (λ _ _. f)

    module _ (j : ℕ) (found : find_file s q.file ≡ Some j) where
      waits-way : ((file_at s j).state ≡ FileState.Started → ⊥) → Way s q ignored
      waits-way w = ignored-way (rw found (waits w))

      asked-way : (file_at s j).state ≡ FileState.Started → Way s q (part_asked s j last q.long)
      unfolding part_asked
      asked-way g =
          go (ltb part_limit q.long) refl (ltb count_limit after) refl (passes declared after) refl (ends_short last declared after) refl
        where
          after : ℕ
          after = (file_at s j).count + q.long

          declared : ℕ
          declared = (file_at s j).declared

          part : PartOf s q j
          part = record { brings = b; ends = e; found = found; started = g }

          go : (x : Bool) → ltb part_limit q.long ≡ x → (y : Bool) → ltb count_limit after ≡ y
              → (z : Bool) → passes declared after ≡ z → (t : Bool) → ends_short last declared after ≡ t
              → Way s q (cond x (failed_file s j Status.Einval) (cond y (failed_file s j Status.Efbig)
              (cond z (failed_file s j Status.Efbig) (cond t (failed_file s j Status.Einval) (asks (write_due last j q.long))))))
          go true u y v z f t l = part_failed j Status.Einval o part
          go false u true v z f t l = part_failed j Status.Efbig o part
          go false u false v true f t l = part_failed j Status.Efbig o part
          go false u false v false f true l = part_failed j Status.Einval o part
          go false u false v false f false l =
              write_asked last j o part (ltb-false _ _ u) (ltb-false _ _ v) (held_by last declared after f l)

      found-way : Way s q (cond (is_started (file_at s j)) (part_asked s j last q.long) ignored)
      found-way =
          by_cond (Way s q) (is_started (file_at s j)) (λ g. asked-way (is-started (file_at s j).state g))
          (λ g. waits-way (λ w. no_way (sym (ap is_started_state w) ∙ g)))

    part-way : Way s q (data_of s last q.file q.long)
    unfolding data_of
    part-way = go (find_file s q.file) refl
      where
        go : (f : Option ℕ) → find_file s q.file ≡ f → Way s q (part_found s last q.long f)
        go None r = ignored-way (rw r nowhere)
        go (Some j) r = found-way j r

  -- ---- by the action table
  finish-way : s.state ≡ SessionState.Open → brings q.action ≡ false → Way s q (finish_of s)
  unfolding finish_of
  finish-way o b =
      by_cond (Way s q) (eqb s.started 0) (λ e. commit_asked o b (eqb-true _ _ e))
      (λ _. dropped Told.Discarded _ refl (session Status.Einval))

  drop-plain : (b : Bool) → is_plain (cond b Told.Discarded Told.Withdrawn) ≡ true
  drop-plain true = refl
  drop-plain false = refl

  cancel-way : Way s q (drops (drop_told s) (Some (session_reply Status.Canceled s)))
  cancel-way = dropped (drop_told s) _ (drop-plain (is_open s.state)) (session Status.Canceled)

  -- one that neither brings nor ends anything
  idle-way : (a : Action) → q.action ≡ a → brings a ≡ false → ends a ≡ false → (w : Told) (r : Option Reply) → is_plain w ≡ true
      → About s q r
      → Way s q (tells w r)
  idle-way a x b e w r p t = nothing w r p t (rw x e) (λ _ y. no_way (sym (rw x at y) ∙ b))

  invalid-way : (a : Action) → q.action ≡ a → brings a ≡ false → ends a ≡ false
      → Way s q (tells (Told.Status Status.Einval) (Some (session_reply Status.Einval s)))
  invalid-way a x b e = idle-way a x b e (Told.Status Status.Einval) _ refl (session Status.Einval)

  open-way : s.state ≡ SessionState.Open → (a : Action) → q.action ≡ a → Way s q (present_result s q (kind_of SessionState.Open a))
  unfolding kind_of result_in
  open-way o Action.None a = idle-way Action.None a refl refl Told.Ignored None refl nobody
  open-way o Action.Send a = invalid-way Action.Send a refl refl
  open-way o Action.Receive a = invalid-way Action.Receive a refl refl
  open-way o Action.File a = file-way o a
  open-way o Action.Data a = part-way o (rw a) (rw a) false
  open-way o Action.EndData a = part-way o (rw a) (rw a) true
  open-way o Action.Finish a = finish-way o (rw a)
  open-way o Action.Cancel a = cancel-way
  open-way o Action.Status a = idle-way Action.Status a refl refl Told.Ignored None refl nobody

  withdraw-way : Way s q (drops (drop_told s) None)
  withdraw-way = dropped (drop_told s) None (drop-plain (is_open s.state)) nobody

  asked-way_of : (a : Action) → q.action ≡ a → Way s q (present_result s q (kind_of SessionState.Asked a))
  unfolding kind_of result_in
  asked-way_of Action.None a = idle-way Action.None a refl refl Told.Ignored None refl nobody
  asked-way_of Action.Send a = withdraw-way
  asked-way_of Action.Receive a = withdraw-way
  asked-way_of Action.File a = withdraw-way
  asked-way_of Action.Data a = withdraw-way
  asked-way_of Action.EndData a = withdraw-way
  asked-way_of Action.Finish a = withdraw-way
  asked-way_of Action.Cancel a = cancel-way
  asked-way_of Action.Status a = withdraw-way

  waiting-way : (a : Action) → q.action ≡ a → Way s q (present_result s q (kind_of SessionState.Waiting a))
  unfolding kind_of result_in
  waiting-way Action.None a = idle-way Action.None a refl refl Told.Ignored None refl nobody
  waiting-way Action.Send a = withdraw-way
  waiting-way Action.Receive a = withdraw-way
  waiting-way Action.File a = withdraw-way
  waiting-way Action.Data a = withdraw-way
  waiting-way Action.EndData a = withdraw-way
  waiting-way Action.Finish a = withdraw-way
  waiting-way Action.Cancel a = cancel-way
  waiting-way Action.Status a = withdraw-way

  naming-way : s.state ≡ SessionState.Naming → (a : Action) → q.action ≡ a → Way s q (present_result s q (kind_of SessionState.Naming a))
  unfolding kind_of result_in
  naming-way o Action.None a = idle-way Action.None a refl refl Told.Ignored None refl nobody
  naming-way o Action.Send a = withdraw-way
  naming-way o Action.Receive a = withdraw-way
  naming-way o Action.File a = path-way o a
  naming-way o Action.Data a = withdraw-way
  naming-way o Action.EndData a = withdraw-way
  naming-way o Action.Finish a = withdraw-way
  naming-way o Action.Cancel a = cancel-way
  naming-way o Action.Status a = withdraw-way

  -- data and end_data in an open receive session, which has no started file
  unheard-way : (s.state ≡ SessionState.Open → ⊥) → ends q.action ≡ false → Way s q ignored
  unheard-way n e = nothing Told.Ignored None refl nobody e (λ o. absurd (n o))

  listing-way : (s.state ≡ SessionState.Open → ⊥) → (a : Action) → q.action ≡ a
      → Way s q (present_result s q (kind_of SessionState.Listing a))
  unfolding kind_of result_in
  listing-way n Action.None a = idle-way Action.None a refl refl Told.Ignored None refl nobody
  listing-way n Action.Send a = invalid-way Action.Send a refl refl
  listing-way n Action.Receive a = invalid-way Action.Receive a refl refl
  listing-way n Action.File a = unheard-way n (rw a)
  listing-way n Action.Data a = unheard-way n (rw a)
  listing-way n Action.EndData a = unheard-way n (rw a)
  listing-way n Action.Finish a = withdraw-way
  listing-way n Action.Cancel a = cancel-way
  listing-way n Action.Status a = unheard-way n (rw a)

  serving-way : s.state ≡ SessionState.Serving → (s.state ≡ SessionState.Open → ⊥) → (a : Action) → q.action ≡ a
      → Way s q (present_result s q (kind_of SessionState.Serving a))
  unfolding kind_of result_in
  serving-way o n Action.None a = idle-way Action.None a refl refl Told.Ignored None refl nobody
  serving-way o n Action.Send a = invalid-way Action.Send a refl refl
  serving-way o n Action.Receive a = invalid-way Action.Receive a refl refl
  serving-way o n Action.File a = request_asked o a
  serving-way o n Action.Data a = unheard-way n (rw a)
  serving-way o n Action.EndData a = unheard-way n (rw a)
  serving-way o n Action.Finish a = withdraw-way
  serving-way o n Action.Cancel a = cancel-way
  serving-way o n Action.Status a = unheard-way n (rw a)

  pub way : is_present s.state ≡ true → Way s q (obeyed_by s q)
  unfolding obeyed_by
  way = go s.state refl
    where
      go : (g : SessionState) → s.state ≡ g → is_present g ≡ true → Way s q (present_result s q (kind_of g q.action))
      go SessionState.Absent e u = no_way (sym u)
      go SessionState.Asked e u = asked-way_of q.action refl
      go SessionState.Open e u = open-way e q.action refl
      go SessionState.Naming e u = naming-way e q.action refl
      go SessionState.Waiting e u = waiting-way q.action refl
      go SessionState.Listing e u =
          listing-way (λ (z : s.state ≡ SessionState.Open). let w : SessionState.Listing ≡ SessionState.Open = sym e ∙ z in
          let x : ◌≡◌ {A = ℕ} 0 1 = cc in omega arith) q.action refl
      go SessionState.Serving e u =
          serving-way e (λ (z : s.state ≡ SessionState.Open). let w : SessionState.Serving ≡ SessionState.Open = sym e ∙ z in
          let x : ◌≡◌ {A = ℕ} 0 1 = cc in omega arith) q.action refl

-- where the files have different ids, no started one has the command's
pub for-none : (s : Session) (q : Request) → Unique file_used file_id_of no_file s.files → Unstarted s q (find_file s q.file)
    → (n : ℕ) → (file_at s n).state ≡ FileState.Started → equals (file_id_of (file_at s n)) q.file ≡ false
for-none s q alone u n g = go (find_file s q.file) refl u
  where
    go : (f : Option ℕ) → find_file s q.file ≡ f → Unstarted s q f → equals (file_id_of (file_at s n)) q.file ≡ false
    go None e nowhere = found_nowhere file_used file_id_of no_file s.files q.file refl e n (ap is_used g)
    go (Some j) e (waits w) = by (ℕ_discrete n j)
      where
        by : Dec (n ≡ j) → equals (file_id_of (file_at s n)) q.file ≡ false
        by (yes r) = absurd (w (rw r at g))
        by (no r) =
            let f = found_at file_used file_id_of no_file s.files q.file j e in
            unique-other file_used file_id_of no_file s.files j q.file alone f.1 f.2 n r (ap is_used g)
