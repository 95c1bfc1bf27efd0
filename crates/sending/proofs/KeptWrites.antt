-- What is written keeps it.
use Prim.Native.Nat.{ℕ, ◌≤◌, ◌<◌}
use mathlib.Core.Path.{◌≡◌, refl, sym, ◌∙◌}
use mathlib.Core.Bool.{Bool, true, false, not, ◌&&◌}
use mathlib.Core.List.{List, ◌∷◌}
use native.Mathlib.Omega.{arith}
use lib.ListN.{length, get_or, set, length-set}
use lib.Seq.{get_or-set_same, get_or-set_other}
use Rattle.std.specs.Prelude.{Option, Some, None}
use Rattle.octets.specs.Slices.{equals}
use Rattle.octets.proofs.Below.{both_test}
use Rattle.octets.proofs.Compare.{equals_refl, equals-sound}
use Rattle.octets.specs.Members.{every}
use Rattle.command.specs.Letters.{safe_byte}
use Rattle.protocol.specs.Table.{file_room, id_room, kept_id}
use Rattle.protocol.proofs.Laws.{no_way, first-at, padded-id}
use Rattle.sending.specs.Transfers.{free_file, id_of, file_id_of, is_known, has_file_id}
use Rattle.sending.specs.Transfers.{is_fresh, is_open, with_stage, asked, begun}
use Rattle.sending.specs.Story.{Mark}
use Rattle.sending.specs.Telling.{session_in, pending_in, finished_in, files_in, sum_in, some_read, allowed_in, stopped_in, file_stopped_in}
use Rattle.sending.specs.Telling.{equals_some, agreed_in, sending_in}
use Rattle.sending.specs.Every.{stage_by}
use Rattle.sending.specs.declared.Stage.{Stage}
use Rattle.sending.specs.declared.FileStage.TheVariants as FileStage
use Rattle.sending.specs.declared.SentFile.{SentFile}
use Rattle.sending.specs.declared.Transfer.{Transfer}
use Rattle.sending.proofs.Firsts.{first-same, first-new}
use Rattle.sending.proofs.Kept.{Unknown, FileOK, Says, SessionOK, found, Kept}
use Rattle.sending.proofs.Ready.{idle_for}

-- ---- places that are found
pub found-same : {i j : ℕ} → Some i ≡ Some j → i ≡ j
found-same e = cc

pub not_found : {A : Type 0} {i : ℕ} → None ≡ Some i → A
not_found e = let z : ◌≡◌ {A = ℕ} 0 1 = cc in absurd (omega arith)

-- ---- marks that say the same of an id
pub same-file : (m m' : List Mark) (k : List ℕ) (fs : List SentFile) → files_in m' ≡ files_in m → pending_in m' ≡ pending_in m
    → sum_in k m' ≡ sum_in k m → file_stopped_in k m' ≡ file_stopped_in k m → agreed_in k m' ≡ agreed_in k m
    → (f : Option ℕ) → FileOK fs m k f → FileOK fs m' k f
same-file m m' k fs e p s g a None u =
    record { filed = rw e u.filed; none = s ∙ u.none; going = g ∙ u.going; agreed = a ∙ u.agreed }
same-file m m' k fs e p s g a (Some i) c =
    record {
      filed = rw e c.filed;
      place = rw e c.place;
      counted = rw s c.counted;
      going = rw (p, g) c.going;
      staged = rw (p, g, a) c.staged;
    }

-- and of the session; a stopped one may be allowed or not
abbrev pub AllowedAs : Bool → Bool → Stage → Type 0
AllowedAs a b Stage.Fresh = a ≡ b
AllowedAs a b Stage.Waiting = a ≡ b
AllowedAs a b Stage.Open = a ≡ b
AllowedAs a b Stage.Finished = a ≡ b
AllowedAs a b Stage.Stopped = Unit {0}

pub allowed-as : {a b : Bool} → a ≡ b → (g : Stage) → AllowedAs a b g
allowed-as e Stage.Fresh = e
allowed-as e Stage.Waiting = e
allowed-as e Stage.Open = e
allowed-as e Stage.Finished = e
allowed-as e Stage.Stopped = tt

pub same-session : (m m' : List Mark) (id : List ℕ) → session_in m' ≡ session_in m → stopped_in m' ≡ stopped_in m
    → finished_in m' ≡ finished_in m → (g : Stage) → AllowedAs (allowed_in m') (allowed_in m) g → SessionOK id m g → SessionOK id m' g
same-session m m' id e s f Stage.Fresh a o =
    record { session = e ∙ o.session; allowed = a ∙ o.allowed; stopped = s ∙ o.stopped; finished = f ∙ o.finished }
same-session m m' id e s f Stage.Waiting a o =
    record { session = e ∙ o.session; allowed = a ∙ o.allowed; stopped = s ∙ o.stopped; finished = f ∙ o.finished }
same-session m m' id e s f Stage.Open a o =
    record { session = e ∙ o.session; allowed = a ∙ o.allowed; stopped = s ∙ o.stopped; finished = f ∙ o.finished }
same-session m m' id e s f Stage.Finished a o =
    record { session = e ∙ o.session; allowed = a ∙ o.allowed; stopped = s ∙ o.stopped; finished = f ∙ o.finished }
same-session m m' id e s f Stage.Stopped a o = (e ∙ o.0, s ∙ o.1)

-- ---- send
fresh-session : (id : List ℕ) (m : List Mark) (g : Stage) → is_fresh g ≡ true → SessionOK id m g → Says m None false false false
fresh-session id m Stage.Fresh e o = o
fresh-session id m Stage.Waiting e o = no_way (sym e)
fresh-session id m Stage.Open e o = no_way (sym e)
fresh-session id m Stage.Finished e o = no_way (sym e)
fresh-session id m Stage.Stopped e o = no_way (sym e)

pub kept-sent : {t : Transfer} {m : List Mark} (id : List ℕ) → Kept t m → is_fresh t.stage ≡ true → length id ≤ id_room
    → every safe_byte id ≡ true → Kept (asked t id) (Mark.sent id ∷ m)
unfolding some_read
kept-sent {t} {m} id k e l safe =
    let s = fresh-session (id_of t) m t.stage e k.session in
    record {
      sized = k.sized;
      session = rw (padded-id id l) (record { session = refl; allowed = s.allowed; stopped = s.stopped; finished = s.finished });
      safe = rw (padded-id id l) safe;
      short = rw (padded-id id l) l;
      files = λ j. same-file m (Mark.sent id ∷ m) j t.files refl refl refl refl refl (found t.files j) (k.files j);
      free = k.free;
      many = k.many;
      none = k.none;
      current = λ c q. let o = k.current c q in record { pending = o.pending; there = o.there };
    }

-- ---- finish
open-says : (id : List ℕ) (m : List Mark) (g : Stage) → is_open g ≡ true → SessionOK id m g → Says m (Some id) true false false
open-says id m Stage.Fresh e o = no_way (sym e)
open-says id m Stage.Waiting e o = no_way (sym e)
open-says id m Stage.Open e o = o
open-says id m Stage.Finished e o = no_way (sym e)
open-says id m Stage.Stopped e o = no_way (sym e)

pub kept-finished : {t : Transfer} {m : List Mark} → Kept t m → is_open t.stage ≡ true
    → Kept (with_stage t Stage.Finished) (Mark.finished ∷ m)
unfolding some_read
kept-finished {t} {m} k e =
    let s = open-says (id_of t) m t.stage e k.session in
    record {
      sized = k.sized;
      session = record { session = s.session; allowed = s.allowed; stopped = s.stopped; finished = refl };
      safe = k.safe;
      short = k.short;
      files = λ j. same-file m (Mark.finished ∷ m) j t.files refl refl refl refl refl (found t.files j) (k.files j);
      free = k.free;
      many = k.many;
      none = k.none;
      current = λ c q. let o = k.current c q in record { pending = o.pending; there = o.there };
    }

-- ---- file
-- one that is not being sent is in the stage of one that is not pending
stage-idle : (s a p : Bool) → (p && not s) ≡ false → stage_by s a p ≡ stage_by s a false
stage-idle true a p e = refl
stage-idle false true p e = refl
stage-idle false false true e = no_way e
stage-idle false false false e = refl

module _ {t : Transfer} {m : List Mark} (id : List ℕ) (k : Kept t m) (l : length id ≤ id_room) (room : t.count < file_room)
    (new : found t.files id ≡ None) (idle : sending_in m ≡ false) where
  abbrev fs : List SentFile
  fs = t.files

  abbrev file : SentFile
  file = record { stage = FileStage.Sending; id = kept_id id; sent = 0 }

  abbrev fs' : List SentFile
  fs' = set fs t.count file

  inside : t.count < length fs
  inside = omega (arith, k.sized)

  own : file_id_of file ≡ id
  own = padded-id id l

  here : get_or fs' t.count free_file ≡ file
  here = get_or-set_same fs t.count file free_file inside

  new-found : found fs' id ≡ Some t.count
  new-found = first-new (has_file_id id) free_file fs t.count file inside new (rw own (equals_refl id))

  new-file : (j : List ℕ) → FileOK fs' (Mark.filed id ∷ m) j (found fs' j)
  unfolding some_read
  new-file j = go (equals id j) refl
    where
      -- another id is found where it was
      old : (f : Option ℕ) → found fs j ≡ f → equals id j ≡ false → FileOK fs m j f → FileOK fs' (Mark.filed id ∷ m) j f
      old None e q u = record { filed = rw q u.filed; none = u.none; going = u.going; agreed = u.agreed }
      old (Some i) e q c =
          let p = first-at (has_file_id j) free_file fs i e in
          let known : is_known (get_or fs i free_file).stage ≡ true = (both_test _ _ p.1).0 in
          let other : i ≡ t.count → ⊥ = λ z. no_way (sym known ∙ rw z (k.free t.count (omega arith))) in
          let unpending = stage-idle (file_stopped_in j m) (agreed_in j m) (equals_some j (pending_in m)) (idle_for j m idle) in
          rw (get_or-set_other fs t.count i file free_file other)
          (record {
            filed = rw q c.filed;
            place = rw q c.place;
            counted = c.counted;
            going = rw q (c.going ∙ idle_for j m idle);
            staged = rw q (c.staged ∙ unpending);
          })

      go : (b : Bool) → equals id j ≡ b → FileOK fs' (Mark.filed id ∷ m) j (found fs' j)
      go true q =
          let z = equals-sound id j q in
          let u : Unknown m id = rw new at (k.files id) in
          rw (← z, new-found, here)
          (record {
            filed = rw (equals_refl id);
            place = rw (equals_refl id) k.many;
            counted = rw u.none;
            going = rw (equals_refl id, u.going);
            staged = rw (equals_refl id, u.going, u.agreed);
          })
      go false q =
          let free : has_file_id j (get_or fs t.count free_file) ≡ false = rw (k.free t.count (omega arith)) in
          let alike : has_file_id j file ≡ has_file_id j (get_or fs t.count free_file) = rw (own, q, free) in
          rw (first-same (has_file_id j) free_file fs t.count file alike) (old (found fs j) refl q (k.files j))

  pub kept-filed : Kept (begun t id) (Mark.filed id ∷ m)
  unfolding some_read
  kept-filed =
      record {
        sized = length-set fs t.count file ∙ k.sized;
        session =
            same-session m (Mark.filed id ∷ m) (id_of t) refl refl refl t.stage (allowed-as refl t.stage) k.session;
        safe = k.safe;
        short = k.short;
        files = new-file;
        free = λ j h. rw (get_or-set_other fs t.count j file free_file (λ z. omega arith)) (k.free j (omega arith));
        many = omega (arith, k.many);
        none = λ q. absurd (omega arith);
        current = λ c q.
            let z : c ≡ t.count = omega arith in
            rw z (record { pending = rw (here, own); there = rw (here, own) new-found });
      }
