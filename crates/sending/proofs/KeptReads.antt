-- A command that is read keeps it, and what a hear tells of it is right.
use Prim.Native.Nat.{ℕ, suc, ◌≤◌, ◌<◌}
use mathlib.Core.Path.{◌≡◌, refl, sym, ◌∙◌}
use mathlib.Core.Bool.{false, ◌||◌, and-false}
use mathlib.Core.List.{List, ◌∷◌}
use native.Mathlib.Decide.{ℕ_discrete}
use lib.ListN.{length, get_or, set, length-set}
use lib.Seq.{get_or-set_same, get_or-set_other}
use Rattle.std.specs.Prelude.{Option, Some, None}
use Rattle.command.specs.Values.{Value}
use Rattle.sending.specs.Transfers as Transfers
use Rattle.sending.specs.Transfers.{free_file, is_known, has_file_id, is_sending, put_file, moved}
use Rattle.sending.specs.Sayings.{saying}
use Rattle.sending.specs.Story.{Mark, is_unheard}
use Rattle.sending.specs.Telling.{for_session, for_file, some_read, allowed_in, file_stopped_in, agrees_for, agreed_in, command_saying}
use Rattle.sending.specs.Every.{stage_in}
use Rattle.sending.specs.declared.FileStage.{FileStage}
use Rattle.sending.specs.declared.SentFile.{SentFile}
use Rattle.sending.specs.declared.Transfer.{Transfer}
use Rattle.sending.specs.declared.Heeded.{Heeded}
use Rattle.sending.specs.declared.Word.{Word}
use Rattle.sending.proofs.Firsts.{first-same}
use Rattle.sending.proofs.Kept.{is_sending_for, Counted, FileOK, SessionOK, found, CurrentOK, Kept}
use Rattle.sending.proofs.KeptWrites.{found-same, not_found, same-file, AllowedAs, same-session}

abbrev file_id_of_at : List SentFile → ℕ → List ℕ
file_id_of_at fs d = Transfers.file_id_of (get_or fs d free_file)

-- ---- a command that was read after the marks m: what is kept, and what is told
pub record Marked (m : List Mark) (c : List Value) (after : List ℕ) (h : Heeded) : Type 0 where
  pub kept : Kept h.transfer (Mark.read c ∷ m)
  pub said : saying h.news after ≡ command_saying m c
  pub taken : is_unheard h.news ≡ false

-- the session's marks after it
module _ {t : Transfer} {m : List Mark} (c : List Value) (k : Kept t m) (s : for_session Word.Other c m ≡ false)
    (a : AllowedAs (for_session Word.Ok c m || allowed_in m) (allowed_in m) t.stage) where
  session-on : SessionOK (Transfers.id_of t) (Mark.read c ∷ m) t.stage
  unfolding some_read
  session-on =
      same-session m (Mark.read c ∷ m) (Transfers.id_of t) refl (rw s) refl t.stage a k.session

  current-on : (d : ℕ) → t.count ≡ suc d → CurrentOK t.files (Mark.read c ∷ m) d
  current-on d q = let o = k.current d q in record { pending = o.pending; there = o.there }

  -- nothing is stopped, and no file closed: all is as before
  pub unmoved : for_file Word.Other c m ≡ false → ((j : List ℕ) → agrees_for j c m ≡ false) → Kept t (Mark.read c ∷ m)
  unfolding some_read
  unmoved f g =
      record {
        sized = k.sized;
        session = session-on;
        safe = k.safe;
        short = k.short;
        files =
            λ j. same-file m (Mark.read c ∷ m) j t.files refl refl refl (rw (f, and-false)) (rw (g j))
            (found t.files j) (k.files j);
        free = k.free;
        many = k.many;
        none = k.none;
        current = current-on;
      }

  -- the file at a place moves to another stage
  module _ (i : ℕ) (g : FileStage) (h : i < length t.files) where
    abbrev fs : List SentFile
    fs = t.files

    abbrev file : SentFile
    file = get_or fs i free_file

    abbrev file' : SentFile
    file' = moved file g file.sent

    abbrev fs' : List SentFile
    fs' = set fs i file'

    module _ (same : is_known g ≡ is_known file.stage)
        (stays : (j : List ℕ) → found fs j ≡ Some i → is_sending g ≡ is_sending_for j (Mark.read c ∷ m))
        (staged : (j : List ℕ) → found fs j ≡ Some i → g ≡ stage_in j (Mark.read c ∷ m))
        (others : (j : List ℕ) → (found fs j ≡ Some i → ⊥) → file_stopped_in j (Mark.read c ∷ m) ≡ file_stopped_in j m)
        (apart : (j : List ℕ) → (found fs j ≡ Some i → ⊥) → agreed_in j (Mark.read c ∷ m) ≡ agreed_in j m) where
      here : get_or fs' i free_file ≡ file'
      here = get_or-set_same fs i file' free_file h

      found_alike : (j : List ℕ) → found fs' j ≡ found fs j
      found_alike j = first-same (has_file_id j) free_file fs i file' (rw same)

      new-file : (j : List ℕ) (f : Option ℕ) → found fs j ≡ f → FileOK fs m j f → FileOK fs' (Mark.read c ∷ m) j f
      new-file j None e u =
          let away : found fs j ≡ Some i → ⊥ = λ q. not_found (sym e ∙ q) in
          record { filed = u.filed; none = u.none; going = others j away ∙ u.going; agreed = apart j away ∙ u.agreed }
      new-file j (Some d) e u = go (ℕ_discrete d i)
        where
          go : Dec (d ≡ i) → Counted (Mark.read c ∷ m) j d (get_or fs' d free_file)
          go (yes z) =
              let v : Counted m j i file = rw z at u in
              rw (z, here)
              (record {
                filed = v.filed;
                place = v.place;
                counted = v.counted;
                going = stays j (rw z at e);
                staged = staged j (rw z at e);
              })
          go (no z) =
              let away : found fs j ≡ Some i → ⊥ = λ r. z (found-same (sym e ∙ r)) in
              rw (get_or-set_other fs i d file' free_file z)
              (record {
                filed = u.filed;
                place = u.place;
                counted = u.counted;
                going = rw (others j away) u.going;
                staged = rw (others j away, apart j away) u.staged;
              })

      free_on : (j : ℕ) → t.count ≤ j → is_known (get_or fs' j free_file).stage ≡ false
      free_on j l = go (ℕ_discrete j i)
        where
          go : Dec (j ≡ i) → is_known (get_or fs' j free_file).stage ≡ false
          go (yes z) = rw (z, here, same) (rw z at (k.free j l))
          go (no z) = rw (get_or-set_other fs i j file' free_file z) (k.free j l)

      current-put : (d : ℕ) → t.count ≡ suc d → CurrentOK fs' (Mark.read c ∷ m) d
      current-put d q = go (ℕ_discrete d i)
        where
          o : CurrentOK fs m d
          o = k.current d q

          go : Dec (d ≡ i) → CurrentOK fs' (Mark.read c ∷ m) d
          go (yes z) =
              let w : file_id_of_at fs' d ≡ file_id_of_at fs d = rw (z, here) in
              record { pending = rw w o.pending; there = rw w (found_alike (file_id_of_at fs d) ∙ o.there) }
          go (no z) =
              let w : file_id_of_at fs' d ≡ file_id_of_at fs d = rw (get_or-set_other fs i d file' free_file z) in
              record { pending = rw w o.pending; there = rw w (found_alike (file_id_of_at fs d) ∙ o.there) }

      pub kept_put : Kept (put_file t i file') (Mark.read c ∷ m)
      kept_put =
          record {
            sized = length-set fs i file' ∙ k.sized;
            session = session-on;
            safe = k.safe;
            short = k.short;
            files = λ j. rw (found_alike j) (new-file j (found fs j) refl (k.files j));
            free = free_on;
            many = k.many;
            none = k.none;
            current = current-put;
          }
